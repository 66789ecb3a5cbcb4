-- The snapshot is acknowledged as in the law.
use Rattle.std.proofs.Common.{◌∙◌, ◌<◌, ℕ, None, ap, length, refl, subst, sym}
use Rattle.wire.specs.wire_msgs.Views as wire
use Rattle.coordinator.specs.coord_core.Calls.{HasRecorded, IsReadyToRecord}
use Rattle.coordinator.specs.coord_core.Coordinators.{CoordinatorView}
use Rattle.std.proofs.lemmas.List.{length-replicate}
use Rattle.coordinator.specs.coord_core.Inner.Kept.{IsSavingKept}
use Rattle.coordinator.specs.coord_core.Saving.{SavingView}
use Rattle.coordinator.proofs.coord_core.KeptLemmas.{acknowledged_kept}
use Rattle.coordinator.proofs.coord_core.LeadLemmas.{calls_alone, has_recorded}
use Rattle.coordinator.proofs.coord_core.leading.Coordinator.recorded.Goals as goal

pub returns : goal.returns
returns c =
    let old : CoordinatorView = record { counting = record { put_out = c.self.inside.put_out; waiting = c.self.inside.waiting; waves = c.self.inside.waves }; steps = c.self.inside.steps; saving = c.self.inside.saving; out = c.self.inside.out } in
    let new : CoordinatorView = record old { saving = c.acknowledge.new.self; out = c.tell_each.new.out } in
    let ready : IsReadyToRecord old c.args.number = subst (λ (view : CoordinatorView). IsReadyToRecord view c.args.number) (sym c.self.view_is) c.requires in
    subst (λ (view : CoordinatorView). HasRecorded view new) c.self.view_is
    (has_recorded old new (wire.Committed c.args.number) (c.tell_each.ensures.many ∙ sym c.self.invariant.0.many)
    (λ b inside. c.tell_each.ensures.told b (subst (λ (n : ℕ). b < n) c.self.invariant.0.many inside))
    c.self.invariant.2 ready.due refl refl c.acknowledge.ensures (ap wire.Committed ready.number))

pub invariant_of-self : goal.invariant_of-self
invariant_of-self c =
    let old : CoordinatorView = record { counting = record { put_out = c.self.inside.put_out; waiting = c.self.inside.waiting; waves = c.self.inside.waves }; steps = c.self.inside.steps; saving = c.self.inside.saving; out = c.self.inside.out } in
    let ready : IsReadyToRecord old c.args.number = subst (λ (view : CoordinatorView). IsReadyToRecord view c.args.number) (sym c.self.view_is) c.requires in (
      calls_alone c.self.inside.out c.tell_each.new.out c.self.inside.machines (wire.Committed c.args.number) c.self.invariant.0 refl c.tell_each.ensures.many c.tell_each.ensures.told,
      ap (λ (s : SavingView). length s.come) c.acknowledge.ensures ∙ length-replicate (length c.self.inside.saving.come) None ∙ c.self.invariant.1,
      subst IsSavingKept (sym c.acknowledge.ensures) (acknowledged_kept c.self.inside.saving c.self.invariant.2 ready.due ready.room),
      c.self.invariant.3,
    )
