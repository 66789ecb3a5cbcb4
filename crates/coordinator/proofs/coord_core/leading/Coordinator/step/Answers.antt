-- The next step is put out as it may be.
use Rattle.std.proofs.Common.{◌∙◌, ◌<◌, ◌++◌, [], ◌∷◌, ℕ, List, ap, refl, rules, subst, sym}
use Rattle.wire.specs.wire_msgs.Views as wire
use Rattle.coordinator.specs.coord_core.Calls.{HasPutStep, MayPutStep}
use Rattle.coordinator.specs.coord_core.Coordinators.{CoordinatorView, MessageView}
use Rattle.coordinator.specs.coord_core.Inner.Seen.{WantsSnapshot, WantsStep}
use Rattle.coordinator.proofs.coord_core.DueLemmas.{may_step}
use Rattle.coordinator.proofs.coord_core.LeadLemmas.{has_stepped}
use Rattle.coordinator.proofs.coord_core.leading.Coordinator.step.Goals as goal

pub returns-clause-put_out : goal.returns-clause-put_out
returns-clause-put_out c =
    let old : CoordinatorView = record { counting = record { put_out = c.self.inside.put_out; waiting = c.self.inside.waiting; waves = c.self.inside.waves }; steps = c.self.inside.steps; saving = c.self.inside.saving; out = c.self.inside.out } in
    let new : CoordinatorView = record old { steps = c.begin.new.self; out = c.tell_each.new.out } in
    let unwanted : WantsSnapshot old → ⊥ = λ wants. let wanted = c.wants_snapshot.ensures.1 (subst WantsSnapshot c.self.view_is wants) in absurd (search rules) in
    let wants : WantsStep old = subst WantsStep (sym c.self.view_is) (c.wants_step.ensures.0 (search rules)) in
    let may : MayPutStep old = may_step old c.self.invariant.2 wants unwanted in
    let stepped : HasPutStep old new =
    has_stepped old new (wire.Step c.next_colour-colour.result) (c.tell_each.ensures.many ∙ sym c.self.invariant.0.many)
    (λ b inside.
    let below : b < c.self.inside.machines = subst (λ (n : ℕ). b < n) c.self.invariant.0.many inside in
    c.tell_each.ensures.told b below
    ∙ ap (λ (messages : List MessageView). messages ++ wire.Step c.next_colour-colour.result ∷ []) (c.in_ok-reserve_each.ensures.same.each b))
    refl c.begin.ensures refl wants.some (ap wire.Step c.next_colour-colour.ensures)
    in
    (subst MayPutStep c.self.view_is may, subst (λ (view : CoordinatorView). HasPutStep view new) c.self.view_is stepped)
