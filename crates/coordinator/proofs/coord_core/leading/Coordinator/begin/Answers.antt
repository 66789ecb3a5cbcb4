-- The next snapshot begins as it may.
use Rattle.std.proofs.Common.{◌∙◌, ◌<◌, ◌++◌, [], ◌∷◌, ℕ, List, ap, refl, rules, subst, sym}
use Rattle.wire.specs.wire_msgs.Views as wire
use Rattle.coordinator.specs.coord_core.Calls.{HasBegunNext, MayLeadBegin}
use Rattle.coordinator.specs.coord_core.Coordinators.{CoordinatorView, MessageView}
use Rattle.coordinator.specs.coord_core.Inner.Seen.{WantsSnapshot}
use Rattle.coordinator.proofs.coord_core.DueLemmas.{may_begin}
use Rattle.coordinator.proofs.coord_core.LeadLemmas.{has_begun}
use Rattle.coordinator.proofs.coord_core.leading.Coordinator.begin.Goals as goal

pub returns-clause-begun : goal.returns-clause-begun
returns-clause-begun c =
    let old : CoordinatorView = record { counting = record { put_out = c.self.inside.put_out; waiting = c.self.inside.waiting; waves = c.self.inside.waves }; steps = c.self.inside.steps; saving = c.self.inside.saving; out = c.self.inside.out } in
    let new : CoordinatorView = record old { saving = c.begin.new.self; out = c.tell_each.new.out } in
    let wants_now : WantsSnapshot c.args.self.now = c.wants_snapshot.ensures.0 (search rules) in
    let wants : WantsSnapshot old = subst WantsSnapshot (sym c.self.view_is) wants_now in
    let may : MayLeadBegin old = may_begin old c.self.invariant.2 wants in
    let begun : HasBegunNext old new =
    has_begun old new (wire.Begin c.next_number-number.result) (c.tell_each.ensures.many ∙ sym c.self.invariant.0.many)
    (λ b inside.
    let below : b < c.self.inside.machines = subst (λ (n : ℕ). b < n) c.self.invariant.0.many inside in
    c.tell_each.ensures.told b below
    ∙ ap (λ (messages : List MessageView). messages ++ wire.Begin c.next_number-number.result ∷ []) (c.in_ok-reserve_each.ensures.same.each b))
    refl refl c.begin.ensures (ap wire.Begin c.next_number-number.ensures) wants.stored
    in
    (subst MayLeadBegin c.self.view_is may, subst (λ (view : CoordinatorView). HasBegunNext view new) c.self.view_is begun)
