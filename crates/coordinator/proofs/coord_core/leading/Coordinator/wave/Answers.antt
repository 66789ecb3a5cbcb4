-- A wave was put out as it may be.
use Rattle.std.proofs.Common.{◌≡◌, ◌∙◌, ◌+◌, ◌<◌, ◌++◌, [], ◌∷◌, ℕ, List, true, false, add-one, ap, refl, rules, subst, sym}
use Rattle.wire.specs.wire_msgs.Views as wire
use Rattle.coordinator.specs.coord_core.Calls.{HasPutWave, MayPutWave}
use Rattle.coordinator.specs.coord_core.Coordinators.{Counting, CoordinatorView, MessageView}
use Rattle.coordinator.specs.coord_core.Inner.Seen.{IsWaveTurn, WantsSnapshot, WantsStep}
use Rattle.coordinator.proofs.coord_core.DueLemmas.{may_put}
use Rattle.coordinator.proofs.coord_core.LeadLemmas.{has_put}
use Rattle.coordinator.proofs.coord_core.leading.Coordinator.wave.Goals as goal

pub returns-clause-put_out : goal.returns-clause-put_out
returns-clause-put_out c =
    let old : CoordinatorView = record { counting = record { put_out = c.self.inside.put_out; waiting = c.self.inside.waiting; waves = c.self.inside.waves }; steps = c.self.inside.steps; saving = c.self.inside.saving; out = c.self.inside.out } in
    let counting : ℕ → Counting = λ n. record { put_out = n; waiting = true; waves = c.self.inside.waves } in
    let new : CoordinatorView = record old { counting = counting (c.self.inside.put_out + 1); steps = c.ask.new.self; out = c.tell_each.new.out } in
    let whole : c.self.inside.waiting ≡ false = search rules in
    let turn : IsWaveTurn old.steps.engine old.saving =
    subst (λ (view : CoordinatorView). IsWaveTurn view.steps.engine view.saving) (sym c.self.view_is) (c.is_wave_turn.ensures.0 (search rules))
    in
    let unwanted : WantsSnapshot old → ⊥ = λ wants. let wanted = c.wants_snapshot.ensures.1 (subst WantsSnapshot c.self.view_is wants) in absurd (search rules) in
    let undue : WantsStep old → ⊥ = λ wants. let wanted = c.wants_step.ensures.1 (subst WantsStep c.self.view_is wants) in absurd (search rules) in
    let may : MayPutWave old = may_put old c.self.invariant.2 whole turn unwanted undue in
    let put : HasPutWave old new =
    has_put old new (wire.Wave c.self.inside.put_out) (c.tell_each.ensures.many ∙ sym c.self.invariant.0.many)
    (λ b inside.
    let below : b < c.self.inside.machines = subst (λ (n : ℕ). b < n) c.self.invariant.0.many inside in
    c.tell_each.ensures.told b below
    ∙ ap (λ (messages : List MessageView). messages ++ wire.Wave c.self.inside.put_out ∷ []) (c.in_ok-reserve_each.ensures.same.each b))
    (ap counting (add-one c.self.inside.put_out)) c.ask.ensures refl refl
    in
    (subst MayPutWave c.self.view_is may, subst (λ (view : CoordinatorView). HasPutWave view new) c.self.view_is put)
