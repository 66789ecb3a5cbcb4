-- What is due is due in the law, and some cluster has this coordinator.
use Rattle.std.proofs.Common.{ℕ, inl, inr, rules, subst, sym}
use Rattle.coordinator.specs.declared.coord_core.leading.Due.TheVariants as due
use Rattle.coordinator.specs.coord_core.Calls.{IsDueOf}
use Rattle.coordinator.specs.coord_core.Coordinators.{CoordinatorView, HasCluster}
use Rattle.coordinator.specs.coord_core.Inner.Seen.{SeesEnd, IsWaveTurn, WantsSnapshot, WantsStep}
use Rattle.coordinator.proofs.coord_core.CallLemmas.{has_cluster}
use Rattle.coordinator.proofs.coord_core.DueLemmas.{due_nothing, due_record, due_step, due_wave}
use Rattle.coordinator.proofs.coord_core.leading.Coordinator.due.Goals as goal
use Rattle.coordinator.proofs.coord_core.leading.Coordinator.due.Goals.{then-self-via-then-self, then-self-via-else-self+then-not-is_wave_turn}

pub returns-then-is_record_due-clause-due : goal.returns-then-is_record_due-clause-due
returns-then-is_record_due-clause-due c =
    let old : CoordinatorView = record { counting = record { put_out = c.self.inside.put_out; waiting = c.self.inside.waiting; waves = c.self.inside.waves }; steps = c.self.inside.steps; saving = c.self.inside.saving; out = c.self.inside.out } in
    subst (λ (view : CoordinatorView). IsDueOf view (due.Record c.begun.result)) c.self.view_is
    (subst (λ (n : ℕ). IsDueOf old (due.Record n)) (sym c.begun.ensures) (due_record old c.self.invariant.2 (c.is_record_due.ensures.0 (search rules))))

pub returns-then-is_record_due-clause-cluster : goal.returns-then-is_record_due-clause-cluster
returns-then-is_record_due-clause-cluster c = subst HasCluster c.self.view_is (has_cluster _ c.self.inside.machines c.self.invariant.0 c.self.invariant.1 c.self.invariant.2 c.self.invariant.3)

pub returns-then-wants_snapshot-clause-cluster : goal.returns-then-wants_snapshot-clause-cluster
returns-then-wants_snapshot-clause-cluster c = subst HasCluster c.self.view_is (has_cluster _ c.self.inside.machines c.self.invariant.0 c.self.invariant.1 c.self.invariant.2 c.self.invariant.3)

pub returns-then-sees_end-clause-cluster : goal.returns-then-sees_end-clause-cluster
returns-then-sees_end-clause-cluster c = subst HasCluster c.self.view_is (has_cluster _ c.self.inside.machines c.self.invariant.0 c.self.invariant.1 c.self.invariant.2 c.self.invariant.3)

pub returns-then-wants_step-clause-due : goal.returns-then-wants_step-clause-due
returns-then-wants_step-clause-due c =
    let old : CoordinatorView = record { counting = record { put_out = c.self.inside.put_out; waiting = c.self.inside.waiting; waves = c.self.inside.waves }; steps = c.self.inside.steps; saving = c.self.inside.saving; out = c.self.inside.out } in
    subst (λ (view : CoordinatorView). IsDueOf view (due.Step c.next_colour.result)) c.self.view_is
    (subst (λ (n : ℕ). IsDueOf old (due.Step n)) (sym c.next_colour.ensures)
    (due_step old c.self.invariant.2 (λ is. let recorded = c.is_record_due.ensures.1 is in absurd (search rules))
    (λ is. let told = c.wants_snapshot.ensures.1 (subst WantsSnapshot c.self.view_is is) in absurd (search rules))
    (λ is. let told = c.sees_end.ensures.1 (subst SeesEnd c.self.view_is is) in absurd (search rules))
    (subst WantsStep (sym c.self.view_is) (c.wants_step.ensures.0 (search rules)))))

pub returns-then-wants_step-clause-cluster : goal.returns-then-wants_step-clause-cluster
returns-then-wants_step-clause-cluster c = subst HasCluster c.self.view_is (has_cluster _ c.self.inside.machines c.self.invariant.0 c.self.invariant.1 c.self.invariant.2 c.self.invariant.3)

pub returns-then-self-clause-due : goal.returns-then-self-clause-due
returns-then-self-clause-due c =
    let old : CoordinatorView = record { counting = record { put_out = c.self.inside.put_out; waiting = c.self.inside.waiting; waves = c.self.inside.waves }; steps = c.self.inside.steps; saving = c.self.inside.saving; out = c.self.inside.out } in
    subst (λ (view : CoordinatorView). IsDueOf view due.Nothing) c.self.view_is
    (due_nothing old c.self.invariant.2 (λ is. let recorded = c.is_record_due.ensures.1 is in absurd (search rules))
    (λ is. let told = c.wants_snapshot.ensures.1 (subst WantsSnapshot c.self.view_is is) in absurd (search rules))
    (λ is. let told = c.sees_end.ensures.1 (subst SeesEnd c.self.view_is is) in absurd (search rules))
    (λ is. let told = c.wants_step.ensures.1 (subst WantsStep c.self.view_is is) in absurd (search rules))
    (elim c.then-self.branch [
      | then-self-via-then-self w ↦ inl (search rules)
      | then-self-via-else-self+then-not-is_wave_turn w ↦
          inr (λ turn. let is = w.is_wave_turn.ensures.1 (subst (λ (view : CoordinatorView). IsWaveTurn view.steps.engine view.saving) c.self.view_is turn) in absurd (search rules))
    ]))

pub returns-then-self-clause-cluster : goal.returns-then-self-clause-cluster
returns-then-self-clause-cluster c = subst HasCluster c.self.view_is (has_cluster _ c.self.inside.machines c.self.invariant.0 c.self.invariant.1 c.self.invariant.2 c.self.invariant.3)

pub returns-clause-due : goal.returns-clause-due
returns-clause-due c =
    let old : CoordinatorView = record { counting = record { put_out = c.self.inside.put_out; waiting = c.self.inside.waiting; waves = c.self.inside.waves }; steps = c.self.inside.steps; saving = c.self.inside.saving; out = c.self.inside.out } in
    subst (λ (view : CoordinatorView). IsDueOf view due.Wave) c.self.view_is
    (due_wave old c.self.invariant.2 (λ is. let recorded = c.is_record_due.ensures.1 is in absurd (search rules))
    (λ is. let told = c.wants_snapshot.ensures.1 (subst WantsSnapshot c.self.view_is is) in absurd (search rules))
    (λ is. let told = c.sees_end.ensures.1 (subst SeesEnd c.self.view_is is) in absurd (search rules))
    (λ is. let told = c.wants_step.ensures.1 (subst WantsStep c.self.view_is is) in absurd (search rules))
    (search rules) (subst (λ (view : CoordinatorView). IsWaveTurn view.steps.engine view.saving) (sym c.self.view_is) (c.is_wave_turn.ensures.0 (search rules))))

pub returns-clause-cluster : goal.returns-clause-cluster
returns-clause-cluster c = subst HasCluster c.self.view_is (has_cluster _ c.self.inside.machines c.self.invariant.0 c.self.invariant.1 c.self.invariant.2 c.self.invariant.3)
