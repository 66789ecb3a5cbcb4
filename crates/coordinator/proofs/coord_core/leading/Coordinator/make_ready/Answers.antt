-- The snapshot under way may be acknowledged, or not.
use Rattle.std.proofs.Common.{inl, inr, rules, subst}
use Rattle.coordinator.specs.coord_core.Calls.{MayNotRecord, MayLeadRecord}
use Rattle.coordinator.specs.coord_core.Coordinators.{CoordinatorView}
use Rattle.coordinator.proofs.coord_core.DueLemmas.{may_not_record, may_record_it}
use Rattle.coordinator.proofs.coord_core.leading.Coordinator.make_ready.Goals as goal
use Rattle.coordinator.proofs.coord_core.leading.Coordinator.make_ready.Goals.{then-not-is_record_due-via-then-not-is_record_due, then-not-is_record_due-via-else-not-is_record_due+then-not-has_room}

pub returns-then-not-is_record_due-clause-not_now : goal.returns-then-not-is_record_due-clause-not_now
returns-then-not-is_record_due-clause-not_now c =
    let old : CoordinatorView = record { counting = record { put_out = c.self.inside.put_out; waiting = c.self.inside.waiting; waves = c.self.inside.waves }; steps = c.self.inside.steps; saving = c.self.inside.saving; out = c.self.inside.out } in
    λ _. subst MayNotRecord c.self.view_is
    (may_not_record old c.self.invariant.2
    (elim c.then-not-is_record_due.branch [
      | then-not-is_record_due-via-then-not-is_record_due w ↦ inl (λ due. let is = c.is_record_due.ensures.1 due in absurd (search rules))
      | then-not-is_record_due-via-else-not-is_record_due+then-not-has_room w ↦ inr (λ room. let has = w.has_room.ensures.1 room in absurd (search rules))
    ]))

pub returns-in_err-reserve_each-clause-no_memory : goal.returns-in_err-reserve_each-clause-no_memory
returns-in_err-reserve_each-clause-no_memory c =
    let old : CoordinatorView = record { counting = record { put_out = c.self.inside.put_out; waiting = c.self.inside.waiting; waves = c.self.inside.waves }; steps = c.self.inside.steps; saving = c.self.inside.saving; out = c.self.inside.out } in
    λ _. subst MayLeadRecord c.self.view_is (may_record_it old c.self.invariant.2 (c.is_record_due.ensures.0 (search rules)) (c.has_room.ensures.0 (search rules)))

pub returns-clause-due : goal.returns-clause-due
returns-clause-due c =
    let old : CoordinatorView = record { counting = record { put_out = c.self.inside.put_out; waiting = c.self.inside.waiting; waves = c.self.inside.waves }; steps = c.self.inside.steps; saving = c.self.inside.saving; out = c.self.inside.out } in
    subst MayLeadRecord c.self.view_is (may_record_it old c.self.invariant.2 (c.is_record_due.ensures.0 (search rules)) (c.has_room.ensures.0 (search rules)))
