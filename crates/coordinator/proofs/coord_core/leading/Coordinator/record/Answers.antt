-- The record is that of the law.
use Rattle.std.proofs.Common.{subst, sym}
use Rattle.coordinator.specs.coord_core.Calls.{IsReadyToRecord, IsRecordDueOf}
use Rattle.coordinator.specs.coord_core.Coordinators.{CoordinatorView}
use Rattle.coordinator.proofs.coord_core.RecordLemmas.{record_for}
use Rattle.coordinator.proofs.coord_core.SavingLemmas.{stored_where_due}
use Rattle.coordinator.proofs.coord_core.leading.Coordinator.record.Goals as goal

pub returns-clause-made : goal.returns-clause-made
returns-clause-made c =
    let mid : CoordinatorView = record { counting = record { put_out = c.self.inside.put_out; waiting = c.self.inside.waiting; waves = c.self.inside.waves }; steps = c.self.inside.steps; saving = c.self.inside.saving; out = c.self.inside.out } in
    let ready : IsReadyToRecord mid c.in_ok-make_ready.field-0 = subst (λ (view : CoordinatorView). IsReadyToRecord view c.in_ok-make_ready.field-0) (sym c.self.view_is) c.in_ok-make_ready.ensures.ready in
    let is : IsRecordDueOf c.make_ready.new.self c.in_ok-record.field-0 =
    subst (λ (view : CoordinatorView). IsRecordDueOf view c.in_ok-record.field-0) c.self.view_is
    (λ st own of. record_for st c.self.inside.saving own (of.saving (stored_where_due mid c.self.invariant.2 st own of ready.due)) c.in_ok-record.field-0 c.self.invariant.2 ready.due c.in_ok-record.ensures)
    in
    λ st own of. is st own (c.in_ok-make_ready.ensures.same st own of)
