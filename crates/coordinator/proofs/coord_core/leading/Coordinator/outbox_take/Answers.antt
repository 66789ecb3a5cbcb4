-- The first message is handed over.
use Rattle.std.proofs.Common.{subst, sym}
use Rattle.coordinator.specs.coord_core.Calls.{HasHandedOver}
use Rattle.coordinator.specs.coord_core.Coordinators.{Counting, CoordinatorView, OutboxesView}
use Rattle.coordinator.proofs.coord_core.LeadLemmas.{handed_over}
use Rattle.coordinator.proofs.coord_core.leading.Coordinator.outbox_take.Goals as goal

pub returns : goal.returns
returns c =
    let counting : Counting = record { put_out = c.self.inside.put_out; waiting = c.self.inside.waiting; waves = c.self.inside.waves } in
    subst (λ (view : CoordinatorView). HasHandedOver view (record { counting = counting; steps = c.self.inside.steps; saving = c.self.inside.saving; out = c.take.new.self }) c.args.to.0 c.take.result) c.self.view_is
    (subst (λ (out : OutboxesView). HasHandedOver (record { counting = counting; steps = c.self.inside.steps; saving = c.self.inside.saving; out = c.self.inside.out }) (record { counting = counting; steps = c.self.inside.steps; saving = c.self.inside.saving; out = out }) c.args.to.0 c.take.result)
    (sym c.take.ensures.behind) (handed_over counting c.self.inside.steps c.self.inside.saving c.self.inside.out c.args.to.0 c.take.result c.take.ensures.first))
