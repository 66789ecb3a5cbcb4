-- All machines go back.
use Rattle.std.proofs.Common.{◌∙◌, ap, length, sym}
use Rattle.std.specs.Prelude.{option_map}
use Rattle.coordinator.specs.coord_core.Stores.{store_view}
use Rattle.cluster_step.proofs.trace.Going.{again_seen, gone_seen, kept_anew}
use Rattle.cluster_step.proofs.trace.traces.Trace.recover.Goals as goal

pub recover-requires-clause-again : goal.recover-requires-clause-again
recover-requires-clause-again g c = again_seen g.M.SavingMachine.represents _ c.args.self.now c.self.view_is c.args.machines.items c.args.engine (option_map store_view c.args.store) c.requires.again

pub invariant_of-self-2 : goal.invariant_of-self-2
invariant_of-self-2 g c =
    kept_anew g.M.SavingMachine.represents _ c.of.ensures (c.in_ok-done.ensures.many ∙ sym (ap (λ v. length v.now.machines.items) c.self.view_is) ∙ sym c.in_ok-recover.ensures.machines)

pub returns-clause-recovered : goal.returns-clause-recovered
returns-clause-recovered g c =
    gone_seen g.M.SavingMachine.represents _ c.args.self.now c.self.view_is c.args.machines.items c.args.engine (option_map store_view c.args.store) c.in_ok-done.done.items c.of.result.value c.recover.new.self
    c.in_ok-done.ensures.each c.in_ok-recover.ensures.recovered
