-- The update that was made at once, by the engine.
use Rattle.std.proofs.lemmas.Result.{on_ok_weaker}
use Rattle.placed_machines.specs.any_machine.Eager.{FindsAny}
use Rattle.placed_machines.specs.any_machine.Machines.{AnyMachine, Chromatic, IsAnyMachineOf, IsChromaticMachineOf, IsLockingMachineOf, Locking}
use Rattle.std.proofs.Common.{subst}
use Rattle.placed_machines.proofs.any_machine.CaseLemmas.{updated_as}
use Rattle.placed_machines.proofs.any_machine.eager.AnyMachineEagerMachine.update_now.Goals as goal

pub update_now-requires : goal.update_now-requires
update_now-requires g c = subst (λ (x : AnyMachine g.row.P.Denot). FindsAny x c.args.v) c.in-Locking.is c.requires

pub returns-in-Locking-clause-updated : goal.returns-in-Locking-clause-updated
returns-in-Locking-clause-updated g c =
    rw c.in-Locking.is
    (on_ok_weaker c.update_now.result
    (updated_as (IsLockingMachineOf g.P.Program.meaning) (IsAnyMachineOf g.P.Program.meaning) c.in-Locking.machine c.update_now.new.self (Locking c.in-Locking.machine) (Locking c.update_now.new.self) (λ st a m is. is) (λ st a m is. is) c.args.v.0 c.args.ticket)
    c.update_now.ensures.updated)

pub returns-in-Locking-clause-unchanged : goal.returns-in-Locking-clause-unchanged
returns-in-Locking-clause-unchanged g c = rw c.in-Locking.is c.update_now.ensures.unchanged

pub update_now-requires-in-Chromatic : goal.update_now-requires-in-Chromatic
update_now-requires-in-Chromatic g c = subst (λ (x : AnyMachine g.row.P.Denot). FindsAny x c.args.v) c.in-Chromatic.is c.requires

pub returns-in-Chromatic-clause-updated : goal.returns-in-Chromatic-clause-updated
returns-in-Chromatic-clause-updated g c =
    rw c.in-Chromatic.is
    (on_ok_weaker c.update_now-in-Chromatic.result
    (updated_as (IsChromaticMachineOf g.P.Program.meaning) (IsAnyMachineOf g.P.Program.meaning) c.in-Chromatic.machine c.update_now-in-Chromatic.new.self (Chromatic c.in-Chromatic.machine) (Chromatic c.update_now-in-Chromatic.new.self) (λ st a m is. is) (λ st a m is. is) c.args.v.0 c.args.ticket)
    c.update_now-in-Chromatic.ensures.updated)

pub returns-in-Chromatic-clause-unchanged : goal.returns-in-Chromatic-clause-unchanged
returns-in-Chromatic-clause-unchanged g c = rw c.in-Chromatic.is c.update_now-in-Chromatic.ensures.unchanged
