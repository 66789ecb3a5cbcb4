-- Locks that were granted in turn, by the engine.
use Rattle.std.proofs.lemmas.Result.{on_ok_weaker}
use Rattle.placed_machines.specs.any_machine.Machines.{Chromatic, IsAnyMachineOf, IsChromaticMachineOf, IsLockingMachineOf, Locking}
use Rattle.placed_machines.proofs.any_machine.CaseLemmas.{granted_as}
use Rattle.placed_machines.proofs.any_machine.eager.AnyMachineEagerMachine.grant_in_turn.Goals as goal

pub returns-in-Locking-clause-granted : goal.returns-in-Locking-clause-granted
returns-in-Locking-clause-granted g c =
    rw c.in-Locking.is
    (on_ok_weaker c.grant_in_turn.result
    (granted_as (IsLockingMachineOf g.P.Program.meaning) (IsAnyMachineOf g.P.Program.meaning) c.in-Locking.machine c.grant_in_turn.new.self (Locking c.in-Locking.machine) (Locking c.grant_in_turn.new.self) (λ st a m is. is) (λ st a m is. is) c.args.x.0)
    c.grant_in_turn.ensures.granted)

pub returns-in-Locking-clause-not_now : goal.returns-in-Locking-clause-not_now
returns-in-Locking-clause-not_now g c = rw c.in-Locking.is c.grant_in_turn.ensures.not_now

pub returns-in-Locking-clause-no_memory : goal.returns-in-Locking-clause-no_memory
returns-in-Locking-clause-no_memory g c = rw c.in-Locking.is c.grant_in_turn.ensures.no_memory

pub returns-in-Locking-clause-unchanged : goal.returns-in-Locking-clause-unchanged
returns-in-Locking-clause-unchanged g c = rw c.in-Locking.is c.grant_in_turn.ensures.unchanged

pub returns-in-Chromatic-clause-granted : goal.returns-in-Chromatic-clause-granted
returns-in-Chromatic-clause-granted g c =
    rw c.in-Chromatic.is
    (on_ok_weaker c.grant_in_turn-in-Chromatic.result
    (granted_as (IsChromaticMachineOf g.P.Program.meaning) (IsAnyMachineOf g.P.Program.meaning) c.in-Chromatic.machine c.grant_in_turn-in-Chromatic.new.self (Chromatic c.in-Chromatic.machine) (Chromatic c.grant_in_turn-in-Chromatic.new.self) (λ st a m is. is) (λ st a m is. is) c.args.x.0)
    c.grant_in_turn-in-Chromatic.ensures.granted)

pub returns-in-Chromatic-clause-not_now : goal.returns-in-Chromatic-clause-not_now
returns-in-Chromatic-clause-not_now g c = rw c.in-Chromatic.is c.grant_in_turn-in-Chromatic.ensures.not_now

pub returns-in-Chromatic-clause-no_memory : goal.returns-in-Chromatic-clause-no_memory
returns-in-Chromatic-clause-no_memory g c = rw c.in-Chromatic.is c.grant_in_turn-in-Chromatic.ensures.no_memory

pub returns-in-Chromatic-clause-unchanged : goal.returns-in-Chromatic-clause-unchanged
returns-in-Chromatic-clause-unchanged g c = rw c.in-Chromatic.is c.grant_in_turn-in-Chromatic.ensures.unchanged
