-- What the coordinator tells, by its kind.
use Rattle.std.proofs.Common.{refl}
use Rattle.snapshot_machines.proofs.locking.HearLemmas.{heard_begin}
use Rattle.snapshot_machines.proofs.locking.machines.LockingMachine.hear_call.Goals as goal

pub returns-in-Begin-clause-heard : goal.returns-in-Begin-clause-heard
returns-in-Begin-clause-heard g c = rw (c.in-Begin.is, ← c.self.view_is) (heard_begin g.P.Program.meaning (record { machine = c.self.inside.machine; counts = c.self.inside.counts; window = c.self.inside.window; reports = c.self.inside.reports }) c.begin.new.self c.in-Begin.number c.begin.ensures.begun c.begin.ensures.kept c.begin.ensures.rest c.begin.ensures.program c.begin.ensures.settings)

pub returns-in-Committed-clause-heard : goal.returns-in-Committed-clause-heard
returns-in-Committed-clause-heard g c = rw c.in-Committed.is c.hear_committed.ensures.heard

pub returns-in-Committed-clause-returned : goal.returns-in-Committed-clause-returned
returns-in-Committed-clause-returned g c = rw c.in-Committed.is c.hear_committed.ensures.returned

pub returns-in-Committed-clause-unchanged : goal.returns-in-Committed-clause-unchanged
returns-in-Committed-clause-unchanged g c = c.hear_committed.ensures.unchanged

pub returns-in-Wave-clause-heard : goal.returns-in-Wave-clause-heard
returns-in-Wave-clause-heard g c = rw c.in-Wave.is c.hear_wave.ensures.heard

pub returns-in-Wave-clause-returned : goal.returns-in-Wave-clause-returned
returns-in-Wave-clause-returned g c = rw c.in-Wave.is c.hear_wave.ensures.returned

pub returns-in-Wave-clause-unchanged : goal.returns-in-Wave-clause-unchanged
returns-in-Wave-clause-unchanged g c = c.hear_wave.ensures.unchanged

pub returns-in_default : goal.returns-in_default
returns-in_default g c = record { heard = tt; returned = refl; unchanged = λ st a m snap is. is }
