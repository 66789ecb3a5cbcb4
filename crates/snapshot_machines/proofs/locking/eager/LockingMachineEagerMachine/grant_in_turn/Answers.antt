-- The locks that the machine grants in turn, for each machine of the law.
use Rattle.snapshot_machines.proofs.locking.AnswerLemmas.{other_err}
use Rattle.snapshot_machines.proofs.locking.ScopeLemmas.{can_grant, can_not_grant, grant_back_now, granted_more_now}
use Rattle.snapshot_machines.proofs.locking.eager.LockingMachineEagerMachine.grant_in_turn.Goals as goal

pub returns-in-Err-clause-not_now : goal.returns-in-Err-clause-not_now
returns-in-Err-clause-not_now g c is = rw (← c.self.view_is) (can_not_grant g.P.Program.meaning (record { machine = c.self.inside.machine; counts = c.self.inside.counts; window = c.self.inside.window; reports = c.self.inside.reports }) c.args.x.0 (c.in-Err.ensures.not_now (other_err c.in-Err.refused _ is)))

pub returns-in-Err-clause-no_memory : goal.returns-in-Err-clause-no_memory
returns-in-Err-clause-no_memory g c is = rw (← c.self.view_is) (can_grant g.P.Program.meaning (record { machine = c.self.inside.machine; counts = c.self.inside.counts; window = c.self.inside.window; reports = c.self.inside.reports }) c.args.x.0 (c.in-Err.ensures.no_memory (other_err c.in-Err.refused _ is)))

pub returns-in-Err-clause-unchanged : goal.returns-in-Err-clause-unchanged
returns-in-Err-clause-unchanged g c = rw (← c.self.view_is) (grant_back_now g.P.Program.meaning (record { machine = c.self.inside.machine; counts = c.self.inside.counts; window = c.self.inside.window; reports = c.self.inside.reports }) c.grant_in_turn.new.self c.grant_in_turn.ensures.kept c.grant_in_turn.ensures.program c.grant_in_turn.ensures.settings c.grant_in_turn.ensures.numbers c.in-Err.ensures.unchanged)

pub returns-clause-granted : goal.returns-clause-granted
returns-clause-granted g c = rw (← c.self.view_is) (granted_more_now g.P.Program.meaning (record { machine = c.self.inside.machine; counts = c.self.inside.counts; window = c.self.inside.window; reports = c.self.inside.reports }) c.grant_in_turn.new.self c.grant_in_turn.ensures.kept c.grant_in_turn.ensures.program c.grant_in_turn.ensures.settings c.grant_in_turn.ensures.numbers c.args.x.0 c.in_default.ensures.granted)
