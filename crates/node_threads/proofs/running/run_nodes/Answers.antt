use Rattle.std.proofs.Common.{ap, length, subst, suc, sym, ◌∙◌, ℕ}
use Rattle.std.specs.Prelude.{IfOk}
use Rattle.cluster_step.specs.trace.Traces.{IsSameAttempt, TraceView}
use Rattle.wire_board.proofs.Attempting.{goes_nowhere, goes_ok, length_members, members_numbered}
use Rattle.wire_board.specs.Attempts.{AreNumbered}
use Rattle.node_threads.proofs.running.run_nodes.Goals as goal

pub returns-then-is_stopped-clause-goes_on : goal.returns-then-is_stopped-clause-goes_on
returns-then-is_stopped-clause-goes_on g c = goes_nowhere g.M.SavingMachine.represents c.args.trace c.remember.new.self c.remember.ensures

pub run_attempt-requires-clause-many : goal.run_attempt-requires-clause-many
run_attempt-requires-clause-many g c κs within =
    let v = c.args.trace in
    ap length c.in_ok-attempt.ensures.members ∙ length_members (suc (length v.now.machines.items)) 0 v.now.machines.items ∙ sym (ap (λ x. length x.now.machines.items) c.in_ok-attempt.ensures.trace)

pub run_attempt-requires-clause-numbers : goal.run_attempt-requires-clause-numbers
run_attempt-requires-clause-numbers g c κs within =
    let v = c.args.trace in
    subst (λ (k : ℕ). AreNumbered (suc k) 0 c.in_ok-attempt.attempt.members.items) (sym (ap (λ x. length x.now.machines.items) c.in_ok-attempt.ensures.trace))
    (subst (AreNumbered (suc (length v.now.machines.items)) 0) (sym c.in_ok-attempt.ensures.members) (members_numbered (suc (length v.now.machines.items)) 0 v.now.machines.items))

pub returns-clause-goes_on : goal.returns-clause-goes_on
returns-clause-goes_on g c = goes_ok g.M.SavingMachine.represents c.args.trace c.in_ok-attempt-2.attempt.trace c.joined.result (c.in_ok-attempt-2.ensures.trace ∙ c.in_ok-attempt.ensures.trace) c.joined.ensures.goes_on

pub returns-clause-same : goal.returns-clause-same
returns-clause-same g c =
    subst (λ (x : TraceView g.row.M.Denot). IfOk c.joined.result (λ t. IsSameAttempt (record x { since = t.now }) t)) (c.in_ok-attempt-2.ensures.trace ∙ c.in_ok-attempt.ensures.trace) c.joined.ensures.same
