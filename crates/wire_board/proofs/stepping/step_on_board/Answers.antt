use Rattle.std.proofs.Common.{List, ap, false, length, subst, suc, sym, ◌∙◌, ℕ}
use Rattle.cluster_step.specs.trace.Traces.{TraceGoesOn, TraceView}
use Rattle.wire_board.proofs.Attempting.{goes_apart, goes_nowhere, length_members, members_numbered}
use Rattle.wire_board.proofs.Steppings.{machines_numbered, stepped_none}
use Rattle.wire_board.specs.Attempts.{AreNumbered}
use Rattle.wire_board.specs.Stepping.{CoordinatorView, HasStepped, machines_of}
use Rattle.wire_board.proofs.stepping.step_on_board.Goals as goal

pub returns-then-is_stopped-clause-goes_on : goal.returns-then-is_stopped-clause-goes_on
returns-then-is_stopped-clause-goes_on g c = goes_nowhere g.M.SavingMachine.represents c.args.trace c.remember.new.self c.remember.ensures

pub stepped-requires-clause-many : goal.stepped-requires-clause-many
stepped-requires-clause-many g c =
    let v = c.args.trace in
    ap length c.in_ok-attempt.ensures.members ∙ length_members (suc (length v.now.machines.items)) 0 v.now.machines.items ∙ sym (ap (λ x. length x.now.machines.items) c.in_ok-attempt.ensures.trace)

pub stepped-requires-clause-numbers : goal.stepped-requires-clause-numbers
stepped-requires-clause-numbers g c =
    let v = c.args.trace in
    subst (λ (k : ℕ). AreNumbered (suc k) 0 c.in_ok-attempt.attempt.members.items) (sym (ap (λ x. length x.now.machines.items) c.in_ok-attempt.ensures.trace))
    (subst (AreNumbered (suc (length v.now.machines.items)) 0) (sym c.in_ok-attempt.ensures.members) (members_numbered (suc (length v.now.machines.items)) 0 v.now.machines.items))

pub returns-clause-goes_on : goal.returns-clause-goes_on
returns-clause-goes_on g c =
    let represents = g.M.SavingMachine.represents in
    goes_apart represents c.args.trace c.in_ok-trace.trace
    (subst (λ x. TraceGoesOn represents x c.in_ok-trace.trace) (c.in_ok-attempt-2.ensures.trace ∙ c.in_ok-attempt.ensures.trace) c.in_ok-trace.ensures.goes_on)

pub returns-clause-moved : goal.returns-clause-moved
returns-clause-moved g c =
    let represents = g.M.SavingMachine.represents in
    let v = c.args.trace in
    let n = length v.now.machines.items in
    let a = c.in_ok-attempt.attempt in
    let b = c.in_ok-attempt-2.attempt in
    let some = c.in_ok-attempt-2.moved in
    let t = c.in_ok-trace.trace in
    let now = c.in_ok-trace.ensures.now in
    let many = ap (λ x. length x.now.machines.items) c.in_ok-attempt.ensures.trace in
    let first = ap machines_of c.in_ok-attempt.ensures.members ∙ machines_numbered (suc n) 0 v.now.machines.items in
    subst (λ (d : CoordinatorView). HasStepped represents n v.now.machines.items v.now.coordinator t.now.machines.items d some) (sym now.1)
    (subst (λ (l : List g.row.M.Denot). HasStepped represents n v.now.machines.items v.now.coordinator l b.lead.coordinator some) (sym now.0)
    (subst (λ (d : CoordinatorView). HasStepped represents n v.now.machines.items d (machines_of b.members.items) b.lead.coordinator some) c.in_ok-attempt.ensures.lead.1
    (subst (λ (l : List g.row.M.Denot). HasStepped represents n l a.lead.coordinator (machines_of b.members.items) b.lead.coordinator some) first
    (subst (λ (k : ℕ). HasStepped represents k (machines_of a.members.items) a.lead.coordinator (machines_of b.members.items) b.lead.coordinator some) many c.in_ok-attempt-2.ensures.moved))))

pub returns-then-is_stopped-clause-moved : goal.returns-then-is_stopped-clause-moved
returns-then-is_stopped-clause-moved g c =
    let v = c.args.trace in
    let w = c.remember.new.self in
    let same = sym c.remember.ensures in
    subst (λ (u : TraceView g.row.M.Denot). HasStepped g.M.SavingMachine.represents (length v.now.machines.items) v.now.machines.items v.now.coordinator u.now.machines.items u.now.coordinator false) same
    (stepped_none g.M.SavingMachine.represents (length v.now.machines.items) v.now.machines.items v.now.coordinator)
