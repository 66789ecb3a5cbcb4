use Rattle.std.proofs.Common.{◌≡◌, ◌+◌, arith}
use Rattle.full_cluster.specs.Owners.{owner_in}
use Rattle.full_runs.proofs.DriveLemmas.{begins_with, few_drawn, few_none, given_for}
use Rattle.full_runs.proofs.runs.run_machines.Goals as goal

pub returns-then-terms-lt2-clause-so_far : goal.returns-then-terms-lt2-clause-so_far
returns-then-terms-lt2-clause-so_far g c = c.new.ensures.so_far (owner_in c.args.division.now.owner.now)

pub returns-then-terms-lt2-clause-few : goal.returns-then-terms-lt2-clause-few
returns-then-terms-lt2-clause-few g c = few_none c.args.budget c.new.result c.new.ensures.none

pub returns-clause-so_far : goal.returns-clause-so_far
returns-clause-so_far g c =
    let p = g.P.FullProgram.meaning c.args.program.now in
    c.gather.ensures.so_far p (given_for c.args.division.now c.args.terms p c.drive.new.cluster c.drive.ensures.cluster c.in_ok-drive.ensures.given)

pub returns-clause-few : goal.returns-clause-few
returns-clause-few g c =
    let p = g.P.FullProgram.meaning c.args.program.now in
    let first = begins_with c.args.division.now c.args.terms p c.in_ok-cluster.cluster c.args.budget c.in_ok-cluster.ensures.cluster c.in_ok-cluster.ensures.starts in
    let last : c.drive.new.cluster.next + c.drive.new.cluster.left ≡ c.args.budget = omega (arith, c.drive.ensures.tickets, first) in
    few_drawn c.args.budget c.drive.new.cluster.next c.gather.result (omega (arith, last))
    (c.gather.ensures.drawn p (given_for c.args.division.now c.args.terms p c.drive.new.cluster c.drive.ensures.cluster c.in_ok-drive.ensures.given))
