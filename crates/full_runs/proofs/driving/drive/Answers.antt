use Rattle.full_runs.proofs.DriveLemmas.{cluster_on}
use Rattle.full_runs.proofs.driving.drive.Goals as goal

pub pass_if_update-requires : goal.pass_if_update-requires
pass_if_update-requires g c = cluster_on c.args.division.now c.args.terms (g.P.FullProgram.meaning c.args.program.now) c.loop.cluster c.loop.invariant.cluster

pub returns-then-is_quiet-clause-given : goal.returns-then-is_quiet-clause-given
returns-then-is_quiet-clause-given g c = λ st p w are many. c.is_quiet.ensures st p w are many c.if-is_quiet.true
