use Rattle.full_runs.proofs.DriveLemmas.{cluster_on}
use Rattle.full_runs.proofs.driving.try_event.Goals as goal

pub foresee-requires : goal.foresee-requires
foresee-requires g c = cluster_on c.args.division.now c.args.terms (g.P.FullProgram.meaning c.args.program.now) c.args.cluster.now c.requires.cluster
