use Rattle.std.proofs.Common.{arith}
use Rattle.graph_core.proofs.HalfLemmas.{length-half_pairs}
use Rattle.graph_core.proofs.halves.HalvesOfKeyed.len.Goals as goal

pub returns : goal.returns
returns c = omega (arith, length-half_pairs c.args.self.now.directed 0 c.args.self.now.edges.now)
