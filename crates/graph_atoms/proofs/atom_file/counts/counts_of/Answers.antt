use Rattle.std.proofs.Common.{arith}
use Rattle.graph_atoms.proofs.atom_file.CountLemmas.{low_behind}
use Rattle.graph_atoms.proofs.atom_file.counts.counts_of.Goals as goal

pub check_end-requires-clause-low : goal.check_end-requires-clause-low
check_end-requires-clause-low c =
    low_behind c.args.bytes.now c.in_ok-vertices.vertices.end c.in_ok-ghosts.ghosts.end c.in_ok-edges.edges.end (λ k. let h = c.type_inv.bytes k in omega (arith, h)) c.in_ok-vertices.ensures.ended c.in_ok-ghosts.ensures.ended c.in_ok-edges.ensures.ended c.in_ok-ghosts.ensures.run.passed c.in_ok-edges.ensures.run.passed
