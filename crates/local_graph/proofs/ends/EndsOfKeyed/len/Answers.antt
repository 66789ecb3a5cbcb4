use Rattle.std.proofs.Common.{sym}
use Rattle.local_graph.proofs.EndLemmas.{length-end_pairs}
use Rattle.local_graph.proofs.ends.EndsOfKeyed.len.Goals as goal

pub returns : goal.returns
returns c = let h = c.args.self.now in sym (length-end_pairs h.directed h.none h.edges.now)
