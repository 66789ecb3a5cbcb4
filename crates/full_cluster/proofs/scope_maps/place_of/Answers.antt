use Rattle.std.proofs.Common.{arith}
use Rattle.gl_base.proofs.scope_lists.FoundLemmas.{none_found}
use Rattle.full_cluster.specs.ScopeMaps.{entry_scope}
use Rattle.full_cluster.proofs.scope_maps.place_of.Goals as goal

pub returns-clause-none : goal.returns-clause-none
returns-clause-none g c = λ _. none_found (entry_scope {T = g.row.T.Denot}) c.args.entries.now c.args.scope (λ k d within. c.loop-place.invariant k d (omega arith))
