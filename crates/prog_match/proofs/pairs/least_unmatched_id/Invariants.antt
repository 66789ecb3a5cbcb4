-- The least so far and the neighbours that are left have the same least as all.
use Rattle.std.proofs.Common.{◌≡◌, length, drop}
use Rattle.full_scope.specs.FullLinks.{neighbours_from}
use Rattle.full_scope.specs.FullScopes.{surroundings}
use Rattle.prog_match.specs.Pairs.{least_unmatched}
use Rattle.prog_match.proofs.UnmatchedLemmas.{least_from}
use Rattle.prog_match.proofs.pairs.least_unmatched_id.Given as goal

abbrev pub invariant-loop-i : goal.invariant-loop-i
invariant-loop-i l =
    let s = l.scope in
    least_from l.least (neighbours_from (length s.links.now) l.i s.numbers.now (drop l.i s.links.now)) ≡ least_unmatched (surroundings s).neighbours
