-- The numbers along the edges that were passed are written, and nothing else has changed.
use Rattle.std.proofs.Common.{◌≡◌, ◌==◌, ◌&&◌, if◌then◌else◌}
use Rattle.prog_match.specs.Pairs.{is_unmatched}
use Rattle.prog_match.proofs.WrittenLemmas.{AreWrittenBelow}
use Rattle.prog_match.proofs.pairs.match_with.Given as goal

abbrev pub invariant-loop-i : goal.invariant-loop-i
invariant-loop-i l =
    let old = l.initial.scope in
    record {
      written : AreWrittenBelow l.i (λ n. if is_unmatched n && n.id == l.mate then old.id else n.near.number) (λ n. if is_unmatched n && n.id == l.mate then 1 else n.near.mark) old.links.now old.numbers.now l.scope.numbers.now;
      same_id : l.scope.id ≡ old.id;
      same_links : l.scope.links.now ≡ old.links.now;
      same_centre : l.scope.centre ≡ old.centre;
      same_numbers : l.scope.numbers.ghost_name ≡ old.numbers.ghost_name;
    }
