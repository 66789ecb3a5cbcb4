-- The edges of the links that were passed are marked, and nothing else has changed.
use Rattle.std.proofs.Common.{◌≡◌, if◌then◌else◌}
use Rattle.update_api.specs.Scopes.{numbers}
use Rattle.update_api.specs.Updates.{is_tight}
use Rattle.update_api.proofs.MarksLaws.{AreMarkedBelow}
use Rattle.graph_programs.proofs.prog_paths.paths.mark_edges.Given as goal

abbrev pub invariant-loop-i : goal.invariant-loop-i
invariant-loop-i l =
    let old = l.initial.scope in
    record {
      marked : AreMarkedBelow l.i (λ near. if is_tight l.own near then 1 else 0) (numbers old) old.edges.now old.links.now l.scope.edges.now;
      same_id : l.scope.id ≡ old.id;
      same_links : l.scope.links.now ≡ old.links.now;
      same_low : l.scope.low.now ≡ old.low.now;
      same_centre : l.scope.centre ≡ old.centre;
      same_high : l.scope.high.now ≡ old.high.now;
      same_edges : l.scope.edges.ghost_name ≡ old.edges.ghost_name;
    }
