use Rattle.local_graph.specs.Played.{side_of}
use Rattle.local_graph.specs.Inner.ByPlace.{AreMadeTo}
use Rattle.local_graph.proofs.making.add_ghosts.Given as goal

abbrev pub invariant-loop-place : goal.invariant-loop-place
invariant-loop-place l =
    AreMadeTo (side_of l.standing.me l.standing.many l.standing.ghosts.now l.standing.places.now) l.standing.many l.standing.me l.sources.machines l.sources.halves.now l.sources.known.now l.sources.owned.now l.standing.many l.place l.lists
