use Rattle.gl_base.specs.vertex_places.Inner.Numbering.{HavePlaces}
use Rattle.gl_base.proofs.vertex_places.places.Places.new.Given as goal

abbrev pub invariant-loop-place : goal.invariant-loop-place
invariant-loop-place l = HavePlaces l.vertices l.count l.place l.numbers.items
