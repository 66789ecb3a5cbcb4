use Rattle.std.proofs.Common.{arith}
use Rattle.gl_base.proofs.vertex_places.PlaceLemmas.{are_places}
use Rattle.gl_base.proofs.vertex_places.places.Places.new.Goals as goal

pub returns : goal.returns
returns c = are_places c.args.vertices.now c.args.count c.loop-place.place c.loop-place.numbers.items c.loop-place.invariant (omega arith) c.requires.below
