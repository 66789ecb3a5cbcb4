use Rattle.std.proofs.Common.{◌≡◌, length}
use Rattle.placement.specs.graphs.Inner.Making.{AreAllMade}
use Rattle.placement.proofs.graphs.parts.make_all.Given as goal

abbrev pub invariant-loop-lines : goal.invariant-loop-lines
invariant-loop-lines l =
    record {
      count : length l.locals.items ≡ length l.yielded;
      made : AreAllMade l.graph l.machines l.fn.all.items l.locals.items;
    }
