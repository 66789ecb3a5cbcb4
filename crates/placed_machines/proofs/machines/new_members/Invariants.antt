use Rattle.std.proofs.Common.{◌≡◌, length}
use Rattle.placed_machines.proofs.ManyLemmas.{StandSoFar}
use Rattle.placed_machines.proofs.machines.new_members.Given as goal

abbrev pub invariant-loop-local : goal.invariant-loop-local
invariant-loop-local g l =
    record {
      count : length l.placed.items ≡ length l.yielded;
      stand : StandSoFar g.P.Program.meaning l.program l.fn.parts.items l.by.base.now l.by.terms l.by.places.now l.serials l.placed.items;
    }
