use Rattle.std.proofs.Common.{◌≡◌}
use Rattle.machine_core.specs.color_parts.Enlisting.{HasEnlisted, ends_of}
use Rattle.machine_core.proofs.color_parts.enlisting.enlist_along.Given as goal

abbrev pub invariant-loop-place : goal.invariant-loop-place
invariant-loop-place l =
    record {
      colours : l.lines.colours ≡ l.fn.lines.colours;
      enlisted : HasEnlisted l.which l.numbers l.fn.lines l.lines (ends_of l.sides) l.place;
    }
