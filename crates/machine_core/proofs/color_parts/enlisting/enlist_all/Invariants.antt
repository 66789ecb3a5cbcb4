use Rattle.std.proofs.Common.{◌≡◌}
use Rattle.machine_core.specs.color_parts.Enlisting.{HasEnlisted}
use Rattle.machine_core.proofs.color_parts.enlisting.enlist_all.Given as goal

abbrev pub invariant-loop-place : goal.invariant-loop-place
invariant-loop-place l =
    record {
      colours : l.lines.colours ≡ l.fn.lines.colours;
      enlisted : HasEnlisted l.which l.numbers l.fn.lines l.lines l.vertices l.place;
    }
