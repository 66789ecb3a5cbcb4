-- Each edge was marked by an update at an end, with the numbers that it still has.
use Rattle.std.proofs.lemmas.Option.{get_or_from_slice_get, slice_get_within}
use Rattle.seq_run.proofs.Marks.{marks_at_rest}
use Rattle.seq_run.proofs.laws.marks_are_tight.Goals as goal

pub returns : goal.returns
returns c = λ g source is order valid finished k e at.
    marks_at_rest g is source order valid finished k e (slice_get_within g.edges k e at) (get_or_from_slice_get g.edges k e e at)
