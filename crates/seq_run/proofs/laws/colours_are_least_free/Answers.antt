-- The first update of a vertex gives it its colour.
use Rattle.seq_run.proofs.Colours.{colours_were_least}
use Rattle.seq_run.proofs.laws.colours_are_least_free.Goals as goal

pub returns : goal.returns
returns c = λ g is order valid finished v within. colours_were_least g is order valid finished v within
