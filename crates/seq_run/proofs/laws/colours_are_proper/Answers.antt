-- A colour is free when it is given, and stays.
use Rattle.seq_run.proofs.Colours.{colours_at_rest}
use Rattle.seq_run.proofs.laws.colours_are_proper.Goals as goal

pub returns : goal.returns
returns c = λ g is order valid finished. colours_at_rest g is order valid finished
