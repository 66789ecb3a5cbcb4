-- An update changes nothing, or matches two unmatched neighbours.
use Rattle.prog_match.proofs.Matching.{pairs_at_rest}
use Rattle.prog_match.proofs.laws.pairs_are_maximal.Goals as goal

pub returns : goal.returns
returns c = λ g is order valid finished. pairs_at_rest g is order valid finished
