-- Event by event.
use Rattle.whole_laws.proofs.cluster_whole.Colours.{in_turn}
use Rattle.whole_laws.proofs.cluster_whole.laws.counts_are_balanced.Goals as goal

pub returns : goal.returns
returns c = λ st colour colours cluster whole chromatic. (in_turn st colour colours cluster whole chromatic).balanced
