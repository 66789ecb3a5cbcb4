use Rattle.full_cluster.proofs.CoherentLemmas.{first_gives}
use Rattle.full_cluster.proofs.laws.coherent_machines_may_deliver.Goals as goal

pub returns : goal.returns
returns c = λ st p w kept from a has. first_gives st p w kept from a has
