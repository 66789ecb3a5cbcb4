use Rattle.recovery.proofs.opened_store.OpenLemmas.{edges_seen, opens_from, vertices_seen}
use Rattle.recovery.proofs.opened_store.laws.good_bases_open_calls.Goals as goal

pub returns-clause-opened : goal.returns-clause-opened
returns-clause-opened t st failures resumed base left store_end good ordered begins = opens_from st failures base good resumed left store_end ordered begins

pub returns-clause-vertices : goal.returns-clause-vertices
returns-clause-vertices t = vertices_seen

pub returns-clause-edges : goal.returns-clause-edges
returns-clause-edges t = edges_seen
