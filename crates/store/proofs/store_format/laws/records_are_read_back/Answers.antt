use Rattle.store.proofs.store_format.ReadBackLemmas.{entries_of_record, vertices_of_record, edges_of_record}
use Rattle.store.proofs.store_format.laws.records_are_read_back.Goals as goal

pub returns-clause-entries : goal.returns-clause-entries
returns-clause-entries c = λ next small fits. entries_of_record next small fits

pub returns-clause-vertices : goal.returns-clause-vertices
returns-clause-vertices c = λ header next v small fits machines. vertices_of_record header next v small fits machines

pub returns-clause-edges : goal.returns-clause-edges
returns-clause-edges c = λ header next e small fits machines. edges_of_record header next e small fits machines
