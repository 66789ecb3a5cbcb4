-- The entries are by ticket as they are sorted.
use Rattle.std.proofs.Common.{rules}
use Rattle.std.proofs.lemmas.List.Sorted.{IsNonDecreasingBy-from_sort_by_key}
use Rattle.coordinator.specs.coord_core.Records.{ticket_of}
use Rattle.coordinator.proofs.coord_core.records.entries_of.Goals as goal

pub returns-clause-by_ticket : goal.returns-clause-by_ticket
returns-clause-by_ticket c = IsNonDecreasingBy-from_sort_by_key ticket_of _ c.sort_unstable_by_key.ensures.sorted (λ a r q k. search rules)
