-- Sorted by ticket.
use Rattle.std.proofs.Common.{rules}
use Rattle.std.proofs.lemmas.List.Sorted.{IsNonDecreasingBy-from_sort_by_key}
use Rattle.cluster_laws.specs.merged_logs.Merges.{ticket_of}
use Rattle.full_laws.specs.FullReplays.{all_logs}
use Rattle.full_runs.proofs.ReadLemmas.{merge_so}
use Rattle.full_runs.proofs.gathering.merged_logs.Goals as goal

pub returns : goal.returns
returns c = λ st p w are many.
    merge_so (all_logs st w) c.in_ok-merged.merged.items c.sort_unstable_by_key.new.self.items (c.in_ok-merged.ensures st p w are many) c.sort_unstable_by_key.ensures.permutation
    (IsNonDecreasingBy-from_sort_by_key ticket_of _ c.sort_unstable_by_key.ensures.sorted (λ a r q k. search rules))
