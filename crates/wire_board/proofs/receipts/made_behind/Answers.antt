-- Sorted by ticket.
use Rattle.std.proofs.Common.{rules}
use Rattle.std.proofs.lemmas.List.Sorted.{IsNonDecreasingBy-from_sort_by_key}
use Rattle.cluster_laws.specs.cluster_core.Replays.{ticket_of}
use Rattle.wire_board.proofs.Receiving.{merge_so}
use Rattle.wire_board.proofs.receipts.made_behind.Goals as goal

pub returns : goal.returns
returns g c = λ st o events x is.
    merge_so _ c.in_ok-made.made.items c.sort_unstable_by_key.new.self.items (c.in_ok-made.ensures st o events x is) c.sort_unstable_by_key.ensures.permutation
    (IsNonDecreasingBy-from_sort_by_key ticket_of _ c.sort_unstable_by_key.ensures.sorted (λ a r q k. search rules))
