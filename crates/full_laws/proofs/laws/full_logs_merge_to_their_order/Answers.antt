-- Each log is its machine's part of the order, whose tickets rise.
use Rattle.full_laws.proofs.MergedOrders.{merge_law}
use Rattle.full_laws.proofs.laws.full_logs_merge_to_their_order.Goals as goal

pub returns : goal.returns
returns c = λ st p w kept is merged merge. merge_law st is p w kept merged merge
