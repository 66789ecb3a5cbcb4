-- What the order lacks of the merged logs.
use Rattle.std.proofs.Common.{◌∙◌, ap, filter}
use Rattle.call_laws.specs.whole_calls.Lost.{is_lacking}
use Rattle.engine_runs.proofs.rollback.Losses.{for_ok, takes_away}
use Rattle.engine_runs.proofs.rollback.losing.taken_away.Goals as goal

pub returns : goal.returns
returns g c =
    for_ok c.lost_updates.result _ _ (λ gone is. λ st o events x now to order_is back.
    takes_away g.M.SavingMachine.represents c.args.trace.now st o events x now c.args.order.now c.in_ok-merged.merged.items gone.items (c.in_ok-merged.ensures st o events x now)
    (is ∙ ap (filter (is_lacking c.args.order.now)) c.deref.ensures.value) to order_is back)
    c.lost_updates.ensures
