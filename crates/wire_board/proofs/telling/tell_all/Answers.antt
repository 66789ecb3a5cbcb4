use Rattle.std.proofs.Common.{List, [], ap, append-nil, append_assoc, sym, ◌++◌, ◌∙◌, ◌∷◌}
use Rattle.coordinator.specs.machine_api.Promises.{MessageView, message_view}
use Rattle.wire_board.proofs.HearingOn.{next_told, none_told}
use Rattle.wire_board.proofs.telling.tell_all.Goals as goal

pub loop-init : goal.loop-init
loop-init g c = ([], sym (append-nil c.args.queue.now.messages), none_told g.M.SavingMachine.represents c.args.to.0 c.args.machine.now)

pub loop-preserved : goal.loop-preserved
loop-preserved g c =
    let old = c.loop.invariant in
    let message = c.in-Some.message in (
      old.0 ++ message_view message ∷ [],
      c.push.ensures ∙ ap (λ (ms : List MessageView). ms ++ message_view message ∷ []) (c.reserve.ensures.same ∙ old.1) ∙ append_assoc c.args.queue.now.messages old.0 (message_view message ∷ []),
      next_told g.M.SavingMachine.represents c.args.to.0 c.args.machine.now old.0 c.loop.machine old.2 message c.outbox_take.new.self c.in-Some.ensures.taken,
    )
