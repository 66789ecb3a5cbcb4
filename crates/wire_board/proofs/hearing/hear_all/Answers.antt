use Rattle.std.proofs.Common.{List, [], ap, append_assoc, subst, sym, ◌++◌, ◌∙◌, ◌∷◌, ◌≡◌}
use Rattle.std.specs.Prelude.{option_map}
use Rattle.cluster_step.proofs.clusters.Lines.{first_is}
use Rattle.coordinator.specs.machine_api.Promises.{MessageView, message_view}
use Rattle.wire_board.proofs.HearingOn.{next_heard, next_may}
use Rattle.wire_board.specs.Hearing.{CanHear, HasHeardAll}
use Rattle.wire_board.proofs.hearing.hear_all.Goals as goal

pub receive-requires : goal.receive-requires
receive-requires g c =
    let represents = g.M.SavingMachine.represents in
    let old = c.loop-message.invariant in
    let first : c.loop-message.queue.messages ≡ message_view c.in-Some.message ∷ c.take.new.self.messages =
    first_is c.loop-message.queue.messages (message_view c.in-Some.message) (ap (option_map message_view) (sym c.in-Some.is) ∙ c.take.ensures.first)
    ∙ ap (λ (ms : List MessageView). message_view c.in-Some.message ∷ ms) (sym c.take.ensures.behind)
    in
    next_may represents c.args.from.0 c.args._me c.args.machine.now c.loop-message.machine old.0 c.in-Some.message c.take.new.self.messages
    (subst (λ (ms : List MessageView). HasHeardAll represents c.args.machine.now c.args.from.0 c.args._me old.0 ms c.loop-message.machine) first old.2)
    (subst (λ (ms : List MessageView). CanHear represents c.args.machine.now c.args.from.0 c.args._me ms) (old.1 ∙ ap (λ (ms : List MessageView). old.0 ++ ms) first) c.requires)

pub loop-message-preserved : goal.loop-message-preserved
loop-message-preserved g c =
    let represents = g.M.SavingMachine.represents in
    let old = c.loop-message.invariant in
    let first : c.loop-message.queue.messages ≡ message_view c.in-Some.message ∷ c.take.new.self.messages =
    first_is c.loop-message.queue.messages (message_view c.in-Some.message) (ap (option_map message_view) (sym c.in-Some.is) ∙ c.take.ensures.first)
    ∙ ap (λ (ms : List MessageView). message_view c.in-Some.message ∷ ms) (sym c.take.ensures.behind)
    in (
      old.0 ++ message_view c.in-Some.message ∷ [],
      old.1 ∙ ap (λ (ms : List MessageView). old.0 ++ ms) first ∙ sym (append_assoc old.0 (message_view c.in-Some.message ∷ []) c.take.new.self.messages),
      next_heard represents c.args.from.0 c.args._me c.args.machine.now c.loop-message.machine old.0 c.in-Some.message c.take.new.self.messages
          (subst (λ (ms : List MessageView). HasHeardAll represents c.args.machine.now c.args.from.0 c.args._me old.0 ms c.loop-message.machine) first old.2) c.receive.new.self c.in-Ok.ensures.received,
    )
