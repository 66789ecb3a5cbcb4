use Rattle.std.proofs.Common.{ap, refl, sym, ◌∙◌}
use Rattle.std.specs.Prelude.{option_map}
use Rattle.cluster_step.proofs.clusters.Lines.{first_is, none_is}
use Rattle.coordinator.specs.machine_api.Promises.{message_view}
use Rattle.wire_board.proofs.reports.hear_one.Goals as goal

pub receive-requires : goal.receive-requires
receive-requires c =
    c.requires c.in-Some.message _
    (first_is c.args.queue.now.messages (message_view c.in-Some.message) (ap (option_map message_view) (sym c.in-Some.is) ∙ c.take.ensures.first))

pub returns-in-None-clause-none : goal.returns-in-None-clause-none
returns-in-None-clause-none c = λ same. (refl, none_is c.args.queue.now.messages (ap (option_map message_view) (sym c.in-None.is) ∙ c.take.ensures.first))
