use Rattle.std.proofs.Common.{ap, refl, sym, ◌∙◌}
use Rattle.std.specs.Prelude.{option_map}
use Rattle.cluster_step.proofs.clusters.Lines.{first_is, none_is}
use Rattle.coordinator.specs.machine_api.Promises.{message_view}
use Rattle.wire_board.proofs.calls.hear_first.Goals as goal

pub hear-requires : goal.hear-requires
hear-requires g c =
    c.requires c.in-Some.message _
    (first_is c.args.queue.now.messages (message_view c.in-Some.message) (ap (option_map message_view) (sym c.in-Some.is) ∙ c.take.ensures.first))

pub returns-in-None-clause-none : goal.returns-in-None-clause-none
returns-in-None-clause-none g c = λ same. (refl, none_is c.args.queue.now.messages (ap (option_map message_view) (sym c.in-None.is) ∙ c.take.ensures.first))
