use Rattle.std.proofs.Common.{refl}
use Rattle.placement.specs.graphs.Placed.{placed_owner}
use Rattle.placement.proofs.graphs.PartLemmas.{setting_with}
use Rattle.tests_parts.proofs.placed.first_numbers.Goals as goal

pub first_numbers_of_all-requires : goal.first_numbers_of_all-requires
first_numbers_of_all-requires c =
    let made = c.in_ok-made.made in
    let st = setting_with c.args.graph.now 2 (placed_owner made.of.items made.owner.items) in
    record {
      st = st;
      graph = c.n.ensures.graph;
      are_parts = c.in_ok-made.ensures.parts st (record { graph = refl; machines = refl; owners = λ v low. refl });
      numbers = c.in_ok-base.ensures.numbers;
    }
