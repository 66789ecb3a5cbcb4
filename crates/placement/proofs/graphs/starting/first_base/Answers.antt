use Rattle.std.proofs.Common.{◌≡◌, ◌∙◌, length, ap, refl, replicate}
use Rattle.std.proofs.lemmas.List.{length-replicate}
use Rattle.placement.specs.graphs.Beginnings.{start_state}
use Rattle.placement.proofs.graphs.FirstLemmas.{begins_first, for_graph}
use Rattle.placement.proofs.graphs.PartLemmas.{zero_there}
use Rattle.placement.proofs.graphs.starting.first_base.Goals as goal

pub returns-clause-base : goal.returns-clause-base
returns-clause-base g c =
    let zeros : c.in_ok-edges.edges.items ≡ replicate c.m.result 0 = c.in_ok-edges.ensures.items_if_clones_equal (λ y clone. clone) in
    record {
      vertices = c.in_ok-values.ensures;
      edges = record { count = ap length zeros ∙ length-replicate c.m.result 0 ∙ c.m.ensures.count; each = λ k low. zero_there c.in_ok-edges.edges.items c.m.result k zeros };
      number = refl;
      order = c.new.ensures.items;
      length = refl;
    }

pub returns-clause-numbers : goal.returns-clause-numbers
returns-clause-numbers g c = for_graph c.args.graph.now (g.P.Program.meaning c.args.program.now) _ (returns-clause-base g c)

pub returns-clause-begins : goal.returns-clause-begins
returns-clause-begins g c = begins_first c.args.graph.now (g.P.Program.meaning c.args.program.now) _ (returns-clause-base g c)
