-- The numbers are those of the program's start state.
use Rattle.std.proofs.Common.{◌≡◌, ◌∙◌, ap, get_or, length, refl, replicate}
use Rattle.std.proofs.lemmas.List.{get_or-replicate, length-replicate}
use Rattle.recovery.proofs.recovered.start_base.Goals as goal

pub returns : goal.returns
returns g c =
    let zeros : c.in_ok-edges.edges.items ≡ replicate c.m.result 0 = c.in_ok-edges.ensures.items_if_clones_equal (λ y clone. clone) in
    record {
      number = refl;
      order = c.new.ensures.items;
      vertices = c.in_ok-values.ensures;
      edges = record {
        count = ap length zeros ∙ length-replicate c.m.result 0 ∙ c.m.ensures.count;
        each = λ k low. ap (λ xs. get_or xs k 0) zeros ∙ get_or-replicate c.m.result k 0 0 (rw c.m.ensures.count low);
      };
      length = refl;
    }
