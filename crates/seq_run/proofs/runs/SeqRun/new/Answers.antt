use Rattle.std.proofs.Common.{◌≡◌, ◌∙◌, sym, ap, subst, length, ◌<◌, []}
use Rattle.std.proofs.Math.ListN.{replicate}
use Rattle.std.proofs.lemmas.List.{get_or-replicate, length-replicate}
use Rattle.seq_run.proofs.runs.SeqRun.new.Goals as goal

pub invariant_of-result : goal.invariant_of-result
invariant_of-result g c =
    let zeros : c.in_ok-from_elem.field-0.items ≡ replicate c.m.result 0 = c.in_ok-from_elem.ensures.items_if_clones_equal (λ y clone. clone) in
    record {
      graph = c.m.ensures.graph;
      valid = rw c.new-2.ensures.items tt;
      alone = ([], c.new-2.ensures.items);
      values = rw c.new-2.ensures.items c.in_ok-values.ensures;
      edges = rw (c.new-2.ensures.items, zeros)
          (record { count = length-replicate c.m.result 0 ∙ c.m.ensures.count; each = λ k within. get_or-replicate c.m.result k 0 0 (subst (λ n. k < n) (sym c.m.ensures.count) within) });
      tasks = rw c.new-2.ensures.items (record { count = c.in_ok-tasks.ensures.count; each = c.in_ok-tasks.ensures.all });
    }

pub first_tasks-requires : goal.first_tasks-requires
first_tasks-requires g c = ap length c.deref.ensures.value ∙ c.in_ok-values.ensures.count
