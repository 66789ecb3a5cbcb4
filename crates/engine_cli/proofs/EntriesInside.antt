-- The updates of a valid order are of vertices of the graph.
use Rattle.std.proofs.Common.{List, [], ◌∷◌, ◌++◌, All, sym, subst, append_assoc}
use Rattle.std.specs.List.{AllByRecursion}
use Rattle.gl_base.specs.declared.entries.Entry.{Entry}
use Rattle.gl_base.specs.declared.entries.Entry.TheVariants.{Go, Restart}
use Rattle.graph_core.specs.DataGraph.{DataGraph, IsDataGraph}
use Rattle.graph_text.specs.order_text.Orders.{IsEntryOf}
use Rattle.seq_run.specs.Orders.{IsValidOrder, MayCome, all_tasks, tasks_after}
use Rattle.seq_run.specs.States.{start_state}
use Rattle.seq_run.proofs.EachOf.{each_is}
use Rattle.seq_run.proofs.GoingOn.{tasks_within, valid_back}
use Rattle.update_api.specs.Updates.{Update}

module _ (g : DataGraph) (p : Update) (is : IsDataGraph g) where
  -- an entry that may come after an order
  comes-inside : (order : List Entry) (entry : Entry) → MayCome (tasks_after g p order) entry → IsEntryOf g entry
  comes-inside order (Go machine vertex ticket) may = tasks_within g p is order vertex.0 may
  comes-inside order (Restart ticket) may = tt

  entries-behind : (order more : List Entry) → IsValidOrder g p (order ++ more) → AllByRecursion (IsEntryOf g) more
  entries-behind order [] valid = tt
  entries-behind order (entry ∷ more) valid = (
    comes-inside order entry (valid_back g p (start_state g p) (all_tasks g) order (entry ∷ more) valid).0,
    entries-behind (order ++ entry ∷ []) more (subst (IsValidOrder g p) (sym (append_assoc order (entry ∷ []) more)) valid),
  )

  pub entries-inside : (order : List Entry) → IsValidOrder g p order → All (IsEntryOf g) order
  entries-inside order valid = each_is (IsEntryOf g) order (entries-behind [] order valid)
