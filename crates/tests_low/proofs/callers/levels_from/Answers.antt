-- The order of a run that is Ok is valid and leaves no task, so the law about levels holds of its numbers.
use Rattle.std.proofs.Common.{◌≡◌, ℕ, ◌<◌, List, slice_index, refl, sym, ap, ◌∙◌, subst}
use Rattle.gl_base.specs.declared.entries.Entry.{Entry}
use Rattle.graph_core.specs.DataGraph.{DataGraph, size, IsDataGraph}
use Rattle.graph_core.specs.Levels.{AreLevels}
use Rattle.graph_programs.specs.declared.prog_labels.levels.Levels.{Levels}
use Rattle.update_api.specs.Updates.{update_of_levels}
use Rattle.seq_run.specs.Orders.{replay, IsValidOrder, IsFinished}
use Rattle.seq_run.specs.Runs.{RunView, AreNumbers}
use Rattle.seq_run.proofs.LevelsAndPaths.{levels_at_rest}
use Rattle.tests_low.proofs.callers.levels_from.Goals as goal

-- what is known of the graph, the source's identifier and the order
abbrev Claim : DataGraph → DataGraph → ℕ → ℕ → List Entry → List ℕ → Type 0
Claim g h source id order values =
    IsDataGraph h → IsValidOrder h (update_of_levels id) order → IsFinished h (update_of_levels id) order → AreNumbers (size h) (replay h (update_of_levels id) order).vertex values → AreLevels g source values

levels_are : (g h : DataGraph) (source id : ℕ) (order : List Entry) (values : List ℕ) → source < size g → h ≡ g → id ≡ slice_index g.ids source → Claim g h source id order values
levels_are g h source id order values within same named =
    subst (λ (x : DataGraph). Claim g x source id order values) (sym same)
    (subst (λ (i : ℕ). Claim g g source i order values) (sym named)
    (λ is valid finished numbers. record {
      count = numbers.count;
      each = λ v inside. rw (numbers.each v inside) (levels_at_rest g is source within order valid finished v inside);
    }))

pub returns : goal.returns
returns c =
    let run = c.run.new.self in
    let went = c.in_ok-run-2.ensures.steps.2.2 in
    let graph : run.graph ≡ c.args.graph.now = ap (λ (r : RunView Levels). r.graph) went ∙ c.in_ok-run.ensures.graph in
    let program = ap (λ (r : RunView Levels). r.program.source) went ∙ ap (λ (p : Levels). p.source) c.in_ok-run.ensures.program ∙ c.id.ensures in
    let ended = c.finish-values.ensures in
    levels_are c.args.graph.now run.graph c.args.source.0 run.program.source run.order c.finish-values.result.values.items c.requires graph program
    ended.graph ended.valid (c.in_ok-run-2.ensures.finished.0 refl) ended.values
