-- No run makes more updates than the step bound.
use Rattle.std.proofs.Common.{◌≡◌, ◌≤◌, ◌+◌, ℕ, suc, true, List, [], ◌∷◌, ◌++◌, length, Option, subst, arith}
use Rattle.gl_base.specs.declared.entries.Entry.{Entry}
use Rattle.gl_base.specs.declared.entries.Entry.TheVariants.{Go, Restart}
use Rattle.gl_base.specs.declared.jobs.Algorithm.{Algorithm}
use Rattle.gl_base.specs.declared.jobs.Algorithm.TheVariants.{Levels, Components, Paths, Colours, Cores, Pairs}
use Rattle.gl_base.specs.declared.numbers.Vertex.{Vertex}
use Rattle.graph_core.specs.DataGraph.{DataGraph, IsDataGraph}
use Rattle.seq_run.specs.Orders.{IsValidOrder, all_tasks, tasks_after}
use Rattle.placement.specs.plans.Plays.{AreUpdatesFrom}
use Rattle.seq_run.specs.States.{start_state}
use Rattle.seq_run.specs.StepBound.{step_bound, updates_from, updates_since_restart}
use Rattle.seq_run.proofs.GoingOn.{updates_from-push, valid_append}
use Rattle.seq_run.proofs.StepBounds.{levels_bound, components_bound, paths_bound, colours_bound, cores_bound}
use Rattle.update_api.specs.Updates.{Update, update_of_levels, update_of_paths}
use Rattle.job_io.specs.job_files.JobTexts.{HasStart}
use Rattle.engine_cli.specs.Plays.{RunsByScopes, update_of}
use Rattle.engine_cli.proofs.Results.{named}

-- the update of a task may come next
pub one-more : (g : DataGraph) (p : Update) (order : List Entry) (left : Vertex) → IsValidOrder g p order → tasks_after g p order left.0 ≡ true
    → IsValidOrder g p (order ++ Go (record { 0 = 0 }) left 0 ∷ [])
one-more g p order left valid task =
    valid_append g p (start_state g p) (all_tasks g) order (Go (record { 0 = 0 }) left 0 ∷ []) valid (task, tt)

-- updates alone are counted one by one
counted : (count ticket : ℕ) (order : List Entry) → AreUpdatesFrom ticket order → updates_from count order ≡ count + length order
counted count ticket [] made = omega arith
counted count ticket (Go machine vertex t ∷ order) made = let rest = counted (count + 1) (suc ticket) order made.1 in omega (arith, rest)
counted count ticket (Restart t ∷ order) made = absurd made

-- one update more behind updates alone
pub since-one-more : (order : List Entry) (left : Vertex) → AreUpdatesFrom 0 order
    → updates_since_restart (order ++ Go (record { 0 = 0 }) left 0 ∷ []) ≡ length order + 1
since-one-more order left made =
    let count = counted 0 0 order made in
    let pushed = updates_from-push 0 order 0 (record { 0 = 0 }) left in
    omega (arith, count, pushed)

-- the step bound of an algorithm
pub bound-of : (algorithm : Algorithm) (source : Option ℕ) (g : DataGraph) (order : List Entry) → IsDataGraph g → HasStart algorithm source g → RunsByScopes algorithm g
    → IsValidOrder g (update_of algorithm source) order → updates_since_restart order ≤ step_bound g algorithm
bound-of Levels source g order is start edges valid =
    levels_bound g is start.0 start.3.inside order (subst (λ (p : Update). IsValidOrder g p order) (named update_of_levels g source start.0 start.1 start.2 start.3) valid)
bound-of Components source g order is start edges valid = components_bound g is order valid
bound-of Paths source g order is start edges valid =
    paths_bound g is start.0 start.3.inside order (subst (λ (p : Update). IsValidOrder g p order) (named update_of_paths g source start.0 start.1 start.2 start.3) valid)
bound-of Colours source g order is start edges valid = colours_bound g is order valid
bound-of Cores source g order is start edges valid = cores_bound g is edges order valid
bound-of Pairs source g order is start edges valid = absurd edges
