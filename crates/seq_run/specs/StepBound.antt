-- How many updates a valid order may have after its last restart.
use Rattle.std.specs.Prelude.{ℕ, ◌+◌, ◌-◌, ◌*◌, max, List, [], ◌∷◌, length}
use Rattle.gl_base.specs.declared.entries.Entry.{Entry}
use Rattle.gl_base.specs.declared.entries.Entry.TheVariants.{Go, Restart}
use Rattle.gl_base.specs.declared.jobs.Algorithm.{Algorithm}
use Rattle.gl_base.specs.declared.jobs.Algorithm.TheVariants.{Levels, Components, Paths, Colours, Cores, Pairs}
use Rattle.graph_core.specs.DataGraph.{DataEdge, DataGraph, size}

-- a restart begins the count anew
abbrev pub updates_from : ℕ → List Entry → ℕ
updates_from count [] = count
updates_from count (Go machine vertex ticket ∷ order) = updates_from (count + 1) order
updates_from count (Restart ticket ∷ order) = updates_from 0 order

-- how many updates stand after the last restart, or in all where there is none
abbrev pub updates_since_restart : List Entry → ℕ
updates_since_restart order = updates_from 0 order

-- 0 where there are no edges
abbrev pub greatest_weight : List DataEdge → ℕ
greatest_weight [] = 0
greatest_weight (e ∷ edges) = max e.weight (greatest_weight edges)

-- each vertex once, and both ends of each edge once for each time that a number changes
abbrev pub steps_at_most : DataGraph → ℕ → ℕ
steps_at_most g changes = size g + 2 * length g.edges * changes

-- no valid order has more updates after its last restart
abbrev pub step_bound : DataGraph → Algorithm → ℕ
step_bound g Levels = steps_at_most g (size g)
step_bound g Components = steps_at_most g (size g)
step_bound g Paths = steps_at_most g ((size g - 1) * greatest_weight g.edges + 1)
step_bound g Colours = size g
step_bound g Cores = steps_at_most g (size g)
step_bound g Pairs = size g
