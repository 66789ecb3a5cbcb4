-- How many updates an attempt may make.
use Rattle.std.specs.Prelude.{List, ℕ, ◌≤◌}
use Rattle.gl_base.specs.declared.entries.Entry.{Entry}
use Rattle.graph_core.specs.DataGraph.{DataGraph}
use Rattle.seq_run.specs.Orders.{IsValidOrder}
use Rattle.seq_run.specs.StepBound.{updates_since_restart}
use Rattle.update_api.specs.Updates.{Update}

-- no valid order of this program on this graph has more updates after its last restart
abbrev pub BoundsSteps : DataGraph → Update → ℕ → Type 0
BoundsSteps g p bound = (order : List Entry) → IsValidOrder g p order → updates_since_restart order ≤ bound
