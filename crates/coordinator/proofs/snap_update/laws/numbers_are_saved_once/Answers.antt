use Rattle.coordinator.proofs.snap_update.SavedOnce.{begun_once, edge_once, nothing_once, vertex_once}
use Rattle.coordinator.proofs.snap_update.laws.numbers_are_saved_once.Goals as goal

pub returns-clause-none : goal.returns-clause-none
returns-clause-none c = nothing_once

pub returns-clause-begun : goal.returns-clause-begun
returns-clause-begun c = begun_once

pub returns-clause-vertex : goal.returns-clause-vertex
returns-clause-vertex c = vertex_once

pub returns-clause-edge : goal.returns-clause-edge
returns-clause-edge c = edge_once
