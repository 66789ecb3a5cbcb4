-- An update reads and writes its scope alone.
use Rattle.full_scope.proofs.WithEach.{after-vertex_other, after-edge_other, after-vertex_same, after-edge_same, full_wakes-same}
use Rattle.full_scope.proofs.laws.full_updates_are_local.Goals as goal

pub returns-clause-vertices : goal.returns-clause-vertices
returns-clause-vertices c = λ g p s v x other apart. after-vertex_other g p s v x other apart

pub returns-clause-edges : goal.returns-clause-edges
returns-clause-edges c = λ g p s v e apart. after-edge_other g p s v e apart

pub returns-clause-same_vertices : goal.returns-clause-same_vertices
returns-clause-same_vertices c = λ g p s t v x agree here. after-vertex_same g p s t v agree x here

pub returns-clause-same_edges : goal.returns-clause-same_edges
returns-clause-same_edges c = λ g p s t v e agree here. after-edge_same g p s t v agree e here

pub returns-clause-same_wakes : goal.returns-clause-same_wakes
returns-clause-same_wakes c = λ g p s t v u agree. full_wakes-same g p s t v agree u
