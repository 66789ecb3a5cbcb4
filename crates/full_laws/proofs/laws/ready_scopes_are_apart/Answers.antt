-- Both would hold the lock of the vertex.
use Rattle.full_laws.proofs.FullCoherence.{apart_law}
use Rattle.full_laws.proofs.laws.ready_scopes_are_apart.Goals as goal

pub returns : goal.returns
returns c = λ st p w kept s t one other x scoped also. apart_law st p w kept s t one other x scoped also
