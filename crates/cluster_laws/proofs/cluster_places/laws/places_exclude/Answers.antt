-- Of two scopes that hold one lock neither is a writer.
use Rattle.cluster_laws.proofs.cluster_places.Excluding.{exclusive, writer_alone}
use Rattle.cluster_laws.proofs.cluster_places.laws.places_exclude.Goals as goal

pub returns-clause-exclusive : goal.returns-clause-exclusive
returns-clause-exclusive c = λ st w stage is places. exclusive st is w stage places

pub returns-clause-writers : goal.returns-clause-writers
returns-clause-writers c = λ st w stage is places s t x mode writes also. writer_alone st is w stage places s t x mode writes also
