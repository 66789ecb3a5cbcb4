use Rattle.snapshot_machines.proofs.marking.ApartLemmas.{admit_apart, grant_apart, on_apart}
use Rattle.snapshot_machines.proofs.marking.laws.scopes_go_apart_from_snapshots.Goals as goal

pub returns-clause-admitted : goal.returns-clause-admitted
returns-clause-admitted c = admit_apart

pub returns-clause-granted : goal.returns-clause-granted
returns-clause-granted c = grant_apart

pub returns-clause-asked : goal.returns-clause-asked
returns-clause-asked c = λ st a v s rest w part. on_apart st a s v 0 rest w part
