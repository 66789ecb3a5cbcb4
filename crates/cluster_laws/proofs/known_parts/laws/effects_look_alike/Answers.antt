use Rattle.cluster_laws.proofs.known_parts.SeenLemmas.{admit_alike, begin_alike, grant_alike, receive_alike}
use Rattle.cluster_laws.proofs.known_parts.MadeLemmas.{mark_alike, update_alike}
use Rattle.cluster_laws.proofs.known_parts.laws.effects_look_alike.Goals as goal

pub returns-clause-admitted : goal.returns-clause-admitted
returns-clause-admitted t = admit_alike

pub returns-clause-granted : goal.returns-clause-granted
returns-clause-granted t = grant_alike

pub returns-clause-received : goal.returns-clause-received
returns-clause-received t st a message one other is alike = receive_alike st a is message one other alike

pub returns-clause-begun : goal.returns-clause-begun
returns-clause-begun t st a k one other is alike = begin_alike st a is k one other alike

pub returns-clause-updated : goal.returns-clause-updated
returns-clause-updated t = update_alike

pub returns-clause-marked : goal.returns-clause-marked
returns-clause-marked t = mark_alike
