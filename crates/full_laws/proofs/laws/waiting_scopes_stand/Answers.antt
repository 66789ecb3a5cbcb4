use Rattle.full_laws.proofs.Standing.{queued_stands, stand_is}
use Rattle.full_laws.proofs.laws.waiting_scopes_stand.Goals as goal

pub returns-clause-queued : goal.returns-clause-queued
returns-clause-queued c = λ st p w kept s x some. queued_stands st p w kept s x some

pub returns-clause-standing : goal.returns-clause-standing
returns-clause-standing c = λ st p w kept s a stand at. stand_is st p w kept s a stand at
