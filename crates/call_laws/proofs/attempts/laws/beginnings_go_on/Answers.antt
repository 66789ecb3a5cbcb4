-- A restart makes every vertex a task.
use Rattle.call_laws.proofs.attempts.Beginning.{again_begins}
use Rattle.call_laws.proofs.attempts.Opening.{opening_begins}
use Rattle.call_laws.proofs.attempts.laws.beginnings_go_on.Goals as goal

pub returns-clause-first : goal.returns-clause-first
returns-clause-first c = λ shared call is. opening_begins shared call is

pub returns-clause-next : goal.returns-clause-next
returns-clause-next c = λ shared b a is attempt some. again_begins shared b a attempt is some
