-- By the attempts before.
use Rattle.call_laws.proofs.attempts.Storing.{attempts_end, begins_push, failed_push}
use Rattle.call_laws.proofs.attempts.laws.attempts_follow_one_another.Goals as goal

pub returns-clause-failed : goal.returns-clause-failed
returns-clause-failed c = λ shared b failed a have is some. failed_push shared b failed a have is some

pub returns-clause-next : goal.returns-clause-next
returns-clause-next c = λ b failed a. begins_push b failed a

pub returns-clause-last : goal.returns-clause-last
returns-clause-last c = λ shared b failed last have is. attempts_end shared b failed last have is
