-- Attempt after attempt.
use Rattle.call_laws.proofs.attempts.Storing.{call_stores, images_good, last_in_turn, pending_good}
use Rattle.call_laws.proofs.attempts.laws.stores_stay_good.Goals as goal

pub returns-clause-call : goal.returns-clause-call
returns-clause-call c = λ shared store call good base is. call_stores shared store call good base is

pub returns-clause-pending : goal.returns-clause-pending
returns-clause-pending c = λ shared store call later good base is under valid. pending_good shared store call later good base is under valid

pub returns-clause-images : goal.returns-clause-images
returns-clause-images c = λ shared store added image good is. images_good shared store added image good is

pub returns-clause-base : goal.returns-clause-base
returns-clause-base c = λ shared store good. last_in_turn shared store good
