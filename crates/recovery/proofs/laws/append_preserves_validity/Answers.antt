use Rattle.recovery.proofs.Goodness.{images_good, none_good, records_good}
use Rattle.recovery.proofs.laws.append_preserves_validity.Goals as goal

pub returns-clause-none : goal.returns-clause-none
returns-clause-none c = λ shared header. none_good shared header

pub returns-clause-records : goal.returns-clause-records
returns-clause-records c = λ shared header bodies next image good small fits machines goes either. records_good shared header bodies next image good small fits machines goes either

pub returns-clause-bodies : goal.returns-clause-bodies
returns-clause-bodies c = λ shared header bodies body image good behind either. images_good shared header bodies body image good behind either
