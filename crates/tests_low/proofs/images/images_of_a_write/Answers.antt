use Rattle.std.proofs.Common.{◌≡◌, ℕ, List, [], ◌∷◌, refl, arith}
use Rattle.tests_low.proofs.Histories.{not_elsewhere, not_later, not_shorter, torn}
use Rattle.tests_low.proofs.images.images_of_a_write.Goals as goal

pub returns-clause-seen : goal.returns-clause-seen
returns-clause-seen c = refl

pub returns-clause-old : goal.returns-clause-old
returns-clause-old c = torn 2 []

pub returns-clause-torn : goal.returns-clause-torn
returns-clause-torn c = torn 7 []

pub returns-clause-longer : goal.returns-clause-longer
returns-clause-longer c = torn 9 (8 ∷ [])

pub returns-clause-shorter : goal.returns-clause-shorter
returns-clause-shorter c = not_shorter

pub returns-clause-elsewhere : goal.returns-clause-elsewhere
returns-clause-elsewhere c = not_elsewhere

pub returns-clause-only : goal.returns-clause-only
returns-clause-only c = λ image is. is

pub returns-clause-earlier : goal.returns-clause-earlier
returns-clause-earlier c = (1, omega arith, omega arith, torn 7 [])

pub returns-clause-later : goal.returns-clause-later
returns-clause-later c = not_later
