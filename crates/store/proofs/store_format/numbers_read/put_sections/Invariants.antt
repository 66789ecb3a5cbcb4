use Rattle.store.specs.store_format.Bodies.{sections_place}
use Rattle.store.proofs.store_format.NumberLemmas.{NumbersSoFar}
use Rattle.store.proofs.store_format.numbers_read.put_sections.Given as goal

abbrev pub invariant-sections : goal.invariant-sections
invariant-sections l = NumbersSoFar l.header l.body l.initial.vertices l.initial.edges l.vertices l.edges (sections_place l.body) l._done l.at
