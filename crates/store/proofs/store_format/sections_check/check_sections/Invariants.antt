use Rattle.store.proofs.store_format.KeyLemmas.{SectionsSoFar}
use Rattle.store.proofs.store_format.sections_check.check_sections.Given as goal

abbrev pub invariant-loop-i : goal.invariant-loop-i
invariant-loop-i l = SectionsSoFar l.header l.vertices.marks.items l.vertices.left l.edges.marks.items l.edges.left l.body l.fn.start l.i l.at
