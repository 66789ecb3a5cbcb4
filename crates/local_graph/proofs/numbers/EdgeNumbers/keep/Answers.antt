use Rattle.std.proofs.Common.{sym, ◌∙◌, subst}
use Rattle.local_graph.specs.Inner.Blank.{AreBlank}
use Rattle.local_graph.proofs.BlankLemmas.{blank_zeros, kept_blank, kept_zeros}
use Rattle.local_graph.proofs.numbers.EdgeNumbers.keep.Goals as goal

pub returns-then-are_blank-clause-written : goal.returns-then-are_blank-clause-written
returns-then-are_blank-clause-written c =
    let n = c.self.inside in
    kept_blank c.args.self.now c.args.sides.now c.args.new.now
    (subst AreBlank (sym (kept_zeros n.blank n.count n.numbers.items c.if-self.true) ∙ c.self.view_is) (blank_zeros n.count)) (c.are_blank.ensures c.if-are_blank.true)
