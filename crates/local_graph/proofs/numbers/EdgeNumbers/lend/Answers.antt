use Rattle.std.proofs.Common.{sym, ◌∙◌, subst}
use Rattle.local_graph.specs.Inner.Blank.{AreBlank}
use Rattle.local_graph.proofs.BlankLemmas.{along_blank, blank_zeros, kept_zeros}
use Rattle.local_graph.proofs.numbers.EdgeNumbers.lend.Goals as goal

pub returns-then-self : goal.returns-then-self
returns-then-self c =
    let n = c.self.inside in
    c.fill_blank.ensures ∙ along_blank c.args.self.now c.args.sides.now (subst AreBlank (sym (kept_zeros n.blank n.count n.numbers.items c.if-self.true) ∙ c.self.view_is) (blank_zeros n.count))
