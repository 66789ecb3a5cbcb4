use Rattle.std.proofs.Common.{rules, ◌∙◌, ◌+◌, ℕ, ap, sym, length, refl}
use Rattle.link_tables.specs.Seats.{word_at}
use Rattle.link_tables.proofs.Stepping.{looks_at_halt}
use Rattle.link_tables.proofs.tables.LinkTable.is_halted.Goals as goal

pub load-requires : goal.load-requires
load-requires g c = let t = c.args.self.now in let k = t.table.shared.key in (
  search rules,
  search rules,
  looks_at_halt g.R.LinkRule.number_of g.R.LinkRule.empty (g.R.LinkRule.led k.about) k.many k.top (length (g.R.LinkRule.first k.about)) g.R.LinkRule.led k.about refl _ _ _ _
      (c.word_place-word.ensures ∙ ap (λ (n : ℕ). word_at (n + 1)) (sym t.told.0)),
)
