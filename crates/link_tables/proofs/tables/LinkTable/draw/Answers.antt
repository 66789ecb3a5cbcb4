use Rattle.std.proofs.Common.{rules, length, ◌∙◌, sym, ap, arith}
use Rattle.link_tables.specs.Seats.{word_at}
use Rattle.link_tables.proofs.Stepping.{draws_by}
use Rattle.link_tables.proofs.tables.LinkTable.draw.Goals as goal

pub compare_exchange-requires : goal.compare_exchange-requires
compare_exchange-requires g c = let t = c.args.self.now in let k = t.table.shared.key in let r = c.requires.rests in (
  search rules,
  search rules,
  draws_by g.R.LinkRule.number_of g.R.LinkRule.empty (g.R.LinkRule.led k.about) k.many k.top (length (g.R.LinkRule.first k.about)) _ _ _ c.args.ticket _ _ r.1 r.0 r.2
      (c.word_place-word.ensures ∙ ap word_at (sym t.told.0)) (let a = t.told.1 in let b = c.requires.ticket in omega arith) r.3 r.4 r.5 r.6,
)
