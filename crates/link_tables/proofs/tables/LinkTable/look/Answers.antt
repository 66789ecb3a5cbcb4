use Rattle.std.proofs.Common.{rules, length, arith}
use Rattle.link_tables.proofs.Stepping.{looks_at_link}
use Rattle.link_tables.proofs.tables.LinkTable.look.Goals as goal

pub load-requires : goal.load-requires
load-requires g c = let t = c.args.self.now in let k = t.table.shared.key in (
  search rules,
  search rules,
  looks_at_link g.R.LinkRule.number_of g.R.LinkRule.empty (g.R.LinkRule.led k.about) k.many k.top (length (g.R.LinkRule.first k.about)) _ _ _ c.args.link _
      (let a = t.told.0 in let b = c.requires.link in omega arith) c.word_place.ensures,
)
