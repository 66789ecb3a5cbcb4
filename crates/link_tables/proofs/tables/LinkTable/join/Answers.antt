use Rattle.std.proofs.Common.{rules, length, arith}
use Rattle.link_tables.proofs.Stepping.{joins_all}
use Rattle.link_tables.proofs.tables.LinkTable.join.Goals as goal

pub join_seat-requires : goal.join_seat-requires
join_seat-requires g c = let t = c.args.self.now in let k = t.table.shared.key in (
  search rules,
  search rules,
  search rules,
  (let a = t.sized.0 in omega arith),
  joins_all g.R.LinkRule.number_of g.R.LinkRule.empty (g.R.LinkRule.led k.about) k.many k.top (length (g.R.LinkRule.first k.about)) _ _ _ _ c.requires.rests.0,
)
