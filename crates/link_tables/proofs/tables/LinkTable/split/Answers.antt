use Rattle.std.proofs.Common.{rules, length, arith}
use Rattle.link_tables.proofs.Stepping.{splits}
use Rattle.link_tables.proofs.tables.LinkTable.split.Goals as goal

pub split_seat-requires : goal.split_seat-requires
split_seat-requires g c = let t = c.args.self.now in let k = t.table.shared.key in let r = c.requires.rests in (
  search rules,
  (let a = t.sized.0 in omega arith),
  splits g.R.LinkRule.number_of g.R.LinkRule.empty (g.R.LinkRule.led k.about) k.many k.top (length (g.R.LinkRule.first k.about)) _ _ r.0 r.1 r.2 r.3.parts,
)
