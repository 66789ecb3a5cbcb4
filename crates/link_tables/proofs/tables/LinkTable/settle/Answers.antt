use Rattle.std.proofs.Common.{rules, length}
use Rattle.link_tables.proofs.Stepping.{settles_by}
use Rattle.link_tables.proofs.tables.LinkTable.settle.Goals as goal

pub load-requires : goal.load-requires
load-requires g c = let k = c.args.self.now.table.shared.key in let r = c.requires.rests in (
  search rules,
  search rules,
  settles_by g.R.LinkRule.number_of g.R.LinkRule.empty (g.R.LinkRule.led k.about) k.many k.top (length (g.R.LinkRule.first k.about)) _ _ _ _ _ r.1 r.0 r.2 r.3 r.4 r.5 r.6,
)
