use Rattle.std.proofs.Common.{rules, length}
use Rattle.link_tables.proofs.Stepping.{looks_once}
use Rattle.link_tables.proofs.tables.LinkTable.next_ticket.Goals as goal

pub load-requires : goal.load-requires
load-requires g c = let k = c.args.self.now.table.shared.key in (
  search rules,
  search rules,
  looks_once g.R.LinkRule.number_of g.R.LinkRule.empty (g.R.LinkRule.led k.about) k.many k.top (length (g.R.LinkRule.first k.about)) _ _ _ _,
)
