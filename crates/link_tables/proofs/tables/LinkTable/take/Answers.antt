use Rattle.std.proofs.Common.{rules, length, ◌∙◌, sym, arith}
use Rattle.link_tables.proofs.Stepping.{takes_by}
use Rattle.link_tables.proofs.Telling.{is_out, took_told}
use Rattle.link_tables.proofs.tables.LinkTable.take.Goals as goal

pub compare_exchange-requires : goal.compare_exchange-requires
compare_exchange-requires g c = let t = c.args.self.now in let k = t.table.shared.key in let r = c.requires.rests in (
  search rules,
  search rules,
  takes_by g.R.LinkRule.number_of g.R.LinkRule.empty (g.R.LinkRule.led k.about) k.many k.top (length (g.R.LinkRule.first k.about)) g.R.LinkRule.learns _ _ _ c.args.link _ _ _ _ r.1 r.0 r.2
      (let a = t.told.0 in let b = c.requires.link.0 in omega arith) c.word_place.ensures
      (λ e. c.requires.link.1 (is_out c.args.expected (sym c.number-old.ensures ∙ e))) c.number-out.ensures r.3 r.4 r.5 r.6 r.7,
)

pub returns-clause-taken : goal.returns-clause-taken
returns-clause-taken g c = let r = c.requires.rests in λ same new part_is.
    took_told g.R.LinkRule.learns _ _ _ _ c.args.link _ _ _ _ c.word_place.ensures c.compare_exchange.ensures.2 c.of.result c.args.expected c.of.ensures (sym c.number-old.ensures) r.4.slots new part_is same
