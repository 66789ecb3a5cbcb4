use Rattle.std.proofs.Common.{rules, length, ◌∙◌, sym, arith}
use Rattle.link_tables.proofs.Stepping.{gives_by}
use Rattle.link_tables.proofs.Telling.{is_out, is_bare, number_few}
use Rattle.link_tables.proofs.tables.LinkTable.give.Goals as goal

pub store-requires : goal.store-requires
store-requires g c = let t = c.args.self.now in let k = t.table.shared.key in let r = c.requires.holds in (
  search rules,
  search rules,
  gives_by g.R.LinkRule.number_of g.R.LinkRule.empty (g.R.LinkRule.led k.about) k.many k.top (length (g.R.LinkRule.first k.about)) _ _ _ c.args.link _ _ _ r.1 r.0 r.2 r.3 r.4
      (let a = t.told.0 in let b = c.requires.link.0 in omega arith) c.word_place.ensures
      (λ e. c.requires.link.1 (is_out c.args.word (sym c.number-number.ensures ∙ e)))
      (let f = number_few c.args.word in let n = c.number-number.ensures in omega arith)
      (λ e. r.7 (is_bare c.args.word (sym c.number-number.ensures ∙ e))) r.5 r.6 r.8 r.9,
)
