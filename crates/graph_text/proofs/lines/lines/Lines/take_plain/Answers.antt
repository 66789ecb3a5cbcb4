use Rattle.std.proofs.Common.{ℕ, Option, Err, subst, sym, arith}
use Rattle.std.proofs.lemmas.Result.{err_from_is_err_and}
use Rattle.graph_text.specs.lines.Inner.Texts.{kept_at, IsBetween, LeadsTo}
use Rattle.graph_text.specs.declared.lines.said.Said.{Said}
use Rattle.graph_text.specs.lines.Found.{collect}
use Rattle.graph_text.proofs.lines.PlainTexts.{plain_kept, plain_ends}
use Rattle.graph_text.proofs.lines.lines.Lines.take_plain.Goals as goal

pub returns-in_err-keep-clause-takes : goal.returns-in_err-keep-clause-takes
returns-in_err-keep-clause-takes g c =
    let error = err_from_is_err_and c.from_residual.result c.from_residual.ensures.1 in
    rw (error.1, error.2) (plain_ends g.X.LineItem.MOST (g.X.LineItem.says c.args.weighted) c.args.self.now c.keep.new.self c.args.number c.args.bytes.now c.in-Some.line
    c.in-Begin-None-None.is-0 c.in-Begin-None-None.is-2 c.in_err-keep.ensures.begun c.in-Some.ensures _
    (subst (λ (said : Said g.row.X.Denot). LeadsTo (collect g.X.LineItem.MOST (kept_at c.args.self.now) said) (kept_at c.keep.new.self) (Err c.in_err-keep.field-0.0)) c.said.ensures c.in_err-keep.ensures.kept))

pub returns-clause-takes : goal.returns-clause-takes
returns-clause-takes g c = (
  (let so = c.in-Some.ensures in let w = so.within in let l = so.long in omega arith),
  plain_kept g.X.LineItem.MOST (g.X.LineItem.says c.args.weighted) c.args.self.now c.keep.new.self c.args.number c.args.bytes.now c.in-Some.line
      c.in-Begin-None-None.is-0 c.in-Begin-None-None.is-2 c.in_ok-keep.ensures.begun c.in-Some.ensures (rw c.said.ensures at c.in_ok-keep.ensures.kept),
  λ before. subst (λ (n : Option ℕ). IsBetween c.keep.new.self n) (sym c.in-Begin-None-None.is-1) tt,
)
