use Rattle.std.proofs.Common.{◌≡◌, ℕ, ◌+◌, ◌++◌, [], ◌∷◌, List, length, ap, ◌∙◌, arith}
use Rattle.graph_core.specs.Rows.{rows_of}
use Rattle.graph_core.proofs.PushLemmas.{rows_of-push}
use Rattle.graph_core.proofs.rows.Rows.push.Goals as goal

pub returns-clause-pushed : goal.returns-clause-pushed
returns-clause-pushed g c =
    let s = c.self.inside in
    let row = c.args.row.now in
    let e : ℕ = c.saturating_add-end.result in
    let is : e ≡ length s.items.items + length row = omega (arith, c.saturating_add-end.ensures, c.len.ensures) in
    ap (λ (starts : List ℕ). rows_of starts c.extend_from_slice.new.self.items) (c.push_reserved.ensures.items ∙ ap (λ (starts : List ℕ). starts ++ e ∷ []) c.reserve.ensures.items)
    ∙ ap (rows_of (s.starts.items ++ e ∷ [])) c.in_ok-extend_from_slice.ensures.items
    ∙ rows_of-push s.starts.items s.items.items row e c.self.invariant is
    ∙ ap (λ rows. rows ++ row ∷ []) c.self.view_is
