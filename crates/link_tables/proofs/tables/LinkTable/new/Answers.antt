use Rattle.std.proofs.Common.{ℕ, ◌+◌, ◌++◌, ◌∷◌, [], List, length, get_or, refl, sym, ap, ◌∙◌, subst, arith}
use Rattle.link_tables.specs.Seats.{word_at}
use Rattle.link_tables.proofs.Ending.{opens}
use Rattle.link_tables.proofs.tables.LinkTable.new.Goals as goal

pub new-made-requires : goal.new-made-requires
new-made-requires g c =
    let about = c.args.about in
    let r = c.requires.led in
    let w = c.in_ok-words.ensures in
    let e = c.as_slice-row.ensures.value in
    let s = c.in_ok-slots.ensures in
    opens g.R.LinkRule.number_of g.R.LinkRule.empty (g.R.LinkRule.led about) c.len-many.result (c.args.next + c.args.left) (length (g.R.LinkRule.first about)) c.args.next c.args.left c.as_slice-row.result.now
    c.in_ok-slots.slots.items (g.R.LinkRule.first about) r.0 r.1
    (ap length e ∙ w.long)
    (λ i h. ap (λ (ws : List ℕ). get_or ws (word_at i) 0) e ∙ w.links i h)
    (ap (λ (ws : List ℕ). get_or ws (word_at c.len-many.result) 0) e ∙ w.others.0)
    (ap (λ (ws : List ℕ). get_or ws (word_at (c.len-many.result + 1)) 0) e ∙ w.others.1)
    (let a = ap length s in let n = c.len-many.ensures in let d = c.args.links.ok.0 in omega arith)
    refl
    refl
    r.2
    r.3
    (subst (λ (l : List g.row.Q.Denot). g.R.LinkRule.led about (r.0 ++ r.1 ∷ []) l c.args.next c.args.left) (sym s) r.4)
