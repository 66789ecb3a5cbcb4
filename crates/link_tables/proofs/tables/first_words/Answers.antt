use Rattle.std.proofs.Common.{◌≡◌, ℕ, ◌+◌, ◌∙◌, ap, get_or, replicate, List}
use Rattle.link_tables.specs.Seats.{word_at}
use Rattle.link_tables.proofs.Laying.{get_or-zeros}
use Rattle.link_tables.proofs.tables.first_words.Goals as goal

pub lay_words-requires-clause-down : goal.lay_words-requires-clause-down
lay_words-requires-clause-down c =
    let zeros : c.in_ok-words.words.items ≡ replicate c.word_place-count.result 0 = c.in_ok-words.ensures.items_if_clones_equal (λ y clone. clone) in
    ap (λ (ws : List ℕ). get_or ws (word_at (c.args.many + 1)) 0) (c.as_mut_slice.ensures.value ∙ zeros) ∙ get_or-zeros c.word_place-count.result (word_at (c.args.many + 1))
