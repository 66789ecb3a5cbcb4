-- The tests join one after another.
use Rattle.std.proofs.Common.{◌≡◌, ◌||◌, ◌∙◌, Bool, List, ℕ, inl, inr, is_some, sym}
use Rattle.gl_base.specs.declared.usage_faults.Opt.{Opt}
use Rattle.gl_base.specs.declared.usage_faults.Opt.TheVariants.{Number, Vertices, Edges, Weight}
use Rattle.job_io.specs.job_words.WordForms.{option_at}
use Rattle.job_io.proofs.job_words.Spelling.{four_or, is_option, joined_or}
use Rattle.job_io.proofs.job_words.forms.is_any_option.Goals as goal
use Rattle.job_io.proofs.job_words.forms.is_any_option.Goals.{then-is_option, else-is_option, then-is_option-2, else-is_option-2}

abbrev is_at : Opt → List ℕ → Bool
is_at o word = is_some (option_at o word)

pub returns-then-is_option-3 : goal.returns-then-is_option-3
returns-then-is_option-3 c =
    let word = c.args.word.now in
    let first : c.if-is_option.value ≡ (is_at Number word || is_at Vertices word) = elim c.if-is_option.branch [
      | then-is_option w ↦ joined_or (is_at Number word) (is_at Vertices word) c.if-is_option.value (inl (sym (c.is_option.ensures Number) ∙ w.if-is_option.true, w.value-is ∙ w.if-is_option.true))
      | else-is_option w ↦ joined_or (is_at Number word) (is_at Vertices word) c.if-is_option.value (inr (sym (c.is_option.ensures Number) ∙ w.if-is_option.false, w.value-is ∙ w.is_option-else-is_option.ensures Vertices))
    ] in
    let second : c.if-is_option-2.value ≡ (is_at Number word || is_at Vertices word || is_at Edges word) = elim c.if-is_option-2.branch [
      | then-is_option-2 w ↦ joined_or (is_at Number word || is_at Vertices word) (is_at Edges word) c.if-is_option-2.value (inl (sym first ∙ w.if-is_option-2.true, w.value-is ∙ w.if-is_option-2.true))
      | else-is_option-2 w ↦ joined_or (is_at Number word || is_at Vertices word) (is_at Edges word) c.if-is_option-2.value (inr (sym first ∙ w.if-is_option-2.false, w.value-is ∙ w.is_option-else-is_option-2.ensures Edges))
    ] in
    joined_or (is_at Number word || is_at Vertices word || is_at Edges word) (is_at Weight word) c.if-is_option-2.value (inl (sym second ∙ c.if-is_option-3.true, c.if-is_option-3.true))
    ∙ four_or (is_at Number word) _ _ _ ∙ sym (is_option word)

pub returns-else-is_option-3 : goal.returns-else-is_option-3
returns-else-is_option-3 c =
    let word = c.args.word.now in
    let first : c.if-is_option.value ≡ (is_at Number word || is_at Vertices word) = elim c.if-is_option.branch [
      | then-is_option w ↦ joined_or (is_at Number word) (is_at Vertices word) c.if-is_option.value (inl (sym (c.is_option.ensures Number) ∙ w.if-is_option.true, w.value-is ∙ w.if-is_option.true))
      | else-is_option w ↦ joined_or (is_at Number word) (is_at Vertices word) c.if-is_option.value (inr (sym (c.is_option.ensures Number) ∙ w.if-is_option.false, w.value-is ∙ w.is_option-else-is_option.ensures Vertices))
    ] in
    let second : c.if-is_option-2.value ≡ (is_at Number word || is_at Vertices word || is_at Edges word) = elim c.if-is_option-2.branch [
      | then-is_option-2 w ↦ joined_or (is_at Number word || is_at Vertices word) (is_at Edges word) c.if-is_option-2.value (inl (sym first ∙ w.if-is_option-2.true, w.value-is ∙ w.if-is_option-2.true))
      | else-is_option-2 w ↦ joined_or (is_at Number word || is_at Vertices word) (is_at Edges word) c.if-is_option-2.value (inr (sym first ∙ w.if-is_option-2.false, w.value-is ∙ w.is_option-else-is_option-2.ensures Edges))
    ] in
    joined_or (is_at Number word || is_at Vertices word || is_at Edges word) (is_at Weight word) c.is_option-else-is_option-3.result (inr (sym second ∙ c.if-is_option-3.false, c.is_option-else-is_option-3.ensures Weight))
    ∙ four_or (is_at Number word) _ _ _ ∙ sym (is_option word)
