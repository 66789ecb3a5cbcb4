-- What is found byte by byte is what is found line by line.
use Rattle.std.proofs.Common.{◌≡◌, ℕ, ◌==◌, Bool, true, false, nat_le, List, [], ◌∷◌, ◌++◌, length, take, fold, refl, sym, ◌∙◌, ap, cond, Result, Ok, Err}
use Rattle.std.proofs.lemmas.List.Sums.{fold-append}
use Rattle.gl_base.specs.declared.limits.TheConstants.{MAX_TEXT_BYTES}
use Rattle.gl_base.specs.Results.{and_then}
use Rattle.graph_text.specs.declared.lines.said.Row.{Row}
use Rattle.graph_text.specs.declared.lines.said.Row.TheVariants.{Nothing}
use Rattle.graph_text.specs.declared.lines.said.Said.{Said}
use Rattle.graph_text.specs.declared.lines.said.Said.TheVariants.{Passed}
use Rattle.graph_text.specs.lines.Lines.{lines_after, lines, ended_lines}
use Rattle.graph_text.specs.lines.Found.{run, Kept, Found, collect, collect_line, nothing_kept, whole, cut, found_upto, found_in}
use Rattle.graph_text.specs.lines.Inner.Steps.{line_more, nothing_begun, ReadText, line_end, byte_step, nothing_read, past, found_within, found_by_bytes}
use Rattle.graph_text.proofs.lines.RowTexts.{row_read}

module _ {X : Type 0} (most : ℕ) (says : Row → Said X) (passes : says Nothing ≡ Passed) where
  -- a line that has begun with these bytes
  abbrev begun_with : Kept X → List ℕ → ReadText X
  begun_with kept begun = record { kept = kept; begun = fold line_more nothing_begun begun }

  line_ends : (kept : Kept X) (l : List ℕ) → line_end most says (begun_with kept l) ≡ collect_line most says kept l
  line_ends kept l = ap (λ row. collect most kept (says row)) (row_read l)

  abbrev next : Kept X → Result (ReadText X) (Found X)
  next kept = Ok (record { kept = kept; begun = nothing_begun })

  then_same : (found : Result (Kept X) (Found X)) → and_then found (λ t. Ok t) ≡ found
  then_same (Ok s) = refl
  then_same (Err e) = refl

  abbrev ending : Result (ReadText X) (Found X) → Found X
  ending t = whole (and_then t (line_end most says))

  one_more : (kept : Kept X) (begun : List ℕ) (b : ℕ) → begun_with kept (begun ++ b ∷ []) ≡ record { kept = kept; begun = line_more (fold line_more nothing_begun begun) b }
  one_more kept begun b = ap (λ x. record { kept = kept; begun = x }) (fold-append line_more nothing_begun begun (b ∷ []))

  last_line : (kept : Kept X) (begun : List ℕ) → ending (Ok (begun_with kept begun)) ≡ whole (run (collect_line most says) kept (lines_after true begun []))
  last_line kept [] = ap whole (line_ends kept []) ∙ ap (λ said. whole (collect most kept said)) passes
  last_line kept (b ∷ begun) = ap whole (line_ends kept (b ∷ begun)) ∙ ap whole (sym (then_same (collect_line most says kept (b ∷ begun))))

  -- a text that ends so by bytes and so by lines, where a line that is begun counts at its end or doesn't
  module _ (last : Bool) (by_bytes : Result (ReadText X) (Found X) → Found X) (by_lines : Result (Kept X) (Found X) → Found X) (stops : (found : Found X) → by_bytes (Err found) ≡ by_lines (Err found))
      (ends : (kept : Kept X) (begun : List ℕ) → by_bytes (Ok (begun_with kept begun)) ≡ by_lines (run (collect_line most says) kept (lines_after last begun []))) where
    read_all : (kept : Kept X) (begun bytes : List ℕ)
        → by_bytes (run (byte_step most says) (begun_with kept begun) bytes) ≡ by_lines (run (collect_line most says) kept (lines_after last begun bytes))
    read_all kept begun [] = ends kept begun
    read_all kept begun (b ∷ bytes) =
        elim (b == 10)
        as (λ t. by_bytes (and_then (cond t (and_then (line_end most says (begun_with kept begun)) next)
        (Ok (record { kept = kept; begun = line_more (fold line_more nothing_begun begun) b }))) (λ u. run (byte_step most says) u bytes))
        ≡ by_lines (run (collect_line most says) kept (cond t (begun ∷ lines_after last [] bytes) (lines_after last (begun ++ b ∷ []) bytes)))) [
          | true ↦ ap (λ found. by_bytes (and_then (and_then found next) (λ u. run (byte_step most says) u bytes))) (line_ends kept begun)
              ∙ (elim (collect_line most says kept begun)
              as (λ found. by_bytes (and_then (and_then found next) (λ u. run (byte_step most says) u bytes)) ≡ by_lines (and_then found (λ k. run (collect_line most says) k (lines_after last [] bytes))))
              [ Ok k ↦ read_all k [] bytes | Err e ↦ stops e ])
          | false ↦ ap (λ u. by_bytes (run (byte_step most says) u bytes)) (sym (one_more kept begun b)) ∙ read_all kept (begun ++ b ∷ []) bytes
        ]

  upto : (limit : ℕ) (bytes : List ℕ) → found_within limit most says bytes ≡ found_upto limit most says bytes
  upto limit bytes =
      elim (nat_le (length bytes) limit)
      as (λ t. cond t (ending (run (byte_step most says) nothing_read bytes)) (past (run (byte_step most says) nothing_read (take limit bytes)))
      ≡ cond t (whole (run (collect_line most says) nothing_kept (lines bytes))) (cut (run (collect_line most says) nothing_kept (ended_lines (take limit bytes))))) [
        | true ↦ read_all true ending whole (λ found. refl) last_line nothing_kept [] bytes
        | false ↦ read_all false past cut (λ found. refl) (λ kept begun. refl) nothing_kept [] (take limit bytes)
      ]

  -- by bytes and by lines
  pub found_read : (bytes : List ℕ) → found_by_bytes most says bytes ≡ found_in most says bytes
  unfolding found_by_bytes found_in
  found_read bytes = upto MAX_TEXT_BYTES bytes
