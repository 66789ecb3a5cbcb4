-- Pieces of a text: one that ends the reading, and one that passes the limit.
use Rattle.std.proofs.Common.{◌≡◌, ℕ, ◌+◌, ◌-◌, ◌<◌, ◌≤◌, min, true, false, nat_le, List, ◌++◌, length, take, drop, sym, ◌∙◌, ap, arith, append_assoc, Option, Ok, Err, cond, length-append, length-take, length-drop}
use Rattle.std.proofs.lemmas.List.{take-append-drop}
use Rattle.std.proofs.Math.Seq.{take-append-add, take-append_seam}
use Rattle.std.proofs.lemmas.Bool.Decides.{nat_tests}
use Rattle.gl_base.specs.declared.limits.TheConstants.{MAX_TEXT_BYTES}
use Rattle.gl_base.specs.declared.text_faults.TextKind.TheVariants.{TooLong}
use Rattle.graph_text.specs.declared.lines.lines.Lines.{Lines}
use Rattle.graph_text.specs.declared.lines.said.Row.{Row}
use Rattle.graph_text.specs.declared.lines.said.Said.{Said}
use Rattle.graph_text.specs.declared.lines.said.Ending.TheVariants.{Fault}
use Rattle.graph_text.specs.declared.lines.said.Halt.{Halt}
use Rattle.graph_text.specs.declared.lines.said.Halt.TheVariants.{Stopped, ReadFault, NoMemory}
use Rattle.gl_base.specs.Results.{and_then}
use Rattle.graph_text.specs.lines.Found.{run, Found, whole}
use Rattle.graph_text.specs.lines.Inner.Steps.{ReadText, byte_step, line_end, nothing_read, past, found_within, found_by_bytes}
use Rattle.graph_text.specs.lines.Inner.Texts.{read_text, LeadsToText, TakesPiece}
use Rattle.graph_text.proofs.lines.Runs.{run_joined, run_stays}

take_past : (xs ys : List ℕ) (limit : ℕ) → length xs ≤ limit → take limit (xs ++ ys) ≡ xs ++ take (limit - length xs) ys
take_past xs ys limit short =
    let e : limit ≡ length xs + (limit - length xs) = omega arith in
    ap (λ n. take n (xs ++ ys)) e ∙ take-append-add xs ys (limit - length xs)

stops_within : {X : Type 0} (limit most : ℕ) (says : Row → Said X) (xs ys : List ℕ) (s : Found X) → length xs ≤ limit
    → run (byte_step most says) nothing_read xs ≡ Err s → found_within limit most says (xs ++ ys) ≡ s
stops_within limit most says xs ys s short ends =
    elim (nat_le (length (xs ++ ys)) limit)
    as (λ t. (cond t (whole (and_then (run (byte_step most says) nothing_read (xs ++ ys)) (line_end most says)))
    (past (run (byte_step most says) nothing_read (take limit (xs ++ ys))))) ≡ s) [
      | true ↦ ap (λ r. whole (and_then r (line_end most says))) (run_stays (byte_step most says) nothing_read s xs ys ends)
      | false ↦ ap (λ bytes. past (run (byte_step most says) nothing_read bytes)) (take_past xs ys limit short)
          ∙ ap past (run_stays (byte_step most says) nothing_read s xs (take (limit - length xs) ys) ends)
    ]

passes : {X : Type 0} (limit most : ℕ) (says : Row → Said X) (xs ys : List ℕ) (t : ReadText X) → length xs ≡ limit → 0 < length ys
    → run (byte_step most says) nothing_read xs ≡ Ok t → found_within limit most says (xs ++ ys) ≡ past (Ok t)
passes limit most says xs ys t full more ran =
    let longer : nat_le (length (xs ++ ys)) limit ≡ false = rw length-append (grind (arith, nat_tests)) in
    let front : take limit (xs ++ ys) ≡ xs = ap (λ n. take n (xs ++ ys)) (sym full) ∙ take-append_seam xs ys in
    ap (λ b. cond b (whole (and_then (run (byte_step most says) nothing_read (xs ++ ys)) (line_end most says))) (past (run (byte_step most says) nothing_read (take limit (xs ++ ys))))) longer
    ∙ ap (λ bytes. past (run (byte_step most says) nothing_read bytes)) front ∙ ap past ran

split_piece : (taken piece rest : List ℕ) (n : ℕ) → (taken ++ piece) ++ rest ≡ (taken ++ take n piece) ++ (drop n piece ++ rest)
split_piece taken piece rest n =
    ap (λ p. (taken ++ p) ++ rest) (sym (take-append-drop n piece)) ∙ simp append_assoc

-- a piece that ends the reading
pub piece_ends : {X : Type 0} (most : ℕ) (says : Row → Said X) (old : ReadText X) (piece : List ℕ) (room within : ℕ) (new : Lines X) (error : Halt X)
    → within ≡ min (length piece) room → LeadsToText (run (byte_step most says) old (take within piece)) new (Err error) → TakesPiece most says old piece room new (Err error)
unfolding found_by_bytes
piece_ends most says old piece room within new (Stopped ending) least gives = λ taken rest ran space.
    let short : length (taken ++ take within piece) ≤ MAX_TEXT_BYTES = rw (length-append, length-take) (omega arith) in
    ap (found_within MAX_TEXT_BYTES most says) (split_piece taken piece rest within)
    ∙ stops_within MAX_TEXT_BYTES most says (taken ++ take within piece) (drop within piece ++ rest) _ short (run_joined (byte_step most says) nothing_read old _ taken (take within piece) ran gives)
piece_ends most says old piece room within new ReadFault least gives = gives
piece_ends most says old piece room within new NoMemory least gives = tt

-- a piece that passes the limit
pub piece_passes : {X : Type 0} (most : ℕ) (says : Row → Said X) (old : ReadText X) (piece : List ℕ) (room within : ℕ) (new : Lines X) (number : Option ℕ)
    → within ≡ min (length piece) room → within < length piece → LeadsToText (run (byte_step most says) old (take within piece)) new (Ok number)
    → TakesPiece most says old piece room new (Err (Stopped (Fault new.line TooLong)))
unfolding found_by_bytes
piece_passes most says old piece room within new number least more gives = λ taken rest ran space.
    let full : length (taken ++ take within piece) ≡ MAX_TEXT_BYTES = rw (length-append, length-take) (omega arith) in
    let behind : 0 < length (drop within piece ++ rest) = rw (length-append, length-drop) (omega arith) in
    ap (found_within MAX_TEXT_BYTES most says) (split_piece taken piece rest within)
    ∙ passes MAX_TEXT_BYTES most says (taken ++ take within piece) (drop within piece ++ rest) (read_text new number) full behind
    (run_joined (byte_step most says) nothing_read old _ taken (take within piece) ran gives)
