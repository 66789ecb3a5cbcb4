-- A text, read piece by piece.
use Rattle.std.proofs.Common.{◌≡◌, ℕ, ◌+◌, ◌-◌, ◌≤◌, true, nat_le, List, [], ◌++◌, length, take, sym, ◌∙◌, ap, subst, arith, Option, None, Some, Result, Ok, Err, cond, length-append, length-take}
use Rattle.std.proofs.lemmas.List.{append-nil}
use Rattle.std.proofs.lemmas.Bool.Decides.{nat_tests}
use Rattle.std.proofs.KnownBytes.{Consumes-trans}
use Rattle.std.specs.Prelude.{IfSome}
use Rattle.std.specs.Io.KnownBytes.{Consumes, IsAtEnd}
use Rattle.gl_base.specs.declared.limits.TheConstants.{MAX_TEXT_BYTES}
use Rattle.graph_text.specs.declared.lines.lines.Lines.{Lines}
use Rattle.graph_text.specs.declared.lines.said.Row.{Row}
use Rattle.graph_text.specs.declared.lines.said.Said.{Said}
use Rattle.graph_text.specs.declared.lines.said.Halt.{Halt}
use Rattle.graph_text.specs.declared.lines.said.Halt.TheVariants.{Stopped, ReadFault, NoMemory}
use Rattle.gl_base.specs.Results.{and_then}
use Rattle.graph_text.specs.lines.Found.{run, Kept, Found, whole, FindsIn}
use Rattle.graph_text.specs.lines.Inner.Steps.{ReadText, byte_step, line_end, nothing_read, past, found_within, found_by_bytes}
use Rattle.graph_text.specs.lines.Inner.Texts.{kept_at, read_text, LeadsTo, TakesPiece, ReadsBytes}
use Rattle.graph_text.specs.declared.lines.said.Said.TheVariants.{Passed}
use Rattle.graph_text.specs.declared.lines.said.Row.TheVariants.{Nothing}
use Rattle.graph_text.proofs.lines.Runs.{run_joined}
use Rattle.graph_text.proofs.lines.TextRuns.{found_read}

-- some of the first bytes were taken, at least one a turn, and they lead here
pub record SoFar (first left : Option (List ℕ)) (turns : ℕ) (leads : List ℕ → Type 0) : Type 0 where
  pub taken : List ℕ
  pub told : Consumes first left taken
  pub leads_here : leads taken
  pub long : turns ≤ length taken

-- these bytes lead here, with so much room behind them
pub record Leads {X : Type 0} (most : ℕ) (says : Row → Said X) (room : ℕ) (here : ReadText X) (taken : List ℕ) : Type 0 where
  pub ran : run (byte_step most says) nothing_read taken ≡ Ok here
  pub space : length taken + room ≡ MAX_TEXT_BYTES

-- a text of these bytes alone
ends_within : {X : Type 0} (limit most : ℕ) (says : Row → Said X) (bytes : List ℕ) (t : ReadText X) (found : Result (Kept X) (Found X)) → length bytes ≤ limit
    → run (byte_step most says) nothing_read bytes ≡ Ok t → line_end most says t ≡ found → found_within limit most says bytes ≡ whole found
ends_within limit most says bytes t found short ran ends =
    let within : nat_le (length bytes) limit ≡ true = grind (arith, nat_tests) in
    ap (λ b. cond b (whole (and_then (run (byte_step most says) nothing_read bytes) (line_end most says))) (past (run (byte_step most says) nothing_read (take limit bytes)))) within
    ∙ ap (λ r. whole (and_then r (line_end most says))) ran ∙ ap whole ends

-- a source at its end has told all
told_all : (first left : Option (List ℕ)) (taken : List ℕ) → Consumes first left taken → IsAtEnd left → IfSome first (λ told. told ≡ taken)
told_all None left taken h end = tt
told_all (Some text) None taken h end = absurd h
told_all (Some text) (Some rest) taken h end = h ∙ ap (λ xs. taken ++ xs) end ∙ append-nil taken

-- a read that took nothing
pub nothing_more : (first mid left : Option (List ℕ)) (taken buf : List ℕ) (n : ℕ) → n ≡ 0 → Consumes first mid taken → Consumes mid left (take n buf) → Consumes first left taken
nothing_more first mid left taken buf n none told more =
    let e : taken ++ take n buf ≡ taken = ap (λ k. taken ++ take k buf) none ∙ append-nil taken in
    subst (Consumes first left) e (Consumes-trans first mid left taken (take n buf) told more)

-- the end of the source
pub source_ends : {X : Type 0} (most : ℕ) (says : Row → Said X) (room : ℕ) (here : ReadText X) (new : Lines X) (result : Result (Unit {0}) (Halt X))
    (first left : Option (List ℕ)) (taken : List ℕ) (before now : ℕ) → says Nothing ≡ Passed → Leads most says room here taken → Consumes first left taken → IsAtEnd left
    → LeadsTo (line_end most says here) (kept_at new) result → ReadsBytes most says (kept_at new) result first before now
unfolding found_by_bytes
source_ends {X} most says room here new result first left taken before now passes leads told end gives = answered result gives
  where
    finds : (found : Result (Kept X) (Found X)) → line_end most says here ≡ found → FindsIn most says (whole found) first
    finds found ends =
        (taken, sym (found_read most says passes taken) ∙ ends_within MAX_TEXT_BYTES most says taken here found (let e = leads.space in omega arith) leads.ran ends, told_all first left taken told end)

    answered : (result : Result (Unit {0}) (Halt X)) → LeadsTo (line_end most says here) (kept_at new) result → ReadsBytes most says (kept_at new) result first before now
    answered (Ok done) gives = finds _ gives
    answered (Err (Stopped ending)) gives = finds _ gives
    answered (Err ReadFault) gives = absurd gives
    answered (Err NoMemory) gives = tt

-- how much was taken into a buffer
pub length_taken : (buf : List ℕ) (n : ℕ) → n ≤ length buf → length (take n buf) ≡ n
length_taken buf n h = rw length-take (omega arith)

-- one piece more
pub leads_more : {X : Type 0} (most : ℕ) (says : Row → Said X) (room : ℕ) (here : ReadText X) (new : Lines X) (number : Option ℕ) (taken piece : List ℕ)
    (count : ℕ) → Leads most says room here taken → length piece ≡ count → TakesPiece most says here piece room new (Ok number)
    → Leads most says (room - count) (read_text new number) (taken ++ piece)
leads_more most says room here new number taken piece count leads long takes = record {
  ran = run_joined (byte_step most says) nothing_read here _ taken piece leads.ran takes.1;
  space = (let e = leads.space in let fits = takes.0 in omega (arith, length-append taken piece));
}

told_rest : (first left : Option (List ℕ)) (taken : List ℕ) → Consumes first left taken → (rest : List ℕ) × IfSome first (λ told. told ≡ taken ++ rest)
told_rest None left taken h = ([], tt)
told_rest (Some text) None taken h = absurd h
told_rest (Some text) (Some rest) taken h = (rest, h)

-- a piece that ends the reading
pub piece_settles : {X : Type 0} (most : ℕ) (says : Row → Said X) (room : ℕ) (here : ReadText X) (new : Lines X) (error : Halt X)
    (first left : Option (List ℕ)) (taken piece : List ℕ) (before now : ℕ) → says Nothing ≡ Passed → Leads most says room here taken → Consumes first left (taken ++ piece)
    → TakesPiece most says here piece room new (Err error) → ReadsBytes most says (kept_at new) (Err error) first before now
piece_settles most says room here new (Stopped ending) first left taken piece before now passes leads told takes =
    let rest = told_rest first left (taken ++ piece) told in
    ((taken ++ piece) ++ rest.0, sym (found_read most says passes ((taken ++ piece) ++ rest.0)) ∙ takes taken rest.0 leads.ran leads.space, rest.1)
piece_settles most says room here new ReadFault first left taken piece before now passes leads told takes = absurd takes
piece_settles most says room here new NoMemory first left taken piece before now passes leads told takes = tt
