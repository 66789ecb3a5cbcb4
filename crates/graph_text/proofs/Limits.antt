-- What is found in a text is within the limits.
use Rattle.std.proofs.Common.{◌≡◌, ℕ, ◌+◌, ◌<◌, Bool, true, false, nat_le, nat_lt, List, [], ◌∷◌, ◌++◌, length, take, refl, cond, arith, Option, None, Some, Result, Ok, Err, length-append}
use Rattle.std.proofs.lemmas.Bool.Decides.{nat_tests}
use Rattle.std.proofs.lemmas.List.Elements.{All-nil, All-push}
use Rattle.gl_base.specs.declared.limits.TheConstants.{MAX_TEXT_BYTES}
use Rattle.gl_base.specs.Results.{and_then}
use Rattle.graph_text.specs.declared.lines.said.Row.{Row}
use Rattle.graph_text.specs.declared.lines.said.Said.{Said}
use Rattle.graph_text.specs.declared.lines.said.Said.TheVariants.{Passed, Wrong, Late, Item}
use Rattle.graph_text.specs.declared.lines.said.Ending.{Ending}
use Rattle.graph_text.specs.declared.lines.said.Ending.TheVariants.{Full}
use Rattle.graph_text.specs.lines.Lines.{lines, ended_lines, fields}
use Rattle.graph_text.specs.lines.Rows.{row_of}
use Rattle.graph_text.specs.lines.Found.{run, Kept, Found, found_with, stop, collect, collect_line, nothing_kept, whole, cut, found_upto, found_in}
use Rattle.graph_text.specs.Inner.Settled.{AreInLimits}

-- the item that is said, if any, is such a one
abbrev pub SaidIs : {X : Type 0} → (X → Type 0) → Said X → Type 0
SaidIs is Passed = Unit {0}
SaidIs is (Wrong kind) = Unit {0}
SaidIs is (Late x kind) = Unit {0}
SaidIs is (Item x) = is x

module _ {X : Type 0} (is : X → Type 0) (most : ℕ) (says : Row → Said X) (said : (row : Row) → SaidIs is (says row)) where
  abbrev Within : Kept X → Type 0
  Within s = AreInLimits is most (found_with s None)

  abbrev Result-within : Result (Kept X) (Found X) → Type 0
  Result-within (Ok s) = Within s
  Result-within (Err found) = AreInLimits is most found

  ended_so : (s : Kept X) (ending : Option (Ending X)) → Within s → AreInLimits is most (found_with s ending)
  ended_so s ending h = record { all = h.all; few = h.few; long = h.long }

  below : (a b : ℕ) → nat_lt a b ≡ true → a < b
  below a b h = grind (arith, nat_tests)

  within_item : (s : Kept X) (x : X) (t : Bool) → nat_lt (length s.items) most ≡ t → is x → Within s
      → Result-within (cond t (Ok (record { line = s.line + 1; items = s.items ++ x ∷ []; places = s.places ++ s.line ∷ [] })) (stop s (Full s.line x)))
  within_item s x true room one h = record {
    all = All-push is s.items x h.all one;
    few = (let r : length s.items < most = below (length s.items) most room in omega (arith, length-append s.items (x ∷ [])));
    long = (let l = h.long in omega (arith, length-append s.items (x ∷ []), length-append s.places (s.line ∷ [])));
  }
  within_item s x false room one h = ended_so s (Some (Full s.line x)) h

  within_collect : (s : Kept X) (it : Said X) → SaidIs is it → Within s → Result-within (collect most s it)
  within_collect s Passed one h = record { all = h.all; few = h.few; long = h.long }
  within_collect s (Wrong kind) one h = ended_so s _ h
  within_collect s (Late x kind) one h = ended_so s _ h
  within_collect s (Item x) one h = within_item s x (nat_lt (length s.items) most) refl one h

  within_run : (ls : List (List ℕ)) (s : Kept X) → Within s → Result-within (run (collect_line most says) s ls)
  within_run [] s h = h
  within_run (l ∷ ls) s h = next (collect_line most says s l) (within_collect s (says (row_of (fields l))) (said (row_of (fields l))) h) (within_run ls)
    where
      next : (found : Result (Kept X) (Found X)) → Result-within found → ((s : Kept X) → Within s → Result-within (run (collect_line most says) s ls))
          → Result-within (and_then found (λ t. run (collect_line most says) t ls))
      next (Ok s) h again = again s h
      next (Err found) h again = h

  within_whole : (found : Result (Kept X) (Found X)) → Result-within found → AreInLimits is most (whole found)
  within_whole (Ok s) h = h
  within_whole (Err found) h = h

  within_cut : (found : Result (Kept X) (Found X)) → Result-within found → AreInLimits is most (cut found)
  within_cut (Ok s) h = ended_so s _ h
  within_cut (Err found) h = h

  within_upto : (limit : ℕ) (bytes : List ℕ) → AreInLimits is most (found_upto limit most says bytes)
  within_upto limit bytes =
      let none : Within nothing_kept = record { all = All-nil is; few = omega arith; long = refl } in
      elim (nat_le (length bytes) limit)
      as (λ t. AreInLimits is most (cond t (whole (run (collect_line most says) nothing_kept (lines bytes))) (cut (run (collect_line most says) nothing_kept (ended_lines (take limit bytes))))))
      [ true ↦ within_whole _ (within_run (lines bytes) nothing_kept none) | false ↦ within_cut _ (within_run (ended_lines (take limit bytes)) nothing_kept none) ]

  pub within_limits : (bytes : List ℕ) → AreInLimits is most (found_in most says bytes)
  unfolding found_in
  within_limits bytes = within_upto MAX_TEXT_BYTES bytes
