-- The first fault of a text is the first that is found when its items are looked at after all lines are read.
use Rattle.std.proofs.Common.{◌≡◌, ℕ, ◌+◌, ◌<◌, Bool, true, false, nat_lt, nat_le, List, [], ◌∷◌, ◌++◌, length, take, get_or, refl, sym, ◌∙◌, ap, cond, arith, append_assoc, Option, None, Some, Result, Ok, Err, length-append}
use Rattle.std.proofs.lemmas.List.{append-nil}
use Rattle.std.proofs.Math.ListN.{get_or-append}
use Rattle.std.proofs.Math.Seq.{get_or-append_seam}
use Rattle.gl_base.specs.declared.limits.TheConstants.{MAX_TEXT_BYTES}
use Rattle.gl_base.specs.declared.text_faults.TextFault.{TextFault}
use Rattle.gl_base.specs.declared.text_faults.TextKind.{TextKind}
use Rattle.gl_base.specs.declared.text_faults.TextKind.TheVariants.{TooMany, TooLong}
use Rattle.graph_text.specs.declared.lines.said.Said.TheVariants.{Passed, Wrong, Late, Item}
use Rattle.graph_text.specs.declared.lines.said.Ending.{Ending}
use Rattle.graph_text.specs.declared.lines.said.Ending.TheVariants.{Fault, Late as LateAt, Full}
use Rattle.graph_text.specs.lines.Lines.{lines, ended_lines, fields}
use Rattle.graph_text.specs.lines.Rows.{row_of}
use Rattle.graph_text.specs.lines.Found.{run, Kept, Found, found_with, collect, collect_line, nothing_kept, whole, cut, found_upto, found_in}
use Rattle.gl_base.specs.Results.{and_then}
use Rattle.graph_text.specs.Firsts.{Rules, Judged, text_fault, or_kind, put, judge, judge_line, items_within, items_of}
use Rattle.graph_text.specs.Inner.Settled.{bad_or, first_bad, ended, settled_by, settled}

module _ {X : Type 0} (r : Rules X) where
  abbrev bad : List X → List X → Option (ℕ × TextKind)
  bad before xs = first_bad r.fault_after before xs

  -- the first, and else the second
  or_later : Option (ℕ × TextKind) → Option (ℕ × TextKind) → Option (ℕ × TextKind)
  or_later None later = later
  or_later (Some first) later = Some first

  first_bad-append : (before xs ys : List X) → bad before (xs ++ ys) ≡ or_later (bad before xs) (bad (before ++ xs) ys)
  unfolding or_later
  first_bad-append before [] ys = ap (λ zs. bad zs ys) (sym (append-nil before))
  first_bad-append before (x ∷ xs) ys =
      elim (r.fault_after before x)
      as (λ o. bad_or (length before) o (bad (before ++ x ∷ []) (xs ++ ys)) ≡ or_later (bad_or (length before) o (bad (before ++ x ∷ []) xs)) (bad (before ++ x ∷ xs) ys))
      [ None ↦ first_bad-append (before ++ x ∷ []) xs ys ∙ ap (λ zs. or_later (bad (before ++ x ∷ []) xs) (bad zs ys)) (append_assoc before (x ∷ []) xs) | Some kind ↦ refl ]

  -- one item more, behind items that are right, and behind others
  bad_pushed : (items : List X) (x : X) → bad [] items ≡ None → bad [] (items ++ x ∷ []) ≡ bad_or (length items) (r.fault_after items x) None
  unfolding or_later
  bad_pushed items x right = first_bad-append [] items (x ∷ []) ∙ ap (λ o. or_later o (bad items (x ∷ []))) right

  bad_stays : (items : List X) (x : X) (first : ℕ × TextKind) → bad [] items ≡ Some first → bad [] (items ++ x ∷ []) ≡ Some first
  unfolding or_later
  bad_stays items x first wrong = first_bad-append [] items (x ∷ []) ∙ ap (λ o. or_later o (bad items (x ∷ []))) wrong

  -- what is found once a line has ended the reading, and what the judge says
  record IsAt (s : Kept X) (place line : ℕ) (kind : TextKind) : Type 0 where
    wrong : bad [] s.items ≡ Some (place, kind)
    inside : place < length s.places
    there : get_or s.places place 0 ≡ line

  settles_by : (f : Found X) (place line : ℕ) (kind : TextKind) → bad [] f.items ≡ Some (place, kind) → get_or f.places place 0 ≡ line → settled r f ≡ Err (text_fault r line kind)
  settles_by f place line kind wrong there = ap (settled_by r f) wrong ∙ ap (λ n. Err (text_fault r n kind)) there

  abbrev passed_at : Kept X → Kept X
  passed_at s = record { line = s.line + 1; items = s.items; places = s.places }

  abbrev pushed_at : Kept X → X → Kept X
  pushed_at s x = record { line = s.line + 1; items = s.items ++ x ∷ []; places = s.places ++ s.line ∷ [] }

  abbrev judged_at : Kept X → Judged X
  judged_at s = record { line = s.line; items = s.items }

  -- two ends of a text, of what is found and of what is judged
  record AreEnds (end : Result (Kept X) (Found X) → Found X) (judged : Result (Judged X) TextFault → Result (List X) TextFault) : Type 0 where
    stops : (t : Found X) → end (Err t) ≡ t
    faults : (f : TextFault) → judged (Err f) ≡ Err f
    wrong : (s : Kept X) (place line : ℕ) (kind : TextKind) → IsAt s place line kind → settled r (end (Ok s)) ≡ Err (text_fault r line kind)
    right : (s : Kept X) → bad [] s.items ≡ None → judged (Ok (judged_at s)) ≡ settled r (end (Ok s))

  module _ (end : Result (Kept X) (Found X) → Found X) (judged : Result (Judged X) TextFault → Result (List X) TextFault) (ends : AreEnds end judged) where
    abbrev found_from : List (List ℕ) → Result (Kept X) (Found X) → Result (List X) TextFault
    found_from ls found = settled r (end (and_then found (λ t. run (collect_line r.most r.says) t ls)))

    abbrev judged_from : List (List ℕ) → Result (Judged X) TextFault → Result (List X) TextFault
    judged_from ls found = judged (and_then found (λ t. run (judge_line r) t ls))

    wrong_ends : (s : Kept X) (ending : Ending X) (place line : ℕ) (kind : TextKind) → IsAt s place line kind → settled r (end (Err (found_with s (Some ending)))) ≡ Err (text_fault r line kind)
    wrong_ends s ending place line kind at = ap (settled r) (ends.stops (found_with s (Some ending))) ∙ settles_by (found_with s (Some ending)) place line kind at.wrong at.there

    right_ends : (s : Kept X) (ending : Ending X) → bad [] s.items ≡ None → settled r (end (Err (found_with s (Some ending)))) ≡ ended r s.items (Some ending)
    right_ends s ending right = ap (settled r) (ends.stops (found_with s (Some ending))) ∙ ap (settled_by r (found_with s (Some ending))) right

    pushed_stays : (s : Kept X) (x : X) (place line : ℕ) (kind : TextKind) → IsAt s place line kind → IsAt (pushed_at s x) place line kind
    pushed_stays s x place line kind at = record {
      wrong = bad_stays s.items x (place, kind) at.wrong;
      inside = (let h = at.inside in omega (arith, length-append s.places (s.line ∷ [])));
      there = get_or-append s.places (s.line ∷ []) 0 place at.inside ∙ at.there;
    }

    -- an item that is wrong settles what is found, whatever comes behind it
    wrong_settles : (ls : List (List ℕ)) (s : Kept X) (place line : ℕ) (kind : TextKind) → IsAt s place line kind → settled r (end (run (collect_line r.most r.says) s ls)) ≡ Err (text_fault r line kind)
    wrong_settles [] s place line kind at = ends.wrong s place line kind at
    wrong_settles (l ∷ ls) s place line kind at =
        elim (r.says (row_of (fields l))) as (λ said. found_from ls (collect r.most s said) ≡ Err (text_fault r line kind)) [
          | Passed ↦ wrong_settles ls (passed_at s) place line kind (record { wrong = at.wrong; inside = at.inside; there = at.there })
          | Wrong other ↦ wrong_ends s (Fault s.line other) place line kind at
          | Late x other ↦ wrong_ends s (LateAt s.line x other) place line kind at
          | Item x ↦ (elim (nat_lt (length s.items) r.most)
              as (λ t. found_from ls (cond t (Ok (pushed_at s x)) (Err (found_with s (Some (Full s.line x))))) ≡ Err (text_fault r line kind)) [
                | true ↦ wrong_settles ls (pushed_at s x) place line kind (pushed_stays s x place line kind at)
                | false ↦ wrong_ends s (Full s.line x) place line kind at
              ])
        ]

    pushed_wrong : (s : Kept X) (x : X) (kind : TextKind) → bad [] s.items ≡ None → length s.places ≡ length s.items → r.fault_after s.items x ≡ Some kind
        → IsAt (pushed_at s x) (length s.items) s.line kind
    pushed_wrong s x kind right long wrong = record {
      wrong = bad_pushed s.items x right ∙ ap (λ o. bad_or (length s.items) o None) wrong;
      inside = omega (arith, length-append s.places (s.line ∷ []));
      there = ap (λ n. get_or (s.places ++ s.line ∷ []) n 0) (sym long) ∙ get_or-append_seam s.places s.line [] 0;
    }

    abbrev put_by : Bool → Kept X → X → Option TextKind → Result (Judged X) TextFault
    put_by room s x (Some kind) = Err (text_fault r s.line kind)
    put_by room s x None = cond room (Ok (judged_at (pushed_at s x))) (Err (text_fault r s.line TooMany))

    -- an item, where there is room and where there is none
    item_same : (ls : List (List ℕ)) (s : Kept X) (x : X) (o : Option TextKind) (room : Bool) → bad [] s.items ≡ None → length s.places ≡ length s.items → r.fault_after s.items x ≡ o
        → (bad [] (s.items ++ x ∷ []) ≡ None → judged (run (judge_line r) (judged_at (pushed_at s x)) ls) ≡ settled r (end (run (collect_line r.most r.says) (pushed_at s x) ls)))
        → judged_from ls (put_by room s x o) ≡ found_from ls (cond room (Ok (pushed_at s x)) (Err (found_with s (Some (Full s.line x)))))
    item_same ls s x None true right long is again = again (bad_pushed s.items x right ∙ ap (λ o. bad_or (length s.items) o None) is)
    item_same ls s x None false right long is again =
        ends.faults (text_fault r s.line TooMany) ∙ ap (λ o. Err (text_fault r s.line (or_kind o TooMany))) (sym is) ∙ sym (right_ends s (Full s.line x) right)
    item_same ls s x (Some kind) true right long is again =
        ends.faults (text_fault r s.line kind) ∙ sym (wrong_settles ls (pushed_at s x) (length s.items) s.line kind (pushed_wrong s x kind right long is))
    item_same ls s x (Some kind) false right long is again =
        ends.faults (text_fault r s.line kind) ∙ ap (λ o. Err (text_fault r s.line (or_kind o TooMany))) (sym is) ∙ sym (right_ends s (Full s.line x) right)

    put_same : (s : Kept X) (x : X) (o : Option TextKind) → put r (judged_at s) x o ≡ put_by (nat_lt (length s.items) r.most) s x o
    put_same s x None = refl
    put_same s x (Some kind) = refl

    lines_same : (ls : List (List ℕ)) (s : Kept X) → bad [] s.items ≡ None → length s.places ≡ length s.items
        → judged (run (judge_line r) (judged_at s) ls) ≡ settled r (end (run (collect_line r.most r.says) s ls))
    lines_same [] s right long = ends.right s right
    lines_same (l ∷ ls) s right long =
        elim (r.says (row_of (fields l))) as (λ said. judged_from ls (judge r (judged_at s) said) ≡ found_from ls (collect r.most s said)) [
          | Passed ↦ lines_same ls (passed_at s) right long
          | Wrong kind ↦ ends.faults (text_fault r s.line kind) ∙ sym (right_ends s (Fault s.line kind) right)
          | Late x kind ↦ ends.faults (text_fault r s.line (or_kind (r.fault_alone x) kind)) ∙ sym (right_ends s (LateAt s.line x kind) right)
          | Item x ↦ ap (judged_from ls) (put_same s x (r.fault_after s.items x))
              ∙ item_same ls s x (r.fault_after s.items x) (nat_lt (length s.items) r.most) right long refl
              (λ clean. lines_same ls (pushed_at s x) clean (omega (arith, length-append s.places (s.line ∷ []), length-append s.items (x ∷ []))))
        ]

  abbrev items_whole : Result (Judged X) TextFault → Result (List X) TextFault
  items_whole judged = and_then judged (λ s. Ok s.items)

  abbrev items_past : Result (Judged X) TextFault → Result (List X) TextFault
  items_past judged = and_then judged (λ s. Err (text_fault r s.line TooLong))

  whole_ends : AreEnds whole items_whole
  whole_ends = record {
    stops = λ t. refl;
    faults = λ f. refl;
    wrong = λ s place line kind at. settles_by (whole (Ok s)) place line kind at.wrong at.there;
    right = λ s right. ap (settled_by r (whole (Ok s))) (sym right);
  }

  past_ends : AreEnds cut items_past
  past_ends = record {
    stops = λ t. refl;
    faults = λ f. refl;
    wrong = λ s place line kind at. settles_by (cut (Ok s)) place line kind at.wrong at.there;
    right = λ s right. ap (settled_by r (cut (Ok s))) (sym right);
  }

  within_same : (limit : ℕ) (bytes : List ℕ) → items_within limit r bytes ≡ settled r (found_upto limit r.most r.says bytes)
  within_same limit bytes =
      elim (nat_le (length bytes) limit)
      as (λ t. cond t (items_whole (run (judge_line r) (judged_at nothing_kept) (lines bytes))) (items_past (run (judge_line r) (judged_at nothing_kept) (ended_lines (take limit bytes))))
      ≡ settled r (cond t (whole (run (collect_line r.most r.says) nothing_kept (lines bytes))) (cut (run (collect_line r.most r.says) nothing_kept (ended_lines (take limit bytes)))))) [
        | true ↦ lines_same whole items_whole whole_ends (lines bytes) nothing_kept refl refl
        | false ↦ lines_same cut items_past past_ends (ended_lines (take limit bytes)) nothing_kept refl refl
      ]

  -- the items, or the first fault
  pub items_settled : (bytes : List ℕ) → items_of r bytes ≡ settled r (found_in r.most r.says bytes)
  unfolding items_of found_in
  items_settled bytes = within_same MAX_TEXT_BYTES bytes
