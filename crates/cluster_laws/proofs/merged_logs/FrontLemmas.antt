-- The first entries of logs, and what of the logs is merged.
use Rattle.std.proofs.Common.{◌≡◌, ◌<◌, ◌≤◌, ℕ, ◌+◌, ◌-◌, ◌∷◌, ◌++◌, ◌∙◌, Bool, true, false, Option, List, [], length, drop, take, get_or, cond, count_by, sum_by, All, Bor, map, ap, sym, subst, inl, inr, zero-add, add-one, arith}
use Rattle.std.specs.Prelude.{slice_get, suc}
use Rattle.std.specs.BinaryHeap.{IsHeap, IsUpperBound}
use Rattle.std.specs.Ordering.{is_lt}
use Rattle.std.specs.List.Sorted.{IsPermutation}
use Rattle.std.proofs.Math.ListN.{drop_of_length-le, get_or-map as get_or_of_map}
use Rattle.std.proofs.Math.Seq.{drop-cons}
use Rattle.std.proofs.lemmas.Bool.{cases_lt, lt-ltb}
use Rattle.std.proofs.lemmas.List.{get_or_default, take_more}
use Rattle.std.proofs.lemmas.List.Elements.{All-cons, All-tail, All-head, All-push, All-weaker, All-from_recursion}
use Rattle.std.proofs.lemmas.List.Sorted.{All-permutation, IsNonDecreasingBy-push, sum_by-IsPermutation, sum_by_popped}
use Rattle.std.proofs.lemmas.List.Sums.{sum_by-append, sum_by-cons, sum_by_push}
use Rattle.std.proofs.lemmas.Grind.{flat_map-append}
use Rattle.std.proofs.lemmas.Option.{slice_get-get_or, slice_get_past}
use Rattle.gl_base.specs.declared.entries.Entry.{Entry}
use Rattle.gl_base.specs.declared.entries.Entry.TheVariants.{Restart}
use Rattle.cluster_laws.specs.declared.merged_logs.fronts.Front.{Front}
use Rattle.cluster_laws.specs.merged_logs.Merges.{IsByTicket, all_logged, ticket_of}
use Rattle.cluster_laws.specs.merged_logs.Inner.Fronts.{AreLeft, IsFrontOf, front_cmp, front_of, unmerged_of}

abbrev pub no_entry : Entry
no_entry = Restart 0

-- how many of what is left pass a test
abbrev pub left_in : List (List Entry) → (Entry → Bool) → List Front → ℕ
left_in logs p fronts = sum_by (λ front. count_by p (unmerged_of logs front)) fronts

-- the front of a log at a place
abbrev pub front_at : List Entry → ℕ → ℕ → Front
front_at entries log place = record { ticket = record { 0 = ticket_of (get_or entries place no_entry) }; log = log; place = place }

-- ---- a front is added

-- what holds of the old fronts, and of the new one where there is one, holds of all
pub all_added : (P : Front → Type 0) (entries : List Entry) (log place : ℕ) (old new : List Front) →
    IsPermutation (front_of log place (slice_get entries place) ++ old) new → (place < length entries → P (front_at entries log place)) → All P old → All P new
all_added P entries log place old new perm one all =
    elim (cases_lt place (length entries)) [
      | inl low ↦
          All-permutation P (front_at entries log place ∷ old) new
          (subst (λ (o : Option Entry). IsPermutation (front_of log place o ++ old) new) (slice_get-get_or entries place no_entry low) perm)
          (All-cons P (front_at entries log place) old (one low) all)
      | inr past ↦ All-permutation P old new (subst (λ (o : Option Entry). IsPermutation (front_of log place o ++ old) new) (slice_get_past entries place past) perm) all
    ]

pub front_is : (logs : List (List Entry)) (log place : ℕ) → log < length logs → place < length (get_or logs log []) → IsFrontOf logs (front_at (get_or logs log []) log place)
front_is logs log place low inside =
    record {
      log = low;
      place = inside;
      ticket = λ d. ap ticket_of (get_or_default (get_or logs log []) place no_entry d inside);
    }

left_at_front : (logs : List (List Entry)) (p : Entry → Bool) (log place : ℕ) → left_in logs p (front_of log place (slice_get (get_or logs log []) place)) ≡ count_by p (drop place (get_or logs log []))
left_at_front logs p log place =
    elim (cases_lt place (length (get_or logs log []))) [
      | inl low ↦ ap (λ (o : Option Entry). left_in logs p (front_of log place o)) (slice_get-get_or (get_or logs log []) place no_entry low) ∙ zero-add (count_by p (drop place (get_or logs log [])))
      | inr past ↦ ap (λ (o : Option Entry). left_in logs p (front_of log place o)) (slice_get_past (get_or logs log []) place past) ∙ sym (ap (count_by p) (drop_of_length-le (get_or logs log []) past))
    ]

pub left_added : (logs : List (List Entry)) (p : Entry → Bool) (log place : ℕ) (old new : List Front) →
    IsPermutation (front_of log place (slice_get (get_or logs log []) place) ++ old) new → left_in logs p new ≡ count_by p (drop place (get_or logs log [])) + left_in logs p old
left_added logs p log place old new perm =
    let g : Front → ℕ = λ front. count_by p (unmerged_of logs front) in
    sum_by-IsPermutation g (front_of log place (slice_get (get_or logs log []) place) ++ old) new perm
    ∙ sum_by-append g (front_of log place (slice_get (get_or logs log []) place)) old
    ∙ ap (λ (n : ℕ). n + left_in logs p old) (left_at_front logs p log place)

-- ---- the first fronts

-- one log more
pub first_left : (logs : List (List Entry)) (p : Entry → Bool) (i : ℕ) (old new : List Front) → i < length logs →
    left_in logs p old ≡ count_by p (all_logged (take i logs)) → IsPermutation (front_of i 0 (slice_get (get_or logs i []) 0) ++ old) new →
    left_in logs p new ≡ count_by p (all_logged (take (i + 1) logs))
first_left logs p i old new low so_far perm =
    let one : left_in logs p new ≡ count_by p (get_or logs i []) + left_in logs p old = left_added logs p i 0 old new perm in
    let more : count_by p (all_logged (take (i + 1) logs)) ≡ count_by p (all_logged (take i logs)) + (count_by p (get_or logs i []) + 0) =
    ap (λ (ls : List (List Entry)). count_by p (all_logged ls)) (take_more logs i [] low)
    ∙ ap (count_by p) (flat_map-append (λ (log : List Entry). log) (take i logs) (get_or logs i [] ∷ []))
    ∙ sum_by-append (λ (x : Entry). cond (p x) 1 0) (all_logged (take i logs)) (get_or logs i [] ++ [])
    ∙ ap (λ (n : ℕ). count_by p (all_logged (take i logs)) + n) (sum_by-append (λ (x : Entry). cond (p x) 1 0) (get_or logs i []) []) in
    omega (arith, one, more, so_far)

-- ---- one entry more is merged

-- What is merged, and what is left.
pub record IsMerging (logs : List (List Entry)) (order : List Entry) (fronts : List Front) : Type 0 where
  pub fronts_are : All (IsFrontOf logs) fronts
  pub left : AreLeft logs order fronts
  pub heap : IsHeap front_cmp fronts
  pub by_ticket : IsByTicket order
  pub above : All (λ (front : Front). All (λ (entry : Entry). ticket_of entry ≤ front.ticket.0) order) fronts

-- a front that is not below another has no higher ticket
not_higher : (x y : Front) → is_lt (front_cmp x y) ≡ false → x.ticket.0 ≤ y.ticket.0
not_higher x y h =
    elim (cases_lt y.ticket.0 x.ticket.0) [
      | inl low ↦ absurd (true_false (sym (rw (lt-ltb y.ticket.0 x.ticket.0 low) at h)))
      | inr past ↦ past
    ]
  where
    true_false : false ≡ true → ⊥
    true_false e = cc

first_is_least : (x : Front) (fronts : List Front) → IsUpperBound front_cmp x fronts → All (λ (f : Front). x.ticket.0 ≤ f.ticket.0) fronts
first_is_least x fronts bound =
    All-weaker (λ (f : Front). is_lt (front_cmp x f) ≡ false) (λ (f : Front). x.ticket.0 ≤ f.ticket.0) (not_higher x) fronts
    (All-from_recursion (λ (f : Front). is_lt (front_cmp x f) ≡ false) fronts bound)

-- the entry of a front
abbrev pub entry_of : List (List Entry) → Front → Entry
entry_of logs x = get_or (get_or logs x.log []) x.place no_entry

-- the entry of the front that was taken out is merged, and the next front of its log is added
module _ (logs : List (List Entry)) (order : List Entry) (fronts rest new : List Front) (x : Front)
    (by_ticket : All IsByTicket logs) (so_far : IsMerging logs order fronts) (popped : IsPermutation fronts (x ∷ rest))
    (least : IsUpperBound front_cmp x rest) (grown : IsPermutation (front_of x.log (x.place + 1) (slice_get (get_or logs x.log []) (x.place + 1)) ++ rest) new) where
  is_front : IsFrontOf logs x
  is_front = All-head (IsFrontOf logs) x rest (All-permutation (IsFrontOf logs) fronts (x ∷ rest) popped so_far.fronts_are)

  rest_fronts : All (IsFrontOf logs) rest
  rest_fronts = All-tail (IsFrontOf logs) x rest (All-permutation (IsFrontOf logs) fronts (x ∷ rest) popped so_far.fronts_are)

  abbrev IsAbove : Front → Type 0
  IsAbove f = All (λ (entry : Entry). ticket_of entry ≤ f.ticket.0) order

  above_both : All IsAbove (x ∷ rest)
  above_both = All-permutation IsAbove fronts (x ∷ rest) popped so_far.above

  ticket_is : ticket_of (entry_of logs x) ≡ x.ticket.0
  ticket_is = sym (is_front.ticket no_entry)

  new_fronts : All (IsFrontOf logs) new
  new_fronts =
      all_added (IsFrontOf logs) (get_or logs x.log []) x.log (x.place + 1) rest new grown
      (λ low. front_is logs x.log (x.place + 1) is_front.log low) rest_fronts

  -- the next entry of its log has no lower ticket
  next_is_above : x.place + 1 < length (get_or logs x.log []) → x.ticket.0 ≤ (front_at (get_or logs x.log []) x.log (x.place + 1)).ticket.0
  next_is_above low =
      let up = by_ticket x.log [] is_front.log x.place (x.place + 1) no_entry (omega arith) low in
      omega (arith, up, ticket_is)

  -- no front has a lower ticket than x
  new_least : All (λ (f : Front). x.ticket.0 ≤ f.ticket.0) new
  new_least = all_added (λ (f : Front). x.ticket.0 ≤ f.ticket.0) (get_or logs x.log []) x.log (x.place + 1) rest new grown next_is_above (first_is_least x rest least)

  new_above : All (λ (front : Front). All (λ (entry : Entry). ticket_of entry ≤ front.ticket.0) (order ++ entry_of logs x ∷ [])) new
  new_above = All-weaker (λ (f : Front). x.ticket.0 ≤ f.ticket.0) (λ (front : Front). All (λ (entry : Entry). ticket_of entry ≤ front.ticket.0) (order ++ entry_of logs x ∷ []))
      (λ f high.
      All-push (λ (entry : Entry). ticket_of entry ≤ f.ticket.0) order (entry_of logs x)
      (All-weaker (λ (entry : Entry). ticket_of entry ≤ x.ticket.0) (λ (entry : Entry). ticket_of entry ≤ f.ticket.0) (λ entry low. omega (arith, low, high)) order
      (All-head IsAbove x rest above_both))
      (omega (arith, ticket_is, high)))
      new new_least

  new_by_ticket : IsByTicket (order ++ entry_of logs x ∷ [])
  new_by_ticket =
      IsNonDecreasingBy-push ticket_of order (entry_of logs x) so_far.by_ticket
      (λ d some. omega (arith, All-head IsAbove x rest above_both (length order - 1) d (omega arith), ticket_is))

  new_left : AreLeft logs (order ++ entry_of logs x ∷ []) new
  new_left p =
      let entries = get_or logs x.log [] in
      let g : Front → ℕ = λ front. count_by p (unmerged_of logs front) in
      let next : x.place + 1 ≡ suc x.place = add-one x.place in
      let out : left_in logs p rest + count_by p (drop x.place entries) ≡ left_in logs p fronts = sum_by_popped g x fronts rest popped in
      let in_again : left_in logs p new ≡ count_by p (drop (x.place + 1) entries) + left_in logs p rest = left_added logs p x.log (x.place + 1) rest new grown in
      let first : count_by p (drop x.place entries) ≡ cond (p (entry_of logs x)) 1 0 + count_by p (drop (x.place + 1) entries) =
      ap (count_by p) (drop-cons entries x.place no_entry is_front.place)
      ∙ sum_by-cons (λ (e : Entry). cond (p e) 1 0) (entry_of logs x) (drop (suc x.place) entries)
      ∙ ap (λ (k : ℕ). cond (p (entry_of logs x)) 1 0 + count_by p (drop k entries)) (sym next) in
      let pushed : count_by p (order ++ entry_of logs x ∷ []) ≡ count_by p order + cond (p (entry_of logs x)) 1 0 =
      sum_by_push (λ (e : Entry). cond (p e) 1 0) order (entry_of logs x) in
      omega (arith, out, in_again, first, pushed, so_far.left p)

  pub merged_one : IsHeap front_cmp new → IsMerging logs (order ++ entry_of logs x ∷ []) new
  merged_one heap =
      record {
        fronts_are = new_fronts;
        left = new_left;
        heap = heap;
        by_ticket = new_by_ticket;
        above = new_above;
      }

-- a log behind its reference
pub log_at : (logs : List (Bor (List Entry))) (i : ℕ) → get_or (map (λ (log : Bor (List Entry)). log.now) logs) i [] ≡ (get_or logs i (record { ref_ptr = (0, 0); now = [] })).now
log_at logs i = get_or_of_map (λ (log : Bor (List Entry)). log.now) logs i (record { ref_ptr = (0, 0); now = [] })
