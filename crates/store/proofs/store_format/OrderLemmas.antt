-- Entries that are put into an order one by one, against a stable sort of all of them.
use Rattle.std.proofs.Common.{◌≡◌, ◌≢◌, inl, inr, ℕ, suc, ◌<◌, ◌≤◌, Bool, true, false, cond, List, [], ◌∷◌, ◌++◌, length, get_or, refl, sym, ap, ◌∙◌, subst, arith}
use Rattle.std.specs.Prelude.{⊤, not, ◌&&◌, filter}
use Rattle.std.specs.List.{AllByRecursion, flat_map}
use Rattle.std.specs.List.Sorted.{ties, IsNonDecreasingBy, IsStableByKey}
use Rattle.std.specs.Ordering.{is_lt, nat_cmp}
use Rattle.std.proofs.lemmas.Bool.{cases_eq, cases_lt, lt-ltb, le-ltb, eq-eqb, ne_eqb}
use Rattle.std.proofs.lemmas.List.{append-nil, append_assoc}
use Rattle.std.proofs.lemmas.List.Elements.{filter-append}
use Rattle.std.proofs.lemmas.List.Sorted.{IsNonDecreasingBy-drop}
use Rattle.gl_base.specs.declared.entries.Entry.{Entry}
use Rattle.store.specs.store_format.StoredOrders.{body_entries, entry_rank, put_in_order, with_entries, order_behind, stored_order}

all_weaker : {X : Type 0} (P Q : X → Type 0) (xs : List X) → ((x : X) → P x → Q x) → AllByRecursion P xs → AllByRecursion Q xs
all_weaker P Q [] weaker all = tt
all_weaker P Q (x ∷ xs) weaker all = (weaker x all.0, all_weaker P Q xs weaker all.1)

tied_numbers : (a b : ℕ) → a ≡ b → (not (is_lt (nat_cmp a b)) && not (is_lt (nat_cmp b a))) ≡ true
tied_numbers a b same = rw (le-ltb a b (omega arith), le-ltb b a (omega arith), eq-eqb a b same, eq-eqb b a (sym same)) refl

untied_numbers : (a b : ℕ) → a ≢ b → (not (is_lt (nat_cmp a b)) && not (is_lt (nat_cmp b a))) ≡ false
untied_numbers a b other = elim (cases_lt a b) [
  | inl less ↦ rw (lt-ltb a b less) refl
  | inr more ↦ rw (le-ltb a b more, ne_eqb a b other, lt-ltb b a (omega arith)) refl
]

module _ {X : Type 0} (n : X → ℕ) where
  -- neither ranks below the other
  abbrev pub tied : X → X → Bool
  tied = ties (λ x y. is_lt (nat_cmp (n x) (n y)))

  -- no element ranks above one behind it
  abbrev pub Ascending : List X → Type 0
  Ascending [] = ⊤
  Ascending (x ∷ xs) = AllByRecursion (λ y. n x ≤ n y) xs × Ascending xs

  pub tied_same : (x y : X) → n x ≡ n y → tied x y ≡ true
  tied_same x y same = tied_numbers (n x) (n y) same

  pub tied_other : (x y : X) → n x ≢ n y → tied x y ≡ false
  tied_other x y other = untied_numbers (n x) (n y) other

  -- what passes a test ranks no lower than the least
  least_found : (least : ℕ) (test : X → Bool) (xs rest : List X) (y : X) → AllByRecursion (λ z. least ≤ n z) xs → filter test xs ≡ y ∷ rest → least ≤ n y
  least_found least test [] rest y low found = absurd (cc)
  least_found least test (x ∷ xs) rest y low found = pick (test x) (least_found least test xs rest y low.1) found
    where
      pick : (b : Bool) → (filter test xs ≡ y ∷ rest → least ≤ n y) → cond b (x ∷ filter test xs) (filter test xs) ≡ y ∷ rest → least ≤ n y
      pick true behind e = let same : x ≡ y = cc in subst (λ (z : X). least ≤ n z) same low.0
      pick false behind e = behind e

  same_tail : (b : Bool) (x : X) (xs ys : List X) → cond b (x ∷ xs) xs ≡ cond b (x ∷ ys) ys → xs ≡ ys
  same_tail true x xs ys e = cc
  same_tail false x xs ys e = e

  found_first : (y : X) (ys : List X) → filter (tied y) (y ∷ ys) ≡ y ∷ filter (tied y) ys
  found_first y ys = ap (λ (b : Bool). cond b (y ∷ filter (tied y) ys) (filter (tied y) ys)) (tied_same y y refl)

  -- a list that ascends is known by its ties
  pub known_by_ties : (xs ys : List X) → Ascending xs → Ascending ys → ((z : X) → filter (tied z) xs ≡ filter (tied z) ys) → xs ≡ ys
  known_by_ties [] [] up vp same = refl
  known_by_ties [] (y ∷ ys) up vp same = absurd (differ (same y ∙ found_first y ys))
    where
      differ : [] ≡ y ∷ filter (tied y) ys → ⊥
      differ e = cc
  known_by_ties (x ∷ xs) [] up vp same = absurd (differ (sym (same x) ∙ found_first x xs))
    where
      differ : [] ≡ x ∷ filter (tied x) xs → ⊥
      differ e = cc
  known_by_ties (x ∷ xs) (y ∷ ys) up vp same =
      let own_x : n x ≤ n x = omega arith in
      let own_y : n y ≤ n y = omega arith in
      let low : n x ≤ n y = least_found (n x) (tied y) (x ∷ xs) (filter (tied y) ys) y (own_x, up.0) (same y ∙ found_first y ys) in
      let high : n y ≤ n x = least_found (n y) (tied x) (y ∷ ys) (filter (tied x) xs) x (own_y, vp.0) (sym (same x) ∙ found_first x xs) in
      let level : n x ≡ n y = omega arith in
      let firsts : x ∷ filter (tied x) xs ≡ y ∷ filter (tied x) ys =
      sym (found_first x xs) ∙ same x ∙ ap (λ (b : Bool). cond b (y ∷ filter (tied x) ys) (filter (tied x) ys)) (tied_same x y level) in
      let first : x ≡ y = cc in
      let rest : xs ≡ ys = known_by_ties xs ys up.1 vp.1
      (λ z. same_tail (tied z x) x (filter (tied z) xs) (filter (tied z) ys) (same z ∙ ap (λ (w : X). filter (tied z) (w ∷ ys)) (sym first))) in
      ap (λ (w : X). w ∷ xs) first ∙ ap (λ (l : List X). y ∷ l) rest

  none_tied : (x : X) (xs : List X) → AllByRecursion (λ y. n x < n y) xs → filter (tied x) xs ≡ []
  none_tied x [] above = refl
  none_tied x (y ∷ ys) above =
      let less = above.0 in
      ap (λ (b : Bool). cond b (y ∷ filter (tied x) ys) (filter (tied x) ys)) (tied_other x y (omega arith)) ∙ none_tied x ys above.1

  all_from_places : (least : ℕ) (xs : List X) → ((k : ℕ) (d : X) → k < length xs → least ≤ n (get_or xs k d)) → AllByRecursion (λ y. least ≤ n y) xs
  all_from_places least [] low = tt
  all_from_places least (x ∷ xs) low = (low 0 x (omega arith), all_from_places least xs (λ k d inside. low (suc k) d (omega arith)))

  pub ascending_from : (xs : List X) → IsNonDecreasingBy n xs → Ascending xs
  ascending_from [] up = tt
  ascending_from (x ∷ xs) up =
      (all_from_places (n x) xs (λ k d inside. up 0 (suc k) d (omega arith) (omega arith)), ascending_from xs (IsNonDecreasingBy-drop n 1 (x ∷ xs) up))

put_all : (P : Entry → Type 0) (entry : Entry) (order : List Entry) → P entry → AllByRecursion P order → AllByRecursion P (put_in_order entry order)
put_all P entry [] one all = (one, tt)
put_all P entry (first ∷ order) one all = elim (cases_lt (entry_rank entry) (entry_rank first)) [
  | inl less ↦ rw (lt-ltb (entry_rank entry) (entry_rank first) less) (one, all)
  | inr more ↦ rw (le-ltb (entry_rank entry) (entry_rank first) more) (all.0, put_all P entry order one all.1)
]

pub put_ascends : (entry : Entry) (order : List Entry) → Ascending entry_rank order → Ascending entry_rank (put_in_order entry order)
put_ascends entry [] up = (tt, tt)
put_ascends entry (first ∷ order) up = elim (cases_lt (entry_rank entry) (entry_rank first)) [
  | inl less ↦
      let low : entry_rank entry ≤ entry_rank first = omega arith in
      rw (lt-ltb (entry_rank entry) (entry_rank first) less)
      ((low, all_weaker (λ y. entry_rank first ≤ entry_rank y) (λ y. entry_rank entry ≤ entry_rank y) order (λ y above. omega arith) up.0), up)
  | inr more ↦
      rw (le-ltb (entry_rank entry) (entry_rank first) more)
      (put_all (λ y. entry_rank first ≤ entry_rank y) entry order more up.0, put_ascends entry order up.1)
]

-- an entry that is put in stands behind those that tie with it
put_tied : (x entry : Entry) (order : List Entry) → Ascending entry_rank order
    → filter (tied entry_rank x) (put_in_order entry order) ≡ filter (tied entry_rank x) order ++ filter (tied entry_rank x) (entry ∷ [])
put_tied x entry [] up = refl
put_tied x entry (first ∷ order) up = elim (cases_lt (entry_rank entry) (entry_rank first)) [
  | inl less ↦ rw (lt-ltb (entry_rank entry) (entry_rank first) less) (elim (cases_eq (entry_rank x) (entry_rank entry)) [
    | inl same ↦
        let low : entry_rank x < entry_rank first = omega arith in
        let none : filter (tied entry_rank x) (first ∷ order) ≡ [] =
        none_tied entry_rank x (first ∷ order) (low, all_weaker (λ y. entry_rank first ≤ entry_rank y) (λ y. entry_rank x < entry_rank y) order (λ y above. omega arith) up.0) in
        let here = tied_same entry_rank x entry same in
        ap (λ (b : Bool). cond b (entry ∷ filter (tied entry_rank x) (first ∷ order)) (filter (tied entry_rank x) (first ∷ order))) here
        ∙ ap (λ (l : List Entry). entry ∷ l) none
        ∙ ap (λ (b : Bool). [] ++ cond b (entry ∷ []) []) (sym here)
        ∙ ap (λ (l : List Entry). l ++ filter (tied entry_rank x) (entry ∷ [])) (sym none)
    | inr other ↦
        let here = tied_other entry_rank x entry other in
        ap (λ (b : Bool). cond b (entry ∷ filter (tied entry_rank x) (first ∷ order)) (filter (tied entry_rank x) (first ∷ order))) here
        ∙ sym (append-nil (filter (tied entry_rank x) (first ∷ order)))
        ∙ ap (λ (b : Bool). filter (tied entry_rank x) (first ∷ order) ++ cond b (entry ∷ []) []) (sym here)
  ])
  | inr more ↦ rw (le-ltb (entry_rank entry) (entry_rank first) more)
      (ap (λ (l : List Entry). cond (tied entry_rank x first) (first ∷ l) l) (put_tied x entry order up.1)
      ∙ behind (tied entry_rank x first) first (filter (tied entry_rank x) order) (filter (tied entry_rank x) (entry ∷ [])))
]
  where
    behind : (b : Bool) (first : Entry) (front back : List Entry) → cond b (first ∷ (front ++ back)) (front ++ back) ≡ cond b (first ∷ front) front ++ back
    behind true first front back = refl
    behind false first front back = refl

pub with_ascends : (entries order : List Entry) → Ascending entry_rank order → Ascending entry_rank (with_entries order entries)
with_ascends [] order up = up
with_ascends (entry ∷ entries) order up = with_ascends entries (put_in_order entry order) (put_ascends entry order up)

with_tied : (x : Entry) (entries order : List Entry) → Ascending entry_rank order
    → filter (tied entry_rank x) (with_entries order entries) ≡ filter (tied entry_rank x) order ++ filter (tied entry_rank x) entries
with_tied x [] order up = sym (append-nil (filter (tied entry_rank x) order))
with_tied x (entry ∷ entries) order up =
    with_tied x entries (put_in_order entry order) (put_ascends entry order up)
    ∙ ap (λ (l : List Entry). l ++ filter (tied entry_rank x) entries) (put_tied x entry order up)
    ∙ append_assoc (filter (tied entry_rank x) order) (filter (tied entry_rank x) (entry ∷ [])) (filter (tied entry_rank x) entries)
    ∙ ap (λ (l : List Entry). filter (tied entry_rank x) order ++ l) (sym (filter-append (tied entry_rank x) (entry ∷ []) entries))

behind_ascends : (bodies : List (List ℕ)) (order : List Entry) → Ascending entry_rank order → Ascending entry_rank (order_behind order bodies)
behind_ascends [] order up = up
behind_ascends (body ∷ bodies) order up = behind_ascends bodies (with_entries order (body_entries body)) (with_ascends (body_entries body) order up)

behind_tied : (x : Entry) (bodies : List (List ℕ)) (order : List Entry) → Ascending entry_rank order
    → filter (tied entry_rank x) (order_behind order bodies) ≡ filter (tied entry_rank x) order ++ filter (tied entry_rank x) (flat_map body_entries bodies)
behind_tied x [] order up = sym (append-nil (filter (tied entry_rank x) order))
behind_tied x (body ∷ bodies) order up =
    let entries = body_entries body in
    behind_tied x bodies (with_entries order entries) (with_ascends entries order up)
    ∙ ap (λ (l : List Entry). l ++ filter (tied entry_rank x) (flat_map body_entries bodies)) (with_tied x entries order up)
    ∙ append_assoc (filter (tied entry_rank x) order) (filter (tied entry_rank x) entries) (filter (tied entry_rank x) (flat_map body_entries bodies))
    ∙ ap (λ (l : List Entry). filter (tied entry_rank x) order ++ l) (sym (filter-append (tied entry_rank x) entries (flat_map body_entries bodies)))

-- a stable sort of the entries of records is the order of the snapshot that they end with
pub sorted_is : (bodies : List (List ℕ)) (entries order : List Entry) → IsNonDecreasingBy entry_rank order → IsStableByKey entry_rank nat_cmp entries order → entries ≡ flat_map body_entries bodies → order ≡ stored_order bodies
sorted_is bodies entries order up stable all =
    known_by_ties entry_rank order (stored_order bodies) (ascending_from entry_rank order up) (behind_ascends bodies [] tt)
    (λ z. stable z ∙ ap (filter (tied entry_rank z)) all ∙ sym (behind_tied z bodies [] tt))
