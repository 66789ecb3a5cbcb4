-- The rule of a table of links: what stands in its words, slots and seats at any time.
use Rattle.std.specs.Prelude.{◌≡◌, ◌≢◌, ℕ, suc, pred, ◌+◌, ◌<◌, ◌≤◌, min, Bool, cond, ◌==◌, nat_lt, List, length, sum_by, slice_index, slice_set, Option, Some, None}
use mathlib.Core.Option.{some}
use mathlib.Core.Option as maybe
use lib.ListN.{get_elem?}
use Rattle.atomic_table.specs.Table.{State}
use Rattle.link_tables.specs.Seats.{word_at}
use Rattle.link_tables.specs.declared.views.View.{View}

-- 1 where it is so, and else 0
abbrev pub one_when : Bool → ℕ
one_when b = cond b 1 0

-- 1 where this is the link i, and else 0
abbrev pub is_link : {Q : Type 0} → ℕ → Option (ℕ × Q) → ℕ
is_link i None = 0
is_link i (Some x) = one_when (x.0 == i)

-- how many of these parts have the number p
abbrev pub times_seated : {P : Type 0} → (P → ℕ) → ℕ → List P → ℕ
times_seated number_of p parts = sum_by (λ x. one_when (number_of x == p)) parts

-- A link's word is 1 where a seat has the link, and then just one has it. Else the link lies in its slot, and at 0 nothing is on it.
pub record Linked {P Q : Type 0} (Empty : Q → Type 0) (words : List ℕ) (homes : List (maybe.Option Q)) (views : List (View P Q)) (links : List Q) : Type 0 where
  pub low : (i : ℕ) (q : Q) → get_elem? links i ≡ some q → slice_index words (word_at i) ≤ 2
  pub free : (i : ℕ) (q : Q) → get_elem? links i ≡ some q → slice_index words (word_at i) ≢ 1 → get_elem? homes i ≡ some (some q)
  pub empty : (i : ℕ) (q : Q) → get_elem? links i ≡ some q → slice_index words (word_at i) ≡ 0 → Empty q
  pub out : (i : ℕ) → i < length links → sum_by (λ v. is_link i v.link) views ≡ one_when (slice_index words (word_at i) == 1)
  pub held : (j : ℕ) (v : View P Q) (i : ℕ) (q : Q) → get_elem? views j ≡ some v → v.link ≡ Some (i, q) → get_elem? links i ≡ some q

-- Each part stands in one seat, and there once. A seat that has a link has a part.
pub record AreSeated {P Q : Type 0} (number_of : P → ℕ) (views : List (View P Q)) (parts : List P) : Type 0 where
  pub stands : (j : ℕ) (v : View P Q) (i : ℕ) (x : P) → get_elem? views j ≡ some v → get_elem? v.parts i ≡ some x → get_elem? parts (number_of x) ≡ some x
  pub once : (p : ℕ) → sum_by (λ v. times_seated number_of p v.parts) views ≡ one_when (nat_lt p (length parts))
  pub busy : (j : ℕ) (v : View P Q) (x : ℕ × Q) → get_elem? views j ≡ some v → v.link ≡ Some x → 0 < length v.parts

-- The table shows these parts and links, to which its steps have led. The word of tickets is the next ticket, and the word of the halt is 1 exactly
-- where a seat has raised it.
pub record ShowsLinks {P Q : Type 0} (number_of : P → ℕ) (Empty : Q → Type 0) (Led : List P → List Q → ℕ → ℕ → Type 0) (many top peers : ℕ) (s : State Q (View P Q)) (parts : List P) (links : List Q) (next left : ℕ) : Type 0 where
  pub led : Led parts links next left
  pub words : length s.words ≡ word_at (many + 2)
  pub homes : length s.homes ≡ many
  pub count : length links ≡ many
  pub peers_are : length parts ≡ peers
  pub linked : Linked Empty s.words s.homes s.views links
  pub seated : AreSeated number_of s.views parts
  pub drawn : slice_index s.words (word_at many) ≡ next
  pub over : next + left ≡ top
  pub halt : slice_index s.words (word_at (many + 1)) ≡ min 1 (sum_by (λ v. v.raised) s.views)

-- There are parts and links that the table shows.
abbrev pub HoldsTable : {P Q : Type 0} → (P → ℕ) → (Q → Type 0) → (List P → List Q → ℕ → ℕ → Type 0) → ℕ → ℕ → ℕ → State Q (View P Q) → Type 0
HoldsTable {P} {Q} number_of Empty Led many top peers s =
    (parts : List P) × (links : List Q) × (next : ℕ) × (left : ℕ) × ShowsLinks number_of Empty Led many top peers s parts links next left

-- ---- what a step owes, whatever the other parts and links are

-- a part becomes another by itself
abbrev pub Carries : {P Q : Type 0} → (P → ℕ) → (List P → List Q → ℕ → ℕ → Type 0) → P → P → Type 0
Carries {P} {Q} number_of Led p new =
    (parts : List P) (links : List Q) (next left : ℕ) → get_elem? parts (number_of p) ≡ some p → Led parts links next left
    → Led (slice_set parts (number_of p) new) links next left

-- a part and the link i become others
abbrev pub CarriesLink : {P Q : Type 0} → (P → ℕ) → (List P → List Q → ℕ → ℕ → Type 0) → ℕ → P → Q → P → Q → Type 0
CarriesLink {P} {Q} number_of Led i p q new r =
    (parts : List P) (links : List Q) (next left : ℕ) → get_elem? parts (number_of p) ≡ some p → get_elem? links i ≡ some q → Led parts links next left
    → Led (slice_set parts (number_of p) new) (slice_set links i r) next left

-- a part becomes another under this ticket, which is the next one
abbrev pub CarriesTicket : {P Q : Type 0} → (P → ℕ) → (List P → List Q → ℕ → ℕ → Type 0) → ℕ → P → P → Type 0
CarriesTicket {P} {Q} number_of Led ticket p new =
    (parts : List P) (links : List Q) (left : ℕ) → get_elem? parts (number_of p) ≡ some p → 0 < left → Led parts links ticket left
    → Led (slice_set parts (number_of p) new) links (suc ticket) (pred left)

-- a seat with this part learns of the link i, whatever is on it
abbrev pub Learnt : {P Q : Type 0} → (P → ℕ) → (List P → List Q → ℕ → ℕ → Type 0) → (P → ℕ → Q → Type 0) → P → ℕ → Type 0
Learnt {P} {Q} number_of Led Learns p i =
    (parts : List P) (links : List Q) (next left : ℕ) (q : Q) → get_elem? parts (number_of p) ≡ some p → get_elem? links i ≡ some q → Led parts links next left
    → Learns p i q

-- ---- how a table begins and ends

-- each part stands at its number
abbrev pub AreInOrder : {P : Type 0} → (P → ℕ) → List P → Type 0
AreInOrder {P} number_of parts = (p : ℕ) (x : P) → get_elem? parts p ≡ some x → number_of x ≡ p

-- each number below this one is that of one of these parts
abbrev pub AllHere : {P : Type 0} → (P → ℕ) → ℕ → List P → Type 0
AllHere {P} number_of peers here = (p : ℕ) → p < peers → (i : ℕ) × (x : P) × (get_elem? here i ≡ some x) × (number_of x ≡ p)

-- The steps have led to the parts that are here and to these links.
pub record Ended {P Q : Type 0} (number_of : P → ℕ) (Led : List P → List Q → ℕ → ℕ → Type 0) (here : List P) (links : List Q) (next left : ℕ) : Type 0 where
  pub parts : List P
  pub led : Led parts links next left
  pub are : (i : ℕ) (x : P) → get_elem? here i ≡ some x → get_elem? parts (number_of x) ≡ some x
