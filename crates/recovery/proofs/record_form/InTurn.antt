-- The entries of a body have no fault, where they stand in their turn and are within what a store takes.
use Rattle.std.proofs.Common.{◌≡◌, ◌∙◌, ℕ, suc, ◌+◌, ◌*◌, ◌<◌, ◌≤◌, List, [], ◌∷◌, ◌++◌, None, Option, length, length-append, drop, get_or, slice_index, refl, sym, ap, arith, append_assoc, subst}
use Rattle.std.specs.Prelude.{⊤}
use Rattle.std.specs.List.{AllByRecursion, flat_map}
use Rattle.std.specs.List.Sorted.{IsNonDecreasingBy}
use Rattle.std.specs.Option.{option_or}
use Rattle.std.proofs.lemmas.Bool.{le-leb, lt-ltb}
use Rattle.std.proofs.lemmas.List.{drop-drop, get_or-drop}
use Rattle.std.proofs.Math.Seq.{drop-append_seam}
use Rattle.byteorder.specs.Endian.{big_bytes, big_number}
use Rattle.byteorder.specs.Numbers.{big_number-reads_back}
use Rattle.gl_base.specs.declared.entries.Entry.{Entry}
use Rattle.gl_base.specs.declared.entries.Entry.TheVariants.{Go, Restart}
use Rattle.store.specs.declared.store_format.header.Header.{Header}
use Rattle.store.specs.store_format.Encoding.{entry_bytes}
use Rattle.store.specs.store_format.Entries.{entries_fault, entry_fault, kind_at, limit_of_kind, rank, rank_at}
use Rattle.store.specs.store_format.Fields.{bad_outside, field}
use Rattle.store.specs.store_format.ReadBack.{EntryFits}
use Rattle.store.specs.store_format.StoredOrders.{entry_rank}

-- what a store takes of an entry, but for its turn
abbrev pub IsTaken : Header → ℕ → Entry → Type 0
IsTaken header number (Go machine vertex ticket) = (machine.0 < header.machines) × (vertex.0 < header.n) × (ticket < 33554432 * number)
IsTaken header number (Restart ticket) = ticket < 33554432 * number

-- each stands not before the one that it follows
abbrev pub InTurnFrom : ℕ → List Entry → Type 0
InTurnFrom least [] = ⊤
InTurnFrom least (entry ∷ entries) = (least ≤ entry_rank entry) × InTurnFrom (entry_rank entry) entries

behind_first : (entry : Entry) (entries : List Entry) → IsNonDecreasingBy entry_rank (entry ∷ entries) → IsNonDecreasingBy entry_rank entries
behind_first entry entries up = λ i j d low within. up (suc i) (suc j) d (omega arith) (omega arith)

turn_behind : (entry : Entry) (entries : List Entry) → IsNonDecreasingBy entry_rank (entry ∷ entries) → InTurnFrom (entry_rank entry) entries
turn_behind entry [] up = tt
turn_behind entry (next ∷ entries) up = (up 0 1 entry (omega arith) (omega arith), turn_behind next entries (behind_first entry (next ∷ entries) up))

pub in_turn : (entries : List Entry) → IsNonDecreasingBy entry_rank entries → InTurnFrom 0 entries
in_turn [] up = tt
in_turn (entry ∷ entries) up = (zero_low (entry_rank entry), turn_behind entry entries up)
  where
    zero_low : (n : ℕ) → 0 ≤ n
    zero_low n = omega arith

-- ---- one entry

inside : (least limit number place : ℕ) → least ≤ number → number < limit → bad_outside least limit number place ≡ None
inside least limit number place low high = rw (le-leb least number low, lt-ltb number limit high) refl

passes : (a b : Option ℕ) → a ≡ None → b ≡ None → option_or a b ≡ None
passes a b one other = ap (λ (o : Option ℕ). option_or o b) one ∙ other

zero_least : (n : ℕ) → 0 ≤ n
zero_least n = omega arith

-- by the values of its fields
module _ (header : Header) (number least : ℕ) (body : List ℕ) (at kind machine vertex ticket : ℕ)
    (kind_is : kind_at body at ≡ kind) (zero_is : slice_index body (at + 1) ≡ 0) (machine_is : field body (at + 2) 2 ≡ machine) (vertex_is : field body (at + 4) 4 ≡ vertex) (ticket_is : field body (at + 8) 8 ≡ ticket) where
  rank_is : rank_at body at ≡ rank kind ticket
  rank_is = ap (λ (k : ℕ). rank k (field body (at + 8) 8)) kind_is ∙ ap (rank kind) ticket_is

  entry_fine : 1 ≤ kind → kind < 3 → machine < limit_of_kind kind header.machines → vertex < limit_of_kind kind header.n → ticket < 33554432 * number → least ≤ rank kind ticket → entry_fault header number least body at ≡ None
  entry_fine some few machine_low vertex_low ticket_low up =
      passes _ _ (ap (λ (k : ℕ). bad_outside 1 3 k at) kind_is ∙ inside 1 3 kind at some few)
      (passes _ _ (ap (λ (k : ℕ). bad_outside 0 1 k (at + 1)) zero_is ∙ inside 0 1 0 (at + 1) (omega arith) (omega arith))
      (passes _ _ (ap (λ (k : ℕ). bad_outside 0 (limit_of_kind k header.machines) (field body (at + 2) 2) (at + 2)) kind_is ∙ ap (λ (k : ℕ). bad_outside 0 (limit_of_kind kind header.machines) k (at + 2)) machine_is
      ∙ inside 0 (limit_of_kind kind header.machines) machine (at + 2) (zero_least machine) machine_low)
      (passes _ _ (ap (λ (k : ℕ). bad_outside 0 (limit_of_kind k header.n) (field body (at + 4) 4) (at + 4)) kind_is ∙ ap (λ (k : ℕ). bad_outside 0 (limit_of_kind kind header.n) k (at + 4)) vertex_is
      ∙ inside 0 (limit_of_kind kind header.n) vertex (at + 4) (zero_least vertex) vertex_low)
      (passes _ _ (ap (λ (k : ℕ). bad_outside 0 (33554432 * number) k (at + 8)) ticket_is ∙ inside 0 (33554432 * number) ticket (at + 8) (zero_least ticket) ticket_low)
      (rw (le-leb least (rank_at body at) (subst (λ (r : ℕ). least ≤ r) (sym rank_is) up)) refl)))))

-- ---- as it stands in the bytes

byte_at : (body more : List ℕ) (at i : ℕ) → drop at body ≡ more → slice_index body (at + i) ≡ get_or more i 0
byte_at body more at i here = sym (get_or-drop at body i 0) ∙ ap (λ (l : List ℕ). get_or l i 0) here

first_byte : (body more : List ℕ) (at : ℕ) → drop at body ≡ more → kind_at body at ≡ get_or more 0 0
first_byte body more at here = ap (slice_index body) (from_zero at) ∙ byte_at body more at 0 here
  where
    from_zero : (n : ℕ) → n ≡ n + 0
    from_zero n = omega arith

field_at : (body more : List ℕ) (at i n : ℕ) → drop at body ≡ more → field body (at + i) n ≡ field more i n
field_at body more at i n here = ap (big_number n) (sym (drop-drop i at body)) ∙ ap (λ (l : List ℕ). big_number n (drop i l)) here

record EntryRead (header : Header) (number least : ℕ) (body : List ℕ) (at : ℕ) (entry : Entry) : Type 0 where
  none : entry_fault header number least body at ≡ None
  rank_of : rank_at body at ≡ entry_rank entry

no_odd : (n : ℕ) → n + 0 ≡ n
no_odd n = omega arith

entry_read : (header : Header) (number least : ℕ) (entry : Entry) (body more : List ℕ) (at : ℕ) → EntryFits entry → IsTaken header number entry → least ≤ entry_rank entry → drop at body ≡ entry_bytes entry ++ more →
    EntryRead header number least body at entry
entry_read header number least (Go machine vertex ticket) body more at fits taken up here =
    let whole = entry_bytes (Go machine vertex ticket) ++ more in
    let kind : kind_at body at ≡ 1 = first_byte body whole at here in
    let none : slice_index body (at + 1) ≡ 0 = byte_at body whole at 1 here in
    let m : field body (at + 2) 2 ≡ machine.0 = field_at body whole at 2 2 here ∙ big_number-reads_back 2 machine.0 ((big_bytes 4 vertex.0 ++ big_bytes 8 ticket) ++ more) fits.0 in
    let v : field body (at + 4) 4 ≡ vertex.0 = field_at body whole at 4 4 here ∙ big_number-reads_back 4 vertex.0 (big_bytes 8 ticket ++ more) fits.1 in
    let t : field body (at + 8) 8 ≡ ticket = field_at body whole at 8 8 here ∙ big_number-reads_back 8 ticket more fits.2 in
    record {
      none = entry_fine header number least body at 1 machine.0 vertex.0 ticket kind none m v t (omega arith) (omega arith) taken.0 taken.1 taken.2 up;
      rank_of = rank_is header number least body at 1 machine.0 vertex.0 ticket kind none m v t;
    }
entry_read header number least (Restart ticket) body more at fits taken up here =
    let whole = entry_bytes (Restart ticket) ++ more in
    let kind : kind_at body at ≡ 2 = first_byte body whole at here in
    let none : slice_index body (at + 1) ≡ 0 = byte_at body whole at 1 here in
    let m : field body (at + 2) 2 ≡ 0 = field_at body whole at 2 2 here in
    let v : field body (at + 4) 4 ≡ 0 = field_at body whole at 4 4 here in
    let t : field body (at + 8) 8 ≡ ticket = field_at body whole at 8 8 here ∙ big_number-reads_back 8 ticket more fits in
    let even : rank 2 ticket ≡ 2 * ticket = no_odd (2 * ticket) in
    record {
      none = entry_fine header number least body at 2 0 0 ticket kind none m v t (omega arith) (omega arith) (omega arith) (omega arith) taken (subst (λ (r : ℕ). least ≤ r) (sym even) up);
      rank_of = rank_is header number least body at 2 0 0 ticket kind none m v t ∙ even;
    }

-- ---- all entries

sixteen : (entry : Entry) → length (entry_bytes entry) ≡ 16
sixteen (Go machine vertex ticket) = refl
sixteen (Restart ticket) = refl

pub entries_long : (entries : List Entry) → length (flat_map entry_bytes entries) ≡ 16 * length entries
entries_long [] = refl
entries_long (entry ∷ entries) = omega (arith, length-append (entry_bytes entry) (flat_map entry_bytes entries), sixteen entry, entries_long entries)

behind_entry : (body more : List ℕ) (entry : Entry) (at : ℕ) → drop at body ≡ entry_bytes entry ++ more → drop (at + 16) body ≡ more
behind_entry body more entry at here =
    sym (drop-drop 16 at body) ∙ ap (drop 16) here ∙ ap (λ (k : ℕ). drop k (entry_bytes entry ++ more)) (sym (sixteen entry)) ∙ drop-append_seam (entry_bytes entry) more

pub entries_fine : (header : Header) (number least : ℕ) (entries : List Entry) (body more : List ℕ) (at : ℕ) → AllByRecursion EntryFits entries → AllByRecursion (IsTaken header number) entries → InTurnFrom least entries →
    drop at body ≡ flat_map entry_bytes entries ++ more → entries_fault header number least (length entries) body at ≡ None
entries_fine header number least [] body more at fits taken turn here = refl
entries_fine header number least (entry ∷ entries) body more at fits taken turn here =
    let behind : List ℕ = flat_map entry_bytes entries ++ more in
    let split : drop at body ≡ entry_bytes entry ++ behind = here ∙ append_assoc (entry_bytes entry) (flat_map entry_bytes entries) more in
    let read = entry_read header number least entry body behind at fits.0 taken.0 turn.0 split in
    ap (λ (o : Option ℕ). option_or o (entries_fault header number (rank_at body at) (length entries) body (at + 16))) read.none
    ∙ ap (λ (r : ℕ). entries_fault header number r (length entries) body (at + 16)) read.rank_of
    ∙ entries_fine header number (entry_rank entry) entries body more (at + 16) fits.1 taken.1 turn.1 (behind_entry body behind entry at split)
