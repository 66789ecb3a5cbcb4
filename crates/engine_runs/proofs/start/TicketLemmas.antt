-- The tickets of a store are low, whatever its bytes are.
use Rattle.std.proofs.Common.{◌≡◌, ℕ, zero, suc, ◌+◌, ◌*◌, ◌<◌, ◌≤◌, ◌==◌, ◌&&◌, Bool, true, false, if◌then◌else◌, List, [], ◌∷◌, Option, None, Some, Result, Ok, Err, refl, sym, ap, ◌∙◌, subst, take, drop, max, arith}
use Rattle.std.specs.List.{AllByRecursion}
use Rattle.std.specs.Prelude.{nat_le, nat_lt, slice_index}
use Rattle.std.specs.Result.{result_unwrap_or}
use Rattle.std.proofs.lemmas.Bool.{ltb-true}
use Rattle.call_laws.specs.attempts.EngineCalls.{ticket_above}
use Rattle.cluster_laws.specs.cluster_core.Replays.{ticket_of}
use Rattle.gl_base.specs.declared.entries.Entry.{Entry}
use Rattle.gl_base.specs.declared.entries.Entry.TheVariants.{Go, Restart}
use Rattle.store.specs.store_format.Bodies.{body_fault, entry_count, number_fault, sections_place}
use Rattle.store.specs.store_format.Entries.{entries_fault, entry_fault, kind_at, limit_of_kind, rank_at}
use Rattle.store.specs.store_format.Fields.{bad_outside, field}
use Rattle.store.specs.store_format.Headers.{store_header_fault}
use Rattle.store.specs.store_format.Records.{bodies_from, body_in, length_in, stored_fault, unless_bad}
use Rattle.store.specs.store_format.Sections.{sections_fault}
use Rattle.store.specs.store_format.StoredOrders.{body_entries, entries_from, entry_at, entry_rank, order_behind, put_in_order, stored_order, with_entries}
use Rattle.store.specs.store_format.Stores.{read_store, stored_in}
use Rattle.store.specs.declared.store_format.faults.StoreFault.{StoreFault}
use Rattle.store.specs.declared.store_format.header.Header.{Header}
use Rattle.store.proofs.store_format.NumberLemmas.{both_none}
use Rattle.store.proofs.store_format.ReadLemmas.{split_record, with_body-inv}
use Rattle.store.proofs.store_format.StoreLemmas.{refused_not}

-- an entry with a low ticket
abbrev pub IsLow : Entry → Type 0
IsLow entry = ticket_of entry < 144115188075855872

abbrev pub AreLow : List Entry → Type 0
AreLow entries = AllByRecursion IsLow entries

-- ---- an entry

outside_none : (least limit number place : ℕ) → bad_outside least limit number place ≡ None → number < limit
outside_none least limit number place none = below (nat_le least number) (nat_lt number limit) refl none
  where
    below : (low high : Bool) → nat_lt number limit ≡ high → (if low && high then None else Some place) ≡ None → number < limit
    below true true is e = ltb-true number limit is
    below true false is e = absurd (cc)
    below false true is e = absurd (cc)
    below false false is e = absurd (cc)

ticket_by : (b : Bool) (go restart : Entry) (t : ℕ) → ticket_of go ≡ t → ticket_of restart ≡ t → ticket_of (if b then go else restart) ≡ t
ticket_by true go restart t one other = one
ticket_by false go restart t one other = other

ticket_at : (body : List ℕ) (at : ℕ) → ticket_of (entry_at body at) ≡ field body (at + 8) 8
ticket_at body at =
    ticket_by (kind_at body at == 1) (Go (record { 0 = field body (at + 2) 2 }) (record { 0 = field body (at + 4) 4 }) (field body (at + 8) 8)) (Restart (field body (at + 8) 8)) (field body (at + 8) 8) refl refl

entry_below : (header : Header) (number least : ℕ) (body : List ℕ) (at : ℕ) → entry_fault header number least body at ≡ None → field body (at + 8) 8 < 33554432 * number
entry_below header number least body at none =
    let kind = both_none (bad_outside 1 3 (kind_at body at) at) _ none in
    let zeros = both_none (bad_outside 0 1 (slice_index body (at + 1)) (at + 1)) _ kind.1 in
    let machine = both_none (bad_outside 0 (limit_of_kind (kind_at body at) header.machines) (field body (at + 2) 2) (at + 2)) _ zeros.1 in
    let vertex = both_none (bad_outside 0 (limit_of_kind (kind_at body at) header.n) (field body (at + 4) 4) (at + 4)) _ machine.1 in
    let ticket = both_none (bad_outside 0 (33554432 * number) (field body (at + 8) 8) (at + 8)) _ vertex.1 in
    outside_none 0 (33554432 * number) (field body (at + 8) 8) (at + 8) ticket.0

entries_low : (header : Header) (number least count : ℕ) (body : List ℕ) (at : ℕ) → number < 4294967295 → entries_fault header number least count body at ≡ None → AreLow (entries_from count body at)
entries_low header number least zero body at few none = tt
entries_low header number least (suc count) body at few none =
    let both = both_none (entry_fault header number least body at) (entries_fault header number (rank_at body at) count body (at + 16)) none in (
      subst (λ (t : ℕ). t < 144115188075855872) (sym (ticket_at body at)) (below (field body (at + 8) 8) number (entry_below header number least body at both.0) few),
      entries_low header number (rank_at body at) count body (at + 16) few both.1,
    )
  where
    below : (t n : ℕ) → t < 33554432 * n → n < 4294967295 → t < 144115188075855872
    below t n low few = omega (arith, low, few)

-- ---- a body

body_low : (header : Header) (number : ℕ) (body : List ℕ) → body_fault header number body ≡ None → AreLow (body_entries body)
body_low header number body none =
    let first = both_none (number_fault number body) _ none in
    let numbers = both_none (bad_outside number (number + 1) (field body 0 4) 0) (bad_outside 0 4294967295 number 0) first.0 in
    let entries = both_none (entries_fault header number 0 (entry_count body) body 8) (sections_fault header header.machines [] [] body (sections_place body)) first.1 in
    entries_low header number 0 (entry_count body) body 8 (outside_none 0 4294967295 number 0 numbers.1) entries.0

-- ---- the bodies of a store

abbrev AllLow : List (List ℕ) → Type 0
AllLow bodies = AllByRecursion (λ body. AreLow (body_entries body)) bodies

is_ok_not : {A : Type 0} (fault : StoreFault) (x : A) → Err fault ≡ Ok x → ⊥
is_ok_not fault x e = absurd (cc)

at_gate : (b : Bool) (fault : Option StoreFault) (body : List ℕ) (more : Result (List (List ℕ)) StoreFault) (bodies : List (List ℕ)) → (if b then unless_bad fault body more else Ok []) ≡ Ok bodies →
    (fault ≡ None → AreLow (body_entries body)) → ((rest : List (List ℕ)) → more ≡ Ok rest → AllLow rest) → AllLow bodies
at_gate false fault body more [] e here there = tt
at_gate false fault body more (first ∷ bodies) e here there = absurd (cc)
at_gate true (Some fault) body more bodies e here there = absurd (is_ok_not fault bodies e)
at_gate true None body more bodies e here there =
    let inv = with_body-inv body more bodies e in
    subst AllLow (sym inv.2) (here refl, there inv.0 inv.1)

bodies_low : (header : Header) (number at skip : ℕ) (bytes : List ℕ) (bodies : List (List ℕ)) → bodies_from header number at skip bytes ≡ Ok bodies → AllLow bodies
bodies_low header number at zero [] bodies e = absurd (cc)
bodies_low header number at (suc skip) [] bodies e = absurd (cc)
bodies_low header number at zero (gate ∷ behind) bodies e =
    at_gate (gate == 1) (stored_fault header number (at + 1) behind) (body_in behind) (bodies_from header (number + 1) (at + 1) (8 + length_in behind) behind) bodies e
    (λ none. let split = split_record header number (at + 1) behind none in body_low header number (body_in behind) (ap (body_fault header number) split.body ∙ split.stored.fields))
    (λ rest is. bodies_low header (number + 1) (at + 1) (8 + length_in behind) behind rest is)
bodies_low header number at (suc skip) (byte ∷ bytes) bodies e = bodies_low header number (at + 1) skip bytes bodies e

stored_low : (header : Header) (bytes : List ℕ) → AllLow (stored_in header bytes)
stored_low header bytes = by (read_store header bytes) refl
  where
    by : (r : Result (List (List ℕ)) StoreFault) → read_store header bytes ≡ r → AllLow (stored_in header bytes)
    by (Ok bodies) is =
        subst (λ (r : Result (List (List ℕ)) StoreFault). AllLow (result_unwrap_or r [])) (sym is)
        (bodies_low header 1 64 0 (drop 64 bytes) bodies (refused_not (store_header_fault header (take 64 bytes)) (bodies_from header 1 64 0 (drop 64 bytes)) bodies is).1)
    by (Err fault) is = subst (λ (r : Result (List (List ℕ)) StoreFault). AllLow (result_unwrap_or r [])) (sym is) tt

-- ---- their order

put_low : (entry : Entry) (order : List Entry) → IsLow entry → AreLow order → AreLow (put_in_order entry order)
put_low entry [] one all = (one, tt)
put_low entry (first ∷ order) one all = by (nat_lt (entry_rank entry) (entry_rank first)) (put_low entry order one all.1)
  where
    by : (b : Bool) → AreLow (put_in_order entry order) → AreLow (if b then entry ∷ first ∷ order else first ∷ put_in_order entry order)
    by true later = (one, all)
    by false later = (all.0, later)

with_low : (order entries : List Entry) → AreLow entries → AreLow order → AreLow (with_entries order entries)
with_low order [] more all = all
with_low order (entry ∷ entries) more all = with_low (put_in_order entry order) entries more.1 (put_low entry order more.0 all)

behind_low : (order : List Entry) (bodies : List (List ℕ)) → AllLow bodies → AreLow order → AreLow (order_behind order bodies)
behind_low order [] more all = all
behind_low order (body ∷ bodies) more all = behind_low (with_entries order (body_entries body)) bodies more.1 (with_low order (body_entries body) more.0 all)

above_low : (order : List Entry) → AreLow order → ticket_above order ≤ 144115188075855872
above_low [] all = omega arith
above_low (entry ∷ order) all = greater (ticket_of entry) (ticket_above order) all.0 (above_low order all.1)
  where
    greater : (t n : ℕ) → t < 144115188075855872 → n ≤ 144115188075855872 → max (suc t) n ≤ 144115188075855872
    greater t n low rest = omega (arith, low, rest)

-- the order of what bytes stand for leaves tickets enough
pub tickets_low : (header : Header) (bytes : List ℕ) → ticket_above (stored_order (stored_in header bytes)) ≤ 144115188075855872
tickets_low header bytes = above_low (stored_order (stored_in header bytes)) (behind_low [] (stored_in header bytes) (stored_low header bytes) tt)
