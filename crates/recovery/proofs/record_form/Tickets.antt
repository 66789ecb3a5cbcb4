-- The tickets of what a store has are below a bound for each of its snapshots.
use Rattle.std.proofs.Common.{◌≡◌, ℕ, zero, suc, ◌+◌, ◌*◌, ◌<◌, ◌≤◌, ◌==◌, if◌then◌else◌, Bool, true, false, List, [], ◌∷◌, ◌++◌, None, Option, Some, Result, Ok, Err, length, max, slice_index, take, drop, refl, sym, subst, arith}
use Rattle.std.specs.Prelude.{nat_le, nat_lt, ◌&&◌, ⊤}
use Rattle.std.specs.List.{AllByRecursion}
use Rattle.std.specs.Option.{option_or}
use Rattle.std.specs.Result.{result_unwrap_or}
use Rattle.std.proofs.lemmas.Bool.{ltb-true}
use Rattle.gl_base.specs.declared.entries.Entry.{Entry}
use Rattle.gl_base.specs.declared.entries.Entry.TheVariants.{Go, Restart}
use Rattle.graph_core.proofs.HalvesLaws.{each-weaker}
use Rattle.call_laws.specs.attempts.EngineCalls.{ticket_above}
use Rattle.cluster_laws.specs.cluster_core.Replays.{ticket_of}
use Rattle.store.specs.declared.store_format.faults.StoreFault.{StoreFault}
use Rattle.store.specs.declared.store_format.faults.StoreFault.TheVariants.{BadByte, Torn}
use Rattle.store.specs.declared.store_format.header.Header.{Header}
use Rattle.store.specs.store_format.Bodies.{body_fault, body_size, entry_count, number_fault, sections_place}
use Rattle.store.specs.store_format.Entries.{entries_fault, entry_fault, kind_at, limit_of_kind, rank_at}
use Rattle.store.specs.store_format.Fields.{bad_outside, field}
use Rattle.store.specs.store_format.Headers.{store_header_fault}
use Rattle.store.specs.store_format.Records.{bad_byte, bodies_from, body_in, length_in, stored_fault, unless_bad, with_body}
use Rattle.store.specs.store_format.Sections.{sections_fault}
use Rattle.store.specs.store_format.StoredOrders.{body_entries, entries_from, entry_at, entry_rank, order_behind, put_in_order, stored_order, with_entries}
use Rattle.store.specs.store_format.Stores.{stored_in, unless_refused}
use Rattle.store.proofs.store_format.NumberLemmas.{both_none}
use Rattle.store.proofs.store_format.ReadLemmas.{with_body-inv}

-- the entry has a ticket that the snapshots up to this one may have
abbrev IsLowFor : ℕ → Entry → Type 0
IsLowFor number entry = ticket_of entry < 33554432 * number

-- ---- the entries of one body

below_limit : (least limit number place : ℕ) → bad_outside least limit number place ≡ None → number < limit
below_limit least limit number place none = below (nat_le least number) (nat_lt number limit) refl none
  where
    below : (low high : Bool) → nat_lt number limit ≡ high → (if low && high then None else Some place) ≡ None → number < limit
    below low true is e = ltb-true number limit is
    below true false is e = absurd (cc)
    below false false is e = absurd (cc)

ticket_at : (body : List ℕ) (at : ℕ) → ticket_of (entry_at body at) ≡ field body (at + 8) 8
ticket_at body at = either (kind_at body at == 1)
  where
    either : (go : Bool) → ticket_of (if go then Go (record { 0 = field body (at + 2) 2 }) (record { 0 = field body (at + 4) 4 }) (field body (at + 8) 8) else Restart (field body (at + 8) 8)) ≡ field body (at + 8) 8
    either true = refl
    either false = refl

entry_low : (header : Header) (number least : ℕ) (body : List ℕ) (at : ℕ) → entry_fault header number least body at ≡ None → IsLowFor number (entry_at body at)
entry_low header number least body at none =
    let turn : Option ℕ = if nat_le least (rank_at body at) then None else Some (at + 8) in
    let ticket : Option ℕ = bad_outside 0 (33554432 * number) (field body (at + 8) 8) (at + 8) in
    let vertex : Option ℕ = bad_outside 0 (limit_of_kind (kind_at body at) header.n) (field body (at + 4) 4) (at + 4) in
    let machine : Option ℕ = bad_outside 0 (limit_of_kind (kind_at body at) header.machines) (field body (at + 2) 2) (at + 2) in
    let empty : Option ℕ = bad_outside 0 1 (slice_index body (at + 1)) (at + 1) in
    let kind : Option ℕ = bad_outside 1 3 (kind_at body at) at in
    let behind_vertex = option_or ticket turn in
    let behind_machine = option_or vertex behind_vertex in
    let behind_empty = option_or machine behind_machine in
    subst (λ (t : ℕ). t < 33554432 * number) (sym (ticket_at body at))
    (below_limit 0 (33554432 * number) (field body (at + 8) 8) (at + 8)
    (both_none ticket turn (both_none vertex behind_vertex (both_none machine behind_machine (both_none empty behind_empty (both_none kind (option_or empty behind_empty) none).1).1).1).1).0)

entries_low : (header : Header) (number least count : ℕ) (body : List ℕ) (at : ℕ) → entries_fault header number least count body at ≡ None → AllByRecursion (IsLowFor number) (entries_from count body at)
entries_low header number least zero body at none = tt
entries_low header number least (suc count) body at none =
    let parts = both_none (entry_fault header number least body at) (entries_fault header number (rank_at body at) count body (at + 16)) none in
    (entry_low header number least body at parts.0, entries_low header number (rank_at body at) count body (at + 16) parts.1)

body_low : (header : Header) (number : ℕ) (body : List ℕ) → body_fault header number body ≡ None → AllByRecursion (IsLowFor number) (body_entries body)
body_low header number body none =
    let entries = entries_fault header number 0 (entry_count body) body 8 in
    let sections = sections_fault header header.machines [] [] body (sections_place body) in
    entries_low header number 0 (entry_count body) body 8 (both_none entries sections (both_none (number_fault number body) (option_or entries sections) none).1).0

-- ---- all bodies

-- each body has low tickets for its number, where the first has this one
abbrev AreLowFrom : ℕ → List (List ℕ) → Type 0
AreLowFrom number [] = ⊤
AreLowFrom number (body ∷ bodies) = AllByRecursion (IsLowFor number) (body_entries body) × AreLowFrom (number + 1) bodies

passed : (short own torn : Bool) (a b c : StoreFault) (inner : Option StoreFault) → (if short then Some a else if own then (if torn then Some b else inner) else Some c) ≡ None → inner ≡ None
passed true own torn a b c inner e = absurd (cc)
passed false false torn a b c inner e = absurd (cc)
passed false true true a b c inner e = absurd (cc)
passed false true false a b c inner e = e

no_place : (at : ℕ) (fault : Option ℕ) → bad_byte at fault ≡ None → fault ≡ None
no_place at None e = refl
no_place at (Some place) e = absurd (cc)

fields_fine : (header : Header) (number at : ℕ) (behind : List ℕ) → stored_fault header number at behind ≡ None → body_fault header number (body_in behind) ≡ None
fields_fine header number at behind none =
    no_place (at + 8) (body_fault header number (body_in behind))
    (passed (nat_lt (length behind) 16) (length_in behind == body_size header (field behind 12 4)) (nat_lt (length behind) (9 + length_in behind)) (Torn (at + length behind)) (Torn (at + length behind)) (BadByte at)
    (bad_byte (at + 8) (body_fault header number (body_in behind))) none)

unless_fine : (fault : Option StoreFault) (body : List ℕ) (more : Result (List (List ℕ)) StoreFault) (bodies : List (List ℕ)) → unless_bad fault body more ≡ Ok bodies → (fault ≡ None) × (with_body body more ≡ Ok bodies)
unless_fine None body more bodies e = (refl, e)
unless_fine (Some fault) body more bodies e = absurd (cc)

none_read : (bodies : List (List ℕ)) → ◌≡◌ {A = Result (List (List ℕ)) StoreFault} (Ok []) (Ok bodies) → [] ≡ bodies
none_read bodies is = cc

by_gate : (header : Header) (number at : ℕ) (behind : List ℕ) (rest : Result (List (List ℕ)) StoreFault) (bodies : List (List ℕ)) → ((others : List (List ℕ)) → rest ≡ Ok others → AreLowFrom (number + 1) others) → (opened : Bool) →
    (if opened then unless_bad (stored_fault header number (at + 1) behind) (body_in behind) rest else Ok []) ≡ Ok bodies → AreLowFrom number bodies
by_gate header number at behind rest bodies low false is = subst (AreLowFrom number) (none_read bodies is) tt
by_gate header number at behind rest bodies low true is =
    let parts = unless_fine (stored_fault header number (at + 1) behind) (body_in behind) rest bodies is in
    let first = with_body-inv (body_in behind) rest bodies parts.1 in
    subst (AreLowFrom number) (sym first.2) (body_low header number (body_in behind) (fields_fine header number (at + 1) behind parts.0), low first.0 first.1)

bodies_low : (header : Header) (number at skip : ℕ) (bytes : List ℕ) (bodies : List (List ℕ)) → bodies_from header number at skip bytes ≡ Ok bodies → AreLowFrom number bodies
bodies_low header number at zero [] bodies e = absurd (cc)
bodies_low header number at (suc skip) [] bodies e = absurd (cc)
bodies_low header number at zero (gate ∷ behind) bodies e =
    by_gate header number at behind (bodies_from header (number + 1) (at + 1) (8 + length_in behind) behind) bodies (λ rest is. bodies_low header (number + 1) (at + 1) (8 + length_in behind) behind rest is) (gate == 1) e
bodies_low header number at (suc skip) (byte ∷ bytes) bodies e = bodies_low header number (at + 1) skip bytes bodies e

read_low : (fault : Option StoreFault) (read : Result (List (List ℕ)) StoreFault) → ((bodies : List (List ℕ)) → read ≡ Ok bodies → AreLowFrom 1 bodies) → AreLowFrom 1 (result_unwrap_or (unless_refused fault read) [])
read_low (Some fault) read low = tt
read_low None (Ok bodies) low = low bodies refl
read_low None (Err fault) low = tt

stored_low : (header : Header) (bytes : List ℕ) → AreLowFrom 1 (stored_in header bytes)
stored_low header bytes = read_low (store_header_fault header (take 64 bytes)) (bodies_from header 1 64 0 (drop 64 bytes)) (λ bodies is. bodies_low header 1 64 0 (drop 64 bytes) bodies is)

front_low : (number : ℕ) (front back : List (List ℕ)) → AreLowFrom number (front ++ back) → AreLowFrom number front
front_low number [] back low = tt
front_low number (body ∷ front) back low = (low.0, front_low (number + 1) front back low.1)

-- ---- their orders

put_each : (P : Entry → Type 0) (entry : Entry) (order : List Entry) → P entry → AllByRecursion P order → AllByRecursion P (put_in_order entry order)
put_each P entry [] one all = (one, tt)
put_each P entry (first ∷ order) one all = either (nat_lt (entry_rank entry) (entry_rank first)) (put_each P entry order one all.1)
  where
    either : (before : Bool) → AllByRecursion P (put_in_order entry order) → AllByRecursion P (if before then entry ∷ first ∷ order else first ∷ put_in_order entry order)
    either true rest = (one, all)
    either false rest = (all.0, rest)

with_each : (P : Entry → Type 0) (order entries : List Entry) → AllByRecursion P order → AllByRecursion P entries → AllByRecursion P (with_entries order entries)
with_each P order [] all more = all
with_each P order (entry ∷ entries) all more = with_each P (put_in_order entry order) entries (put_each P entry order more.0 all) more.1

higher : (number high ticket : ℕ) → number ≤ high → ticket < 33554432 * number → ticket < 33554432 * high
higher number high ticket up low = omega arith

behind_low : (number high : ℕ) (bodies : List (List ℕ)) (order : List Entry) → number + length bodies ≤ high + 1 → AllByRecursion (IsLowFor high) order → AreLowFrom number bodies → AllByRecursion (IsLowFor high) (order_behind order bodies)
behind_low number high [] order up low lows = low
behind_low number high (body ∷ bodies) order up low lows =
    behind_low (number + 1) high bodies (with_entries order (body_entries body)) (omega arith)
    (with_each (IsLowFor high) order (body_entries body) low (each-weaker (IsLowFor number) (IsLowFor high) (λ entry less. higher number high (ticket_of entry) (omega arith) less) (body_entries body) lows.0))
    lows.1

order_low : (bodies : List (List ℕ)) → AreLowFrom 1 bodies → AllByRecursion (IsLowFor (length bodies)) (stored_order bodies)
order_low bodies lows = behind_low 1 (length bodies) bodies [] (next (length bodies)) tt lows
  where
    next : (n : ℕ) → 1 + n ≤ n + 1
    next n = omega arith

above_low : (bound : ℕ) (order : List Entry) → AllByRecursion (λ entry. ticket_of entry < bound) order → ticket_above order ≤ bound
above_low bound [] low = zero_low bound
  where
    zero_low : (n : ℕ) → 0 ≤ n
    zero_low n = omega arith
above_low bound (entry ∷ order) low = both (ticket_of entry) (ticket_above order) bound low.0 (above_low bound order low.1)
  where
    both : (t above bound : ℕ) → t < bound → above ≤ bound → max (suc t) above ≤ bound
    both t above bound less low = omega arith

-- the first ticket behind the first snapshots of a store
pub start_low : (header : Header) (bytes : List ℕ) (start added : List (List ℕ)) → stored_in header bytes ≡ start ++ added → ticket_above (stored_order start) ≤ 33554432 * length start
start_low header bytes start added is =
    above_low (33554432 * length start) (stored_order start) (order_low start (front_low 1 start added (subst (AreLowFrom 1) is (stored_low header bytes))))
