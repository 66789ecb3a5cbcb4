-- How far a store was read.
use Rattle.std.proofs.Common.{◌≡◌, ◌≢◌, ℕ, ◌+◌, ◌≤◌, List, [], ◌∷◌, ◌++◌, length, take, drop, Option, None, Some, Result, Ok, Err, refl, sym, ap, ◌∙◌, subst, arith, length-append}
use Rattle.std.specs.Prelude.{IsTrue, is_ok, IfOk, Bool, true, false}
use Rattle.std.proofs.lemmas.List.Concat.{flat_map-append}
use Rattle.gl_base.specs.declared.entries.Entry.{Entry}
use Rattle.gl_base.specs.declared.snapshots.Base.{Base}
use Rattle.std.proofs.lemmas.List.{append-nil}
use Rattle.store.specs.declared.store_format.header.Header.{Header}
use Rattle.store.specs.declared.store_format.faults.StoreFault.{StoreFault}
use Rattle.store.specs.store_format.Headers.{store_header_fault}
use Rattle.store.specs.store_format.Records.{bodies_from, with_body}
use Rattle.store.specs.store_format.Stores.{unless_refused, read_store, records_size, stored_in}
use Rattle.store.specs.store_format.StoredOrders.{body_entries}
use Rattle.store.specs.store_format.StoredNumbers.{AreNumbersOf}
use Rattle.store.proofs.store_format.ReadLemmas.{prepend, prepend-Ok}
use Rattle.store.proofs.store_format.StoreLemmas.{ok_from, stored_are}
use Rattle.store.specs.declared.snap_journal.faults.JournalFault.{JournalFault}
use Rattle.store.specs.declared.snap_journal.faults.JournalFault.TheVariants.{DiskFault, BadStore, Full, Failed, NoMemory}
use Rattle.store.specs.snap_journal.Inner.Reads.{IsNextBody, NextBodyErrorCause}
use Rattle.store.specs.snap_journal.Inner.Found.{IsFound, IsFoundBase, entries_kept, is_disk_fault}
use Rattle.store.specs.snap_journal.Inner.Settled.{IsSettled, KnowsDisk}
use Rattle.store.specs.snap_journal.Disks.{DiskPast}
use Rattle.store.specs.snap_journal.Last.{last_body_or, last_body, IsLast, LastErrorCause}
use Rattle.store.specs.snap_journal.Answers.{OpenErrorCause}
use Rattle.store.proofs.snap_journal.AppendLemmas.{rose_after}

-- so many records were read, with these entries and this last body, and the next gate stands at this place
pub record ReadSoFar (header : Header) (seen : List ℕ) (count gate : ℕ) (keep : Bool) (entries : List Entry) (last : List ℕ) : Type 0 where
  pub bodies : List (List ℕ)
  pub rest : read_store header seen ≡ prepend bodies (bodies_from header (count + 1) gate 0 (drop gate seen))
  pub counts : count ≡ length bodies
  pub place : gate ≡ 64 + records_size bodies
  pub entries_are : entries ≡ entries_kept keep bodies
  pub last_is : last ≡ last_body bodies

none_kept : (keep : Bool) → [] ≡ entries_kept keep []
none_kept true = refl
none_kept false = refl

kept-append : (keep : Bool) (bodies : List (List ℕ)) (body : List ℕ) → entries_kept keep bodies ++ entries_kept keep (body ∷ []) ≡ entries_kept keep (bodies ++ body ∷ [])
kept-append true bodies body = sym (flat_map-append body_entries bodies (body ∷ []))
kept-append false bodies body = refl

last_body-append : (first : List ℕ) (bodies : List (List ℕ)) (body : List ℕ) → last_body_or first (bodies ++ body ∷ []) ≡ body
last_body-append first [] body = refl
last_body-append first (later ∷ bodies) body = last_body-append later bodies body

-- none were
pub read_none : (header : Header) (seen : List ℕ) (keep : Bool) → store_header_fault header (take 64 seen) ≡ None → ReadSoFar header seen 0 64 keep [] []
read_none header seen keep none = record {
  bodies = [];
  rest = ap (λ (o : Option StoreFault). unless_refused o (bodies_from header 1 64 0 (drop 64 seen))) none;
  counts = refl;
  place = refl;
  entries_are = none_kept keep;
  last_is = refl;
}

pub refused_header : (header : Header) (seen : List ℕ) (fault : StoreFault) → store_header_fault header (take 64 seen) ≡ Some fault → read_store header seen ≡ Err fault
refused_header header seen fault bad = ap (λ (o : Option StoreFault). unless_refused o (bodies_from header 1 64 0 (drop 64 seen))) bad

prepend-one : (bodies : List (List ℕ)) (body : List ℕ) (more : Result (List (List ℕ)) StoreFault) → prepend bodies (with_body body more) ≡ prepend (bodies ++ body ∷ []) more
prepend-one [] body more = refl
prepend-one (first ∷ bodies) body more = ap (with_body first) (prepend-one bodies body more)

prepend-Err : (bodies : List (List ℕ)) (fault : StoreFault) → prepend bodies (Err fault) ≡ Err fault
prepend-Err [] fault = refl
prepend-Err (body ∷ bodies) fault = ap (with_body body) (prepend-Err bodies fault)

size_one : (bodies : List (List ℕ)) (body : List ℕ) → records_size (bodies ++ body ∷ []) ≡ records_size bodies + (9 + length body)
size_one [] body = omega arith
size_one (first ∷ bodies) body =
    let rest = size_one bodies body in
    let a : records_size (first ∷ (bodies ++ body ∷ [])) ≡ 9 + length first + records_size (bodies ++ body ∷ []) = refl in
    let b : records_size (first ∷ bodies) ≡ 9 + length first + records_size bodies = refl in
    omega arith

module _ (header : Header) (seen : List ℕ) (count gate : ℕ) (keep : Bool) (entries : List Entry) (last : List ℕ) (so_far : ReadSoFar header seen count gate keep entries last) where
  -- a record more
  pub read_more : (more : List Entry) (body : List ℕ) → IsNextBody header (count + 1) gate seen body true → more ≡ entries ++ entries_kept keep (body ∷ [])
      → ReadSoFar header seen (count + 1) (gate + (9 + length body)) keep more body
  read_more more body next added = record {
    bodies = so_far.bodies ++ body ∷ [];
    rest = so_far.rest ∙ ap (prepend so_far.bodies) next ∙ prepend-one so_far.bodies body (bodies_from header (count + 1 + 1) (gate + (9 + length body)) 0 (drop (gate + (9 + length body)) seen));
    counts = omega (arith, so_far.counts, length-append so_far.bodies (body ∷ []));
    place = omega (arith, so_far.place, size_one so_far.bodies body);
    entries_are = added ∙ ap (λ (l : List Entry). l ++ entries_kept keep (body ∷ [])) so_far.entries_are ∙ kept-append keep so_far.bodies body;
    last_is = sym (last_body-append [] so_far.bodies body);
  }

  -- the first gate that isn't open
  pub read_all : bodies_from header (count + 1) gate 0 (drop gate seen) ≡ Ok [] → IsFound header seen count gate
  read_all ends =
      let stands : read_store header seen ≡ Ok so_far.bodies = so_far.rest ∙ ap (prepend so_far.bodies) ends ∙ prepend-Ok so_far.bodies [] ∙ ap (λ (l : List (List ℕ)). Ok l) (append-nil so_far.bodies) in
      let stored = stored_are header seen so_far.bodies stands in
      record {
        reads = ok_from header seen so_far.bodies stands;
        counts = so_far.counts ∙ ap (length {A = List ℕ}) (sym stored);
        place = so_far.place ∙ ap (λ (l : List (List ℕ)). 64 + records_size l) (sym stored);
      }

  -- what was kept then is that of all records
  pub stored_so_far : bodies_from header (count + 1) gate 0 (drop gate seen) ≡ Ok [] → so_far.bodies ≡ stored_in header seen
  stored_so_far ends =
      let stands : read_store header seen ≡ Ok so_far.bodies = so_far.rest ∙ ap (prepend so_far.bodies) ends ∙ prepend-Ok so_far.bodies [] ∙ ap (λ (l : List (List ℕ)). Ok l) (append-nil so_far.bodies) in
      sym (stored_are header seen so_far.bodies stands)

  pub entries_all : bodies_from header (count + 1) gate 0 (drop gate seen) ≡ Ok [] → entries ≡ entries_kept keep (stored_in header seen)
  entries_all ends = so_far.entries_are ∙ ap (entries_kept keep) (stored_so_far ends)

  pub last_of_all : bodies_from header (count + 1) gate 0 (drop gate seen) ≡ Ok [] → last ≡ last_body (stored_in header seen)
  last_of_all ends = so_far.last_is ∙ ap last_body (stored_so_far ends)

  -- a fault is the first
  pub read_fault : (fault : StoreFault) → bodies_from header (count + 1) gate 0 (drop gate seen) ≡ Err fault → read_store header seen ≡ Err fault
  read_fault fault bad = so_far.rest ∙ ap (prepend so_far.bodies) bad ∙ prepend-Err so_far.bodies fault

-- what stands at a gate, by what was told of it
pub ends_here : (header : Header) (number gate : ℕ) (seen here body : List ℕ) (more : Bool) → here ≡ seen → IsNextBody header number gate here body more → more ≡ false → bodies_from header number gate 0 (drop gate seen) ≡ Ok []
ends_here header number gate seen here body more same next closed =
    subst (λ (l : List ℕ). bodies_from header number gate 0 (drop gate l) ≡ Ok []) same (subst (IsNextBody header number gate here body) closed next)

pub goes_on_here : (header : Header) (number gate : ℕ) (seen here body : List ℕ) (more : Bool) → here ≡ seen → IsNextBody header number gate here body more → more ≡ true → IsNextBody header number gate seen body true
goes_on_here header number gate seen here body more same next opened =
    subst (λ (l : List ℕ). IsNextBody header number gate l body true) same (subst (IsNextBody header number gate here body) opened next)

-- why it was not read on is why it was not opened
pub why_not_opened : (told : Type 0) (header : Header) (seen here : List ℕ) (count gate before mid now : ℕ) (keep : Bool) (entries : List Entry) (last : List ℕ) (fault : JournalFault) → (told → here ≡ seen) → (told → ReadSoFar header seen count gate keep entries last) → before ≤ mid → NextBodyErrorCause told header (count + 1) gate here mid now fault → OpenErrorCause told header seen before now fault
why_not_opened told header seen here count gate before mid now keep entries last DiskFault same so_far le why = rose_after before mid now le why
why_not_opened told header seen here count gate before mid now keep entries last (BadStore fault) same so_far le why = λ is. read_fault header seen count gate keep entries last (so_far is) fault (ap (λ (l : List ℕ). bodies_from header (count + 1) gate 0 (drop gate l)) (sym (same is)) ∙ why is)
why_not_opened told header seen here count gate before mid now keep entries last (Full stored bytes) same so_far le why = absurd why
why_not_opened told header seen here count gate before mid now keep entries last Failed same so_far le why = absurd why
why_not_opened told header seen here count gate before mid now keep entries last NoMemory same so_far le why = tt

-- the same, of a call before which the disk was synced
pub why_through : (told : Type 0) (header : Header) (old_seen mid_seen : List ℕ) (before mid now : ℕ) (fault : JournalFault) → (told → mid_seen ≡ old_seen) → before ≤ mid → OpenErrorCause told header mid_seen mid now fault → OpenErrorCause told header old_seen before now fault
why_through told header old_seen mid_seen before mid now DiskFault same le why = rose_after before mid now le why
why_through told header old_seen mid_seen before mid now (BadStore fault) same le why = λ is. subst (λ (l : List ℕ). read_store header l ≡ Err fault) (same is) (why is)
why_through told header old_seen mid_seen before mid now (Full stored bytes) same le why = absurd why
why_through told header old_seen mid_seen before mid now Failed same le why = absurd why
why_through told header old_seen mid_seen before mid now NoMemory same le why = tt

pub if_ok_always : {T E : Type 0} (result : Result T E) (P : T → Type 0) → ((x : T) → P x) → IfOk result P
if_ok_always (Ok x) P always = always x
if_ok_always (Err e) P always = tt

-- the base that ends what was found is the last snapshot
pub last_found : (header : Header) (seen : List ℕ) (count gate : ℕ) (entries : List Entry) (body : List ℕ) (base : Base) → IsFound header seen count gate → entries ≡ entries_kept true (stored_in header seen)
    → body ≡ last_body (stored_in header seen) → count ≢ 0 → IsFoundBase header count gate entries body base → IsLast header (stored_in header seen) (Some base)
last_found header seen count gate entries body base found entries_are body_is some is =
    let counts = found.counts in
    let place = found.place in
    let long = is.length in (
      omega arith,
      record {
        number = is.number ∙ counts;
        order = is.order (stored_in header seen) entries_are;
        numbers = subst (λ (l : List ℕ). AreNumbersOf header l base.values.items base.edges.items) body_is is.numbers;
        length = omega arith;
      },
    )

-- why no last snapshot was read from a disk that a journal knew
pub why_no_last : (told : Type 0) (header : Header) (seen : List ℕ) (before now : ℕ) (fault : JournalFault) → (told → IsTrue (is_ok (read_store header seen))) → OpenErrorCause told header seen before now fault → LastErrorCause told false (is_disk_fault fault) before now fault
why_no_last told header seen before now DiskFault reads why = (refl, refl, why)
why_no_last told header seen before now (BadStore fault) reads why = (λ is. not_both (read_store header seen) fault (reads is) (why is), refl, refl)
  where
    not_both : (read : Result (List (List ℕ)) StoreFault) (fault : StoreFault) → IsTrue (is_ok read) → read ≡ Err fault → ⊥
    not_both (Ok bodies) fault ok bad = cc
    not_both (Err other) fault ok bad = cc
why_no_last told header seen before now (Full stored bytes) reads why = absurd why
why_no_last told header seen before now Failed reads why = absurd why
why_no_last told header seen before now NoMemory reads why = (refl, refl)

-- a journal knows its disk as long as no call changes it, and says nothing once it has failed
pub knows_still : (told : Type 0) (header : Header) (count gate : ℕ) (old new : Bool) (was now : DiskPast) → old ≡ false → (told → now ≡ was) → KnowsDisk told header count gate old was → KnowsDisk told header count gate new now
knows_still told header count gate old new was now well same knows = record {
  within = knows.within;
  settled = λ is ok. subst (IsSettled header count gate) (sym (same is)) (knows.settled is well);
}
