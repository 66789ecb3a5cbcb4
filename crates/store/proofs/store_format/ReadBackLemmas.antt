-- A record, read again from its bytes.
use Rattle.std.proofs.Common.{◌≡◌, ℕ, suc, ◌+◌, ◌*◌, ◌^◌, ◌<◌, ◌==◌, if◌then◌else◌, List, [], ◌∷◌, ◌++◌, length, drop, slice_index, get_or, refl, sym, ap, ◌∙◌, arith, append_assoc, length-append}
use Rattle.std.specs.Prelude.{All, map}
use Rattle.std.specs.List.{AllByRecursion, flat_map}
use Rattle.std.proofs.lemmas.List.{append-nil, drop-drop, get_or-drop}
use Rattle.std.proofs.Math.Seq.{drop-append_seam}
use Rattle.byteorder.specs.Endian.{big_bytes, big_number}
use Rattle.byteorder.specs.Numbers.{big_number-reads_back}
use Rattle.gl_base.specs.declared.entries.Entry.{Entry}
use Rattle.gl_base.specs.declared.entries.Entry.TheVariants.{Go, Restart}
use Rattle.gl_base.specs.declared.snapshots.Record.{Record}
use Rattle.gl_base.specs.declared.snapshots.SavedPart.{SavedPart}
use Rattle.store.specs.declared.store_format.header.Header.{Header}
use Rattle.store.specs.store_format.Fields.{field}
use Rattle.store.specs.store_format.Entries.{kind_at}
use Rattle.store.specs.store_format.Sections.{row_end}
use Rattle.store.specs.store_format.Bodies.{entry_count, sections_place}
use Rattle.store.specs.store_format.Encoding.{entry_bytes, section_bytes, body_bytes, PartFits, RecordFits}
use Rattle.store.specs.store_format.StoredOrders.{entry_at, entries_from, body_entries}
use Rattle.store.specs.store_format.StoredNumbers.{saved_at, saved_in_row, saved_vertices_from, saved_edges_from, saved_or, vertex_number, edge_number}
use Rattle.store.specs.store_format.ReadBack.{vertex_pair, edge_pair, part_vertices, part_edges, record_vertices, record_edges, EntryFits, PairFits, NumbersFit}

-- from a place on stand these bytes: a field among them, and what stands behind a piece of them
field_there : (bytes more : List ℕ) (at i n : ℕ) → drop at bytes ≡ more → field bytes (at + i) n ≡ field more i n
field_there bytes more at i n here = ap (big_number n) (sym (drop-drop i at bytes)) ∙ ap (λ (l : List ℕ). big_number n (drop i l)) here

skip_piece : (bytes piece more : List ℕ) (at size : ℕ) → length piece ≡ size → drop at bytes ≡ piece ++ more → drop (at + size) bytes ≡ more
skip_piece bytes piece more at size long here =
    sym (drop-drop size at bytes) ∙ ap (drop size) here ∙ ap (λ (k : ℕ). drop k (piece ++ more)) (sym long) ∙ drop-append_seam piece more

kind_there : (bytes more : List ℕ) (at : ℕ) → drop at bytes ≡ more → kind_at bytes at ≡ slice_index more 0
kind_there bytes more at here =
    let place : at ≡ at + 0 = omega arith in
    ap (λ (k : ℕ). get_or bytes k 0) place ∙ sym (get_or-drop at bytes 0 0) ∙ ap (λ (l : List ℕ). get_or l 0 0) here

-- the entry at this place, by what stands from there on
entry_there : (bytes more : List ℕ) (at : ℕ) → drop at bytes ≡ more
    → entry_at bytes at ≡ (if slice_index more 0 == 1 then Go (record { 0 = field more 2 2 }) (record { 0 = field more 4 4 }) (field more 8 8) else Restart (field more 8 8))
entry_there bytes more at here =
    ap (λ (kind : ℕ). if kind == 1 then Go (record { 0 = field bytes (at + 2) 2 }) (record { 0 = field bytes (at + 4) 4 }) (field bytes (at + 8) 8) else Restart (field bytes (at + 8) 8)) (kind_there bytes more at here)
    ∙ ap (λ (k : ℕ). if slice_index more 0 == 1 then Go (record { 0 = k }) (record { 0 = field bytes (at + 4) 4 }) (field bytes (at + 8) 8) else Restart (field bytes (at + 8) 8)) (field_there bytes more at 2 2 here)
    ∙ ap (λ (k : ℕ). if slice_index more 0 == 1 then Go (record { 0 = field more 2 2 }) (record { 0 = k }) (field bytes (at + 8) 8) else Restart (field bytes (at + 8) 8)) (field_there bytes more at 4 4 here)
    ∙ ap (λ (k : ℕ). if slice_index more 0 == 1 then Go (record { 0 = field more 2 2 }) (record { 0 = field more 4 4 }) k else Restart k) (field_there bytes more at 8 8 here)

entry_back : (entry : Entry) (bytes more : List ℕ) (at : ℕ) → EntryFits entry → drop at bytes ≡ entry_bytes entry ++ more → entry_at bytes at ≡ entry
entry_back (Go machine vertex ticket) bytes more at fits here =
    let whole = entry_bytes (Go machine vertex ticket) ++ more in
    let m : field whole 2 2 ≡ machine.0 = big_number-reads_back 2 machine.0 ((big_bytes 4 vertex.0 ++ big_bytes 8 ticket) ++ more) fits.0 in
    let v : field whole 4 4 ≡ vertex.0 = big_number-reads_back 4 vertex.0 (big_bytes 8 ticket ++ more) fits.1 in
    let t : field whole 8 8 ≡ ticket = big_number-reads_back 8 ticket more fits.2 in
    entry_there bytes whole at here
    ∙ ap (λ (k : ℕ). Go (record { 0 = k }) (record { 0 = field whole 4 4 }) (field whole 8 8)) m
    ∙ ap (λ (k : ℕ). Go machine (record { 0 = k }) (field whole 8 8)) v
    ∙ ap (Go machine vertex) t
entry_back (Restart ticket) bytes more at fits here =
    entry_there bytes (entry_bytes (Restart ticket) ++ more) at here ∙ ap Restart (big_number-reads_back 8 ticket more fits)

length-entry_bytes : (entry : Entry) → length (entry_bytes entry) ≡ 16
length-entry_bytes (Go machine vertex ticket) = refl
length-entry_bytes (Restart ticket) = refl

length-entries : (entries : List Entry) → length (flat_map entry_bytes entries) ≡ 16 * length entries
length-entries [] = refl
length-entries (entry ∷ entries) = omega (arith, length-append (entry_bytes entry) (flat_map entry_bytes entries), length-entry_bytes entry, length-entries entries)

entries_back : (entries : List Entry) (bytes more : List ℕ) (at : ℕ) → AllByRecursion EntryFits entries → drop at bytes ≡ flat_map entry_bytes entries ++ more → entries_from (length entries) bytes at ≡ entries
entries_back [] bytes more at fits here = refl
entries_back (entry ∷ entries) bytes more at fits here =
    let split : drop at bytes ≡ entry_bytes entry ++ (flat_map entry_bytes entries ++ more) = here ∙ append_assoc (entry_bytes entry) (flat_map entry_bytes entries) more in
    let behind = skip_piece bytes (entry_bytes entry) (flat_map entry_bytes entries ++ more) at 16 (length-entry_bytes entry) split in
    ap (λ (e : Entry). e ∷ entries_from (length entries) bytes (at + 16)) (entry_back entry bytes (flat_map entry_bytes entries ++ more) at fits.0 split)
    ∙ ap (λ (l : List Entry). entry ∷ l) (entries_back entries bytes more (at + 16) fits.1 behind)

-- entries and sections of a body, by its bytes
count_back : (next : Record) → RecordFits next → entry_count (body_bytes next) ≡ length next.entries.items
count_back next small = big_number-reads_back 4 (length next.entries.items) (flat_map entry_bytes next.entries.items ++ flat_map section_bytes next.sections.items) small.entries

entries_there : (next : Record) → drop 8 (body_bytes next) ≡ flat_map entry_bytes next.entries.items ++ flat_map section_bytes next.sections.items
entries_there next = refl

pub entries_of_record : (next : Record) → RecordFits next → NumbersFit next → body_entries (body_bytes next) ≡ next.entries.items
entries_of_record next small fits =
    ap (λ (n : ℕ). entries_from n (body_bytes next) 8) (count_back next small)
    ∙ entries_back next.entries.items (body_bytes next) (flat_map section_bytes next.sections.items) 8 fits.entries (entries_there next)

sections_there : (next : Record) → RecordFits next → drop (sections_place (body_bytes next)) (body_bytes next) ≡ flat_map section_bytes next.sections.items
sections_there next small =
    ap (λ (n : ℕ). drop (8 + 16 * n) (body_bytes next)) (count_back next small)
    ∙ skip_piece (body_bytes next) (flat_map entry_bytes next.entries.items) (flat_map section_bytes next.sections.items) 8 (16 * length next.entries.items) (length-entries next.entries.items) (entries_there next)

module _ {X : Type 0} (pair : X → ℕ × ℕ) where
  -- the bytes of a key and its number, and of a row
  abbrev pub pair_bytes : X → List ℕ
  pair_bytes x = big_bytes 4 (pair x).0 ++ big_bytes 8 (pair x).1

  abbrev pub row_bytes : List X → List ℕ
  row_bytes xs = big_bytes 4 (length xs) ++ flat_map pair_bytes xs

  length-pairs : (xs : List X) → length (flat_map pair_bytes xs) ≡ 12 * length xs
  length-pairs [] = refl
  length-pairs (x ∷ xs) =
      let one : length (pair_bytes x) ≡ 12 = refl in
      omega (arith, length-append (pair_bytes x) (flat_map pair_bytes xs), one, length-pairs xs)

  saved_back : (xs : List X) (bytes more : List ℕ) (at : ℕ) → AllByRecursion PairFits (map pair xs) → drop at bytes ≡ flat_map pair_bytes xs ++ more → saved_at (length xs) bytes at ≡ map pair xs
  saved_back [] bytes more at fits here = refl
  saved_back (x ∷ xs) bytes more at fits here =
      let rest = flat_map pair_bytes xs ++ more in
      let split : drop at bytes ≡ pair_bytes x ++ rest = here ∙ append_assoc (pair_bytes x) (flat_map pair_bytes xs) more in
      let key : field bytes at 4 ≡ (pair x).0 = ap (big_number 4) split ∙ big_number-reads_back 4 (pair x).0 (big_bytes 8 (pair x).1 ++ rest) fits.0.0 in
      let number : field bytes (at + 4) 8 ≡ (pair x).1 = field_there bytes (pair_bytes x ++ rest) at 4 8 split ∙ big_number-reads_back 8 (pair x).1 rest fits.0.1 in
      let behind = skip_piece bytes (pair_bytes x) rest at 12 refl split in
      ap (λ (k : ℕ). (k, field bytes (at + 4) 8) ∷ saved_at (length xs) bytes (at + 12)) key
      ∙ ap (λ (k : ℕ). ((pair x).0, k) ∷ saved_at (length xs) bytes (at + 12)) number
      ∙ ap (λ (l : List (ℕ × ℕ)). ((pair x).0, (pair x).1) ∷ l) (saved_back xs bytes more (at + 12) fits.1 behind)

  row_count : (xs : List X) (bytes more : List ℕ) (at : ℕ) → length xs < 2 ^ 32 → drop at bytes ≡ row_bytes xs ++ more → field bytes at 4 ≡ length xs
  row_count xs bytes more at small here = ap (big_number 4) here ∙ big_number-reads_back 4 (length xs) (flat_map pair_bytes xs ++ more) small

  -- a row, and what stands behind it
  pub row_back : (xs : List X) (bytes more : List ℕ) (at : ℕ) → length xs < 2 ^ 32 → AllByRecursion PairFits (map pair xs) → drop at bytes ≡ row_bytes xs ++ more → saved_in_row bytes at ≡ map pair xs
  row_back xs bytes more at small fits here =
      let behind : drop (at + 4) bytes ≡ flat_map pair_bytes xs ++ more = skip_piece bytes (big_bytes 4 (length xs)) (flat_map pair_bytes xs ++ more) at 4 refl here in
      ap (λ (k : ℕ). saved_at k bytes (at + 4)) (row_count xs bytes more at small here) ∙ saved_back xs bytes more (at + 4) fits behind

  pub row_behind : (xs : List X) (bytes more : List ℕ) (at : ℕ) → length xs < 2 ^ 32 → drop at bytes ≡ row_bytes xs ++ more → drop (row_end bytes at) bytes ≡ more
  row_behind xs bytes more at small here =
      ap (λ (k : ℕ). drop (at + (4 + 12 * k)) bytes) (row_count xs bytes more at small here)
      ∙ skip_piece bytes (row_bytes xs) more at (4 + 12 * length xs) (omega (arith, length-append (big_bytes 4 (length xs)) (flat_map pair_bytes xs), length-pairs xs)) here

fits_front : (front back : List (ℕ × ℕ)) → AllByRecursion PairFits (front ++ back) → AllByRecursion PairFits front
fits_front [] back fits = tt
fits_front (pair ∷ front) back fits = (fits.0, fits_front front back fits.1)

fits_back : (front back : List (ℕ × ℕ)) → AllByRecursion PairFits (front ++ back) → AllByRecursion PairFits back
fits_back [] back fits = fits
fits_back (pair ∷ front) back fits = fits_back front back fits.1

-- the next of the sections, split at its rows
section_split : (part : SavedPart) (sections : List SavedPart) (bytes more : List ℕ) (at : ℕ) → drop at bytes ≡ flat_map section_bytes (part ∷ sections) ++ more
    → drop at bytes ≡ row_bytes vertex_pair part.vertices.items ++ (row_bytes edge_pair part.edges.items ++ (flat_map section_bytes sections ++ more))
section_split part sections bytes more at here =
    let vertices = row_bytes vertex_pair part.vertices.items in
    let edges = row_bytes edge_pair part.edges.items in
    here ∙ append_assoc (vertices ++ edges) (flat_map section_bytes sections) more ∙ append_assoc vertices edges (flat_map section_bytes sections ++ more)

vertices_back : (sections : List SavedPart) (bytes more : List ℕ) (at : ℕ) → All PartFits sections → AllByRecursion PairFits (flat_map part_vertices sections) → drop at bytes ≡ flat_map section_bytes sections ++ more
    → saved_vertices_from (length sections) bytes at ≡ flat_map part_vertices sections
vertices_back [] bytes more at small fits here = refl
vertices_back (part ∷ sections) bytes more at small fits here =
    let own : PartFits part = small 0 part (omega arith) in
    let edges = row_bytes edge_pair part.edges.items in
    let rest = flat_map section_bytes sections ++ more in
    let split = section_split part sections bytes more at here in
    let middle = row_behind vertex_pair part.vertices.items bytes (edges ++ rest) at own.vertices split in
    let behind = row_behind edge_pair part.edges.items bytes rest (row_end bytes at) own.edges middle in
    ap (λ (l : List (ℕ × ℕ)). l ++ saved_vertices_from (length sections) bytes (row_end bytes (row_end bytes at)))
    (row_back vertex_pair part.vertices.items bytes (edges ++ rest) at own.vertices (fits_front (part_vertices part) (flat_map part_vertices sections) fits) split)
    ∙ ap (λ (l : List (ℕ × ℕ)). part_vertices part ++ l)
    (vertices_back sections bytes more (row_end bytes (row_end bytes at)) (λ k d inside. small (suc k) d (omega arith)) (fits_back (part_vertices part) (flat_map part_vertices sections) fits) behind)

edges_back : (sections : List SavedPart) (bytes more : List ℕ) (at : ℕ) → All PartFits sections → AllByRecursion PairFits (flat_map part_edges sections) → drop at bytes ≡ flat_map section_bytes sections ++ more
    → saved_edges_from (length sections) bytes at ≡ flat_map part_edges sections
edges_back [] bytes more at small fits here = refl
edges_back (part ∷ sections) bytes more at small fits here =
    let own : PartFits part = small 0 part (omega arith) in
    let edges = row_bytes edge_pair part.edges.items in
    let rest = flat_map section_bytes sections ++ more in
    let split = section_split part sections bytes more at here in
    let middle = row_behind vertex_pair part.vertices.items bytes (edges ++ rest) at own.vertices split in
    let behind = row_behind edge_pair part.edges.items bytes rest (row_end bytes at) own.edges middle in
    ap (λ (l : List (ℕ × ℕ)). l ++ saved_edges_from (length sections) bytes (row_end bytes (row_end bytes at)))
    (row_back edge_pair part.edges.items bytes rest (row_end bytes at) own.edges (fits_front (part_edges part) (flat_map part_edges sections) fits) middle)
    ∙ ap (λ (l : List (ℕ × ℕ)). part_edges part ++ l)
    (edges_back sections bytes more (row_end bytes (row_end bytes at)) (λ k d inside. small (suc k) d (omega arith)) (fits_back (part_edges part) (flat_map part_edges sections) fits) behind)

all_there : (next : Record) → RecordFits next → drop (sections_place (body_bytes next)) (body_bytes next) ≡ flat_map section_bytes next.sections.items ++ []
all_there next small = sections_there next small ∙ sym (append-nil (flat_map section_bytes next.sections.items))

pub vertices_of_record : (header : Header) (next : Record) (v : ℕ) → RecordFits next → NumbersFit next → length next.sections.items ≡ header.machines → vertex_number header (body_bytes next) v ≡ saved_or 0 (record_vertices next) v
vertices_of_record header next v small fits machines =
    let body = body_bytes next in
    ap (λ (n : ℕ). saved_or 0 (saved_vertices_from n body (sections_place body)) v) (sym machines)
    ∙ ap (λ (l : List (ℕ × ℕ)). saved_or 0 l v) (vertices_back next.sections.items body [] (sections_place body) small.sections fits.vertices (all_there next small))

pub edges_of_record : (header : Header) (next : Record) (e : ℕ) → RecordFits next → NumbersFit next → length next.sections.items ≡ header.machines → edge_number header (body_bytes next) e ≡ saved_or 0 (record_edges next) e
edges_of_record header next e small fits machines =
    let body = body_bytes next in
    ap (λ (n : ℕ). saved_or 0 (saved_edges_from n body (sections_place body)) e) (sym machines)
    ∙ ap (λ (l : List (ℕ × ℕ)). saved_or 0 l e) (edges_back next.sections.items body [] (sections_place body) small.sections fits.edges (all_there next small))
