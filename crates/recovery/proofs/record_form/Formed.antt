-- A record of all of the graph, with entries in their turn, is in the form of a store.
use Rattle.std.proofs.Common.{◌≡◌, ◌∙◌, ℕ, suc, ◌+◌, ◌*◌, ◌^◌, ◌<◌, ◌≤◌, List, [], ◌∷◌, ◌++◌, None, Option, length, length-append, drop, refl, sym, ap, subst, arith}
use Rattle.std.specs.Prelude.{map}
use Rattle.std.specs.List.{AllByRecursion, flat_map}
use Rattle.std.specs.List.Sorted.{IsNonDecreasingBy}
use Rattle.std.specs.Option.{option_or}
use Rattle.std.proofs.lemmas.Bool.{le-leb, lt-ltb}
use Rattle.std.proofs.lemmas.List.{append-nil, drop-drop}
use Rattle.std.proofs.Math.Seq.{drop-append_seam}
use Rattle.byteorder.specs.Endian.{big_bytes}
use Rattle.byteorder.specs.Numbers.{big_number-reads_back}
use Rattle.gl_base.specs.declared.snapshots.Record.{Record}
use Rattle.gl_base.specs.declared.snapshots.SavedPart.{SavedPart}
use Rattle.seq_run.proofs.EachOf.{all_is, each_is}
use Rattle.store.specs.declared.store_format.header.Header.{Header}
use Rattle.store.specs.store_format.Bodies.{IsBody, body_size, entry_count, number_fault, sections_place}
use Rattle.store.specs.store_format.Encoding.{PartFits, RecordFits, body_bytes, entry_bytes, section_bytes}
use Rattle.store.specs.store_format.Entries.{entries_fault}
use Rattle.store.specs.store_format.Fields.{bad_outside, field}
use Rattle.store.specs.store_format.ReadBack.{NumbersFit}
use Rattle.store.specs.store_format.Sections.{sections_fault}
use Rattle.store.specs.store_format.StoredOrders.{entry_rank}
use Rattle.recovery.proofs.record_form.InTurn.{IsTaken, entries_fine, entries_long, in_turn}
use Rattle.recovery.proofs.record_form.Rows.{AreAll, IsInOrder, edge_keys, sections_fine, sections_long, vertex_keys}

-- ---- the counts fit their fields

as_long : {X : Type 0} (key : X → ℕ) (xs : List X) → length (map key xs) ≡ length xs
as_long key [] = refl
as_long key (x ∷ xs) = ap (λ (n : ℕ). suc n) (as_long key xs)

first_small : (n m all own : ℕ) → all ≡ own + m → own ≡ n → all < 2 ^ 32 → n < 2 ^ 32
first_small n m all own is same low = omega arith

rest_small : (m all own : ℕ) → all ≡ own + m → all < 2 ^ 32 → m < 2 ^ 32
rest_small m all own is low = omega arith

parts_small : (parts : List SavedPart) → length (flat_map vertex_keys parts) < 2 ^ 32 → length (flat_map edge_keys parts) < 2 ^ 32 → AllByRecursion PartFits parts
parts_small [] vertices edges = tt
parts_small (part ∷ parts) vertices edges =
    let v = length-append (vertex_keys part) (flat_map vertex_keys parts) in
    let e = length-append (edge_keys part) (flat_map edge_keys parts) in (
      record {
        vertices = first_small (length part.vertices.items) (length (flat_map vertex_keys parts)) (length (flat_map vertex_keys (part ∷ parts))) (length (vertex_keys part)) v (as_long (λ pair. pair.0.0) part.vertices.items) vertices;
        edges = first_small (length part.edges.items) (length (flat_map edge_keys parts)) (length (flat_map edge_keys (part ∷ parts))) (length (edge_keys part)) e (as_long (λ pair. pair.0.0) part.edges.items) edges;
      },
      parts_small parts (rest_small (length (flat_map vertex_keys parts)) (length (flat_map vertex_keys (part ∷ parts))) (length (vertex_keys part)) v vertices)
          (rest_small (length (flat_map edge_keys parts)) (length (flat_map edge_keys (part ∷ parts))) (length (edge_keys part)) e edges),
    )

all_of : (n limit : ℕ) → n + 0 ≡ limit → n ≡ limit
all_of n limit is = omega arith

passes : (a b : Option ℕ) → a ≡ None → b ≡ None → option_or a b ≡ None
passes a b one other = ap (λ (o : Option ℕ). option_or o b) one ∙ other

module _ (header : Header) (made : Record) (machines : length made.sections.items ≡ header.machines)
    (vertices : AreAll header.n (flat_map vertex_keys made.sections.items) []) (edges : AreAll header.m (flat_map edge_keys made.sections.items) []) where
  v_long : length (flat_map vertex_keys made.sections.items) ≡ header.n
  v_long = all_of (length (flat_map vertex_keys made.sections.items)) header.n vertices.long

  e_long : length (flat_map edge_keys made.sections.items) ≡ header.m
  e_long = all_of (length (flat_map edge_keys made.sections.items)) header.m edges.long

  -- ---- the counts fit their fields

  small_parts : header.n < 2 ^ 32 → header.m < 2 ^ 32 → AllByRecursion PartFits made.sections.items
  small_parts n_low m_low = parts_small made.sections.items (subst (λ (n : ℕ). n < 2 ^ 32) (sym v_long) n_low) (subst (λ (n : ℕ). n < 2 ^ 32) (sym e_long) m_low)

  pub record_fits : length made.entries.items < 2 ^ 32 → header.n < 2 ^ 32 → header.m < 2 ^ 32 → RecordFits made
  record_fits few n_low m_low = record { entries = few; sections = each_is PartFits made.sections.items (small_parts n_low m_low) }

  -- ---- the body

  abbrev body : List ℕ
  body = body_bytes made

  abbrev front : List ℕ
  front = big_bytes 4 made.number ++ big_bytes 4 (length made.entries.items)

  module _ (small : RecordFits made) (fits : NumbersFit made) (number_low : made.number < 4294967295) (order : AllByRecursion IsInOrder made.sections.items)
      (taken : AllByRecursion (IsTaken header made.number) made.entries.items) (turn : IsNonDecreasingBy entry_rank made.entries.items) where
    number_back : field body 0 4 ≡ made.number
    number_back =
        big_number-reads_back 4 made.number (big_bytes 4 (length made.entries.items) ++ (flat_map entry_bytes made.entries.items ++ flat_map section_bytes made.sections.items)) (low made.number number_low)
      where
        low : (n : ℕ) → n < 4294967295 → n < 2 ^ 32
        low n is = omega arith

    count_back : entry_count body ≡ length made.entries.items
    count_back = big_number-reads_back 4 (length made.entries.items) (flat_map entry_bytes made.entries.items ++ flat_map section_bytes made.sections.items) small.entries

    entries_at : drop 8 body ≡ flat_map entry_bytes made.entries.items ++ flat_map section_bytes made.sections.items
    entries_at = refl

    sections_at : drop (8 + 16 * length made.entries.items) body ≡ flat_map section_bytes made.sections.items ++ []
    sections_at =
        sym (drop-drop (16 * length made.entries.items) 8 body)
        ∙ ap (λ (k : ℕ). drop k (flat_map entry_bytes made.entries.items ++ flat_map section_bytes made.sections.items)) (sym (entries_long made.entries.items))
        ∙ drop-append_seam (flat_map entry_bytes made.entries.items) (flat_map section_bytes made.sections.items)
        ∙ sym (append-nil (flat_map section_bytes made.sections.items))

    number_fine : number_fault made.number body ≡ None
    number_fine =
        passes _ _ (ap (λ (k : ℕ). bad_outside made.number (made.number + 1) k 0) number_back ∙ same made.number)
        (rw (le-leb 0 made.number (zero_low made.number), lt-ltb made.number 4294967295 number_low) refl)
      where
        zero_low : (n : ℕ) → 0 ≤ n
        zero_low n = omega arith

        same : (n : ℕ) → bad_outside n (n + 1) n 0 ≡ None
        same n = rw (le-leb n n (omega arith), lt-ltb n (n + 1) (omega arith)) refl

    all_entries_fine : entries_fault header made.number 0 (entry_count body) body 8 ≡ None
    all_entries_fine =
        ap (λ (n : ℕ). entries_fault header made.number 0 n body 8) count_back
        ∙ entries_fine header made.number 0 made.entries.items body (flat_map section_bytes made.sections.items) 8 fits.entries taken (in_turn made.entries.items turn) entries_at

    all_sections_fine : sections_fault header header.machines [] [] body (sections_place body) ≡ None
    all_sections_fine =
        ap (λ (n : ℕ). sections_fault header header.machines [] [] body (8 + 16 * n)) count_back
        ∙ ap (λ (n : ℕ). sections_fault header n [] [] body (8 + 16 * length made.entries.items)) (sym machines)
        ∙ sections_fine header made.sections.items [] [] body [] (8 + 16 * length made.entries.items) (all_is PartFits made.sections.items small.sections) order fits.vertices fits.edges sections_at vertices edges

    sized : (whole first second rest entries parts v e n m machines count number_long : ℕ) → whole ≡ first + rest → first ≡ 8 → rest ≡ second + parts → second ≡ 16 * entries → parts ≡ 8 * machines + 12 * v + 12 * e → v ≡ n → e ≡ m → count ≡ entries →
        whole ≡ 8 + 16 * count + 8 * machines + 12 * n + 12 * m
    sized whole first second rest entries parts v e n m machines count number_long whole_is first_is rest_is second_is parts_is v_is e_is count_is = omega arith

    long_is : length body ≡ body_size header (entry_count body)
    long_is =
        sized (length body) (length front) (length (flat_map entry_bytes made.entries.items)) (length (flat_map entry_bytes made.entries.items ++ flat_map section_bytes made.sections.items)) (length made.entries.items)
        (length (flat_map section_bytes made.sections.items)) (length (flat_map vertex_keys made.sections.items)) (length (flat_map edge_keys made.sections.items)) header.n header.m header.machines (entry_count body) 0
        (length-append front (flat_map entry_bytes made.entries.items ++ flat_map section_bytes made.sections.items)) refl
        (length-append (flat_map entry_bytes made.entries.items) (flat_map section_bytes made.sections.items)) (entries_long made.entries.items)
        (sections_long made.sections.items ∙ ap (λ (n : ℕ). 8 * n + 12 * length (flat_map vertex_keys made.sections.items) + 12 * length (flat_map edge_keys made.sections.items)) machines)
        v_long e_long count_back

    pub is_body : IsBody header made.number body
    is_body = record { size = long_is; fields = passes _ _ number_fine (passes _ _ all_entries_fine all_sections_fine) }
