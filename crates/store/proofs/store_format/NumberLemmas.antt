-- The numbers in the sections of a body that has no fault.
use Rattle.std.proofs.Common.{◌≡◌, ◌≢◌, inl, inr, ℕ, suc, ◌+◌, ◌-◌, ◌*◌, ◌<◌, ◌≤◌, ◌==◌, if◌then◌else◌, Bool, true, false, List, [], ◌∷◌, ◌++◌, length, take, drop, get_or, slice_index, Option, None, Some, refl, sym, ap, ◌∙◌, subst, arith, get_or-set_same, get_or-set_other}
use Rattle.std.specs.Prelude.{◌&&◌, nat_le, nat_lt, slice_set}
use Rattle.std.specs.Option.{option_or}
use Rattle.std.proofs.lemmas.Bool.{cases_eq, eq-eqb, ne_eqb, ltb-true}
use Rattle.std.proofs.lemmas.List.{append-nil, drop_all, take_all}
use Rattle.store.specs.declared.store_format.header.Header.{Header}
use Rattle.store.specs.store_format.Fields.{field, bad_outside}
use Rattle.store.specs.store_format.Sections.{keys_fault, row_end, row_taken, row_fault, sections_fault}
use Rattle.store.specs.store_format.Entries.{entries_fault}
use Rattle.store.specs.store_format.Bodies.{IsBody, HasSections, entry_count, number_fault, sections_place}
use Rattle.store.specs.store_format.StoredNumbers.{saved_at, saved_in_row, saved_vertices_from, saved_edges_from, saved_or}
use Rattle.store.proofs.store_format.KeyLemmas.{length-keys_taken}

pub both_none : (a b : Option ℕ) → option_or a b ≡ None → (a ≡ None) × (b ≡ None)
both_none None b e = (refl, e)
both_none (Some place) b e = absurd (cc)

within : (least limit number place : ℕ) → bad_outside least limit number place ≡ None → number < limit
within least limit number place none = below (nat_le least number) (nat_lt number limit) refl none
  where
    below : (low high : Bool) → nat_lt number limit ≡ high → (if low && high then None else Some place) ≡ None → number < limit
    below low true is e = ltb-true number limit is
    below true false is e = absurd (cc)
    below false false is e = absurd (cc)

-- a row has no more keys than are left
row_fits : (limit : ℕ) (taken : List ℕ) (more : ℕ) (body : List ℕ) (at : ℕ) → row_fault limit taken more body at ≡ None → field body at 4 < limit - length taken + 1
row_fits limit taken more body at none =
    within (if more == 0 then limit - length taken else 0) (limit - length taken + 1) (field body at 4) at
    (both_none (bad_outside (if more == 0 then limit - length taken else 0) (limit - length taken + 1) (field body at 4) at) (keys_fault limit taken 0 (field body at 4) body (at + 4)) none).0

-- a whole vector that was lent as a slice
pub numbers_back : (part items : List ℕ) (len : ℕ) → length part ≡ length items → len ≡ length items → take len (part ++ drop (length part) items) ≡ part
numbers_back part items len same is =
    let none : length items ≤ length part = omega arith in
    let all : length part ≤ len = omega arith in
    ap (λ (l : List ℕ). take len (part ++ l)) (drop_all (length part) items none)
    ∙ ap (take len) (append-nil part) ∙ take_all len part all

-- a body in form has sections that are right
pub body_sections : (header : Header) (number : ℕ) (body : List ℕ) → IsBody header number body → HasSections header body
body_sections header number body is =
    let sections = sections_fault header header.machines [] [] body (sections_place body) in
    let entries = entries_fault header number 0 (entry_count body) body 8 in
    record { size = is.size; rows = (both_none entries sections (both_none (number_fault number body) (option_or entries sections) is.fields).1).1 }

-- so many sections from this place on have no fault, and hold the keys that are left
pub record AreLeft (header : Header) (body : List ℕ) (more at : ℕ) : Type 0 where
  pub vertices : List ℕ
  pub edges : List ℕ
  pub rows : sections_fault header more vertices edges body at ≡ None
  pub vertices_fit : length vertices ≤ header.n
  pub edges_fit : length edges ≤ header.m
  pub room : at + (8 * more + 12 * (header.n - length vertices) + 12 * (header.m - length edges)) ≡ length body

pub all_left : (header : Header) (body : List ℕ) → HasSections header body → AreLeft header body header.machines (sections_place body)
all_left header body has =
    let size = has.size in
    record { vertices = []; edges = []; rows = has.rows; vertices_fit = omega arith; edges_fit = omega arith; room = omega arith }

-- the next section is there, and the others stand behind it
pub record IsNextSection (header : Header) (body : List ℕ) (more at : ℕ) : Type 0 where
  pub vertices_room : row_end body at + 4 ≤ length body
  pub edges_room : row_end body (row_end body at) ≤ length body
  pub left : AreLeft header body more (row_end body (row_end body at))

pub next_section : (header : Header) (body : List ℕ) (more at : ℕ) → AreLeft header body (suc more) at → IsNextSection header body more at
next_section header body more at left =
    let vertices = left.vertices in
    let edges = left.edges in
    let middle = row_end body at in
    let rest = sections_fault header more (row_taken body at vertices) (row_taken body middle edges) body (row_end body middle) in
    let outer = both_none (row_fault header.n vertices more body at) (option_or (row_fault header.m edges more body middle) rest) left.rows in
    let inner = both_none (row_fault header.m edges more body middle) rest outer.1 in
    let vertex_count = row_fits header.n vertices more body at outer.0 in
    let edge_count = row_fits header.m edges more body middle inner.0 in
    let n_fits = left.vertices_fit in
    let m_fits = left.edges_fit in
    let room = left.room in
    let n_taken = length-keys_taken (field body at 4) body (at + 4) vertices in
    let m_taken = length-keys_taken (field body middle 4) body (middle + 4) edges in
    record {
      vertices_room = omega (arith, vertex_count, n_fits, m_fits, room);
      edges_room = omega (arith, vertex_count, edge_count, n_fits, m_fits, room);
      left = record {
        vertices = row_taken body at vertices;
        edges = row_taken body middle edges;
        rows = inner.1;
        vertices_fit = omega (arith, vertex_count, n_fits, n_taken);
        edges_fit = omega (arith, edge_count, m_fits, m_taken);
        room = omega (arith, vertex_count, edge_count, n_fits, m_fits, room, n_taken, m_taken);
      };
    }

-- a number is put in its place
pub put_inside : (numbers : List ℕ) (key number k : ℕ) → key < length numbers → slice_index (slice_set numbers key number) k ≡ (if key == k then number else slice_index numbers k)
put_inside numbers key number k inside = elim (cases_eq key k) [
  | inl same ↦ rw (eq-eqb key k same) (ap (λ (i : ℕ). get_or (slice_set numbers key number) i 0) (sym same) ∙ get_or-set_same numbers key number 0 inside)
  | inr other ↦ rw (ne_eqb key k other) (get_or-set_other numbers key k number 0 (λ e. other (sym e)))
]

pub put_outside : (numbers : List ℕ) (key number k : ℕ) → length numbers ≤ key → k < length numbers → slice_index numbers k ≡ (if key == k then number else slice_index numbers k)
put_outside numbers key number k outside inside =
    let other : key ≢ k = λ e. absurd (omega arith) in
    rw (ne_eqb key k other) refl

-- the next of so many saved numbers
pub saved_next : (number count i at key : ℕ) (body : List ℕ) → i < count → saved_or number (saved_at (count - i) body (at + 12 * i)) key
    ≡ saved_or (if field body (at + 12 * i) 4 == key then field body (at + 12 * i + 4) 8 else number) (saved_at (count - (i + 1)) body (at + 12 * (i + 1))) key
saved_next number count i at key body more =
    let left : count - i ≡ suc (count - (i + 1)) = omega arith in
    let place : at + 12 * i + 12 ≡ at + 12 * (i + 1) = omega arith in
    ap (λ (k : ℕ). saved_or number (saved_at k body (at + 12 * i)) key) left
    ∙ ap (λ (a : ℕ). saved_or (if field body (at + 12 * i) 4 == key then field body (at + 12 * i + 4) 8 else number) (saved_at (count - (i + 1)) body a) key) place

-- it is put in its place
pub saved_put : (old new count i at key named number : ℕ) (body : List ℕ) → i < count → named ≡ field body (at + 12 * i) 4 → number ≡ field body (at + 12 * i + 4) 8 → new ≡ (if named == key then number else old)
    → saved_or new (saved_at (count - (i + 1)) body (at + 12 * (i + 1))) key ≡ saved_or old (saved_at (count - i) body (at + 12 * i)) key
saved_put old new count i at key named number body more named_is number_is put =
    let rest = saved_at (count - (i + 1)) body (at + 12 * (i + 1)) in
    ap (λ (x : ℕ). saved_or x rest key) put
    ∙ ap (λ (k : ℕ). saved_or (if k == key then number else old) rest key) named_is
    ∙ ap (λ (x : ℕ). saved_or (if field body (at + 12 * i) 4 == key then x else old) rest key) number_is
    ∙ sym (saved_next old count i at key body more)

-- numbers that are saved behind others
pub saved-append : (number : ℕ) (front back : List (ℕ × ℕ)) (key : ℕ) → saved_or number (front ++ back) key ≡ saved_or (saved_or number front key) back key
saved-append number [] back key = refl
saved-append number (pair ∷ front) back key = saved-append (if pair.0 == key then pair.1 else number) front back key

-- the first of these sections were read, and the next begins at this place
pub record NumbersSoFar (header : Header) (body start_vertices start_edges vertices edges : List ℕ) (start done at : ℕ) : Type 0 where
  pub left : AreLeft header body (header.machines - done) at
  pub vertex : (key : ℕ) → key < length start_vertices → saved_or (slice_index vertices key) (saved_vertices_from (header.machines - done) body at) key ≡ saved_or (slice_index start_vertices key) (saved_vertices_from header.machines body start) key
  pub edge : (key : ℕ) → key < length start_edges → saved_or (slice_index edges key) (saved_edges_from (header.machines - done) body at) key ≡ saved_or (slice_index start_edges key) (saved_edges_from header.machines body start) key

pub numbers_first : (header : Header) (body vertices edges : List ℕ) → HasSections header body → NumbersSoFar header body vertices edges vertices edges (sections_place body) 0 (sections_place body)
numbers_first header body vertices edges has =
    let all : header.machines ≡ header.machines - 0 = omega arith in
    let start = sections_place body in
    record {
      left = subst (λ (k : ℕ). AreLeft header body k start) all (all_left header body has);
      vertex = λ key inside. ap (λ (k : ℕ). saved_or (slice_index vertices key) (saved_vertices_from k body start) key) (sym all);
      edge = λ key inside. ap (λ (k : ℕ). saved_or (slice_index edges key) (saved_edges_from k body start) key) (sym all);
    }

module _ (header : Header) (body start_vertices start_edges vertices edges : List ℕ) (start done at : ℕ) (so_far : NumbersSoFar header body start_vertices start_edges vertices edges start done at) where
  -- the next section is there
  pub next_there : done < header.machines → IsNextSection header body (header.machines - (done + 1)) at
  next_there more =
      let left : header.machines - done ≡ suc (header.machines - (done + 1)) = omega arith in
      next_section header body (header.machines - (done + 1)) at (subst (λ (k : ℕ). AreLeft header body k at) left so_far.left)

  -- a section more
  pub numbers_next : (new_vertices new_edges : List ℕ) (middle end : ℕ) → done < header.machines → middle ≡ row_end body at → end ≡ row_end body middle
      → ((key : ℕ) → key < length start_vertices → slice_index new_vertices key ≡ saved_or (slice_index vertices key) (saved_in_row body at) key)
      → ((key : ℕ) → key < length start_edges → slice_index new_edges key ≡ saved_or (slice_index edges key) (saved_in_row body middle) key)
      → NumbersSoFar header body start_vertices start_edges new_vertices new_edges start (done + 1) end
  numbers_next new_vertices new_edges middle end more middle_is end_is vertices_put edges_put =
      let left : header.machines - done ≡ suc (header.machines - (done + 1)) = omega arith in
      let rest = header.machines - (done + 1) in
      let last : row_end body (row_end body at) ≡ end = ap (row_end body) (sym middle_is) ∙ sym end_is in
      record {
        left = subst (AreLeft header body rest) last (next_there more).left;
        vertex = λ key inside.
            ap (λ (x : ℕ). saved_or x (saved_vertices_from rest body end) key) (vertices_put key inside)
            ∙ ap (λ (a : ℕ). saved_or (saved_or (slice_index vertices key) (saved_in_row body at) key) (saved_vertices_from rest body a) key) (sym last)
            ∙ sym (saved-append (slice_index vertices key) (saved_in_row body at) (saved_vertices_from rest body (row_end body (row_end body at))) key)
            ∙ ap (λ (k : ℕ). saved_or (slice_index vertices key) (saved_vertices_from k body at) key) (sym left)
            ∙ so_far.vertex key inside;
        edge = λ key inside.
            ap (λ (x : ℕ). saved_or x (saved_edges_from rest body end) key) (edges_put key inside)
            ∙ ap (λ (a : ℕ). saved_or (saved_or (slice_index edges key) (saved_in_row body middle) key) (saved_edges_from rest body a) key) (sym last)
            ∙ ap (λ (a : ℕ). saved_or (saved_or (slice_index edges key) (saved_in_row body a) key) (saved_edges_from rest body (row_end body (row_end body at))) key) middle_is
            ∙ sym (saved-append (slice_index edges key) (saved_in_row body (row_end body at)) (saved_edges_from rest body (row_end body (row_end body at))) key)
            ∙ ap (λ (k : ℕ). saved_or (slice_index edges key) (saved_edges_from k body at) key) (sym left)
            ∙ so_far.edge key inside;
      }

  -- all were read
  pub numbers_all : header.machines ≤ done
      → ((key : ℕ) → key < length start_vertices → slice_index vertices key ≡ saved_or (slice_index start_vertices key) (saved_vertices_from header.machines body start) key)
      × ((key : ℕ) → key < length start_edges → slice_index edges key ≡ saved_or (slice_index start_edges key) (saved_edges_from header.machines body start) key)
  numbers_all past =
      let none : header.machines - done ≡ 0 = omega arith in (
        λ key inside. ap (λ (k : ℕ). saved_or (slice_index vertices key) (saved_vertices_from k body at) key) (sym none) ∙ so_far.vertex key inside,
        λ key inside. ap (λ (k : ℕ). saved_or (slice_index edges key) (saved_edges_from k body at) key) (sym none) ∙ so_far.edge key inside,
      )
