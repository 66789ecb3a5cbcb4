-- Taken colours are those of lower neighbours, and the first free one is the next vertex's.
use Rattle.std.proofs.Common.{◌≡◌, ℕ, ◌+◌, ◌<◌, ◌≤◌, true, false, List, [], ◌∷◌, ◌++◌, length, map, get_or, slice_index_or, eqb, nat_lt, refl, sym, ap, ◌∙◌, subst, ⊎_elim, Contains, arith}
use Rattle.std.proofs.lemmas.Bool.{cases_Bool, cases_lt, eq-eqb, eqb-true, lt-ltb, ltb-true, and_parts}
use Rattle.std.proofs.lemmas.List.{get_or-map, get_or_append_left, get_or_push, get_or_past, length-map, length-append}
use Rattle.std.proofs.lemmas.List.Folds.{Any-from_list_any, list_any_at}
use Rattle.graph_core.specs.declared.halves.Half.{Half}
use Rattle.graph_core.specs.DataGraph.{DataGraph, IsDataGraph, size}
use Rattle.graph_core.specs.Halves.{halves_of}
use Rattle.graph_core.specs.HalfRows.{data_half}
use Rattle.graph_core.proofs.EdgeLemmas.{map-map}
use Rattle.graph_core.proofs.VertexLaws.{neighbours_same}
use Rattle.graph_core.specs.color_steps.Greedy.{IsLowerNeighbour, HasLeastFree}
use Rattle.graph_core.specs.color_steps.Inner.Stamps.{has_colour, is_taken, AreStamped, IsFirstWithout}

abbrev colour_in : List ℕ → ℕ → ℕ
colour_in colours v = slice_index_or colours v 0

others : (g : DataGraph) (v : ℕ) (halves : List Half) → map data_half halves ≡ halves_of g v → map (λ d. d.other) (halves_of g v) ≡ map (λ h. h.other.0) halves
others g v halves are = sym (ap (map (λ d. d.other)) are) ∙ map-map (λ d. d.other) data_half halves

abbrev any_half : Half
any_half = record { edge = record { 0 = 0 }; other = record { 0 = 0 }; weight = 0; out = false; into = false }

-- a colour that is taken is that of a lower neighbour
pub taken_by : (g : DataGraph) (colours : List ℕ) (halves : List Half) (k : ℕ) → IsDataGraph g → map data_half halves ≡ halves_of g (length colours) → is_taken colours halves k ≡ true → (u : ℕ) × IsLowerNeighbour g (length colours) u × (colour_in colours u ≡ k)
taken_by g colours halves k so are taken =
    let v = length colours in
    let (i, h, inside, read, holds) = Any-from_list_any (λ (x : Half). has_colour colours k x.other.0) halves taken in
    let u = h.other.0 in
    let both = and_parts (nat_lt u v) (eqb (colour_in colours u) k) holds in
    let has : Contains (map (λ (x : Half). x.other.0) halves) u =
    (i, omega (arith, inside, length-map halves (λ (x : Half). x.other.0)), get_or-map (λ (x : Half). x.other.0) halves i h u inside ∙ ap (λ (x : Half). x.other.0) read) in
    let near = (neighbours_same g v u so).1 (subst (λ xs. Contains xs u) (sym (others g v halves are)) has) in
    (u, (ltb-true u v both.0, near), eqb-true (colour_in colours u) k both.1)

-- and the colour of each lower neighbour is taken
pub takes : (g : DataGraph) (colours : List ℕ) (halves : List Half) (u : ℕ) → IsDataGraph g → map data_half halves ≡ halves_of g (length colours) → IsLowerNeighbour g (length colours) u → is_taken colours halves (colour_in colours u) ≡ true
takes g colours halves u so are lower =
    let v = length colours in
    let (i, inside, read) = subst (λ xs. Contains xs u) (others g v halves are) ((neighbours_same g v u so).0 lower.1) in
    let short : i < length halves = omega (arith, inside, length-map halves (λ (x : Half). x.other.0)) in
    let is : (get_or halves i any_half).other.0 ≡ u = sym (get_or-map (λ (x : Half). x.other.0) halves i any_half u short) ∙ read in
    list_any_at (λ (x : Half). has_colour colours (colour_in colours u) x.other.0) halves i any_half short
    (rw (is, lt-ltb u v lower.0, eq-eqb (colour_in colours u) (colour_in colours u) refl) refl)

-- ---- the stamps

stamped : (stamp : ℕ) (colours : List ℕ) (halves : List Half) (old new : List ℕ) (k : ℕ) → AreStamped stamp colours halves old new → k < length old → is_taken colours halves k ≡ true → slice_index_or new k 0 ≡ stamp
stamped stamp colours halves old new k are inside taken = are k inside ∙ rw taken refl

left : (stamp : ℕ) (colours : List ℕ) (halves : List Half) (old new : List ℕ) (k : ℕ) → AreStamped stamp colours halves old new → k < length old → is_taken colours halves k ≡ false → slice_index_or new k 0 ≡ slice_index_or old k 0
left stamp colours halves old new k are inside free = are k inside ∙ rw free refl

-- what holds at the turn of a vertex: the stamps are of vertices before it, and no vertex before it has a colour above one more than its number
pub record AreTurns (g : DataGraph) (colours stamps : List ℕ) : Type 0 where
  pub room : length stamps ≡ size g + 1
  pub past : (k : ℕ) → slice_index_or stamps k 0 ≤ length colours
  pub low : (u : ℕ) → u < length colours → slice_index_or colours u 0 ≤ u + 1
  pub greedy : (u : ℕ) → u < length colours → HasLeastFree g (λ w. slice_index_or colours w 0) u

module _ (g : DataGraph) (colours old new : List ℕ) (halves : List Half) (so : IsDataGraph g) (halves_are : map data_half halves ≡ halves_of g (length colours)) (inside : length colours < size g) (turns : AreTurns g colours old) (same_room : length new ≡ length old) (stamp : ℕ) (turn : stamp ≡ length colours + 1) (are : AreStamped stamp colours halves old new) where
  last_free : slice_index_or new (length colours + 1) 0 ≡ stamp → ⊥
  last_free is =
      let short : length colours + 1 < length old = omega (arith, turns.room) in
      ⊎_elim
      (λ taken. let (u, lower, has) = taken_by g colours halves (length colours + 1) so halves_are taken in omega (arith, turns.low u lower.0, lower.0))
      (λ free. omega (arith, left stamp colours halves old new (length colours + 1) are short free, turns.past (length colours + 1)))
      (cases_Bool (is_taken colours halves (length colours + 1)))

  pub some_free : (k : ℕ) × (1 ≤ k) × (k < length new) × (slice_index_or new k 0 ≡ stamp → ⊥)
  some_free = (length colours + 1, omega arith, omega (arith, turns.room), last_free)

  past_still : (k : ℕ) → slice_index_or new k 0 ≤ length colours + 1
  past_still k =
      ⊎_elim
      (λ (short : k < length old). ⊎_elim
      (λ taken. omega (arith, stamped stamp colours halves old new k are short taken))
      (λ free. omega (arith, left stamp colours halves old new k are short free, turns.past k))
      (cases_Bool (is_taken colours halves k)))
      (λ long. omega (arith, get_or_past new k 0 (omega arith)))
      (cases_lt k (length old))

  module _ (c : ℕ) (first : IsFirstWithout new stamp c) where
    c_low : c ≤ length colours + 1
    c_low =
        ⊎_elim
        (λ (high : length colours + 1 < c). absurd (last_free (first.before (length colours + 1) (omega arith) high)))
        (λ low. low)
        (cases_lt (length colours + 1) c)

    before_same : (u : ℕ) → u < length colours → slice_index_or (colours ++ c ∷ []) u 0 ≡ slice_index_or colours u 0
    before_same u l = get_or_append_left colours (c ∷ []) 0 u l

    here : slice_index_or (colours ++ c ∷ []) (length colours) 0 ≡ c
    here = get_or_push colours c 0 (length colours) refl

    low_still : (u : ℕ) → u < length colours + 1 → slice_index_or (colours ++ c ∷ []) u 0 ≤ u + 1
    low_still u l =
        ⊎_elim
        (λ (before : u < length colours). omega (arith, before_same u before, turns.low u before))
        (λ (at : length colours ≤ u). let is : u ≡ length colours = omega arith in rw is (omega (arith, here, c_low)))
        (cases_lt u (length colours))

    greedy_before : (v : ℕ) → v < length colours → HasLeastFree g (λ w. slice_index_or (colours ++ c ∷ []) w 0) v
    greedy_before v l =
        let was = turns.greedy v l in
        let at = before_same v l in
        record {
          from_one = omega (arith, at, was.from_one);
          free = λ u lower same. was.free u lower (sym (before_same u (omega (arith, lower.0))) ∙ same ∙ at);
          least = λ k one high.
              let (u, lower, is) = was.least k one (omega (arith, at, high)) in
              (u, lower, before_same u (omega (arith, lower.0)) ∙ is);
        }

    greedy_here : HasLeastFree g (λ w. slice_index_or (colours ++ c ∷ []) w 0) (length colours)
    greedy_here =
        record {
          from_one = omega (arith, here, first.from_one);
          free = λ u lower same.
              let is : colour_in colours u ≡ c = sym (before_same u lower.0) ∙ same ∙ here in
              let taken = subst (λ k. is_taken colours halves k ≡ true) is (takes g colours halves u so halves_are lower) in
              first.other (stamped stamp colours halves old new c are (omega (arith, first.inside)) taken);
          least = λ k one high.
              let had = first.before k one (omega (arith, here, high)) in
              let short : k < length old = omega (arith, here, high, first.inside) in
              ⊎_elim
              (λ taken. let (u, lower, is) = taken_by g colours halves k so halves_are taken in (u, lower, before_same u lower.0 ∙ is))
              (λ free. absurd (omega (arith, left stamp colours halves old new k are short free, turns.past k)))
              (cases_Bool (is_taken colours halves k));
        }

    pub turned : AreTurns g (colours ++ c ∷ []) new
    turned =
        let one_more : length (colours ++ c ∷ []) ≡ length colours + 1 = length-append colours (c ∷ []) in
        record {
          room = same_room ∙ turns.room;
          past = λ k. omega (arith, one_more, past_still k);
          low = λ u l. low_still u (omega (arith, one_more, l));
          greedy = λ v l.
              ⊎_elim
              (λ (before : v < length colours). greedy_before v before)
              (λ (at : length colours ≤ v). let is : length colours ≡ v = omega (arith, one_more, l) in subst (λ w. HasLeastFree g (λ x. slice_index_or (colours ++ c ∷ []) x 0) w) is greedy_here)
              (cases_lt v (length colours));
        }

pub first_turns : (g : DataGraph) (stamps : List ℕ) → length stamps ≡ size g + 1 → ((k : ℕ) → slice_index_or stamps k 0 ≡ 0) → AreTurns g [] stamps
first_turns g stamps room blank =
    record {
      room = room;
      past = λ k. omega (arith, blank k);
      low = λ u l. absurd (omega arith);
      greedy = λ u l. absurd (omega arith);
    }
