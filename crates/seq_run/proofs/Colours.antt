-- Colours: the ends of an edge never share one, none is above the degree and one, and each is the least free one when it is given.
use Rattle.std.proofs.Common.{◌≡◌, ◌≢◌, ℕ, ◌+◌, ◌<◌, ◌≤◌, ◌==◌, ◌&&◌, nat_le, true, false, List, [], ◌∷◌, ◌++◌, map, length, slice_index_or, refl, sym, ◌∙◌, subst, ap, ⊎_elim, true≢false, arith, eq-eqb, ne_eqb, eqb-true, le-leb, leb-true}
use Rattle.std.specs.List.{AllByRecursion, list_any}
use Rattle.std.proofs.lemmas.Bool.{cases_eq, and_parts, and_from, and_right, lt-leb}
use Rattle.std.proofs.lemmas.List.{get_or_default}
use Rattle.gl_base.specs.declared.entries.Entry.{Entry}
use Rattle.gl_base.specs.declared.entries.Entry.TheVariants.{Go, Restart}
use Rattle.gl_base.specs.declared.numbers.MachineNo.{MachineNo}
use Rattle.gl_base.specs.declared.numbers.Vertex.{Vertex}
use Rattle.graph_core.specs.DataGraph.{DataEdge, DataGraph, size, IsDataGraph}
use Rattle.graph_core.specs.Colourings.{joins, degree_of, IsProperColouring}
use Rattle.graph_core.specs.Halves.{halves_of}
use Rattle.graph_core.proofs.HalvesLaws.{each-weaker, none_passes, some_passes, IsHalfAt, halves_are, edge_is, half_other, has_half_out, has_half_into}
use Rattle.update_api.specs.Near.{Near}
use Rattle.update_api.specs.LeastFree.{least_free}
use Rattle.update_api.specs.Updates.{update_of_colours}
use Rattle.update_api.proofs.LeastFreeLaws.{is_taken, least_free_first, first_free_low}
use Rattle.seq_run.specs.States.{GraphState, start_state, near_of, with_number, new_number, after_update, wakes}
use Rattle.seq_run.specs.Orders.{replay, replay_from, IsValidOrder, IsFinished}
use Rattle.seq_run.specs.FirstColours.{AreNeighbours, IsLeastFreeColour, WasLeastFree}
use Rattle.seq_run.proofs.Sums.{count_below, count_below-mono, count_below-less}
use Rattle.seq_run.proofs.Waking.{with_number-same, with_number-other, with_number-holds}
use Rattle.seq_run.proofs.AtRest.{always_good, at_rest}
use Rattle.seq_run.proofs.Neighbours.{each-map, each-unmap, degree-count, half_neighbour, neighbour_has}

module _ (g : DataGraph) (is : IsDataGraph g) where
  -- what v sees
  abbrev nears_at : GraphState → ℕ → List Near
  nears_at s v = map (near_of s) (halves_of g v)

  -- a number that is taken is that of a neighbour
  taken_by : (s : GraphState) (v j : ℕ) → is_taken (nears_at s v) j ≡ true → (u : ℕ) × (u < size g) × AreNeighbours g v u × (s.vertex u ≡ j)
  taken_by s v j taken =
      let P : Near → Type 0 = λ near. (u : ℕ) × (u < size g) × AreNeighbours g v u × (near.number ≡ s.vertex u) in
      let each : AllByRecursion P (nears_at s v) =
      each-map P (near_of s) (halves_of g v)
      (each-weaker (IsHalfAt g is v) (λ h. P (near_of s h)) (λ h half. (h.other, (half_other g is v h half).0, half_neighbour g is v h half, refl)) (halves_of g v) (halves_are g is v)) in
      let some = some_passes P (λ near. near.number == j) (nears_at s v) taken each in
      (some.1.0, some.1.1, some.1.2, sym some.1.3 ∙ eqb-true some.0.number j some.2)

  free_for : (s : GraphState) (v j : ℕ) → is_taken (nears_at s v) j ≡ false → AllByRecursion (λ h. s.vertex h.other ≢ j) (halves_of g v)
  free_for s v j free =
      each-weaker (λ h. (s.vertex h.other == j) ≡ false) (λ h. s.vertex h.other ≢ j)
      (λ h is_not same. true≢false (sym (eq-eqb (s.vertex h.other) j same) ∙ is_not))
      (halves_of g v) (each-unmap (λ near. (near.number == j) ≡ false) (near_of s) (halves_of g v) (none_passes (λ near. near.number == j) (nears_at s v) free))

  least_free_colour : (s : GraphState) (v : ℕ) → IsLeastFreeColour g s.vertex v (least_free (nears_at s v))
  least_free_colour s v =
      let found = least_free_first (nears_at s v) in
      let k = least_free (nears_at s v) in
      record {
        from_one = found.above;
        free = λ u within neighbours. neighbour_has g is v u (λ u. s.vertex u ≢ k) neighbours (free_for s v k found.free);
        least = λ j low high. taken_by s v j (found.least j low high);
      }

  -- how many neighbours have a colour from j on
  abbrev left_of : GraphState → ℕ → ℕ → ℕ
  left_of s v j = count_below (λ u. list_any (joins v u) g.edges && nat_le j (s.vertex u)) (size g)

  left-falls : (s : GraphState) (v j : ℕ) → is_taken (nears_at s v) j ≡ true → left_of s v (j + 1) < left_of s v j
  left-falls s v j taken =
      let by = taken_by s v j taken in
      count_below-less (λ u. list_any (joins v u) g.edges && nat_le (j + 1) (s.vertex u)) (λ u. list_any (joins v u) g.edges && nat_le j (s.vertex u)) by.0 (size g) by.1
      (λ u within holds.
      let parts = and_parts (list_any (joins v u) g.edges) (nat_le (j + 1) (s.vertex u)) holds in
      let above = leb-true (j + 1) (s.vertex u) parts.1 in
      and_from (list_any (joins v u) g.edges) (nat_le j (s.vertex u)) parts.0 (le-leb j (s.vertex u) (omega arith)))
      (let is = by.3 in and_right (list_any (joins v by.0) g.edges) (nat_le (j + 1) (s.vertex by.0)) (lt-leb (j + 1) (s.vertex by.0) (omega arith)))
      (let is = by.3 in and_from (list_any (joins v by.0) g.edges) (nat_le j (s.vertex by.0)) by.2 (le-leb j (s.vertex by.0) (omega arith)))

  least_free_low : (s : GraphState) (v : ℕ) → least_free (nears_at s v) ≤ degree_of g v + 1
  least_free_low s v =
      let low = first_free_low (nears_at s v) (left_of s v) (left-falls s v) (length (nears_at s v)) 1 in
      let degree = degree-count g v (size g) in
      let fewer : left_of s v 1 ≤ count_below (λ u. list_any (joins v u) g.edges) (size g) =
      count_below-mono (λ u. list_any (joins v u) g.edges && nat_le 1 (s.vertex u)) (λ u. list_any (joins v u) g.edges) (size g)
      (λ u within holds. (and_parts (list_any (joins v u) g.edges) (nat_le 1 (s.vertex u)) holds).0) in
      omega arith

  pub record Coloured (s : GraphState) : Type 0 where
    pub apart : (k : ℕ) (e : DataEdge) → k < length g.edges → slice_index_or g.edges k e ≡ e → s.vertex e.from ≡ s.vertex e.to → s.vertex e.from ≡ 0
    pub high : (v : ℕ) → v < size g → s.vertex v ≤ degree_of g v + 1

  start_coloured : Coloured (start_state g update_of_colours)
  start_coloured = record { apart = λ k e within at same. refl; high = λ v within. omega arith }

  -- a vertex with a colour keeps it, and one with none gets the least free one
  new_kept : (s : GraphState) (v : ℕ) → s.vertex v ≢ 0 → new_number g update_of_colours s v ≡ s.vertex v
  new_kept s v coloured = rw (ne_eqb (s.vertex v) 0 coloured) refl

  new_given : (s : GraphState) (v : ℕ) → s.vertex v ≡ 0 → new_number g update_of_colours s v ≡ least_free (nears_at s v)
  new_given s v none = rw (eq-eqb (s.vertex v) 0 none) refl

  new_from_one : (s : GraphState) (v : ℕ) → 1 ≤ new_number g update_of_colours s v
  new_from_one s v = ⊎_elim
      (λ (none : s.vertex v ≡ 0). rw (new_given s v none) (least_free_first (nears_at s v)).above)
      (λ (coloured : s.vertex v ≡ 0 → ⊥). rw (new_kept s v coloured) (omega arith))
      (cases_eq (s.vertex v) 0)

  goes : (s : GraphState) (v : ℕ) → v < size g → Coloured s → Coloured (after_update g update_of_colours s v)
  goes s v within good =
      let new = new_number g update_of_colours s v in
      let x = with_number s.vertex v new in
      record {
        apart = λ k e e_within at same. ⊎_elim
            (λ (none : s.vertex v ≡ 0).
            let edge = edge_is g is k e e_within at in
            let given = new_given s v none in
            let free = free_for s v (least_free (nears_at s v)) (least_free_first (nears_at s v)).free in ⊎_elim
            (λ (from : e.from ≡ v). absurd (
            has_half_out g is k e (λ h. s.vertex h.other ≢ least_free (nears_at s v)) e_within at (subst (λ u. AllByRecursion (λ h. s.vertex h.other ≢ least_free (nears_at s v)) (halves_of g u)) (sym from) free)
            (sym (with_number-other s.vertex v new e.to (λ to. edge.apart (from ∙ sym to))) ∙ sym same ∙ ap x from ∙ with_number-same s.vertex v new ∙ given)))
            (λ (not_from : e.from ≡ v → ⊥). ⊎_elim
            (λ (to : e.to ≡ v). absurd (
            has_half_into g is k e (λ h. s.vertex h.other ≢ least_free (nears_at s v)) e_within at (subst (λ u. AllByRecursion (λ h. s.vertex h.other ≢ least_free (nears_at s v)) (halves_of g u)) (sym to) free)
            (sym (with_number-other s.vertex v new e.from not_from) ∙ same ∙ ap x to ∙ with_number-same s.vertex v new ∙ given)))
            (λ (not_to : e.to ≡ v → ⊥).
            let at_from = with_number-other s.vertex v new e.from not_from in
            let at_to = with_number-other s.vertex v new e.to not_to in
            at_from ∙ good.apart k e e_within at (sym at_from ∙ same ∙ at_to))
            (cases_eq e.to v))
            (cases_eq e.from v))
            (λ (coloured : s.vertex v ≡ 0 → ⊥).
            let still = λ (u : ℕ). with_number-holds (λ u y. y ≡ s.vertex u) s.vertex v new u (λ same. new_kept s v coloured) (λ other. refl) in
            still e.from ∙ good.apart k e e_within at (sym (still e.from) ∙ same ∙ still e.to))
            (cases_eq (s.vertex v) 0);
        high = λ u u_within. with_number-holds (λ u y. y ≤ degree_of g u + 1) s.vertex v new u
            (λ same. ⊎_elim
            (λ (none : s.vertex v ≡ 0). rw (new_given s v none) (least_free_low s v))
            (λ (coloured : s.vertex v ≡ 0 → ⊥). rw (new_kept s v coloured) (good.high v within))
            (cases_eq (s.vertex v) 0))
            (λ other. good.high u u_within);
      }

  abbrev HasColour : ℕ → GraphState → Type 0
  HasColour w s = 1 ≤ s.vertex w

  settles : (s : GraphState) (v : ℕ) → HasColour v (after_update g update_of_colours s v)
  settles s v = rw (with_number-same s.vertex v (new_number g update_of_colours s v)) (new_from_one s v)

  stays : (s : GraphState) (v w : ℕ) → w ≢ v → HasColour w s → HasColour w (after_update g update_of_colours s v)
  stays s v w other settled = rw (with_number-other s.vertex v (new_number g update_of_colours s v) w other) settled

  pub colours_at_rest : (order : List Entry) → IsValidOrder g update_of_colours order → IsFinished g update_of_colours order → IsProperColouring g (replay g update_of_colours order).vertex
  colours_at_rest order valid finished =
      let s = replay g update_of_colours order in
      let settles_all = λ (s : GraphState) (v : ℕ) (within : v < size g) (good : Coloured s). settles s v in
      let stays_all = λ (s : GraphState) (v w : ℕ) (v_within : v < size g) (w_within : w < size g) (good : Coloured s) (other : w ≢ v) (asleep : wakes g update_of_colours s v w ≡ false) (settled : HasColour w s). stays s v w other settled in
      let good = always_good g is update_of_colours Coloured HasColour goes settles_all stays_all order valid start_coloured in
      let low = at_rest g is update_of_colours Coloured HasColour goes settles_all stays_all order valid finished start_coloured in
      record {
        apart = λ k d within same.
            let e = slice_index_or g.edges k d in
            let at : slice_index_or g.edges k e ≡ e = get_or_default g.edges k e d within in
            let none = good.apart k e within at same in
            let one = low e.from (edge_is g is k e within at).from in
            omega arith;
        low = low;
        high = good.high;
      }

  -- v has no colour before one of these entries, which gives it the colour that it keeps
  record IsGiven (s : GraphState) (order : List Entry) (v : ℕ) : Type 0 where
    before : List Entry
    ticket : ℕ
    machine : MachineNo
    vertex : Vertex
    after : List Entry
    place : order ≡ before ++ Go machine vertex ticket ∷ after
    of_v : vertex.0 ≡ v
    none : (replay_from g update_of_colours s before).vertex v ≡ 0
    given : (replay_from g update_of_colours s order).vertex v ≡ least_free (nears_at (replay_from g update_of_colours s before) v)

  stays_coloured : (s : GraphState) (order : List Entry) (v : ℕ) → s.vertex v ≢ 0 → (replay_from g update_of_colours s order).vertex v ≡ s.vertex v
  stays_coloured s [] v coloured = refl
  stays_coloured s (Restart ticket ∷ order) v coloured = stays_coloured s order v coloured
  stays_coloured s (Go machine vertex ticket ∷ order) v coloured =
      let next = after_update g update_of_colours s vertex.0 in
      let same : next.vertex v ≡ s.vertex v =
      with_number-holds (λ u y. y ≡ s.vertex u) s.vertex vertex.0 (new_number g update_of_colours s vertex.0) v
      (λ here. new_kept s vertex.0 (λ none. coloured (ap s.vertex here ∙ none))) (λ other. refl) in
      stays_coloured next order v (λ none. coloured (sym same ∙ none)) ∙ same

  given_colour : (s : GraphState) (order : List Entry) (v : ℕ) → s.vertex v ≡ 0 → (replay_from g update_of_colours s order).vertex v ≢ 0 → IsGiven s order v
  given_colour s [] v none some = absurd (some none)
  given_colour s (Restart ticket ∷ order) v none some =
      let rest = given_colour s order v none some in
      record {
        before = Restart ticket ∷ rest.before;
        ticket = rest.ticket;
        machine = rest.machine;
        vertex = rest.vertex;
        after = rest.after;
        place = ap (λ (l : List Entry). Restart ticket ∷ l) rest.place;
        of_v = rest.of_v;
        none = rest.none;
        given = rest.given;
      }
  given_colour s (Go machine vertex ticket ∷ order) v none some =
      let next = after_update g update_of_colours s vertex.0 in ⊎_elim
      (λ (here : vertex.0 ≡ v).
      let new : next.vertex v ≡ least_free (nears_at s v) =
      subst (λ u. (after_update g update_of_colours s u).vertex v ≡ least_free (nears_at s v)) (sym here)
      (with_number-same s.vertex v (new_number g update_of_colours s v) ∙ new_given s v none) in
      let one = (least_free_first (nears_at s v)).above in
      record {
        before = [];
        ticket = ticket;
        machine = machine;
        vertex = vertex;
        after = order;
        place = refl;
        of_v = here;
        none = none;
        given = stays_coloured next order v (λ zero_is. absurd (omega arith)) ∙ new;
      })
      (λ (away : vertex.0 ≡ v → ⊥).
      let same : next.vertex v ≡ s.vertex v = with_number-other s.vertex vertex.0 (new_number g update_of_colours s vertex.0) v (λ here. away (sym here)) in
      let rest = given_colour next order v (same ∙ none) some in
      record {
        before = Go machine vertex ticket ∷ rest.before;
        ticket = rest.ticket;
        machine = rest.machine;
        vertex = rest.vertex;
        after = rest.after;
        place = ap (λ (l : List Entry). Go machine vertex ticket ∷ l) rest.place;
        of_v = rest.of_v;
        none = rest.none;
        given = rest.given;
      })
      (cases_eq vertex.0 v)

  was_least : (order : List Entry) (v : ℕ) → IsGiven (start_state g update_of_colours) order v → WasLeastFree g order v ((replay g update_of_colours order).vertex v)
  was_least order v first =
      record {
        before = first.before;
        ticket = first.ticket;
        machine = first.machine;
        vertex = first.vertex;
        after = first.after;
        place = first.place;
        of_v = first.of_v;
        none = first.none;
        least = rw first.given (least_free_colour (replay g update_of_colours first.before) v);
      }

  pub colours_were_least : (order : List Entry) → IsValidOrder g update_of_colours order → IsFinished g update_of_colours order → (v : ℕ) → v < size g → WasLeastFree g order v ((replay g update_of_colours order).vertex v)
  colours_were_least order valid finished v within =
      let low = (colours_at_rest order valid finished).low v within in
      was_least order v (given_colour (start_state g update_of_colours) order v refl (λ none. absurd (omega arith)))
