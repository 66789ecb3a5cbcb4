-- The rows, the machines and the own vertices of scopes, as a machine holds them, are those of the cluster.
use Rattle.std.proofs.Common.{◌≡◌, ℕ, ◌-◌, ◌<◌, ◌==◌, ◌&&◌, ◌||◌, Bool, true, false, not, if◌then◌else◌, Option, Some, None, is_some, List, [], length, get_or, slice_get, map, refl, sym, ap, ◌∙◌, subst, All, arith, inl, inr, ◌⊎◌}
use Rattle.std.specs.List.{filter, list_any, range_with_len}
use Rattle.std.proofs.lemmas.Bool.{cases_eq, cases_lt, cases_Bool, eq-eqb, ne_eqb, eqb-true, lt-ltb, le-ltb, true≢false}
use Rattle.std.proofs.lemmas.Option.{slice_get-get_or, same_Some}
use Rattle.std.proofs.lemmas.List.{length-map, length-replicate, get_or-map}
use Rattle.std.proofs.lemmas.List.Elements.{All-map}
use Rattle.std.proofs.lemmas.List.Folds.{Any-from_list_any, list_any-from_Any}
use Rattle.gl_base.specs.declared.atoms.GhostLine.{GhostLine}
use Rattle.gl_base.specs.declared.atoms.VertexLine.{VertexLine}
use Rattle.gl_base.specs.declared.numbers.MachineNo.{MachineNo}
use Rattle.graph_core.specs.Colourings.{joins}
use Rattle.graph_core.specs.DataGraph.{size}
use Rattle.graph_core.specs.Halves.{DataHalf, halves_of}
use Rattle.graph_core.specs.HalfRows.{data_half}
use Rattle.graph_core.specs.Neighbours.{neighbours_of}
use Rattle.graph_core.specs.declared.halves.Half.{Half}
use Rattle.update_api.specs.declared.links.Link.{Link}
use Rattle.graph_atoms.specs.atom_cut.Atoms.{is_in}
use Rattle.cluster_laws.specs.cluster_core.Scopes.{is_found, machines_from, own_from, takes_part}
use Rattle.cluster_laws.specs.cluster_core.Settings.{Setting, IsSetting, is_in_scope, is_near}
use Rattle.cluster_laws.proofs.cluster_core.Basics.{first_passing-some}
use Rattle.local_graph.specs.declared.sides.Side.{Side}
use Rattle.local_graph.specs.Lines.{links_from}
use Rattle.local_graph.specs.Locals.{LocalView, at_place, place_of_vertex, is_placed, is_own, links_at, sides_at, parts_at, part_at, machine_numbers}
use Rattle.local_graph.proofs.ListLemmas.{kept_all}
use Rattle.local_graph.specs.Played.{IsMadeOf, leads_to, machine_of, meets, numbers_of, place_owner, place_or, side_of, sides_kept}
use Rattle.partition.specs.local_parts.Parts.{IsLocalOf, IsRowOf, is_ghost_of, own_in_scope, owner_numbers}
use Rattle.partition.proofs.local_parts.RangeLemmas.{filter_passing, filter_twice}
use Rattle.partition.proofs.local_parts.FoundLemmas.{any_mapped, found_first, passing_none}
use Rattle.partition.proofs.local_parts.HalfLemmas.{links_row, row_halves}
use Rattle.partition.proofs.local_parts.NearLemmas.{IsBeside, all_among, any_turned, beside_all, near_all, neighbour_passes}
use Rattle.partition.proofs.local_parts.MineLemmas.{AreListsOf, in_is}
use Rattle.partition.proofs.local_parts.LocalLemmas.{ghost_at, ghosts_is, id_is, is_own_from, known_few, known_is, no_ghost, own_facts, own_is, owned_is, owned_list, owner_there, place_of_own, same_truth, some_place}

-- what holds of the items of a list that is mapped
all_from : {X Y : Type 0} (P : Y → Type 0) (f : X → Y) (xs : List X) → All P (map f xs) → All (λ x. P (f x)) xs
all_from P f xs all = λ k d low. subst P (get_or-map f xs k d (f d) low) (all k (f d) (omega (arith, length-map xs f)))

module _ (st : Setting) (me : MachineNo) (mine : List VertexLine) (ghosts : List GhostLine) (halves : ℕ → List Half) (machines edges : ℕ) (l : LocalView) (is : IsSetting st) (are : AreListsOf st me.0 mine ghosts halves machines edges) (played : IsMadeOf me mine ghosts halves machines edges l) where
  abbrev many : ℕ
  many = length played.order

  abbrev as_side : Half → Side
  as_side = side_of me many ghosts l.places

  -- ---- the half-edges at an own vertex

  abbrev Owned : ℕ → Type 0
  Owned v = is_own l v ≡ true

  facts : (v : ℕ) → Owned v → (v < size st.graph) × (st.owner v ≡ me.0)
  facts v own = own_facts st me mine ghosts halves machines edges l is are played v own

  known_own : (v : ℕ) → Owned v → is_placed l v ≡ true
  known_own v own = ap is_some (place_of_own st me mine ghosts halves machines edges l is are played v own).1

  data_is : (v : ℕ) → Owned v → map data_half (halves v) ≡ halves_of st.graph v
  data_is v own = are.rows v (facts v own).0 (facts v own).1

  sides_is : (v : ℕ) → Owned v → sides_at l v ≡ map as_side (halves v)
  sides_is v own =
      played.sides v (known_own v own) ∙ ap (λ b. sides_kept b many (map as_side (halves v))) own ∙ kept_all many (map as_side (halves v))

  beside : (v : ℕ) → Owned v → All (λ (h : Half). IsBeside st.graph v (data_half h)) (halves v)
  beside v own =
      all_from (IsBeside st.graph v) data_half (halves v)
      (subst (All (IsBeside st.graph v)) (sym (data_is v own)) (beside_all st.graph v 0 st.graph.edges (all_among st.graph is.graph)))

  -- the other end is known, and its owner is named
  pub record IsNamed (s : Side) : Type 0 where
    pub owner : s.owner.0 ≡ st.owner s.other.0
    pub place : place_of_vertex l.places s.other.0 ≡ Some s.place

  known_beside : (v x : ℕ) → Owned v → x < size st.graph → list_any (joins v x) st.graph.edges ≡ true → is_placed l x ≡ true
  known_beside v x own low joined =
      let f = facts v own in
      known_is st me mine ghosts halves machines edges l is are played x ∙ ap (λ b. b && (st.owner x == me.0 || is_ghost_of st me.0 x)) (lt-ltb x (size st.graph) low)
      ∙ either (cases_Bool (st.owner x == me.0)) (neighbour_passes st.graph (λ u. st.owner u == me.0) x v f.0 (any_turned x v st.graph.edges ∙ joined) (eq-eqb (st.owner v) me.0 f.1))
    where
      either : ((st.owner x == me.0) ≡ true) ⊎ ((st.owner x == me.0) ≡ false) → list_any (λ u. st.owner u == me.0) (neighbours_of st.graph x) ≡ true
          → (st.owner x == me.0 || is_ghost_of st me.0 x) ≡ true
      either (inl own_x) near = ap (λ b. b || is_ghost_of st me.0 x) own_x
      either (inr other) near = ap (λ b. b || (not b && list_any (λ u. st.owner u == me.0) (neighbours_of st.graph x))) other ∙ near

  named : (v : ℕ) → Owned v → (h : Half) → IsBeside st.graph v (data_half h) → IsNamed (as_side h)
  named v own h near =
      let known = known_beside v h.other.0 own near.low near.joined in
      let p = some_place (place_of_vertex l.places h.other.0) known in
      let k = p.0 in
      let at : place_of_vertex l.places h.other.0 ≡ Some k = p.1 in
      let inside = played.places.inside h.other.0 k at in
      let few = known_few st me mine ghosts halves machines edges l is are played in
      let place : (as_side h).place ≡ k = ap (place_or 4294967295) at ∙ omega arith in
      record {
        owner = ap (λ (n : ℕ). (place_owner me many ghosts n).0) place ∙ owner_named h.other.0 k at;
        place = at ∙ ap (λ (n : ℕ). Some n) (sym place);
      }
    where
      owner_named : (x k : ℕ) → place_of_vertex l.places x ≡ Some k → (place_owner me many ghosts k).0 ≡ st.owner x
      owner_named x k at = elim (cases_lt k many) as (λ _. (place_owner me many ghosts k).0 ≡ st.owner x) [
        | inl low ↦
            ap (λ b. (if b then me else machine_of me (slice_get ghosts (k - many))).0) (lt-ltb k many low) ∙ sym (owner_there st me mine ghosts halves machines edges l is are played x k at low).1
        | inr high ↦
            let g = ghost_at st me mine ghosts halves machines edges l is are played x k at high in
            ap (λ b. (if b then me else machine_of me (slice_get ghosts (k - many))).0) (le-ltb k many high)
            ∙ ap (λ o. (machine_of me o).0) (slice_get-get_or ghosts (k - many) no_ghost g.low) ∙ g.line.owner ∙ ap st.owner g.stands
      ]

  pub all_named : (v : ℕ) → Owned v → All IsNamed (sides_at l v)
  all_named v own =
      subst (All IsNamed) (sym (sides_is v own))
      (All-map IsNamed as_side (halves v) (λ k d low. named v own (get_or (halves v) k d) (beside v own k d low)))

  -- ---- rows

  pub row_is : (v : ℕ) (links : List Link) → Owned v → links_at l v ≡ Some links → IsRowOf st v (sides_at l v) links
  row_is v links own at =
      let same : links ≡ links_from 0 (halves v) = same_Some links (links_from 0 (halves v)) (sym at ∙ played.rows v own) in
      subst (λ (ls : List Link). IsRowOf st v (sides_at l v) ls) (sym same)
      (subst (λ (ss : List Side). IsRowOf st v ss (links_from 0 (halves v))) (sym (sides_is v own))
      (record {
        row = links_row (halves v) (length (map as_side (halves v))) (sym (length-map (halves v) as_side));
        halves = row_halves as_side (λ h. refl) (λ h. refl) 0 (halves v) (λ k d low. (beside v own k d low).leads) ∙ data_is v own;
      }))

  pub as_many : (v : ℕ) → Owned v → length (sides_at l v) ≡ length (halves_of st.graph v)
  as_many v own = ap length (sides_is v own) ∙ length-map (halves v) as_side ∙ sym (length-map (halves v) data_half) ∙ ap length (data_is v own)

  -- ---- which vertices a side leads to

  pub leads_near : (v x : ℕ) → Owned x → leads_to l v x ≡ ((x == v) || list_any (joins x v) st.graph.edges)
  leads_near v x own =
      ap (λ (ss : List Side). (x == v) || list_any (λ (s : Side). s.other.0 == v) ss) (sides_is x own)
      ∙ ap (λ b. (x == v) || b)
      (any_mapped (λ (s : Side). s.other.0 == v) as_side (halves x) ∙ sym (any_mapped (λ (h : DataHalf). h.other == v) data_half (halves x))
      ∙ ap (list_any (λ (h : DataHalf). h.other == v)) (data_is x own)
      ∙ near_all st.graph.directed x v 0 st.graph.edges (λ k d low. (all_among st.graph is.graph k d low).apart))

  flip_eq : (x v : ℕ) → (x == v) ≡ (v == x)
  flip_eq x v = elim (cases_eq x v) [
    | inl same ↦ eq-eqb x v same ∙ sym (eq-eqb v x (sym same))
    | inr other ↦ ne_eqb x v other ∙ sym (ne_eqb v x (λ e. other (sym e)))
  ]

  -- x is own and leads to v exactly where it is own and in the scope of v
  in_scope : (v x : ℕ) → x < size st.graph → (is_in (owner_numbers st) me.0 x && leads_to l v x) ≡ (is_in_scope st v x && st.owner x == me.0)
  in_scope v x low = elim (cases_eq (st.owner x) me.0) as (λ _. (is_in (owner_numbers st) me.0 x && leads_to l v x) ≡ (is_in_scope st v x && st.owner x == me.0)) [
    | inl own ↦
        let held = eq-eqb (st.owner x) me.0 own in
        ap (λ b. b && leads_to l v x) (in_is st me.0 mine ghosts is are.lines x low ∙ held)
        ∙ leads_near v x (is_own_from st me mine ghosts halves machines edges l is are played x low own)
        ∙ ap (λ b. (x == v) || b) (any_turned x v st.graph.edges) ∙ sym (and_true (is_in_scope st v x)) ∙ ap (λ b. is_in_scope st v x && b) (sym held)
    | inr other ↦
        let others = ne_eqb (st.owner x) me.0 other in
        ap (λ b. b && leads_to l v x) (in_is st me.0 mine ghosts is are.lines x low ∙ others) ∙ sym (ap (λ b. is_in_scope st v x && b) others ∙ and_false (is_in_scope st v x))
  ]
    where
      and_true : (b : Bool) → (b && true) ≡ b
      and_true true = refl
      and_true false = refl

      and_false : (b : Bool) → (b && false) ≡ false
      and_false true = refl
      and_false false = refl

  -- ---- the own vertices of a scope

  part_known : (v : ℕ) → is_placed l v ≡ true → numbers_of (part_at l v) ≡ own_in_scope st v me.0
  part_known v known =
      played.part v known ∙ ap (filter (leads_to l v)) (owned_list st me mine ghosts halves machines edges l is are played)
      ∙ filter_twice (leads_to l v) (is_in (owner_numbers st) me.0) (range_with_len 0 (size st.graph))
      ∙ filter_passing (λ x. is_in (owner_numbers st) me.0 x && leads_to l v x) (λ x. is_in_scope st v x && st.owner x == me.0) 0 (size st.graph) (λ x low high. in_scope v x (omega arith))

  -- of a vertex that is not known there are none
  part_unknown : (v : ℕ) → v < size st.graph → is_placed l v ≡ false → numbers_of (part_at l v) ≡ own_in_scope st v me.0
  part_unknown v low unknown =
      nothing (place_of_vertex l.places v) unknown
      ∙ sym (passing_none (λ x. is_in_scope st v x && st.owner x == me.0) 0 (size st.graph) (λ x above below. none x (omega arith)))
    where
      nothing : (o : Option ℕ) → is_some o ≡ false → numbers_of (at_place l.part o []) ≡ []
      nothing None is = refl
      nothing (Some k) is = absurd (true≢false is)

      contrary : (x : ℕ) → x < size st.graph → (is_in_scope st v x && st.owner x == me.0) ≡ true → ⊥
      contrary x low_x both =
          let own = eqb-true (st.owner x) me.0 (right (is_in_scope st v x) (st.owner x == me.0) both) in
          let owned = is_own_from st me mine ghosts halves machines edges l is are played x low_x own in
          elim (cases_eq x v) as (λ _. ⊥) [
            | inl same ↦ true≢false (sym (known_own x owned) ∙ ap (is_placed l) same ∙ unknown)
            | inr other ↦
                let near = ap (λ b. b || is_near st v x) (sym (ne_eqb x v other)) ∙ left (is_in_scope st v x) (st.owner x == me.0) both in
                true≢false (sym (known_beside x v owned low (any_turned x v st.graph.edges ∙ near)) ∙ unknown)
          ]
        where
          left : (a b : Bool) → (a && b) ≡ true → a ≡ true
          left true b is = refl
          left false b is = is

          right : (a b : Bool) → (a && b) ≡ true → b ≡ true
          right true b is = is
          right false b is = absurd (true≢false (sym is))

      none : (x : ℕ) → x < size st.graph → (is_in_scope st v x && st.owner x == me.0) ≡ false
      none x low_x = elim (cases_Bool (is_in_scope st v x && st.owner x == me.0)) [
        | inl holds ↦ absurd (contrary x low_x holds)
        | inr fails ↦ fails
      ]

  pub part_is : (v : ℕ) → v < size st.graph → numbers_of (part_at l v) ≡ own_in_scope st v me.0
  part_is v low = elim (cases_Bool (is_placed l v)) [
    | inl known ↦ part_known v known
    | inr unknown ↦ part_unknown v low unknown
  ]

  -- ---- the machines of a scope

  -- a machine that owns the other end of a side, or the vertex, takes part
  meets_takes : (v a : ℕ) → Owned v → meets me (sides_at l v) a ≡ true → takes_part st v a ≡ true
  meets_takes v a own met = elim (cases_eq a me.0) as (λ _. takes_part st v a ≡ true) [
    | inl same ↦
        let f = facts v own in
        let here = ap (λ b. b || is_near st v v) (eq-eqb v v refl) in
        found_first (λ x. is_in_scope st v x && st.owner x == a) 0 (size st.graph - 0) v (omega arith) (let low = f.0 in omega arith)
        (ap (λ b. b && st.owner v == a) here ∙ eq-eqb (st.owner v) a (f.1 ∙ sym same))
    | inr other ↦
        let some : list_any (λ (s : Side). s.owner.0 == a) (sides_at l v) ≡ true = ap (λ b. b || list_any (λ (s : Side). s.owner.0 == a) (sides_at l v)) (sym (ne_eqb a me.0 other)) ∙ met in
        let any = Any-from_list_any (λ (s : Side). s.owner.0 == a) (sides_at l v) some in
        let k = any.0 in
        let s = any.1 in
        let inside = any.2 in
        let at : get_or (sides_at l v) k s ≡ s = any.3 in
        let name = subst IsNamed at (all_named v own k s inside) in
        let owner : st.owner s.other.0 ≡ a = sym name.owner ∙ eqb-true s.owner.0 a any.4 in
        let next = subst (λ (t : Side). (t.other.0 < size st.graph) × (list_any (joins v t.other.0) st.graph.edges ≡ true)) at (all_near v own k s inside) in
        let near : is_in_scope st v s.other.0 ≡ true = ap (λ b. (s.other.0 == v) || b) next.1 ∙ or_true (s.other.0 == v) in
        found_first (λ x. is_in_scope st v x && st.owner x == a) 0 (size st.graph - 0) s.other.0 (omega arith) (let low = next.0 in omega arith)
        (ap (λ b. b && st.owner s.other.0 == a) near ∙ eq-eqb (st.owner s.other.0) a owner)
  ]
    where
      or_true : (b : Bool) → (b || true) ≡ true
      or_true true = refl
      or_true false = refl

      all_near : (v : ℕ) → (own : Owned v) → All (λ (s : Side). (s.other.0 < size st.graph) × (list_any (joins v s.other.0) st.graph.edges ≡ true)) (sides_at l v)
      all_near v own =
          subst (All (λ (s : Side). (s.other.0 < size st.graph) × (list_any (joins v s.other.0) st.graph.edges ≡ true))) (sym (sides_is v own))
          (All-map (λ (s : Side). (s.other.0 < size st.graph) × (list_any (joins v s.other.0) st.graph.edges ≡ true)) as_side (halves v) (λ k d low. let near = beside v own k d low in (near.low, near.joined)))

  takes_meets : (v a : ℕ) → Owned v → takes_part st v a ≡ true → meets me (sides_at l v) a ≡ true
  takes_meets v a own takes =
      let first = some_first (own_from st v a 0) takes in
      let x = first.0 in
      let found = first_passing-some (λ x. is_in_scope st v x && st.owner x == a) 0 (size st.graph - 0) x first.1 in
      let both : (is_in_scope st v x && st.owner x == a) ≡ true = found.2 in
      let owner : st.owner x ≡ a = eqb-true (st.owner x) a (right (is_in_scope st v x) (st.owner x == a) both) in
      elim (cases_eq x v) as (λ _. meets me (sides_at l v) a ≡ true) [
        | inl same ↦
            let mine : a ≡ me.0 = sym owner ∙ ap st.owner same ∙ (facts v own).1 in
            ap (λ b. b || list_any (λ (s : Side). s.owner.0 == a) (sides_at l v)) (eq-eqb a me.0 mine)
        | inr other ↦
            let near : list_any (joins v x) st.graph.edges ≡ true = ap (λ b. b || is_near st v x) (sym (ne_eqb x v other)) ∙ left (is_in_scope st v x) (st.owner x == a) both in
            let leads : list_any (λ (s : Side). s.other.0 == x) (sides_at l v) ≡ true = led x near in
            let any = Any-from_list_any (λ (s : Side). s.other.0 == x) (sides_at l v) leads in
            let name = subst IsNamed any.3 (all_named v own any.0 any.1 any.2) in
            let s = any.1 in
            let owns : s.owner.0 ≡ a = name.owner ∙ ap st.owner (eqb-true s.other.0 x any.4) ∙ owner in
            let some = list_any-from_Any (λ (s : Side). s.owner.0 == a) (sides_at l v) (any.0, s, any.2, any.3, eq-eqb s.owner.0 a owns) in
            ap (λ b. (a == me.0) || b) some ∙ or_true (a == me.0)
      ]
    where
      or_true : (b : Bool) → (b || true) ≡ true
      or_true true = refl
      or_true false = refl

      left : (a b : Bool) → (a && b) ≡ true → a ≡ true
      left true b is = refl
      left false b is = is

      right : (a b : Bool) → (a && b) ≡ true → b ≡ true
      right true b is = is
      right false b is = absurd (true≢false (sym is))

      some_first : (o : Option ℕ) → is_found o ≡ true → (x : ℕ) × (o ≡ Some x)
      some_first None is = absurd (true≢false (sym is))
      some_first (Some x) is = (x, refl)

      led : (x : ℕ) → list_any (joins v x) st.graph.edges ≡ true → list_any (λ (s : Side). s.other.0 == x) (sides_at l v) ≡ true
      led x near =
          ap (list_any (λ (s : Side). s.other.0 == x)) (sides_is v own) ∙ any_mapped (λ (s : Side). s.other.0 == x) as_side (halves v) ∙ sym (any_mapped (λ (h : DataHalf). h.other == x) data_half (halves v))
          ∙ ap (list_any (λ (h : DataHalf). h.other == x)) (data_is v own)
          ∙ near_all st.graph.directed v x 0 st.graph.edges (λ k d low. (all_among st.graph is.graph k d low).apart) ∙ near

  pub parts_is : (v : ℕ) → Owned v → machine_numbers (parts_at l v) ≡ machines_from st v 0
  parts_is v own =
      let n : machines ≡ st.machines - 0 = are.count ∙ omega arith in
      played.parts v own ∙ ap (λ (n : ℕ). filter (meets me (sides_at l v)) (range_with_len 0 n)) n
      ∙ filter_passing (meets me (sides_at l v)) (takes_part st v) 0 (st.machines - 0) (λ a low high. same_truth (meets me (sides_at l v) a) (takes_part st v a) (meets_takes v a own) (takes_meets v a own))

  -- ---- all of it

  pub part_of_graph : IsLocalOf st l
  part_of_graph =
      subst (λ (m : MachineNo). IsLocalOf st (record l { me = m })) (sym played.machine) here
    where
      here : IsLocalOf st (record l { me = me })
      here =
          record {
            machine = are.lines.machine;
            owned = owned_is st me mine ghosts halves machines edges l is are played;
            own = own_is st me mine ghosts halves machines edges l is are played;
            ghosts = ghosts_is st me mine ghosts halves machines edges l is are played;
            known = known_is st me mine ghosts halves machines edges l is are played;
            ids = id_is st me mine ghosts halves machines edges l is are played;
            edges = ap length played.numbers ∙ length-replicate edges 0 ∙ are.as_many;
            rows = row_is;
            sides = as_many;
            owners = λ v own k d low. (all_named v own k d low).owner;
            places = λ v own k d low. (all_named v own k d low).place;
            parts = parts_is;
            part = part_is;
          }
