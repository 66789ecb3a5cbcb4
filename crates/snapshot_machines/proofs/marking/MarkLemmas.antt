-- What a snapshot update saves and tells along the edges at its vertex is what the law has.
use Rattle.std.proofs.Common.{◌≡◌, ℕ, ◌==◌, ◌&&◌, ◌||◌, Bool, true, false, if◌then◌else◌, Option, Some, None, List, [], ◌∷◌, length, refl, sym, ap, ◌∙◌, All, arith}
use Rattle.std.specs.List.{list_any}
use Rattle.std.proofs.lemmas.Bool.{and_parts, eq-eqb, eqb-true}
use Rattle.std.proofs.lemmas.List.Elements.{All-head, All-tail}
use Rattle.gl_base.specs.declared.numbers.Vertex.{Vertex}
use Rattle.gl_base.specs.declared.scopes.ScopeId.{ScopeId}
use Rattle.graph_core.specs.DataGraph.{size}
use Rattle.graph_core.specs.Halves.{DataHalf}
use Rattle.update_api.specs.declared.links.Link.{Link}
use Rattle.cluster_laws.specs.cluster_core.Effects.{mark_news, number_if, pends_for}
use Rattle.cluster_laws.specs.cluster_core.Ranges.{first_passing}
use Rattle.cluster_laws.specs.cluster_core.Settings.{IsSetting, is_near}
use Rattle.cluster_laws.proofs.cluster_core.Nearness.{near_within}
use Rattle.local_graph.specs.declared.sides.Side.{Side}
use Rattle.partition.specs.local_parts.Parts.{halves_along}
use Rattle.partition.proofs.local_parts.FoundLemmas.{found_first}
use Rattle.partition.proofs.local_parts.NearLemmas.{all_among, near_all}
use Rattle.partition.specs.declared.machine_numbers.keeping.Numbers.{Numbers}
use Rattle.partition.specs.machine_numbers.Views.{is_in_update}
use Rattle.partition.specs.machine_numbers.Settings.{IsRowOf}
use Rattle.machine_core.specs.declared.machine_parts.cores.Core.{Core}
use Rattle.machine_core.specs.machine_parts.Parts.{news_told}
use Rattle.machine_core.specs.machine_parts.Settings.{Setting, IsPartOf}
use Rattle.machine_core.proofs.machine_updates.ToldLemmas.{found_one}
use Rattle.coordinator.specs.snap_update.Holding.{AreEdgesToSave, last_of_edge, later_number}
use Rattle.snapshot_machines.specs.marking.Keeping.{Part, SnapView, part_of, with_snaps}
use Rattle.snapshot_machines.specs.marking.Inner.Marks.{edge_here, edges_left, ends_left, is_end_left, is_own, is_unmarked, links_at, mark_told, number_pended, sides_at}
use Rattle.snapshot_machines.proofs.marking.HalfLemmas.{later_none, saved_along, saved_of}
use Rattle.snapshot_machines.proofs.marking.SeedLemmas.{first_none}

-- ---- along sides

-- the edges that are saved are those along the half-edges
pub saved_sides : (n : Numbers) (k : ℕ) (sides : List Side) (links : List Link) (e : ℕ) → length links ≡ length sides → last_of_edge (edges_left n k sides) e ≡ saved_along (is_unmarked n k) (edge_here n) (halves_along sides links) e
saved_sides n k [] links e same = refl
saved_sides n k (s ∷ sides) [] e same = absurd (omega arith)
saved_sides n k (s ∷ sides) (link ∷ links) e same =
    by (is_unmarked n k s.other.0)
    ∙ ap (λ (o : Option ℕ). later_number o (if e == s.edge.0 && is_unmarked n k s.other.0 then Some (edge_here n s.edge.0) else None)) (saved_sides n k sides links e (omega arith))
  where
    and_true : (b : Bool) → (b && true) ≡ b
    and_true true = refl
    and_true false = refl

    and_false : (b : Bool) → (b && false) ≡ false
    and_false true = refl
    and_false false = refl

    by : (b : Bool) → last_of_edge (if b then (s.edge, edge_here n s.edge.0) ∷ edges_left n k sides else edges_left n k sides) e ≡ later_number (last_of_edge (edges_left n k sides) e) (if e == s.edge.0 && b then Some (edge_here n s.edge.0) else None)
    by true = ap (λ (c : Bool). later_number (last_of_edge (edges_left n k sides) e) (if c then Some (edge_here n s.edge.0) else None)) (sym (and_true (e == s.edge.0)))
    by false = sym (ap (λ (c : Bool). later_number (last_of_edge (edges_left n k sides) e) (if c then Some (edge_here n s.edge.0) else None)) (and_false (e == s.edge.0)) ∙ later_none (last_of_edge (edges_left n k sides) e))

any_along : (sides : List Side) (links : List Link) (u : ℕ) → length links ≡ length sides → list_any (λ (s : Side). s.other.0 == u) sides ≡ list_any (λ (h : DataHalf). h.other == u) (halves_along sides links)
any_along [] links u same = refl
any_along (s ∷ sides) [] u same = absurd (omega arith)
any_along (s ∷ sides) (link ∷ links) u same = ap (λ (b : Bool). (s.other.0 == u) || b) (any_along sides links u (omega arith))

-- the vertex is a machine's, and has no mark
abbrev is_theirs : Setting → Numbers → ℕ → ℕ → ℕ → Bool
is_theirs st n k q u = st.owner u == q && is_unmarked n k u

named_left : (st : Setting) (n : Numbers) (k q : ℕ) (sides : List Side) (u : ℕ) → All (λ (s : Side). s.owner.0 ≡ st.owner s.other.0) sides
    → is_in_update (ends_left n k q sides) u ≡ (is_theirs st n k q u && list_any (λ (s : Side). s.other.0 == u) sides)
named_left st n k q [] u owners = sym (and_false (is_theirs st n k q u))
  where
    and_false : (b : Bool) → (b && false) ≡ false
    and_false true = refl
    and_false false = refl
named_left st n k q (s ∷ sides) u owners =
    let owner = All-head (λ (t : Side). t.owner.0 ≡ st.owner t.other.0) s sides owners in
    let rest = list_any (λ (t : Side). t.other.0 == u) sides in
    let here : is_end_left n k q s ≡ is_theirs st n k q s.other.0 = ap (λ (a : ℕ). a == q && is_unmarked n k s.other.0) owner in
    one (is_end_left n k q s)
    ∙ ap (λ (b : Bool). (is_end_left n k q s && s.other.0 == u) || b) (named_left st n k q sides u (All-tail (λ (t : Side). t.owner.0 ≡ st.owner t.other.0) s sides owners))
    ∙ ap (λ (b : Bool). (b && s.other.0 == u) || (is_theirs st n k q u && rest)) here
    ∙ both (is_theirs st n k q u) (is_theirs st n k q s.other.0) (s.other.0 == u) rest (λ same. ap (is_theirs st n k q) (eqb-true s.other.0 u same))
  where
    one : (b : Bool) → is_in_update (if b then s.other ∷ ends_left n k q sides else ends_left n k q sides) u ≡ ((b && s.other.0 == u) || is_in_update (ends_left n k q sides) u)
    one true = refl
    one false = refl

    both : (t t' b l : Bool) → (b ≡ true → t' ≡ t) → ((t' && b) || (t && l)) ≡ (t && (b || l))
    both true t' true l same = ap (λ (x : Bool). (x && true) || l) (same refl)
    both false t' true l same = ap (λ (x : Bool). (x && true) || false) (same refl)
    both t true false l same = refl
    both t false false l same = refl

-- ---- at an own vertex whose row is in

module _ (st : Setting) (m : Core) (w : SnapView) (v : Vertex) (links : List Link) (setting : IsSetting st) (is : IsPartOf st m) (own : is_own m.numbers.local v.0 ≡ true) (row : links_at m.numbers.local v.0 ≡ Some links) where
  abbrev part : Part
  part = with_snaps w (part_of m)

  abbrev sides : List Side
  sides = sides_at m.numbers.local v.0

  row_is : IsRowOf st v.0 sides links
  row_is = is.local.rows v.0 links own row

  pub edges_to_save : AreEdgesToSave st part v.0 (edges_left m.numbers w.known sides)
  edges_to_save e =
      saved_sides m.numbers w.known sides links e row_is.row.many
      ∙ ap (λ (hs : List DataHalf). saved_along (is_unmarked m.numbers w.known) (edge_here m.numbers) hs e) row_is.halves
      ∙ saved_of st v.0 (is_unmarked m.numbers w.known) (edge_here m.numbers) e setting

  pub near_is : (u : ℕ) → list_any (λ (s : Side). s.other.0 == u) sides ≡ is_near st v.0 u
  near_is u =
      any_along sides links u row_is.row.many
      ∙ ap (λ (hs : List DataHalf). list_any (λ (h : DataHalf). h.other == u) hs) row_is.halves
      ∙ near_all st.graph.directed v.0 u 0 st.graph.edges (λ k d low. (all_among st.graph setting.graph k d low).apart)

  turned : (a b c : Bool) → ((a && b) && c) ≡ (a && (c && b))
  turned true true true = refl
  turned true true false = refl
  turned true false true = refl
  turned true false false = refl
  turned false b c = refl

  pub pends_are : (q u : ℕ) → is_in_update (ends_left m.numbers w.known q sides) u ≡ pends_for st part v.0 q u
  pends_are q u =
      named_left st m.numbers w.known q sides u (is.local.owners v.0 own)
      ∙ ap (λ (b : Bool). is_theirs st m.numbers w.known q u && b) (near_is u)
      ∙ turned (st.owner u == q) (is_unmarked m.numbers w.known u) (is_near st v.0 u)

  number_is : (q : ℕ) → number_pended (ends_left m.numbers w.known q sides) w.known ≡ number_if (first_passing (pends_for st part v.0 q) 0 (size st.graph)) w.known
  number_is q = by (ends_left m.numbers w.known q sides) (pends_are q)
    where
      by : (ends : List Vertex) → ((u : ℕ) → is_in_update ends u ≡ pends_for st part v.0 q u) → number_pended ends w.known ≡ number_if (first_passing (pends_for st part v.0 q) 0 (size st.graph)) w.known
      by [] are = sym (ap (λ (o : Option ℕ). number_if o w.known) (first_none (pends_for st part v.0 q) 0 (size st.graph) (λ u. sym (are u))))
      by (x ∷ ends) are =
          let named : is_in_update (x ∷ ends) x.0 ≡ true = ap (λ (b : Bool). b || is_in_update ends x.0) (eq-eqb x.0 x.0 refl) in
          let pends : pends_for st part v.0 q x.0 ≡ true = sym (are x.0) ∙ named in
          let left = (and_parts (st.owner x.0 == q) (is_near st v.0 x.0 && is_unmarked m.numbers w.known x.0) pends).1 in
          let near = (and_parts (is_near st v.0 x.0) (is_unmarked m.numbers w.known x.0) left).0 in
          let low = (near_within st setting v.0 x.0 near).0 in
          let one = found_one (first_passing (pends_for st part v.0 q) 0 (size st.graph)) (found_first (pends_for st part v.0 q) 0 (size st.graph) x.0 (omega arith) (omega (arith, low)) pends) in
          sym (ap (λ (o : Option ℕ). number_if o w.known) one.1)

  pub news_is : (s : ScopeId) (q : ℕ) → news_told (mark_told m.numbers w.known s v (record { 0 = q })) ≡ mark_news st part v.0 q
  news_is s q = λ i. record (mark_news st part v.0 q) { pends = λ u. pends_are q u i; number = number_is q i }
