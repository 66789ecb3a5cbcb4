-- A snapshot update saves no edge twice, and none that was saved before.
use Rattle.std.proofs.Common.{Global, Vec, ◌≡◌, ℕ, suc, ◌+◌, ◌<◌, ◌==◌, ◌||◌, ◌++◌, not, Bool, true, false, true≢false, if◌then◌else◌, Option, Some, None, is_some, List, [], ◌∷◌, length, refl, sym, ap, ◌∙◌, subst, arith}
use Rattle.std.specs.List.{list_any}
use Rattle.std.proofs.lemmas.Bool.{eq-eqb, ne_eqb}
use Rattle.gl_base.specs.declared.entries.Entry.{Entry}
use Rattle.gl_base.specs.declared.numbers.EdgeNo.{EdgeNo}
use Rattle.gl_base.specs.declared.numbers.Vertex.{Vertex}
use Rattle.gl_base.specs.declared.scopes.ScopeId.{ScopeId}
use Rattle.graph_core.specs.DataGraph.{DataEdge}
use Rattle.graph_core.specs.Halves.{DataHalf, halves_from}
use Rattle.update_api.specs.declared.links.Link.{Link}
use Rattle.cluster_laws.specs.cluster_core.Effects.{saves_edge}
use Rattle.local_graph.specs.declared.sides.Side.{Side}
use Rattle.partition.specs.local_parts.Parts.{halves_along}
use Rattle.partition.specs.declared.machine_numbers.keeping.Numbers.{Numbers}
use Rattle.partition.specs.machine_numbers.Settings.{IsRowOf}
use Rattle.partition.specs.machine_numbers.Views.{LocalView, TasksView, is_flagged}
use Rattle.machine_core.specs.declared.machine_parts.cores.Core.{Core}
use Rattle.coordinator.specs.snap_update.Holding.{AreEdgesToSave, last_of_edge, last_of_vertex, later_number}
use Rattle.coordinator.specs.snap_update.Snaps.{IsSameButRoom, IsSavedOnce, with_edge}
use Rattle.coordinator.proofs.snap_update.SavedOnce.{edge_once, vertex_once}
use Rattle.snapshot_machines.specs.marking.Keeping.{SnapView, part_of, with_snaps}
use Rattle.snapshot_machines.specs.marking.Marking.{HasOnlyMadeRoom, HasSavedOnce, HasUnplanned}
use Rattle.snapshot_machines.specs.marking.Seeding.{HasOtherPending}
use Rattle.snapshot_machines.specs.marking.Inner.Marks.{datum_here, edge_here, edges_left, flight_at, is_own, is_unmarked, links_at, place_at, sides_at, with_edges, with_vertex}
use Rattle.snapshot_machines.proofs.marking.MarkLemmas.{edges_to_save}

-- ---- half-edges

-- a half-edge of edge e
abbrev is_edge : ℕ → DataHalf → Bool
is_edge e h = h.edge == e

-- none of them is of the same edge as a later one
abbrev AreHalvesApart : List DataHalf → Type 0
AreHalvesApart [] = Unit {0}
AreHalvesApart (h ∷ hs) = (list_any (is_edge h.edge) hs ≡ false) × AreHalvesApart hs

none_before : (directed : Bool) (v k e : ℕ) (edges : List DataEdge) → e < k → list_any (is_edge e) (halves_from directed v k edges) ≡ false
none_before directed v k e [] low = refl
none_before directed v k e (x ∷ edges) low =
    by (x.from == v) (x.to == v) (none_before directed v (suc k) e edges (omega arith))
  where
    off : (k == e) ≡ false
    off = ne_eqb k e (λ same. omega (arith, same))

    by : (b c : Bool) → list_any (is_edge e) (halves_from directed v (suc k) edges) ≡ false
        → list_any (is_edge e) ((if b then record { edge = k; other = x.to; weight = x.weight; out = true; into = not directed } ∷ []
        else (if c then record { edge = k; other = x.from; weight = x.weight; out = not directed; into = true } ∷ [] else [])) ++ halves_from directed v (suc k) edges) ≡ false
    by true c rest = ap (λ (b : Bool). b || list_any (is_edge e) (halves_from directed v (suc k) edges)) off ∙ rest
    by false true rest = ap (λ (b : Bool). b || list_any (is_edge e) (halves_from directed v (suc k) edges)) off ∙ rest
    by false false rest = rest

halves_apart : (directed : Bool) (v k : ℕ) (edges : List DataEdge) → AreHalvesApart (halves_from directed v k edges)
halves_apart directed v k [] = tt
halves_apart directed v k (x ∷ edges) =
    by (x.from == v) (x.to == v) (none_before directed v (suc k) k edges (omega arith)) (halves_apart directed v (suc k) edges)
  where
    by : (b c : Bool) → list_any (is_edge k) (halves_from directed v (suc k) edges) ≡ false → AreHalvesApart (halves_from directed v (suc k) edges)
        → AreHalvesApart ((if b then record { edge = k; other = x.to; weight = x.weight; out = true; into = not directed } ∷ []
        else (if c then record { edge = k; other = x.from; weight = x.weight; out = not directed; into = true } ∷ [] else [])) ++ halves_from directed v (suc k) edges)
    by true c none rest = (none, rest)
    by false true none rest = (none, rest)
    by false false none rest = rest

-- ---- edges to save

-- none of them is saved by a later one too
abbrev AreEdgesApart : List (EdgeNo × ℕ) → Type 0
AreEdgesApart [] = Unit {0}
AreEdgesApart (pair ∷ pairs) = (last_of_edge pairs pair.0.0 ≡ None) × AreEdgesApart pairs

or_parts : (a b : Bool) → (a || b) ≡ false → (a ≡ false) × (b ≡ false)
or_parts true b is = absurd (true≢false is)
or_parts false b is = (refl, is)

not_saved : (n : Numbers) (k e : ℕ) (sides : List Side) (links : List Link) → length links ≡ length sides → list_any (is_edge e) (halves_along sides links) ≡ false → last_of_edge (edges_left n k sides) e ≡ None
not_saved n k e [] links same none = refl
not_saved n k e (s ∷ sides) [] same none = absurd (omega (arith, same))
not_saved n k e (s ∷ sides) (link ∷ links) same none =
    let parts = or_parts (s.edge.0 == e) (list_any (is_edge e) (halves_along sides links)) none in
    by (is_unmarked n k s.other.0) (not_saved n k e sides links (omega (arith, same)) parts.1) (ne_eqb e s.edge.0 (λ is. true≢false (sym (eq-eqb s.edge.0 e (sym is)) ∙ parts.0)))
  where
    by : (b : Bool) → last_of_edge (edges_left n k sides) e ≡ None → (e == s.edge.0) ≡ false
        → last_of_edge (if b then (s.edge, edge_here n s.edge.0) ∷ edges_left n k sides else edges_left n k sides) e ≡ None
    by true rest off = ap (λ (c : Bool). later_number (last_of_edge (edges_left n k sides) e) (if c then Some (edge_here n s.edge.0) else None)) off ∙ ap (λ (o : Option ℕ). later_number o None) rest
    by false rest off = rest

edges_apart : (n : Numbers) (k : ℕ) (sides : List Side) (links : List Link) → length links ≡ length sides → AreHalvesApart (halves_along sides links) → AreEdgesApart (edges_left n k sides)
edges_apart n k [] links same apart = tt
edges_apart n k (s ∷ sides) [] same apart = absurd (omega (arith, same))
edges_apart n k (s ∷ sides) (link ∷ links) same apart =
    by (is_unmarked n k s.other.0) (not_saved n k s.edge.0 sides links (omega (arith, same)) apart.0) (edges_apart n k sides links (omega (arith, same)) apart.1)
  where
    by : (b : Bool) → last_of_edge (edges_left n k sides) s.edge.0 ≡ None → AreEdgesApart (edges_left n k sides)
        → AreEdgesApart (if b then (s.edge, edge_here n s.edge.0) ∷ edges_left n k sides else edges_left n k sides)
    by true none rest = (none, rest)
    by false none rest = rest

-- ---- lists of saved edges

later-none : (o : Option ℕ) → later_number o None ≡ o
later-none None = refl
later-none (Some number) = refl

later-later : (a b c : Option ℕ) → later_number (later_number a b) c ≡ later_number a (later_number b c)
later-later None b c = refl
later-later (Some number) b c = refl

one_more : (pairs : List (EdgeNo × ℕ)) (e : EdgeNo) (number d : ℕ) → last_of_edge (pairs ++ (e, number) ∷ []) d ≡ later_number (if d == e.0 then Some number else None) (last_of_edge pairs d)
one_more [] e number d = sym (later-none (if d == e.0 then Some number else None))
one_more (pair ∷ pairs) e number d =
    let own : Option ℕ = if d == pair.0.0 then Some pair.1 else None in
    ap (λ o. later_number o own) (one_more pairs e number d)
    ∙ later-later (if d == e.0 then Some number else None) (last_of_edge pairs d) own

some_later : (o here : Option ℕ) → is_some o ≡ true → is_some (later_number o here) ≡ true
some_later None here is = absurd (true≢false (sym is))
some_later (Some number) here is = refl

once_edges : (edges : List (EdgeNo × ℕ)) (w : SnapView) → IsSavedOnce w → AreEdgesApart edges → ((e : ℕ) → is_some (last_of_edge edges e) ≡ true → last_of_edge w.edges e ≡ None) → IsSavedOnce (with_edges edges w)
once_edges [] w once apart are_new = once
once_edges (pair ∷ pairs) w once apart are_new =
    once_edges pairs (with_edge pair.0 pair.1 w) (edge_once pair.0 pair.1 w once (are_new pair.0.0 here)) apart.1
    (λ e some.
    let off : e ≡ pair.0.0 → ⊥ = λ same. true≢false (sym some ∙ ap (λ (d : ℕ). is_some (last_of_edge pairs d)) same ∙ ap is_some apart.0) in
    one_more w.edges pair.0 pair.1 e
    ∙ ap (λ (b : Bool). later_number (if b then Some pair.1 else None) (last_of_edge w.edges e)) (ne_eqb e pair.0.0 off)
    ∙ are_new e (some_later (last_of_edge pairs e) (if e == pair.0.0 then Some pair.1 else None) some))
  where
    here : is_some (last_of_edge (pair ∷ pairs) pair.0.0) ≡ true
    here =
        ap (λ (o : Option ℕ). is_some (later_number o (if pair.0.0 == pair.0.0 then Some pair.1 else None))) apart.0
        ∙ ap (λ (b : Bool). is_some (later_number None (if b then Some pair.1 else None))) (eq-eqb pair.0.0 pair.0.0 refl)

-- ---- the snapshot update

module _ (m : Core) (wide now : SnapView) (w : SnapView) (s : ScopeId) (centre : Vertex) (links : List Link) (own : is_own m.numbers.local centre.0 ≡ true) (row : links_at m.numbers.local centre.0 ≡ Some links)
    (flies : flight_at m.pipe s ≡ Some centre) (same : IsSameButRoom w wide) (saved : now ≡ with_edges (edges_left m.numbers w.known (sides_at m.numbers.local centre.0)) (with_vertex centre (datum_here m.numbers centre.0).value wide)) where
  same_vertex : (u v : Vertex) → Some u ≡ Some v → u ≡ v
  same_vertex u v is = cc

  test_holds : (test : Bool) (number : ℕ) → is_some (if test then Some number else None) ≡ true → test ≡ true
  test_holds true number is = refl
  test_holds false number is = absurd (true≢false (sym is))

  wide_once : IsSavedOnce w → IsSavedOnce wide
  wide_once once = subst IsSavedOnce (sym same) (record { vertices = once.vertices; edges = once.edges })

  pub saved_once : HasSavedOnce m w now s
  saved_once st v setting here flight once none edges =
      let is : centre ≡ v = same_vertex centre v (sym flies ∙ flight) in
      let row_is : IsRowOf st centre.0 (sides_at m.numbers.local centre.0) links = here.local.rows centre.0 links own row in
      let apart : AreEdgesApart (edges_left m.numbers w.known (sides_at m.numbers.local centre.0)) =
      edges_apart m.numbers w.known (sides_at m.numbers.local centre.0) links row_is.row.many
      (subst AreHalvesApart (sym row_is.halves) (halves_apart st.graph.directed centre.0 0 st.graph.edges)) in
      let to_save : AreEdgesToSave st (with_snaps w (part_of m)) centre.0 (edges_left m.numbers w.known (sides_at m.numbers.local centre.0)) = edges_to_save st m w centre links setting here own row in
      let first : IsSavedOnce (with_vertex centre (datum_here m.numbers centre.0).value wide) =
      vertex_once centre (datum_here m.numbers centre.0).value wide (wide_once once)
      (ap (λ (x : SnapView). last_of_vertex x.vertices centre.0) same ∙ ap (λ (u : Vertex). last_of_vertex w.vertices u.0) is ∙ none) in
      subst IsSavedOnce (sym saved)
      (once_edges (edges_left m.numbers w.known (sides_at m.numbers.local centre.0)) (with_vertex centre (datum_here m.numbers centre.0).value wide) first apart
      (λ e some.
      let saves : saves_edge st (with_snaps w (part_of m)) centre.0 e ≡ true =
      test_holds (saves_edge st (with_snaps w (part_of m)) centre.0 e) (edge_here m.numbers e) (ap is_some (sym (to_save e)) ∙ some) in
      ap (λ (x : SnapView). last_of_edge x.edges e) same ∙ edges e (ap (λ (u : Vertex). saves_edge st (with_snaps w (part_of m)) u.0 e) (sym is) ∙ saves)))

-- the log doesn't tell which edges are left
edges_log : (n : Numbers) (k : ℕ) (log : Vec Entry Global) (sides : List Side) → edges_left (record n { log = log }) k sides ≡ edges_left n k sides
edges_log n k log [] = refl
edges_log n k log (s ∷ sides) = ap (λ (es : List (EdgeNo × ℕ)). if is_unmarked n k s.other.0 then (s.edge, edge_here n s.edge.0) ∷ es else es) (edges_log n k log sides)

-- what was saved where room was made first
pub sides_saved : (m roomy : Core) → HasOnlyMadeRoom m roomy → (w wide now : SnapView) (v : Vertex) → IsSameButRoom w wide
    → now ≡ with_edges (edges_left roomy.numbers wide.known (sides_at roomy.numbers.local v.0)) (with_vertex v (datum_here roomy.numbers v.0).value wide)
    → now ≡ with_edges (edges_left m.numbers w.known (sides_at m.numbers.local v.0)) (with_vertex v (datum_here m.numbers v.0).value wide)
sides_saved m roomy made w wide now v same saved =
    saved
    ∙ ap (λ (x : Core). with_edges (edges_left x.numbers wide.known (sides_at x.numbers.local v.0)) (with_vertex v (datum_here x.numbers v.0).value wide)) made.rest
    ∙ ap (λ (es : List (EdgeNo × ℕ)). with_edges es (with_vertex v (datum_here m.numbers v.0).value wide)) (edges_log m.numbers wide.known roomy.numbers.log (sides_at m.numbers.local v.0))
    ∙ ap (λ (x : SnapView). with_edges (edges_left m.numbers x.known (sides_at m.numbers.local v.0)) (with_vertex v (datum_here m.numbers v.0).value wide)) same

-- the plans where room was made first, and the pending ones were seeded behind
pub plans_end : (m roomy mid new : Core) → HasOnlyMadeRoom m roomy → (v centre : Vertex) (place : ℕ) → Some centre ≡ Some v → place_at m.numbers.local v.0 ≡ Some place
    → ((k : ℕ) → place_at roomy.numbers.local centre.0 ≡ Some k → HasUnplanned roomy.numbers.tasks mid.numbers.tasks k) → HasOtherPending mid new → HasUnplanned m.numbers.tasks new.numbers.tasks place
plans_end m roomy mid new made v centre place same at plans rest =
    let is : centre ≡ v = cc in
    let local : roomy.numbers.local ≡ m.numbers.local = ap (λ (x : Core). x.numbers.local) made.rest in
    let tasks : roomy.numbers.tasks ≡ m.numbers.tasks = ap (λ (x : Core). x.numbers.tasks) made.rest in
    let there : place_at roomy.numbers.local centre.0 ≡ Some place = ap (λ (l : LocalView). place_at l centre.0) local ∙ ap (λ (u : Vertex). place_at m.numbers.local u.0) is ∙ at in
    let one : HasUnplanned m.numbers.tasks mid.numbers.tasks place = subst (λ (t : TasksView). HasUnplanned t mid.numbers.tasks place) tasks (plans place there) in
    record {
      plans = ap (λ (x : Core). x.numbers.tasks.plans + (if is_flagged m.numbers.tasks.planned place then 1 else 0)) rest ∙ one.plans;
      planned = ap (λ (x : Core). x.numbers.tasks.planned) rest ∙ one.planned;
      admitted = ap (λ (x : Core). x.numbers.tasks.admitted) rest ∙ one.admitted;
    }
