-- What a machine keeps and tells is what the cluster's effects make of its part.
use Rattle.std.proofs.Common.{◌≡◌, ℕ, ◌==◌, ◌&&◌, ◌||◌, Bool, true, false, not, if◌then◌else◌, Some, None, List, [], ◌∷◌, length, map, refl, sym, ap, ◌∙◌, subst, arith, All, inl, inr}
use Rattle.std.specs.List.{AllByRecursion}
use Rattle.std.proofs.lemmas.List.Elements.{All-head, All-tail}
use Rattle.std.proofs.lemmas.Bool.{cases_eq, eq-eqb, ne_eqb}
use Rattle.gl_base.specs.declared.entries.Entry.{Entry}
use Rattle.gl_base.specs.declared.numbers.MachineNo.{MachineNo}
use Rattle.gl_base.specs.declared.numbers.Vertex.{Vertex}
use Rattle.gl_base.specs.declared.numbers.EdgeNo.{EdgeNo}
use Rattle.gl_base.specs.declared.scopes.ScopeId.{ScopeId}
use Rattle.graph_core.specs.Halves.{DataHalf, halves_of}
use Rattle.cluster_laws.specs.cluster_core.Effects.{told_edge}
use Rattle.seq_run.specs.States.{GraphState, near_of, with_marks, after_update}
use Rattle.update_api.specs.Updates.{Update}
use Rattle.update_api.specs.declared.links.Link.{Link}
use Rattle.update_api.specs.declared.woken.Woken.{Woken}
use Rattle.local_graph.specs.declared.sides.Side.{Side}
use Rattle.local_graph.specs.declared.works.Outcome.{Outcome}
use Rattle.wire.specs.declared.wire_msgs.messages.Done.{Done}
use Rattle.partition.specs.local_parts.Parts.{half_along, halves_along, AreOfTwoEdges, is_shared_by}
use Rattle.partition.specs.declared.machine_numbers.keeping.Numbers.{Numbers}
use Rattle.partition.specs.machine_numbers.Views.{news_of, is_in_update, number_told, sides_at, numbers_along, datum_here, task_here, edge_here}
use Rattle.partition.specs.machine_numbers.Steps.{HasUpdated, MadeUpdate, TellsOf, made_of, told_edges, told_wakes, told_datum, wakes_of, wakes_there, set_at, renewed}
use Rattle.partition.specs.machine_numbers.Settings.{Setting, Part, updated, news_for, with_numbers, IsOutcomeOf, EdgesShared}
use Rattle.partition.proofs.machine_numbers.RowLemmas.{stands_at, value_made, edges_are, edges_made, wakes_made}

pub updated_is : (st : Setting) (s : ScopeId) (o : MadeUpdate) (entry : Entry) (old new : Numbers) (part : Part) → IsOutcomeOf st old o → HasUpdated old new o entry
    → with_numbers new (updated st old.local.me.0 s o.vertex.0 entry (with_numbers old part)) ≡ updated st old.local.me.0 s o.vertex.0 entry (with_numbers old part)
updated_is st s o entry old new part is has =
    let v = o.vertex.0 in
    let value = value_made st old o is in
    λ i.
    record (updated st old.local.me.0 s v entry (with_numbers old part)) {
      datum = λ x. (has.datum x ∙ ap (λ (k : ℕ). set_at (datum_here old) v (renewed (datum_here old v) k) x) value) i;
      edge = λ e. (has.edge e ∙ edges_made st old o is e) i;
      task = λ u. (has.task u ∙ ap (λ b. b || (task_here old u && not (u == v))) (wakes_made st old o is old.local.me.0 u)) i;
      log = has.log i;
    }

-- ---- edges that are told

eq_self : (x : ℕ) → (x == x) ≡ true
eq_self x = eq-eqb x x refl

told_same : (b : Bool) (x : ℕ) → told_edge b x x ≡ None
told_same true x = ap (λ (c : Bool). if not c then Some x else None) (eq_self x)
told_same false x = refl

-- an edge that none of the half-edges has is not told
not_told : (to e : ℕ) (sides : List Side) (links : List Link) (xs ys : List ℕ) → length links ≡ length sides → AllByRecursion (λ (g : DataHalf). (e == g.edge) ≡ false) (halves_along sides links)
    → number_told (told_edges to sides xs ys) e ≡ None
not_told to e [] links xs ys same none = refl
not_told to e (s ∷ sides) [] xs ys same none = absurd (omega arith)
not_told to e (s ∷ sides) (link ∷ links) [] ys same none = refl
not_told to e (s ∷ sides) (link ∷ links) (x ∷ xs) [] same none = refl
not_told to e (s ∷ sides) (link ∷ links) (x ∷ xs) (y ∷ ys) same none =
    passed (s.owner.0 == to && not (x == y)) (told_edges to sides xs ys) s y e none.0 ∙ not_told to e sides links xs ys (omega arith) none.1
  where
    passed : (b : Bool) (rest : List (EdgeNo × ℕ)) (s : Side) (y e : ℕ) → (e == s.edge.0) ≡ false → number_told (if b then (s.edge, y) ∷ rest else rest) e ≡ number_told rest e
    passed true rest s y e off = ap (λ (c : Bool). if c then Some y else number_told rest e) off
    passed false rest s y e off = refl

at_edge : (b : Bool) (rest : List (EdgeNo × ℕ)) (s : Side) (y e : ℕ) → (e == s.edge.0) ≡ true → number_told rest e ≡ None → number_told (if b then (s.edge, y) ∷ rest else rest) e ≡ (if b then Some y else None)
at_edge true rest s y e on none = ap (λ (c : Bool). if c then Some y else number_told rest e) on
at_edge false rest s y e on none = none

past_edge : (b : Bool) (rest : List (EdgeNo × ℕ)) (s : Side) (y e : ℕ) → (e == s.edge.0) ≡ false → number_told (if b then (s.edge, y) ∷ rest else rest) e ≡ number_told rest e
past_edge true rest s y e off = ap (λ (c : Bool). if c then Some y else number_told rest e) off
past_edge false rest s y e off = refl

told_is : (st : Setting) (v to : ℕ) (p : Update) (s : GraphState) (own : ℕ) (sides : List Side) (links : List Link) (e : ℕ) → length links ≡ length sides
    → All (λ (t : Side). t.owner.0 ≡ st.owner t.other.0) sides → AllByRecursion (λ (h : DataHalf). is_shared_by st v to h.edge ≡ (st.owner h.other == to)) (halves_along sides links) → AreOfTwoEdges (halves_along sides links)
    → number_told (told_edges to sides (numbers_along s.edge sides) (map (p.mark own) (map (near_of s) (halves_along sides links)))) e
    ≡ told_edge (is_shared_by st v to e) (s.edge e) (with_marks p s own (halves_along sides links) e)
told_is st v to p s own [] links e same owners shared apart = sym (told_same (is_shared_by st v to e) (s.edge e))
told_is st v to p s own (t ∷ sides) [] e same owners shared apart = absurd (omega arith)
told_is st v to p s own (t ∷ sides) (link ∷ links) e same owners shared apart =
    let P : Side → Type 0 = λ t. t.owner.0 ≡ st.owner t.other.0 in
    let x = s.edge t.edge.0 in
    let y = p.mark own (near_of s (half_along t link)) in
    let ys = map (p.mark own) (map (near_of s) (halves_along sides links)) in
    let rest = told_edges to sides (numbers_along s.edge sides) ys in
    let test = t.owner.0 == to && not (x == y) in
    let marks = with_marks p s own (halves_along sides links) e in
    elim (cases_eq e t.edge.0) [
      | inl at ↦
          let later = subst (λ (k : ℕ). AllByRecursion (λ (g : DataHalf). (k == g.edge) ≡ false) (halves_along sides links)) (sym at) apart.0 in
          let none = not_told to e sides links (numbers_along s.edge sides) ys (omega arith) later in
          let owner : (t.owner.0 == to) ≡ is_shared_by st v to e = ap (λ (k : ℕ). k == to) (All-head P t sides owners) ∙ sym shared.0 ∙ ap (is_shared_by st v to) (sym at) in
          at_edge test rest t y e (eq-eqb e t.edge.0 at) none
          ∙ ap (λ (b : Bool). if b && not (x == y) then Some y else None) owner
          ∙ ap (λ (k : ℕ). told_edge (is_shared_by st v to e) (s.edge k) y) (sym at)
          ∙ sym (ap (λ (c : Bool). told_edge (is_shared_by st v to e) (s.edge e) (if c then y else marks)) (eq-eqb e t.edge.0 at))
      | inr off ↦
          past_edge test rest t y e (ne_eqb e t.edge.0 off)
          ∙ told_is st v to p s own sides links e (omega arith) (All-tail P t sides owners) shared.1 apart.1
          ∙ sym (ap (λ (c : Bool). told_edge (is_shared_by st v to e) (s.edge e) (if c then y else marks)) (ne_eqb e t.edge.0 off))
    ]

-- ---- vertices that are told

named_is : (to : ℕ) (woken : Woken) (sides : List Side) (links : List Link) (u : ℕ) → is_in_update (told_wakes to woken sides links) u ≡ wakes_of to woken sides links u
named_is to woken [] links u = refl
named_is to woken (s ∷ sides) [] u = refl
named_is to woken (s ∷ sides) (link ∷ links) u =
    one (wakes_there to woken s link) (told_wakes to woken sides links) s u ∙ ap (λ b. (wakes_there to woken s link && s.other.0 == u) || b) (named_is to woken sides links u)
  where
    one : (b : Bool) (rest : List Vertex) (s : Side) (u : ℕ) → is_in_update (if b then s.other ∷ rest else rest) u ≡ ((b && s.other.0 == u) || is_in_update rest u)
    one true rest s u = refl
    one false rest s u = refl

pub news_are : (st : Setting) (to : MachineNo) (o : Outcome) (done : Done) (n : Numbers) (part : Part) → IsOutcomeOf st n (made_of o) → EdgesShared st o.work.vertex.0 → TellsOf n to o done
    → news_of done ≡ news_for st (with_numbers n part) o.work.vertex.0 to.0
news_are st to o done n part is share tells =
    let v = o.work.vertex.0 in
    let sides = sides_at n.local v in
    let links = o.work.row.links.items in
    let s = stands_at n in
    let value = value_made st n (made_of o) is in
    let shared = subst (λ (hs : List DataHalf). AllByRecursion (λ (h : DataHalf). is_shared_by st v to.0 h.edge ≡ (st.owner h.other == to.0)) hs) (sym is.row.halves) (share.shared to.0) in
    let apart = subst AreOfTwoEdges (sym is.row.halves) share.apart in
    let edges : (e : ℕ) → number_told done.edges.items e ≡ told_edge (is_shared_by st v to.0 e) (edge_here n e) ((after_update st.graph st.program s v).edge e) = λ e.
    ap (λ (es : List (EdgeNo × ℕ)). number_told es e) tells.edges
    ∙ ap (λ (xs : List ℕ). number_told (told_edges to.0 sides xs o.edges.items) e) is.numbers
    ∙ ap (λ (ys : List ℕ). number_told (told_edges to.0 sides (numbers_along (edge_here n) sides) ys) e) (edges_are st n (made_of o) is)
    ∙ told_is st v to.0 st.program s o.value sides links e is.row.row.many is.owners shared apart
    ∙ ap (λ (hs : List DataHalf). told_edge (is_shared_by st v to.0 e) (edge_here n e) (with_marks st.program s o.value hs e)) is.row.halves
    ∙ ap (λ (k : ℕ). told_edge (is_shared_by st v to.0 e) (edge_here n e) (with_marks st.program s k (halves_of st.graph v) e)) value in
    λ i.
    record {
      centre = (tells.centre i).0;
      datum = (tells.datum ∙ ap (told_datum (datum_here n v)) value) i;
      edges = λ e. edges e i;
      wakes = λ u. (ap (λ (ws : List Vertex). is_in_update ws u) tells.wakes ∙ named_is to.0 o.woken sides links u ∙ wakes_made st n (made_of o) is to.0 u) i;
      pends = λ u. is_in_update (tells.pends i) u;
      number = tells.number i;
    }
