-- The snapshot update of a vertex saves what the cluster's machine saves.
use Rattle.std.proofs.Common.{◌≡◌, ℕ, ◌==◌, Bool, true, false, Option, None, Some, List, [], ◌∷◌, ◌++◌, if◌then◌else◌, refl, sym, ◌∙◌, ap}
use Rattle.gl_base.specs.declared.numbers.EdgeNo.{EdgeNo}
use Rattle.gl_base.specs.declared.numbers.Vertex.{Vertex}
use Rattle.gl_base.specs.declared.scopes.ScopeId.{ScopeId}
use Rattle.coordinator.specs.snap_update.Snaps.{SnapView, with_edge, with_vertex}
use Rattle.coordinator.specs.snap_update.Holding.{AreEdgesToSave, IsSnapPartOf, Machine, Setting, last_of_edge, later_number, makes_mark, saves_edge, last_of_vertex, with_edges}

-- ---- numbers in lists

later-none : (o : Option ℕ) → later_number o None ≡ o
later-none None = refl
later-none (Some number) = refl

later-later : (a b c : Option ℕ) → later_number (later_number a b) c ≡ later_number a (later_number b c)
later-later None b c = refl
later-later (Some number) b c = refl

later-if : (test : Bool) (number : ℕ) (o : Option ℕ) → later_number (if test then Some number else None) o ≡ (if test then Some number else o)
later-if true number o = refl
later-if false number o = refl

last_of_vertex-last : (pairs : List (Vertex × ℕ)) (v : Vertex) (value u : ℕ) → last_of_vertex (pairs ++ (v, value) ∷ []) u ≡ (if u == v.0 then Some value else last_of_vertex pairs u)
last_of_vertex-last [] v value u = refl
last_of_vertex-last (pair ∷ pairs) v value u =
    let own : Option ℕ = if u == pair.0.0 then Some pair.1 else None in
    ap (λ o. later_number o own) (last_of_vertex-last pairs v value u ∙ sym (later-if (u == v.0) value (last_of_vertex pairs u)))
    ∙ later-later (if u == v.0 then Some value else None) (last_of_vertex pairs u) own
    ∙ later-if (u == v.0) value (later_number (last_of_vertex pairs u) own)

last_of_edge-last : (pairs : List (EdgeNo × ℕ)) (e : EdgeNo) (number d : ℕ) → last_of_edge (pairs ++ (e, number) ∷ []) d ≡ later_number (if d == e.0 then Some number else None) (last_of_edge pairs d)
last_of_edge-last [] e number d = sym (later-none (if d == e.0 then Some number else None))
last_of_edge-last (pair ∷ pairs) e number d =
    let own : Option ℕ = if d == pair.0.0 then Some pair.1 else None in
    ap (λ o. later_number o own) (last_of_edge-last pairs e number d)
    ∙ later-later (if d == e.0 then Some number else None) (last_of_edge pairs d) own

-- ---- marks

-- all but the edges
record IsButEdges (w : SnapView) (m : Machine) : Type 0 where
  known : m.part.known ≡ w.known
  sent : m.part.sent ≡ w.sent
  acknowledged : m.acknowledged ≡ w.acknowledged
  wanted : m.wanted ≡ w.wanted
  vertices : (v : ℕ) → m.part.saved.vertices v ≡ last_of_vertex w.vertices v
  before : m.before ≡ w.before
  behind : m.behind ≡ w.behind
  unsure : m.unsure ≡ w.unsure

each_edge : (pairs : List (EdgeNo × ℕ)) (w : SnapView) (m : Machine) → IsButEdges w m →
    ((e : ℕ) → m.part.saved.edges e ≡ later_number (last_of_edge pairs e) (last_of_edge w.edges e)) → IsSnapPartOf (with_edges pairs w) m
each_edge [] w m is edges =
    record {
      known = is.known;
      sent = is.sent;
      acknowledged = is.acknowledged;
      wanted = is.wanted;
      saved = record { vertices = is.vertices; edges = edges };
      before = is.before;
      behind = is.behind;
      unsure = is.unsure;
    }
each_edge (pair ∷ pairs) w m is edges =
    each_edge pairs (with_edge pair.0 pair.1 w) m
    (record { known = is.known; sent = is.sent; acknowledged = is.acknowledged; wanted = is.wanted; vertices = is.vertices; before = is.before; behind = is.behind; unsure = is.unsure })
    (λ e.
    let own : Option ℕ = if e == pair.0.0 then Some pair.1 else None in
    edges e ∙ later-later (last_of_edge pairs e) own (last_of_edge w.edges e)
    ∙ ap (λ o. later_number (last_of_edge pairs e) o) (sym (last_of_edge-last w.edges pair.0 pair.1 e)))

same_if : (test : Bool) (number : ℕ) (one other : Option ℕ) → one ≡ other → (if test then Some number else one) ≡ (if test then Some number else other)
same_if test number one other same = ap (λ o. if test then Some number else o) same

pub marks_follow : (st : Setting) (a : ℕ) (s : ScopeId) (v : Vertex) (edges : List (EdgeNo × ℕ)) (w : SnapView) (m : Machine) → IsSnapPartOf w m →
    AreEdgesToSave st m.part v.0 edges → IsSnapPartOf (with_edges edges (with_vertex v (m.part.datum v.0).value w)) (makes_mark st a s v.0 m)
marks_follow st a s v edges w m is saves =
    let value : ℕ = (m.part.datum v.0).value in
    each_edge edges (with_vertex v value w) (makes_mark st a s v.0 m)
    (record {
      known = is.known;
      sent = is.sent;
      acknowledged = is.acknowledged;
      wanted = is.wanted;
      vertices = λ u. same_if (u == v.0) value (m.part.saved.vertices u) (last_of_vertex w.vertices u) (is.saved.vertices u) ∙ sym (last_of_vertex-last w.vertices v value u);
      before = is.before;
      behind = is.behind;
      unsure = is.unsure;
    })
    (λ e.
    let test : Bool = saves_edge st m.part v.0 e in
    same_if test (m.part.edge e) (m.part.saved.edges e) (last_of_edge w.edges e) (is.saved.edges e)
    ∙ sym (later-if test (m.part.edge e) (last_of_edge w.edges e))
    ∙ ap (λ o. later_number o (last_of_edge w.edges e)) (sym (saves e)))
