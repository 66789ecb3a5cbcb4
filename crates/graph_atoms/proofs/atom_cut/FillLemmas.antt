-- Lines that fill, one vertex or edge at a time.
use Rattle.std.proofs.Common.{◌≡◌, ℕ, zero, suc, ◌+◌, ◌<◌, ◌≤◌, All, inl, inr, Bool, true, false, not, cond, eqb, ◌&&◌, ◌||◌, List, [], ◌∷◌, ◌++◌, length, get_or, slice_index, take, map, refl, sym, ap, ◌∙◌, subst, arith}
use Rattle.std.specs.List.{filter, list_any, range_with_len, AllByRecursion}
use Rattle.std.proofs.lemmas.Bool.{cases_lt, ne_eqb, eq-eqb}
use Rattle.std.proofs.lemmas.List.{append-nil, get_or-map, get_or_past, length-map}
use Rattle.std.proofs.lemmas.List.FromFn.{filter_of_map_range_with_len_more}
use Rattle.std.proofs.lemmas.List.Folds.{list_any_more}
use Rattle.std.proofs.lemmas.Option.{get_or_from_slice_get}
use Rattle.gl_base.specs.declared.atoms.Lines.{Lines}
use Rattle.gl_base.specs.declared.atoms.VertexLine.{VertexLine}
use Rattle.gl_base.specs.declared.atoms.GhostLine.{GhostLine}
use Rattle.gl_base.specs.declared.atoms.EdgeLine.{EdgeLine}
use Rattle.graph_core.specs.DataGraph.{DataEdge, DataGraph, IsEdge, IsDataGraph, size}
use Rattle.graph_core.specs.Graphs.{IsEdgeLine}
use Rattle.graph_core.specs.Neighbours.{neighbours_of}
use Rattle.gl_base.specs.declared.numbers.AtomNo.{AtomNo}
use Rattle.graph_atoms.specs.atom_cut.Cuts.{atom_numbers}
use Rattle.graph_atoms.specs.atom_cut.Atoms.{edge_of, own_line, ghost_line, line_of_edge, is_in, is_ghost, touches, graph_atom, AreAtoms, AreAtomVertices}
use Rattle.graph_atoms.specs.atom_cut.Inner.Filling.{AllHold, AllGain, when, ends_in}

-- a list with nothing behind it
same : {X : Type 0} (new old wanted : List X) → new ≡ old ++ [] → old ≡ wanted → new ≡ wanted
same new old wanted grown is = grown ∙ append-nil old ∙ is

-- a list with one more of a range behind it, where it passes the test
more : {X : Type 0} (p : X → Bool) (f : ℕ → X) (n : ℕ) (new old : List X) → new ≡ old ++ when (p (f n)) (f n) → old ≡ filter p (map f (range_with_len 0 n)) → new ≡ filter p (map f (range_with_len 0 (n + 1)))
more p f n new old grown is =
    grown ∙ ap (λ (xs : List _). xs ++ when (p (f n)) (f n)) is ∙ sym (filter_of_map_range_with_len_more p f 0 n n (omega arith))

-- what stands behind a list, said in other words
behind : {X : Type 0} (old : List X) (b c : Bool) (x y : X) → b ≡ c → x ≡ y → old ++ when b x ≡ old ++ when c y
behind old b c x y same is = ap (λ (t : Bool). old ++ when t x) same ∙ ap (λ z. old ++ when c z) is

-- one vertex more
pub AllHold-vertex : (g : DataGraph) (of : List ℕ) (v k m atom : ℕ) (line : VertexLine) (old new : List Lines) → AllHold g of v k m old → length new ≡ length old → atom ≡ slice_index of v → line ≡ own_line g v → AllGain (λ a. when (eqb atom a) line) (λ _ _. []) (λ _. []) old new → AllHold g of (v + 1) k m new
AllHold-vertex g of v k m atom line old new hold len at is gain a d inside =
    let h = hold a d (omega (arith, len)) in
    let n = gain a d (omega (arith, len)) in
    record {
      vertices = more (λ (l : VertexLine). is_in of a l.vertex.0) (own_line g) v _ _ (n.vertices ∙ behind _ _ _ _ _ (ap (λ (b : ℕ). eqb b a) at) is) h.vertices;
      ghosts = same _ _ _ n.ghosts h.ghosts;
      edges = same _ _ _ n.edges h.edges;
    }

-- one ghost more
pub AllHold-ghost : (g : DataGraph) (of : List ℕ) (n v m : ℕ) (around : List ℕ) (line : GhostLine) (old new : List Lines) → AllHold g of n v m old → length new ≡ length old → around ≡ neighbours_of g v → line ≡ ghost_line g of v → AllGain (λ _. []) (λ a _. when (not (eqb line.atom.0 a) && list_any (is_in of a) around) line) (λ _. []) old new → AllHold g of n (v + 1) m new
AllHold-ghost g of k v m around line old new hold len near is gain a d inside =
    let h = hold a d (omega (arith, len)) in
    let n = gain a d (omega (arith, len)) in
    let tests : (not (eqb line.atom.0 a) && list_any (is_in of a) around) ≡ is_ghost g of a v =
    ap (λ (l : GhostLine). not (eqb l.atom.0 a) && list_any (is_in of a) around) is
    ∙ ap (λ (us : List ℕ). not (is_in of a v) && list_any (is_in of a) us) near in
    record {
      vertices = same _ _ _ n.vertices h.vertices;
      ghosts = more (λ (l : GhostLine). is_ghost g of a l.vertex.0) (ghost_line g of) v _ _ (n.ghosts ∙ behind _ _ _ _ _ tests is) h.ghosts;
      edges = same _ _ _ n.edges h.edges;
    }

-- where all are in the first atom none is a ghost of it
first_atom : (of : List AtomNo) (i : ℕ) → All (λ (a : AtomNo). a.0 < 1) of → slice_index (atom_numbers of) i ≡ 0
first_atom of i all = elim (cases_lt i (length of)) [
  | inl low ↦
      let d : AtomNo = record { 0 = 0 } in
      let first = all i d low in
      get_or-map (λ (a : AtomNo). a.0) of i d 0 low ∙ omega arith
  | inr past ↦ get_or_past (atom_numbers of) i 0 (omega (arith, length-map of (λ (a : AtomNo). a.0)))
]

no_ghost : (g : DataGraph) (of : List AtomNo) (k n : ℕ) → All (λ (a : AtomNo). a.0 < 1) of → filter (λ (l : GhostLine). is_ghost g (atom_numbers of) 0 l.vertex.0) (map (ghost_line g (atom_numbers of)) (range_with_len k n)) ≡ []
no_ghost g of k zero all = refl
no_ghost g of k (suc n) all =
    let line = ghost_line g (atom_numbers of) k in
    let rest = filter (λ (l : GhostLine). is_ghost g (atom_numbers of) 0 l.vertex.0) (map (ghost_line g (atom_numbers of)) (range_with_len (k + 1) n)) in
    ap (λ (b : Bool). cond (not b && list_any (is_in (atom_numbers of) 0) (neighbours_of g k)) (line ∷ rest) rest) (eq-eqb (slice_index (atom_numbers of) k) 0 (first_atom of k all))
    ∙ no_ghost g of (k + 1) n all

-- one atom has no ghost
pub AllHold-alone : (g : DataGraph) (of : List AtomNo) (n : ℕ) (lines : List Lines) → All (λ (a : AtomNo). a.0 < length lines) of → length lines ≤ 1 → AllHold g (atom_numbers of) n 0 0 lines → AllHold g (atom_numbers of) n n 0 lines
AllHold-alone g of n lines all one hold a d inside =
    let h = hold a d inside in
    let first : a ≡ 0 = omega arith in
    let many : length lines ≡ 1 = omega arith in
    let none : filter (λ (l : GhostLine). is_ghost g (atom_numbers of) a l.vertex.0) (map (ghost_line g (atom_numbers of)) (range_with_len 0 n)) ≡ [] =
    ap (λ (b : ℕ). filter (λ (l : GhostLine). is_ghost g (atom_numbers of) b l.vertex.0) (map (ghost_line g (atom_numbers of)) (range_with_len 0 n))) first
    ∙ no_ghost g of 0 n (subst (λ (m : ℕ). All (λ (a : AtomNo). a.0 < m) of) many all) in
    record { vertices = h.vertices; ghosts = h.ghosts ∙ sym none; edges = h.edges }

-- one edge more
pub AllHold-edge : (g : DataGraph) (of : List ℕ) (n k e from to : ℕ) (line : EdgeLine) (old new : List Lines) → AllHold g of n k e old → length new ≡ length old → from ≡ slice_index of line.from.0 → to ≡ slice_index of line.to.0 → line ≡ line_of_edge g e → AllGain (λ _. []) (λ _ _. []) (λ a. when (eqb from a || eqb to a) line) old new → AllHold g of n k (e + 1) new
AllHold-edge g of k w e from to line old new hold len begins ends is gain a d inside =
    let h = hold a d (omega (arith, len)) in
    let n = gain a d (omega (arith, len)) in
    let tests : (eqb from a || eqb to a) ≡ touches of a (line_of_edge g e) =
    ap (λ (b : ℕ). eqb b a || eqb to a) begins ∙ ap (λ (b : ℕ). is_in of a line.from.0 || eqb b a) ends ∙ ap (touches of a) is in
    record {
      vertices = same _ _ _ n.vertices h.vertices;
      ghosts = same _ _ _ n.ghosts h.ghosts;
      edges = more (touches of a) (line_of_edge g) e _ _ (n.edges ∙ behind _ _ _ _ _ tests is) h.edges;
    }

-- the line of an edge is this one
pub line_of_edge-is : (g : DataGraph) (e : ℕ) (line : EdgeLine) → IsEdgeLine g e line → line ≡ line_of_edge g e
line_of_edge-is g e line is =
    let x : DataEdge = record { from = line.from.0; to = line.to.0; weight = line.weight } in
    let here : edge_of g e ≡ x = get_or_from_slice_get g.edges e x (record { from = 0; to = 0; weight = 0 }) is.1 in
    ap (λ (n : ℕ). record { edge = record { 0 = n }; from = line.from; to = line.to; weight = line.weight }) is.0
    ∙ sym (ap (λ (y : DataEdge). record { edge = record { 0 = e }; from = record { 0 = y.from }; to = record { 0 = y.to }; weight = y.weight }) here)

-- the last of some ghosts
pub ends_in-at : (v : ℕ) (ghosts : List GhostLine) (d : GhostLine) (i : ℕ) → i + 1 ≡ length ghosts → ends_in v ghosts ≡ eqb (get_or ghosts i d).vertex.0 v
ends_in-at v [] d i h = absurd (omega (arith, h))
ends_in-at v (x ∷ []) d zero h = refl
ends_in-at v (x ∷ []) d (suc i) h = absurd (omega (arith, h))
ends_in-at v (x ∷ y ∷ rest) d zero h = absurd (omega (arith, h))
ends_in-at v (x ∷ y ∷ rest) d (suc i) h = ends_in-at v (y ∷ rest) d i (omega (arith, h))

-- a ghost that was added is the last
pub ends_in-added : (ghosts : List GhostLine) (line : GhostLine) → ends_in line.vertex.0 (ghosts ++ line ∷ []) ≡ true
ends_in-added [] line = eq-eqb line.vertex.0 line.vertex.0 refl
ends_in-added (x ∷ []) line = eq-eqb line.vertex.0 line.vertex.0 refl
ends_in-added (x ∷ y ∷ rest) line = ends_in-added (y ∷ rest) line

-- ghosts below a vertex do not end in it
ends_in-below : (v : ℕ) (ghosts : List GhostLine) → AllByRecursion (λ (l : GhostLine). l.vertex.0 < v) ghosts → ends_in v ghosts ≡ false
ends_in-below v [] below = refl
ends_in-below v (x ∷ []) below = ne_eqb x.vertex.0 v (λ e. omega (arith, e, below.0))
ends_in-below v (x ∷ y ∷ rest) below = ends_in-below v (y ∷ rest) below.1

ghosts_below : (g : DataGraph) (of : List ℕ) (p : GhostLine → Bool) (v s n : ℕ) → s + n ≡ v → AllByRecursion (λ (l : GhostLine). l.vertex.0 < v) (filter p (map (ghost_line g of) (range_with_len s n)))
ghosts_below g of p v s zero h = tt
ghosts_below g of p v s (suc n) h =
    let rest = ghosts_below g of p v (s + 1) n (omega (arith, h)) in
    keep (p (ghost_line g of s)) (ghost_line g of s) (filter p (map (ghost_line g of) (range_with_len (s + 1) n))) (omega (arith, h)) rest
  where
    keep : (b : Bool) (l : GhostLine) (ls : List GhostLine) → l.vertex.0 < v → AllByRecursion (λ (l : GhostLine). l.vertex.0 < v) ls → AllByRecursion (λ (l : GhostLine). l.vertex.0 < v) (cond b (l ∷ ls) ls)
    keep true l ls here rest = (here, rest)
    keep false l ls here rest = rest

-- the ghosts among the first vertices do not end in the next
pub AllHold-new : (g : DataGraph) (of : List ℕ) (n v m : ℕ) (lines : List Lines) → AllHold g of n v m lines → (a : ℕ) (d : Lines) → a < length lines → ends_in v (get_or lines a d).ghosts.items ≡ false
AllHold-new g of n v m lines hold a d inside =
    ap (ends_in v) (hold a d inside).ghosts ∙ ends_in-below v _ (ghosts_below g of (λ (l : GhostLine). is_ghost g of a l.vertex.0) v 0 v (omega arith))

-- the lines of all vertices and edges are those of the atoms
pub atoms_from_hold : (g : DataGraph) (of : List ℕ) (atoms : ℕ) (lines : List Lines) → length lines ≡ atoms → AllHold g of (size g) (size g) (length g.edges) lines → AreAtoms g of atoms lines
atoms_from_hold g of atoms lines count hold =
    record {
      count = count;
      each = λ a d inside.
          let h = hold a d (omega (arith, count)) in
          let l : Lines = get_or lines a d in
          ap (λ (vs : List VertexLine). record { number = a; vertices = vs; ghosts = l.ghosts.items; edges = l.edges.items }) h.vertices
          ∙ ap (λ (gs : List GhostLine). record { number = a; vertices = (graph_atom g of a).vertices; ghosts = gs; edges = l.edges.items }) h.ghosts
          ∙ ap (λ (es : List EdgeLine). record { number = a; vertices = (graph_atom g of a).vertices; ghosts = (graph_atom g of a).ghosts; edges = es }) h.edges;
    }

-- those of all vertices are those of the atoms
pub vertices_from_hold : (g : DataGraph) (of : List ℕ) (atoms : ℕ) (lines : List Lines) → length lines ≡ atoms → AllHold g of (size g) (size g) 0 lines → AreAtomVertices g of atoms lines
vertices_from_hold g of atoms lines count hold =
    record {
      count = count;
      vertices = λ a d inside. (hold a d (omega (arith, count))).vertices;
      ghosts = λ a d inside. (hold a d (omega (arith, count))).ghosts;
    }

and_no : (x : Bool) → (x && false) ≡ false
and_no true = refl
and_no false = refl

and_yes : (x : Bool) → (x && true) ≡ x
and_yes true = refl
and_yes false = refl

-- a ghost is added once for all neighbours in an atom
around_step : (p x y : Bool) (l : GhostLine) (olds mids news : List GhostLine) → ends_in l.vertex.0 olds ≡ false → mids ≡ olds ++ when (p && x) l → news ≡ mids ++ when ((p && y) && not (ends_in l.vertex.0 mids)) l → news ≡ olds ++ when (p && (x || y)) l
around_step false x y l olds mids news new m n = n ∙ append-nil mids ∙ m
around_step true true y l olds mids news new m n =
    let ends = ap (ends_in l.vertex.0) m ∙ ends_in-added olds l in
    n ∙ ap (λ (b : Bool). mids ++ when (y && not b) l) ends ∙ ap (λ (b : Bool). mids ++ when b l) (and_no y) ∙ append-nil mids ∙ m
around_step true false y l olds mids news new m n =
    let plain : mids ≡ olds = m ∙ append-nil olds in
    let ends = ap (ends_in l.vertex.0) plain ∙ new in
    n ∙ ap (λ (b : Bool). mids ++ when (y && not b) l) ends ∙ ap (λ (b : Bool). mids ++ when b l) (and_yes y) ∙ ap (λ (gs : List GhostLine). gs ++ when y l) plain

-- the atoms of one vertex more
pub AllGain-around : (of around : List ℕ) (i atom : ℕ) (line : GhostLine) (old mid new : List Lines) → i < length around → atom ≡ slice_index of (slice_index around i) → length mid ≡ length old → ((a : ℕ) (d : Lines) → a < length old → ends_in line.vertex.0 (get_or old a d).ghosts.items ≡ false)
    → AllGain (λ _. []) (λ a _. when (not (eqb line.atom.0 a) && list_any (is_in of a) (take i around)) line) (λ _. []) old mid
    → AllGain (λ _. []) (λ a was. when ((not (eqb line.atom.0 a) && eqb atom a) && not (ends_in line.vertex.0 was.ghosts.items)) line) (λ _. []) mid new
    → AllGain (λ _. []) (λ a _. when (not (eqb line.atom.0 a) && list_any (is_in of a) (take (i + 1) around)) line) (λ _. []) old new
AllGain-around of around i atom line old mid new inside at len fresh gained gain a d below =
    let m = gained a d below in
    let n = gain a d (omega (arith, len)) in
    let p : Bool = not (eqb line.atom.0 a) in
    let x : Bool = list_any (is_in of a) (take i around) in
    let grown : list_any (is_in of a) (take (i + 1) around) ≡ (x || eqb atom a) =
    list_any_more (is_in of a) around i 0 inside ∙ ap (λ (b : ℕ). x || eqb b a) (sym at) in
    record {
      vertices = n.vertices ∙ append-nil _ ∙ m.vertices;
      ghosts = around_step p x (eqb atom a) line _ _ _ (fresh a d below) m.ghosts n.ghosts ∙ ap (λ (b : Bool). (get_or old a d).ghosts.items ++ when (p && b) line) (sym grown);
      edges = n.edges ∙ append-nil _ ∙ m.edges;
    }

-- the number of an atom in a list
pub atom_at : (of : List AtomNo) (v : ℕ) (d : AtomNo) → v < length of → (get_or of v d).0 ≡ slice_index (atom_numbers of) v
atom_at of v d inside = sym (get_or-map (λ (a : AtomNo). a.0) of v d 0 inside)

-- a ghost with its numbers is the line of its vertex
pub ghost_line-is : (g : DataGraph) (of : List ℕ) (v id atom : ℕ) (line : GhostLine) → line ≡ record { vertex = record { 0 = v }; id = id; atom = record { 0 = atom } } → id ≡ slice_index g.ids v → atom ≡ slice_index of v → line ≡ ghost_line g of v
ghost_line-is g of v id atom line is here at =
    is ∙ ap (λ (i : ℕ). record { vertex = record { 0 = v }; id = i; atom = record { 0 = atom } }) here
    ∙ ap (λ (a : ℕ). record { vertex = record { 0 = v }; id = slice_index g.ids v; atom = record { 0 = a } }) at

-- the ends of an edge are vertices
pub edge_inside : (g : DataGraph) (e : ℕ) (line : EdgeLine) → IsDataGraph g → e < length g.edges → IsEdgeLine g e line → IsEdge (size g) g.directed (record { from = line.from.0; to = line.to.0; weight = line.weight })
edge_inside g e line is inside here =
    let x : DataEdge = record { from = line.from.0; to = line.to.0; weight = line.weight } in
    subst (IsEdge (size g) g.directed) (get_or_from_slice_get g.edges e x x here.1) (is.edges e x inside)
