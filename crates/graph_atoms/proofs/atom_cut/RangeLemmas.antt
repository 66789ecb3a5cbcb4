-- The lines of an atom rise, are few, and have the ranges of their fields.
use Rattle.std.proofs.Common.{◌≡◌, ℕ, zero, suc, ◌+◌, ◌^◌, ◌<◌, ◌≤◌, Bool, true, false, cond, List, [], ◌∷◌, length, map, subst, All, refl, sym, ap, ◌∙◌, arith}
use Rattle.std.specs.List.{filter, range_with_len, AllByRecursion}
use Rattle.std.specs.List.Sorted.{IsStrictlyIncreasing}
use Rattle.std.proofs.lemmas.List.Elements.{All-from_recursion}
use Rattle.std.proofs.lemmas.List.FromFn.{length-map-range_with_len, get_or-range_with_len, length-range_with_len}
use Rattle.std.proofs.lemmas.List.Kept.{IsStrictlyIncreasing-filter}
use Rattle.gl_base.specs.declared.atoms.VertexLine.{VertexLine}
use Rattle.gl_base.specs.declared.atoms.GhostLine.{GhostLine}
use Rattle.gl_base.specs.declared.atoms.EdgeLine.{EdgeLine}
use Rattle.graph_core.specs.DataGraph.{DataGraph, IsDataGraph, size}
use Rattle.graph_atoms.specs.atom_file.Atoms.{IsAtom, AtomFits, VertexLineFits, GhostLineFits, EdgeLineFits}
use Rattle.graph_atoms.specs.atom_cut.Atoms.{graph_atom, own_line, ghost_line, line_of_edge, vertex_lines, ghost_lines, edge_lines, is_in, is_ghost, touches}
use Rattle.graph_atoms.proofs.atom_cut.IndexLemmas.{filter_le}

-- what holds of each line that passes
fits : {T : Type 0} (P : T → Type 0) (p : T → Bool) (f : ℕ → T) (s n : ℕ) → ((i : ℕ) → s ≤ i → i < s + n → P (f i)) → AllByRecursion P (filter p (map f (range_with_len s n)))
fits P p f s zero holds = tt
fits P p f s (suc n) holds = keep (p (f s)) (filter p (map f (range_with_len (s + 1) n))) (holds s (omega arith) (omega arith)) (fits P p f (s + 1) n (λ i low high. holds i (omega (arith, low)) (omega (arith, high))))
  where
    keep : (b : Bool) (rest : List _) → P (f s) → AllByRecursion P rest → AllByRecursion P (cond b (f s ∷ rest) rest)
    keep true rest here h = (here, h)
    keep false rest here h = h

pub all_fit : {T : Type 0} (P : T → Type 0) (p : T → Bool) (f : ℕ → T) (n : ℕ) → ((i : ℕ) → i < n → P (f i)) → All P (filter p (map f (range_with_len 0 n)))
all_fit P p f n holds = All-from_recursion P (filter p (map f (range_with_len 0 n))) (fits P p f 0 n (λ i _ high. holds i (omega (arith, high))))

pub graph_atom-fits : (g : DataGraph) (of : List ℕ) (a : ℕ) → IsDataGraph g → All (λ b. b < 2 ^ 16) of → length of ≡ size g → a < 2 ^ 16 → AtomFits (graph_atom g of a)
graph_atom-fits g of a is below each low =
    let id = λ (v : ℕ) (h : v < size g). is.ids v 0 h in
    record {
      number = low;
      vertices = all_fit VertexLineFits (λ (l : VertexLine). is_in of a l.vertex.0) (own_line g) (size g)
          (λ v h. record { vertex = omega (arith, h, is.few); id = omega (arith, id v h) });
      ghosts = all_fit GhostLineFits (λ (l : GhostLine). is_ghost g of a l.vertex.0) (ghost_line g of) (size g)
          (λ v h. record { vertex = omega (arith, h, is.few); id = omega (arith, id v h); atom = below v 0 (omega (arith, h, each)) });
      edges = all_fit EdgeLineFits (touches of a) (line_of_edge g) (length g.edges)
          (λ e h.
          let edge = is.edges e (record { from = 0; to = 0; weight = 0 }) h in
          record { edge = omega (arith, h, is.few_edges); from = omega (arith, edge.from, is.few); to = omega (arith, edge.to, is.few); weight = edge.weight });
    }

-- the numbers of the lines that pass
numbers : {T : Type 0} (number : T → ℕ) (p : T → Bool) (f : ℕ → T) (xs : List ℕ) → ((i : ℕ) → number (f i) ≡ i) → map number (filter p (map f xs)) ≡ filter (λ i. p (f i)) xs
numbers number p f [] same = refl
numbers number p f (x ∷ xs) same = keep (p (f x)) (numbers number p f xs same)
  where
    keep : (b : Bool) → map number (filter p (map f xs)) ≡ filter (λ i. p (f i)) xs → map number (cond b (f x ∷ filter p (map f xs)) (filter p (map f xs))) ≡ cond b (x ∷ filter (λ i. p (f i)) xs) (filter (λ i. p (f i)) xs)
    keep true rest = ap (λ (n : ℕ). n ∷ map number (filter p (map f xs))) (same x) ∙ ap (λ (ns : List ℕ). x ∷ ns) rest
    keep false rest = rest

range_rises : (n : ℕ) → IsStrictlyIncreasing (range_with_len 0 n)
range_rises n k inside =
    let len = length-range_with_len 0 n in
    omega (arith, get_or-range_with_len 0 n k 0 (omega (arith, inside, len)), get_or-range_with_len 0 n (k + 1) 0 (omega (arith, inside, len)))

rising : {T : Type 0} (number : T → ℕ) (p : T → Bool) (f : ℕ → T) (n : ℕ) → ((i : ℕ) → number (f i) ≡ i) → IsStrictlyIncreasing (map number (filter p (map f (range_with_len 0 n))))
rising number p f n same =
    subst IsStrictlyIncreasing (sym (numbers number p f (range_with_len 0 n) same)) (IsStrictlyIncreasing-filter (λ i. p (f i)) (range_with_len 0 n) (range_rises n))

-- each atom of a graph has a file
pub graph_atom-is : (g : DataGraph) (of : List ℕ) (a : ℕ) → IsDataGraph g → IsAtom (graph_atom g of a)
graph_atom-is g of a is =
    record {
      few =
          let v = filter_le (λ (l : VertexLine). is_in of a l.vertex.0) (vertex_lines g (size g)) in
          let k = filter_le (λ (l : GhostLine). is_ghost g of a l.vertex.0) (ghost_lines g of (size g)) in
          let e = filter_le (touches of a) (edge_lines g (length g.edges)) in
          omega (arith, v, k, e, length-map-range_with_len (own_line g) 0 (size g), length-map-range_with_len (ghost_line g of) 0 (size g), length-map-range_with_len (line_of_edge g) 0 (length g.edges), is.few, is.few_edges);
      vertices = rising (λ (l : VertexLine). l.vertex.0) (λ l. is_in of a l.vertex.0) (own_line g) (size g) (λ i. refl);
      ghosts = rising (λ (l : GhostLine). l.vertex.0) (λ l. is_ghost g of a l.vertex.0) (ghost_line g of) (size g) (λ i. refl);
      edges = rising (λ (l : EdgeLine). l.edge.0) (touches of a) (line_of_edge g) (length g.edges) (λ i. refl);
    }
