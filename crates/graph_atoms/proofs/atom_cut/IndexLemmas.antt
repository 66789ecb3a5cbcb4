-- The parts of the index.
use Rattle.std.proofs.Common.{◌≡◌, ℕ, zero, suc, ◌+◌, ◌-◌, ◌*◌, ◌^◌, eqb, length-append, ◌<◌, ◌≤◌, Bool, true, false, cond, List, [], ◌∷◌, ◌++◌, length, get_or, take, refl, sym, ap, ◌∙◌, arith, append_assoc}
use Rattle.std.proofs.Math.Nat.{add-mul}
use Rattle.graph_atoms.specs.declared.atom_cut.metas.MetaEdge.{MetaEdge}
use Rattle.graph_atoms.specs.atom_cut.MetaEdges.{meta_edge, metas_behind, metas_among}
use Rattle.std.specs.List.{filter, flat_map, range_with_len}
use Rattle.std.proofs.lemmas.List.{take_more}
use Rattle.std.proofs.lemmas.Grind.{flat_map-append}
use Rattle.std.proofs.lemmas.List.FromFn.{length-map-range_with_len}
use Rattle.std.proofs.lemmas.List.{append-nil}
use Rattle.gl_base.specs.declared.atoms.Lines.{Lines}
use Rattle.gl_base.specs.declared.atoms.VertexLine.{VertexLine}
use Rattle.gl_base.specs.declared.atoms.GhostLine.{GhostLine}
use Rattle.graph_core.specs.DataGraph.{DataGraph, IsDataGraph, size}
use Rattle.graph_atoms.specs.atom_file.Atoms.{Atom, atom_of}
use Rattle.graph_atoms.specs.atom_cut.Atoms.{graph_atom, own_line, ghost_line, line_of_edge, vertex_lines, ghost_lines, edge_lines, is_in, is_ghost, touches, AreAtoms}
use Rattle.graph_atoms.specs.atom_cut.Index.{count_bytes}
use Rattle.graph_atoms.specs.atom_cut.Inner.Filling.{AreFew}

-- what is written of the first items and of one more
pub flat_map-take_more : {T : Type 0} (write : T → List ℕ) (xs : List T) (i : ℕ) (d : T) (before file new one : List ℕ) → i < length xs → file ≡ before ++ flat_map write (take i xs) → one ≡ write (get_or xs i d) → new ≡ file ++ one → new ≡ before ++ flat_map write (take (i + 1) xs)
flat_map-take_more write xs i d before file new one inside so_far is grown =
    let x = get_or xs i d in
    grown ∙ ap (λ (f : List ℕ). f ++ one) so_far
    ∙ ap (λ (r : List ℕ). (before ++ flat_map write (take i xs)) ++ r) (is ∙ sym (append-nil (write x)))
    ∙ append_assoc before (flat_map write (take i xs)) (flat_map write (x ∷ []))
    ∙ ap (λ (r : List ℕ). before ++ r) (sym (flat_map-append write (take i xs) (x ∷ [])))
    ∙ ap (λ (ys : List _). before ++ flat_map write ys) (sym (take_more xs i d inside))

-- what is written of items is what is written of their places
flat_map-places : {T : Type 0} (f : T → List ℕ) (h : ℕ → List ℕ) (xs : List T) (s : ℕ) → ((i : ℕ) (d : T) → i < length xs → f (get_or xs i d) ≡ h (s + i)) → flat_map f xs ≡ flat_map h (range_with_len s (length xs))
flat_map-places f h [] s same = refl
flat_map-places f h (x ∷ xs) s same =
    let here : f x ≡ h s = same 0 x (omega arith) ∙ ap h (omega arith) in
    ap (λ (ys : List ℕ). ys ++ flat_map f xs) here
    ∙ ap (λ (ys : List ℕ). h s ++ ys) (flat_map-places f h xs (s + 1) (λ i d inside.
    let moved : s + suc i ≡ s + 1 + i = omega arith in
    same (suc i) d (omega (arith, inside)) ∙ ap h moved))

-- the counts of the lines are those of the atoms
pub counts_same : (g : DataGraph) (of : List ℕ) (atoms : ℕ) (lines : List Lines) → AreAtoms g of atoms lines → flat_map (λ (l : Lines). count_bytes (atom_of 0 l)) lines ≡ flat_map (λ a. count_bytes (graph_atom g of a)) (range_with_len 0 atoms)
counts_same g of atoms lines are =
    flat_map-places (λ (l : Lines). count_bytes (atom_of 0 l)) (λ a. count_bytes (graph_atom g of a)) lines 0
    (λ a d inside.
    let at : 0 + a ≡ a = omega arith in
    ap count_bytes (are.each a d (omega (arith, inside, are.count))) ∙ ap (λ b. count_bytes (graph_atom g of b)) (sym at))
    ∙ ap (λ n. flat_map (λ a. count_bytes (graph_atom g of a)) (range_with_len 0 n)) are.count

-- what passes a test is no more than all
pub filter_le : {X : Type 0} (p : X → Bool) (xs : List X) → length (filter p xs) ≤ length xs
filter_le p [] = omega arith
filter_le p (x ∷ xs) = keep (p x) (filter p xs) (filter_le p xs)
  where
    keep : (b : Bool) (ys : List _) → length ys ≤ length xs → length (cond b (x ∷ ys) ys) ≤ suc (length xs)
    keep true ys h = omega (arith, h)
    keep false ys h = omega (arith, h)

-- an atom has no more lines than the graph
pub lines_few : (g : DataGraph) (of : List ℕ) (atoms : ℕ) (lines : List Lines) → IsDataGraph g → AreAtoms g of atoms lines → (a : ℕ) (d : Lines) → a < length lines → AreFew (get_or lines a d)
lines_few g of atoms lines is are a d inside =
    let same = are.each a d (omega (arith, inside, are.count)) in
    let v = ap (λ (x : Atom). length x.vertices) same in
    let k = ap (λ (x : Atom). length x.ghosts) same in
    let e = ap (λ (x : Atom). length x.edges) same in
    record {
      vertices = omega (arith, v, filter_le (λ (l : VertexLine). is_in of a l.vertex.0) (vertex_lines g (size g)), length-map-range_with_len (own_line g) 0 (size g), is.few);
      ghosts = omega (arith, k, filter_le (λ (l : GhostLine). is_ghost g of a l.vertex.0) (ghost_lines g of (size g)), length-map-range_with_len (ghost_line g of) 0 (size g), is.few);
      edges = omega (arith, e, filter_le (touches of a) (edge_lines g (length g.edges)), length-map-range_with_len (line_of_edge g) 0 (length g.edges), is.few_edges);
    }

-- pieces that were added in turn
pub three_parts : (n0 n1 n2 n3 a b c p q r : List ℕ) → n0 ≡ [] → n1 ≡ n0 ++ a → n2 ≡ n1 ++ b → n3 ≡ n2 ++ c → a ≡ p → b ≡ q → c ≡ r → n3 ≡ p ++ q ++ r
three_parts n0 n1 n2 n3 a b c p q r none first second third ap_ bq cr =
    third ∙ ap (λ (x : List ℕ). x ++ c) (second ∙ ap (λ (x : List ℕ). x ++ b) (first ∙ ap (λ (x : List ℕ). x ++ a) none))
    ∙ ap (λ (x : List ℕ). x ++ b ++ c) ap_ ∙ ap (λ (x : List ℕ). p ++ x ++ c) bq ∙ ap (λ (x : List ℕ). p ++ q ++ x) cr

-- three pieces behind what stands there
pub behind_three : (old n1 n2 n3 a b k c : List ℕ) → n1 ≡ old ++ a → n2 ≡ n1 ++ b → n3 ≡ n2 ++ k → k ≡ c → n3 ≡ old ++ (a ++ b ++ c)
behind_three old n1 n2 n3 a b k c first second third is =
    third ∙ ap (λ (x : List ℕ). x ++ k) (second ∙ ap (λ (x : List ℕ). x ++ b) first) ∙ ap (λ (x : List ℕ). old ++ a ++ b ++ x) is
    ∙ append_assoc (old ++ a) b c ∙ append_assoc old a (b ++ c) ∙ ap (λ (x : List ℕ). old ++ x) (sym (append_assoc a b c))

-- each of a range gives few
flat_map-few : {X : Type 0} (f : ℕ → List X) (most s n : ℕ) → ((i : ℕ) → length (f i) ≤ most) → length (flat_map f (range_with_len s n)) ≤ n * most
flat_map-few f most s zero few = omega arith
flat_map-few f most s (suc n) few =
    let more : suc n * most ≡ most + n * most = ap (λ m. m * most) (omega arith) ∙ add-mul 1 n most ∙ ap (λ m. m + n * most) (omega arith) in
    omega (arith, more, length-append (f s) (flat_map f (range_with_len (s + 1) n)), few s, flat_map-few f most (s + 1) n few)

meta_edge-le : (count : ℕ → ℕ → ℕ) (a b : ℕ) → length (meta_edge count a b) ≤ 1
meta_edge-le count a b = one (eqb (count a b) 0) (record { a = record { 0 = a }; b = record { 0 = b }; count = count a b })
  where
    one : (t : Bool) (e : MetaEdge) → length (cond t [] (e ∷ [])) ≤ 1
    one true e = omega arith
    one false e = omega arith

-- there are no more meta-edges than pairs
pub metas_few : (count : ℕ → ℕ → ℕ) (atoms : ℕ) → atoms ≤ 1024 → length (metas_among count atoms) < 2 ^ 32
metas_few count atoms few =
    let behind = λ (a : ℕ). flat_map-few (meta_edge count a) 1 (a + 1) (atoms - (a + 1)) (meta_edge-le count a) in
    let all = flat_map-few (λ a. metas_behind count a (atoms - (a + 1))) 1024 0 atoms (λ a. omega (arith, behind a, few)) in
    omega (arith, all, few)
