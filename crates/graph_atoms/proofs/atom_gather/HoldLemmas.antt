-- What is kept of the atoms that add a vertex.
use Rattle.std.proofs.Common.{◌≡◌, ◌≢◌, ℕ, zero, suc, ◌+◌, ◌-◌, ◌<◌, ◌≤◌, Bool, true, false, cond, eqb, List, [], ◌∷◌, ◌++◌, length, map, get_or, take, slice_index, slice_get, take_all, Some, None, refl, sym, ap, ◌∙◌, arith, append_assoc}
use Rattle.std.specs.List.{filter}
use Rattle.std.proofs.lemmas.Bool.{eq-eqb, ne_eqb}
use Rattle.std.proofs.lemmas.List.{take_more, map-append}
use Rattle.std.proofs.lemmas.Option.{get_or_from_slice_get, slice_get_within}
use Rattle.std.proofs.lemmas.List.Elements.{filter-append}
use Rattle.std.proofs.lemmas.List.FromFn.{fill_by_all}
use Rattle.gl_base.specs.declared.numbers.AtomNo.{AtomNo}
use Rattle.gl_base.specs.declared.atoms.AtomsFault.{AtomsFault}
use Rattle.gl_base.specs.declared.atoms.VertexLine.{VertexLine}
use Rattle.graph_core.specs.Rows.{with_key}
use Rattle.graph_atoms.specs.declared.atom_gather.owners.Held.{Held}
use Rattle.graph_atoms.specs.declared.atom_gather.owners.Held.TheVariants.{Nobody, By, Many}
use Rattle.graph_atoms.specs.declared.atom_gather.owners.Owners.{Owners}
use Rattle.graph_atoms.specs.atom_gather.Owners.{with_atom, owner_at, owner_from, owner_fault, owners_of, held_from, AreHeld}
use Rattle.graph_atoms.specs.atom_gather.Inner.Holding.{AreAllHeld, IsFirstUnheld}

-- the items with a key in two lists, one behind the other
pub with_key_append : {T : Type 0} (k : ℕ) (ps qs : List (ℕ × T)) → with_key k (ps ++ qs) ≡ with_key k ps ++ with_key k qs
with_key_append k ps qs =
    ap (map (λ (p : ℕ × _). p.1)) (filter-append (λ (p : ℕ × _). eqb p.0 k) ps qs)
    ∙ map-append (λ (p : ℕ × _). p.1) (filter (λ (p : ℕ × _). eqb p.0 k) ps) (filter (λ (p : ℕ × _). eqb p.0 k) qs)

-- one vertex of an atom more
pub with_atom_more : (a : ℕ) (added : List (ℕ × ℕ)) (vs : List VertexLine) (i : ℕ) (l : VertexLine) → slice_get vs i ≡ Some l → (added ++ with_atom a (map (λ (l : VertexLine). l.vertex.0) (take i vs))) ++ (l.vertex.0, a) ∷ [] ≡ added ++ with_atom a (map (λ (l : VertexLine). l.vertex.0) (take (i + 1) vs))
with_atom_more a added vs i l found =
    let number = λ (l : VertexLine). l.vertex.0 in
    let one : take (i + 1) vs ≡ take i vs ++ l ∷ [] =
    take_more vs i l (slice_get_within vs i l found) ∙ ap (λ (x : VertexLine). take i vs ++ x ∷ []) (get_or_from_slice_get vs i l l found) in
    append_assoc added (with_atom a (map number (take i vs))) ((l.vertex.0, a) ∷ [])
    ∙ ap (λ (ps : List (ℕ × ℕ)). added ++ ps) (sym (
    ap (λ (ls : List VertexLine). with_atom a (map number ls)) one
    ∙ ap (with_atom a) (map-append number (take i vs) (l ∷ []))
    ∙ map-append (λ (v : ℕ). (v, a)) (map number (take i vs)) (number l ∷ [])))

-- all vertices of an atom
pub with_atom_all : (a : ℕ) (added : List (ℕ × ℕ)) (vs : List VertexLine) (i : ℕ) → length vs ≤ i → added ++ with_atom a (map (λ (l : VertexLine). l.vertex.0) (take i vs)) ≡ added ++ with_atom a (map (λ (l : VertexLine). l.vertex.0) vs)
with_atom_all a added vs i all = ap (λ (ls : List VertexLine). added ++ with_atom a (map (λ (l : VertexLine). l.vertex.0) ls)) (take_all i vs all)

-- the vertices that one atom holds
abbrev list_of : Held → List ℕ
list_of Nobody = []
list_of (By a) = a.0 ∷ []
list_of Many = []

not_one : ◌≡◌ {A = ℕ} 0 1 → ⊥
not_one e = omega (arith, e)

-- none, or more than one, is not one
pub nobody_apart : (a : AtomNo) → Nobody ≢ By a
nobody_apart a e = not_one (ap (λ (h : Held). length (list_of h)) e)

pub many_apart : (a : AtomNo) → Many ≢ By a
many_apart a e = not_one (ap (λ (h : Held). length (list_of h)) e)

pub one_held : (xs : List ℕ) (a : AtomNo) → held_from xs ≡ By a → xs ≡ a.0 ∷ []
one_held [] a h = ap list_of h
one_held (x ∷ []) a h = ap list_of h
one_held (x ∷ y ∷ zs) a h = absurd (not_one (ap length (ap list_of h)))

pub not_one_held : (xs : List ℕ) → ((a : AtomNo) → held_from xs ≢ By a) → length xs ≢ 1
not_one_held [] none = λ e. omega (arith, e)
not_one_held (x ∷ []) none = λ e. none (record { 0 = x }) refl
not_one_held (x ∷ y ∷ zs) none = λ e. omega (arith, e)

-- vertices that one atom adds are passed
pub owner_skip : (added : List (ℕ × ℕ)) (k left v : ℕ) → ((u : ℕ) → v ≤ u → u < v + k → length (with_key u added) ≡ 1) → owner_from added (k + left) v ≡ owner_from added left (v + k)
owner_skip added zero left v one =
    let none : 0 + left ≡ left = omega arith in
    let here : v ≡ v + 0 = omega arith in
    ap (λ (j : ℕ). owner_from added j v) none ∙ ap (owner_from added left) here
owner_skip added (suc k) left v one =
    let more : suc k + left ≡ suc (k + left) = omega arith in
    let moved : v + 1 + k ≡ v + suc k = omega arith in
    ap (λ (j : ℕ). owner_from added j v) more
    ∙ ap (λ (b : Bool). cond b (owner_from added (k + left) (v + 1)) (Some (owner_at v))) (eq-eqb (length (with_key v added)) 1 (one v (omega arith) (omega arith)))
    ∙ owner_skip added k left (v + 1) (λ u low high. one u (omega (arith, low)) (omega (arith, high)))
    ∙ ap (owner_from added left) moved

key_of_mark : (n : ℕ) (added : List (ℕ × ℕ)) (owners : Owners) (v : ℕ) (a : AtomNo) → AreHeld n added owners → v < n → get_or owners.held.items v Nobody ≡ By a → with_key v added ≡ a.0 ∷ []
key_of_mark n added owners v a are inside by = one_held (with_key v added) a (sym (are.held v inside) ∙ by)

-- where one atom adds each vertex, it is the one that was told
pub owners_held : (n : ℕ) (added : List (ℕ × ℕ)) (owners : Owners) (of : List ℕ) → AreHeld n added owners → AreAllHeld owners.held.items of → of ≡ owners_of n added
owners_held n added owners of are all =
    fill_by_all (λ v. slice_index (with_key v added) 0) of n 0 (all.each ∙ are.each)
    (λ k h. sym (ap (λ (xs : List ℕ). slice_index xs 0) (key_of_mark n added owners k (record { 0 = slice_index of k }) are h (all.by k (omega (arith, h, are.each))))))

passed : (n : ℕ) (added : List (ℕ × ℕ)) (owners : Owners) (of : List ℕ) → AreHeld n added owners → AreAllHeld owners.held.items of → owner_fault n added ≡ owner_from added 0 n
passed n added owners of are all =
    let whole : n ≡ n + 0 = omega arith in
    let end : 0 + n ≡ n = omega arith in
    ap (λ (j : ℕ). owner_from added j 0) whole
    ∙ owner_skip added n 0 0 (λ u low high. ap length (key_of_mark n added owners u (record { 0 = slice_index of u }) are (omega (arith, high)) (all.by u (omega (arith, high, are.each)))))
    ∙ ap (owner_from added 0) end

pub no_owner_fault : (n : ℕ) (added : List (ℕ × ℕ)) (owners : Owners) (of : List ℕ) → AreHeld n added owners → AreAllHeld owners.held.items of → owners.beyond ≡ false → owner_fault n added ≡ None
no_owner_fault n added owners of are all low =
    passed n added owners of are all
    ∙ ap (λ (b : Bool). cond b (Some (owner_at n)) None) (sym are.beyond ∙ low)

pub beyond_fault : (n : ℕ) (added : List (ℕ × ℕ)) (owners : Owners) (of : List ℕ) → AreHeld n added owners → AreAllHeld owners.held.items of → owners.beyond ≡ true → owner_fault n added ≡ Some (owner_at (length owners.held.items))
beyond_fault n added owners of are all high =
    passed n added owners of are all
    ∙ ap (λ (b : Bool). cond b (Some (owner_at n)) None) (sym are.beyond ∙ high)
    ∙ ap (λ (v : ℕ). Some (owner_at v)) (sym are.each)

-- the first vertex that not exactly one atom adds
pub unheld_fault : (n : ℕ) (added : List (ℕ × ℕ)) (owners : Owners) (fault : AtomsFault) → AreHeld n added owners → IsFirstUnheld owners.held.items fault → owner_fault n added ≡ Some fault
unheld_fault n added owners fault are first =
    let w = first.vertex in
    let inside : w < n = omega (arith, first.inside, are.each) in
    let left = n - (w + 1) in
    let whole : n ≡ w + suc left = omega arith in
    let end : 0 + w ≡ w = omega arith in
    let apart : length (with_key w added) ≢ 1 = not_one_held (with_key w added) (λ a e. first.here a (are.held w inside ∙ e)) in
    ap (λ (j : ℕ). owner_from added j 0) whole
    ∙ owner_skip added w (suc left) 0 (λ u low high. let by = first.before u (omega (arith, high)) in ap length (key_of_mark n added owners u by.0 are (omega (arith, high, inside)) by.1))
    ∙ ap (owner_from added (suc left)) end
    ∙ ap (λ (b : Bool). cond b (owner_from added left (w + 1)) (Some (owner_at w))) (ne_eqb (length (with_key w added)) 1 apart)
    ∙ ap (λ (f : AtomsFault). Some f) (sym first.fault_is)
