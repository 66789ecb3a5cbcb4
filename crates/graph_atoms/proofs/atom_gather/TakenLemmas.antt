-- The files of a graph's atoms have the owners that they were cut by.
use Rattle.std.proofs.Common.{◌≡◌, ◌≢◌, ℕ, zero, suc, ◌+◌, ◌<◌, ◌≤◌, inl, inr, Bool, true, false, cond, eqb, leb, List, [], ◌∷◌, ◌++◌, length, map, slice_index, Some, None, All, subst, refl, sym, ap, ◌∙◌, arith}
use Rattle.std.specs.List.{filter, flat_map, range_with_len, AllByRecursion}
use Rattle.std.specs.Option.{option_or}
use Rattle.std.proofs.lemmas.Bool.{cases_eq, cases_lt, eq-eqb, ne_eqb, lt-leb}
use Rattle.std.proofs.lemmas.List.{append-nil}
use Rattle.std.proofs.lemmas.List.Elements.{All-from_recursion}
use Rattle.std.proofs.lemmas.List.Folds.{list_any_none}
use Rattle.std.proofs.lemmas.List.FromFn.{fill_by_all}
use Rattle.gl_base.specs.declared.atoms.VertexLine.{VertexLine}
use Rattle.graph_core.specs.Rows.{with_key}
use Rattle.graph_core.specs.DataGraph.{DataGraph, IsDataGraph, size}
use Rattle.graph_core.proofs.RowLemmas.{with_key-here, with_key-past}
use Rattle.graph_atoms.specs.atom_file.Atoms.{atom_bytes}
use Rattle.graph_atoms.specs.atom_file.Faults.{atom_fault}
use Rattle.graph_atoms.proofs.atom_file.AtomLemmas.{atom_fault-atom_bytes}
use Rattle.graph_atoms.specs.atom_cut.Atoms.{graph_atom, own_line, is_in}
use Rattle.graph_atoms.proofs.atom_cut.RangeLemmas.{graph_atom-is, graph_atom-fits}
use Rattle.graph_atoms.specs.atom_gather.Files.{form_of, forms_fault, difference_from, differs_fault, differs_of, files_fault, AreFiles}
use Rattle.graph_atoms.specs.atom_gather.Owners.{vertices_added, with_atom, added_by, owner_at, owner_from, owner_fault, owners_of}
use Rattle.graph_atoms.specs.atom_gather.Gathered.{IsAssignment}
use Rattle.graph_atoms.proofs.atom_gather.HoldLemmas.{with_key_append, owner_skip}
use Rattle.graph_atoms.proofs.atom_gather.FileLemmas.{added_more}
use Rattle.graph_atoms.proofs.atom_gather.VertexLemmas.{vertices_of_file}

-- the numbers of the vertices that pass
own_numbers : (p : ℕ → Bool) (g : DataGraph) (xs : List ℕ) → map (λ (l : VertexLine). l.vertex.0) (filter (λ (l : VertexLine). p l.vertex.0) (map (own_line g) xs)) ≡ filter p xs
own_numbers p g [] = refl
own_numbers p g (x ∷ xs) = keep (p x) (own_numbers p g xs)
  where
    keep : (b : Bool) → map (λ (l : VertexLine). l.vertex.0) (filter (λ (l : VertexLine). p l.vertex.0) (map (own_line g) xs)) ≡ filter p xs
        → map (λ (l : VertexLine). l.vertex.0) (cond b (own_line g x ∷ filter (λ (l : VertexLine). p l.vertex.0) (map (own_line g) xs)) (filter (λ (l : VertexLine). p l.vertex.0) (map (own_line g) xs))) ≡ cond b (x ∷ filter p xs) (filter p xs)
    keep true rest = ap (λ (ns : List ℕ). x ∷ ns) rest
    keep false rest = rest

-- an atom adds vertices from s on alone
none_keyed : (of : List ℕ) (a v s n : ℕ) → v < s → with_key v (with_atom a (filter (is_in of a) (range_with_len s n))) ≡ []
none_keyed of a v s zero low = refl
none_keyed of a v s (suc n) low = go (is_in of a s) (none_keyed of a v (s + 1) n (omega (arith, low)))
  where
    go : (b : Bool) → with_key v (with_atom a (filter (is_in of a) (range_with_len (s + 1) n))) ≡ [] → with_key v (with_atom a (cond b (s ∷ filter (is_in of a) (range_with_len (s + 1) n)) (filter (is_in of a) (range_with_len (s + 1) n)))) ≡ []
    go true rest = with_key-past v (s, a) (with_atom a (filter (is_in of a) (range_with_len (s + 1) n))) (λ e. omega (arith, e, low)) ∙ rest
    go false rest = rest

-- and each of its vertices once
one_keyed : (of : List ℕ) (a v s n : ℕ) → s ≤ v → v < s + n → with_key v (with_atom a (filter (is_in of a) (range_with_len s n))) ≡ cond (is_in of a v) (a ∷ []) []
one_keyed of a v s zero low high = absurd (omega (arith, low, high))
one_keyed of a v s (suc n) low high = elim (cases_eq s v) [
  | inl here ↦
      subst (λ (w : ℕ). with_key w (with_atom a (filter (is_in of a) (range_with_len s (suc n)))) ≡ cond (is_in of a w) (a ∷ []) []) here
      (at (is_in of a s) (none_keyed of a s (s + 1) n (omega arith)))
  | inr apart ↦ past apart (is_in of a s) (one_keyed of a v (s + 1) n (omega (arith, low, apart)) (omega (arith, high)))
]
  where
    at : (b : Bool) → with_key s (with_atom a (filter (is_in of a) (range_with_len (s + 1) n))) ≡ [] → with_key s (with_atom a (cond b (s ∷ filter (is_in of a) (range_with_len (s + 1) n)) (filter (is_in of a) (range_with_len (s + 1) n)))) ≡ cond b (a ∷ []) []
    at true rest = with_key-here s (s, a) (with_atom a (filter (is_in of a) (range_with_len (s + 1) n))) refl ∙ ap (λ (ks : List ℕ). a ∷ ks) rest
    at false rest = rest

    past : s ≢ v → (b : Bool) → with_key v (with_atom a (filter (is_in of a) (range_with_len (s + 1) n))) ≡ cond (is_in of a v) (a ∷ []) []
        → with_key v (with_atom a (cond b (s ∷ filter (is_in of a) (range_with_len (s + 1) n)) (filter (is_in of a) (range_with_len (s + 1) n)))) ≡ cond (is_in of a v) (a ∷ []) []
    past apart true rest = with_key-past v (s, a) (with_atom a (filter (is_in of a) (range_with_len (s + 1) n))) apart ∙ rest
    past apart false rest = rest

-- each of so many files adds the vertices of its atom
abbrev pub AddOwn : (ℕ → List ℕ) → List ℕ → ℕ → ℕ → Type 0
AddOwn file of n k = (a : ℕ) → a < k → vertices_added (file a) ≡ filter (is_in of a) (range_with_len 0 n)

step : (file : ℕ → List ℕ) (of : List ℕ) (n v m : ℕ) → vertices_added (file m) ≡ filter (is_in of m) (range_with_len 0 n) → v < n → with_key v (added_by file (suc m)) ≡ with_key v (added_by file m) ++ cond (eqb (slice_index of v) m) (m ∷ []) []
step file of n v m own inside =
    let more : suc m ≡ m + 1 = omega arith in
    ap (λ (j : ℕ). with_key v (added_by file j)) more ∙ ap (with_key v) (added_more file m)
    ∙ with_key_append v (added_by file m) (with_atom m (vertices_added (file m)))
    ∙ ap (λ (ks : List ℕ). with_key v (added_by file m) ++ ks) (ap (λ (vs : List ℕ). with_key v (with_atom m vs)) own ∙ one_keyed of m v 0 n (omega arith) (omega (arith, inside)))

not_yet : (file : ℕ → List ℕ) (of : List ℕ) (n v m : ℕ) → AddOwn file of n m → v < n → m ≤ slice_index of v → with_key v (added_by file m) ≡ []
not_yet file of n v zero own inside low = refl
not_yet file of n v (suc m) own inside low =
    step file of n v m (own m (omega arith)) inside
    ∙ ap (λ (b : Bool). with_key v (added_by file m) ++ cond b (m ∷ []) []) (ne_eqb (slice_index of v) m (λ e. omega (arith, e, low)))
    ∙ append-nil (with_key v (added_by file m))
    ∙ not_yet file of n v m (λ a h. own a (omega (arith, h))) inside (omega (arith, low))

-- the atom of a vertex alone adds it
owned : (file : ℕ → List ℕ) (of : List ℕ) (n v m : ℕ) → AddOwn file of n m → v < n → slice_index of v < m → with_key v (added_by file m) ≡ slice_index of v ∷ []
owned file of n v zero own inside high = absurd (omega (arith, high))
owned file of n v (suc m) own inside high = elim (cases_lt (slice_index of v) m) [
  | inl before ↦
      step file of n v m (own m (omega arith)) inside
      ∙ ap (λ (b : Bool). with_key v (added_by file m) ++ cond b (m ∷ []) []) (ne_eqb (slice_index of v) m (λ e. omega (arith, e, before)))
      ∙ append-nil (with_key v (added_by file m))
      ∙ owned file of n v m (λ a h. own a (omega (arith, h))) inside before
  | inr last ↦
      let here : slice_index of v ≡ m = omega (arith, last, high) in
      step file of n v m (own m (omega arith)) inside
      ∙ ap (λ (b : Bool). with_key v (added_by file m) ++ cond b (m ∷ []) []) (eq-eqb (slice_index of v) m here)
      ∙ ap (λ (ks : List ℕ). ks ++ m ∷ []) (not_yet file of n v m (λ a h. own a (omega (arith, h))) inside last)
      ∙ ap (λ (a : ℕ). a ∷ []) (sym here)
]

-- no number is added that no vertex has
within : (p : ℕ → Bool) (n a s count : ℕ) (rest : List (ℕ × ℕ)) → s + count ≤ n → AllByRecursion (λ (q : ℕ × ℕ). leb n q.0 ≡ false) rest → AllByRecursion (λ (q : ℕ × ℕ). leb n q.0 ≡ false) (with_atom a (filter p (range_with_len s count)) ++ rest)
within p n a s zero rest few low = low
within p n a s (suc count) rest few low = go (p s) (within p n a (s + 1) count rest (omega (arith, few)) low)
  where
    go : (b : Bool) → AllByRecursion (λ (q : ℕ × ℕ). leb n q.0 ≡ false) (with_atom a (filter p (range_with_len (s + 1) count)) ++ rest)
        → AllByRecursion (λ (q : ℕ × ℕ). leb n q.0 ≡ false) (with_atom a (cond b (s ∷ filter p (range_with_len (s + 1) count)) (filter p (range_with_len (s + 1) count))) ++ rest)
    go true more = (lt-leb n s (omega (arith, few)), more)
    go false more = more

all_within : (file : ℕ → List ℕ) (of : List ℕ) (n k s count : ℕ) → AddOwn file of n k → s + count ≤ k → AllByRecursion (λ (q : ℕ × ℕ). leb n q.0 ≡ false) (flat_map (λ a. with_atom a (vertices_added (file a))) (range_with_len s count))
all_within file of n k s zero own few = tt
all_within file of n k s (suc count) own few =
    let rest = flat_map (λ a. with_atom a (vertices_added (file a))) (range_with_len (s + 1) count) in
    subst (λ (vs : List ℕ). AllByRecursion (λ (q : ℕ × ℕ). leb n q.0 ≡ false) (with_atom s vs ++ rest)) (sym (own s (omega (arith, few))))
    (within (is_in of s) n s 0 n rest (omega arith) (all_within file of n k (s + 1) count own (omega (arith, few))))

-- where files add the vertices of their atoms, there is no fault, and the owners are those of the atoms
pub owners_taken : (file : ℕ → List ℕ) (of : List ℕ) (n k : ℕ) → AddOwn file of n k → length of ≡ n → All (λ a. a < k) of → (owner_fault n (added_by file k) ≡ None) × (owners_of n (added_by file k) ≡ of)
owners_taken file of n k own each below =
    let added = added_by file k in
    let one = λ (v : ℕ) (h : v < n). owned file of n v k own h (below v 0 (omega (arith, h, each))) in
    let whole : n ≡ n + 0 = omega arith in
    let end : 0 + n ≡ n = omega arith in
    let low = list_any_none (λ (q : ℕ × ℕ). leb n q.0) added (All-from_recursion (λ (q : ℕ × ℕ). leb n q.0 ≡ false) added (all_within file of n k 0 k own (omega arith))) in (
      ap (λ (j : ℕ). owner_from added j 0) whole
          ∙ owner_skip added n 0 0 (λ u _ high. ap length (one u (omega (arith, high))))
          ∙ ap (owner_from added 0) end
          ∙ ap (λ (b : Bool). cond b (Some (owner_at n)) None) low,
      sym (fill_by_all (λ v. slice_index (with_key v added) 0) of n 0 each (λ v h. sym (ap (λ (xs : List ℕ). slice_index xs 0) (one v h)))),
    )

-- the files of a graph's atoms have no fault
file_fine : (g : DataGraph) (of : List ℕ) (a : ℕ) → IsDataGraph g → All (λ b. b < 1024) of → length of ≡ size g → a < 1024 → atom_fault (atom_bytes (graph_atom g of a)) ≡ None
file_fine g of a is below each few =
    atom_fault-atom_bytes (graph_atom g of a) (graph_atom-is g of a is)
    (graph_atom-fits g of a is (λ v d h. omega (arith, below v d h)) each (omega (arith, few)))

pub files_add_own : (g : DataGraph) (k : ℕ) (of index : List ℕ) (file : ℕ → List ℕ) → IsDataGraph g → IsAssignment g k of → AreFiles g k of index file → AddOwn file of (size g) k
files_add_own g k of index file is under are a h =
    ap vertices_added (are.files_are a h)
    ∙ vertices_of_file (graph_atom g of a) (graph_atom-is g of a is)
    (graph_atom-fits g of a is (λ v d low. omega (arith, under.below v d low, under.few)) under.each (omega (arith, h, under.few)))
    ∙ own_numbers (is_in of a) g (range_with_len 0 (size g))

forms_none : (file : ℕ → List ℕ) (n a : ℕ) → ((b : ℕ) → a ≤ b → b < a + n → atom_fault (file b) ≡ None) → forms_fault file n a ≡ None
forms_none file zero a fine = refl
forms_none file (suc n) a fine =
    ap (λ f. option_or (form_of (a + 1) f) (forms_fault file n (a + 1))) (fine a (omega arith) (omega arith))
    ∙ forms_none file n (a + 1) (λ b low high. fine b (omega (arith, low)) (omega (arith, high)))

pub forms_taken : (g : DataGraph) (k : ℕ) (of index : List ℕ) (file : ℕ → List ℕ) → IsDataGraph g → IsAssignment g k of → AreFiles g k of index file → forms_fault file k 0 ≡ None
forms_taken g k of index file is under are =
    forms_none file k 0 (λ a _ h.
    let inside : a < k = omega (arith, h) in
    ap atom_fault (are.files_are a inside) ∙ file_fine g of a is (λ v d low. omega (arith, under.below v d low, under.few)) under.each (omega (arith, inside, under.few)))

-- a file does not differ from itself
no_self_difference : (n : ℕ) (xs : List ℕ) → difference_from n xs xs ≡ None
no_self_difference n [] = refl
no_self_difference n (x ∷ xs) =
    ap (λ (b : Bool). cond b (difference_from (n + 1) xs xs) (Some n)) (eq-eqb x x refl) ∙ no_self_difference (n + 1) xs

pub same_file : (file : ℕ) (xs ys : List ℕ) → xs ≡ ys → differs_fault file xs ys ≡ None
same_file file xs ys e = ap (λ (zs : List ℕ). differs_fault file xs zs) (sym e) ∙ ap (differs_of file) (no_self_difference 0 xs)

pub files_none : (g : DataGraph) (of : List ℕ) (file : ℕ → List ℕ) (n a : ℕ) → ((b : ℕ) → a ≤ b → b < a + n → file b ≡ atom_bytes (graph_atom g of b)) → files_fault g of file n a ≡ None
files_none g of file zero a same = refl
files_none g of file (suc n) a same =
    ap (λ f. option_or f (files_fault g of file n (a + 1))) (same_file (a + 1) (file a) (atom_bytes (graph_atom g of a)) (same a (omega arith) (omega arith)))
    ∙ files_none g of file n (a + 1) (λ b low high. same b (omega (arith, low)) (omega (arith, high)))
