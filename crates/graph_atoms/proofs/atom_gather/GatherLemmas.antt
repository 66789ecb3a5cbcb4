-- The first fault of an index and of files, step by step.
use Rattle.std.proofs.Common.{◌≡◌, ℕ, zero, suc, ◌+◌, ◌<◌, ◌≤◌, inl, inr, Bool, true, false, cond, eqb, List, [], ◌∷◌, ◌++◌, length, map, get_or, slice_index, Option, Some, None, Result, Ok, Err, IfOk, All, subst, refl, sym, ap, ◌∙◌, arith}
use Rattle.std.specs.List.{filter, flat_map, range_with_len, AllByRecursion}
use Rattle.std.specs.Option.{option_or}
use Rattle.std.proofs.lemmas.Bool.{cases_eq, eqb-true}
use Rattle.std.proofs.lemmas.List.{get_or-map}
use Rattle.std.proofs.lemmas.List.FromFn.{get_or-map-range_with_len, length-map-range_with_len}
use Rattle.std.proofs.lemmas.List.Elements.{All-map}
use Rattle.std.proofs.lemmas.Option.{none-some}
use Rattle.gl_base.specs.declared.atoms.AtomsFault.{AtomsFault}
use Rattle.gl_base.specs.declared.atoms.AtomsKind.TheVariants as kinds
use Rattle.gl_base.specs.declared.numbers.AtomNo.{AtomNo}
use Rattle.graph_core.specs.Rows.{with_key}
use Rattle.graph_core.specs.DataGraph.{DataGraph, size}
use Rattle.graph_atoms.specs.declared.atom_file.faults.AtomFault.{AtomFault}
use Rattle.graph_atoms.specs.atom_file.Atoms.{atom_bytes}
use Rattle.graph_atoms.specs.atom_cut.Atoms.{graph_atom}
use Rattle.graph_atoms.specs.atom_cut.Cuts.{atom_numbers}
use Rattle.graph_atoms.specs.atom_cut.Index.{index_bytes}
use Rattle.graph_atoms.specs.atom_gather.IndexForm.{atoms_in, index_fault}
use Rattle.graph_atoms.specs.atom_gather.Files.{form_of, forms_fault, difference_from, differs_of, differs_fault, files_fault, cut_fault, AreFiles}
use Rattle.graph_atoms.specs.atom_gather.Owners.{vertices_added, with_atom, added_by, owner_fault, owners_of}
use Rattle.graph_atoms.specs.atom_gather.Gathered.{IsAssignment, told_owners, gather_fault}

-- lists without a difference are the same
pub same_bytes : (n : ℕ) (xs ys : List ℕ) → difference_from n xs ys ≡ None → xs ≡ ys
same_bytes n [] [] e = refl
same_bytes n [] (y ∷ ys) e = absurd (none-some n (sym e))
same_bytes n (x ∷ xs) [] e = absurd (none-some n (sym e))
same_bytes n (x ∷ xs) (y ∷ ys) e = go (eqb x y) refl (same_bytes (n + 1) xs ys) e
  where
    go : (b : Bool) → eqb x y ≡ b → (difference_from (n + 1) xs ys ≡ None → xs ≡ ys) → cond b (difference_from (n + 1) xs ys) (Some n) ≡ None → x ∷ xs ≡ y ∷ ys
    go true is rest none = ap (λ (z : ℕ). z ∷ xs) (eqb-true x y is) ∙ ap (λ (zs : List ℕ). y ∷ zs) (rest none)
    go false is rest none = absurd (none-some n (sym none))

pub no_difference : (file : ℕ) (xs ys : List ℕ) → differs_fault file xs ys ≡ None → xs ≡ ys
no_difference file xs ys e = go (difference_from 0 xs ys) refl e
  where
    go : (d : Option ℕ) → difference_from 0 xs ys ≡ d → differs_of file d ≡ None → xs ≡ ys
    go None is none = same_bytes 0 xs ys is
    go (Some at) is none = absurd (none-some (record { file = file; kind = kinds.Differs; at = at }) (sym none))

-- what comes first, and what comes behind
pub or_first : (f s : Option AtomsFault) (fault : AtomsFault) → f ≡ Some fault → option_or f s ≡ Some fault
or_first f s fault e = ap (λ o. option_or o s) e

pub or_second : (f s t : Option AtomsFault) → f ≡ None → s ≡ t → option_or f s ≡ t
or_second f s t e same = ap (λ o. option_or o s) e ∙ same

both_none : (f s : Option AtomsFault) → option_or f s ≡ None → (f ≡ None) × (s ≡ None)
both_none None s e = (refl, e)
both_none (Some fault) s e = absurd (none-some fault (sym e))

files_same : (g : DataGraph) (of : List ℕ) (file : ℕ → List ℕ) (n b a : ℕ) → files_fault g of file n b ≡ None → b ≤ a → a < b + n → file a ≡ atom_bytes (graph_atom g of a)
files_same g of file zero b a e low high = absurd (omega arith)
files_same g of file (suc n) b a e low high =
    let both = both_none (differs_fault (b + 1) (file b) (atom_bytes (graph_atom g of b))) (files_fault g of file n (b + 1)) e in
    elim (cases_eq b a) [
      | inl here ↦ subst (λ c. file c ≡ atom_bytes (graph_atom g of c)) here (no_difference (b + 1) (file b) (atom_bytes (graph_atom g of b)) both.0)
      | inr apart ↦ files_same g of file n (b + 1) a both.1 (omega arith) (omega arith)
    ]

-- without a difference, all files are those of the graph
pub cut_same : (g : DataGraph) (of : List ℕ) (atoms : ℕ) (index : List ℕ) (file : ℕ → List ℕ) → cut_fault g of atoms index file ≡ None → AreFiles g atoms of index file
cut_same g of atoms index file e =
    let both = both_none (files_fault g of file atoms 0) (differs_fault 0 index (index_bytes g of atoms)) e in
    record {
      index_is = no_difference 0 index (index_bytes g of atoms) both.1;
      files_are = λ a h. files_same g of file atoms 0 a both.0 (omega arith) (omega (arith, h));
    }

-- the first of the files and the index that differs
pub cut_files : (g : DataGraph) (of : List ℕ) (atoms : ℕ) (index : List ℕ) (file : ℕ → List ℕ) (fault : AtomsFault) → files_fault g of file atoms 0 ≡ Some fault → cut_fault g of atoms index file ≡ Some fault
cut_files g of atoms index file fault e = or_first (files_fault g of file atoms 0) (differs_fault 0 index (index_bytes g of atoms)) fault e

pub cut_index : (g : DataGraph) (of : List ℕ) (atoms : ℕ) (index wanted : List ℕ) (file : ℕ → List ℕ) (answer : Option AtomsFault) → files_fault g of file atoms 0 ≡ None → wanted ≡ index_bytes g of atoms → differs_fault 0 index wanted ≡ answer → cut_fault g of atoms index file ≡ answer
cut_index g of atoms index wanted file answer none is e =
    or_second (files_fault g of file atoms 0) (differs_fault 0 index (index_bytes g of atoms)) answer none
    (ap (differs_fault 0 index) (sym is) ∙ e)

-- the first fault of all, by the step that finds it
pub gather_index : (g : DataGraph) (index : List ℕ) (file : ℕ → List ℕ) (fault : AtomFault) (told : AtomsFault) → index_fault index ≡ Some fault → form_of 0 (Some fault) ≡ Some told → gather_fault g index file ≡ Some told
gather_index g index file fault told is made =
    let k = atoms_in index in
    or_first (form_of 0 (index_fault index)) (option_or (forms_fault file k 0) (option_or (owner_fault (size g) (added_by file k)) (cut_fault g (told_owners g index file) k index file))) told
    (ap (form_of 0) is ∙ made)

-- behind an index that has its form
pub gather_behind : (g : DataGraph) (index : List ℕ) (file : ℕ → List ℕ) (atoms : ℕ) (answer : Option AtomsFault) → index_fault index ≡ None → atoms ≡ atoms_in index
    → option_or (forms_fault file atoms 0) (option_or (owner_fault (size g) (added_by file atoms)) (cut_fault g (owners_of (size g) (added_by file atoms)) atoms index file)) ≡ answer
    → gather_fault g index file ≡ answer
gather_behind g index file atoms answer none is rest =
    or_second (form_of 0 (index_fault index)) (option_or (forms_fault file (atoms_in index) 0) (option_or (owner_fault (size g) (added_by file (atoms_in index))) (cut_fault g (told_owners g index file) (atoms_in index) index file))) answer
    (ap (form_of 0) none)
    (ap (λ k. option_or (forms_fault file k 0) (option_or (owner_fault (size g) (added_by file k)) (cut_fault g (owners_of (size g) (added_by file k)) k index file))) (sym is) ∙ rest)

-- the atoms that add vertices are among the atoms
added_below : (file : ℕ → List ℕ) (k n s : ℕ) → s + n ≤ k → AllByRecursion (λ (p : ℕ × ℕ). p.1 < k) (flat_map (λ a. with_atom a (vertices_added (file a))) (range_with_len s n))
added_below file k zero s few = tt
added_below file k (suc n) s few = front (vertices_added (file s)) (added_below file k n (s + 1) (omega (arith, few)))
  where
    front : (vs : List ℕ) → AllByRecursion (λ (p : ℕ × ℕ). p.1 < k) (flat_map (λ a. with_atom a (vertices_added (file a))) (range_with_len (s + 1) n)) → AllByRecursion (λ (p : ℕ × ℕ). p.1 < k) (with_atom s vs ++ flat_map (λ a. with_atom a (vertices_added (file a))) (range_with_len (s + 1) n))
    front [] rest = rest
    front (v ∷ vs) rest = (omega (arith, few), front vs rest)

-- the first of those with a key
key_below : (k v : ℕ) (ps : List (ℕ × ℕ)) → 0 < k → AllByRecursion (λ (p : ℕ × ℕ). p.1 < k) ps → slice_index (with_key v ps) 0 < k
key_below k v [] some below = some
key_below k v (p ∷ ps) some below = go (eqb p.0 v) (key_below k v ps some below.1)
  where
    go : (b : Bool) → slice_index (with_key v ps) 0 < k → slice_index (map (λ (q : ℕ × ℕ). q.1) (cond b (p ∷ filter (λ (q : ℕ × ℕ). eqb q.0 v) ps) (filter (λ (q : ℕ × ℕ). eqb q.0 v) ps))) 0 < k
    go true rest = below.0
    go false rest = rest

-- numbers of atoms are as many as the atoms
pub length-numbers : (of : List AtomNo) → length (atom_numbers of) ≡ length of
length-numbers [] = refl
length-numbers (x ∷ xs) = let rest = length-numbers xs in omega (arith, rest)

-- the owners are among the atoms
pub owners_below : (n atoms : ℕ) (file : ℕ → List ℕ) (of : List AtomNo) → 1 ≤ atoms → atom_numbers of ≡ owners_of n (added_by file atoms) → All (λ (a : AtomNo). a.0 < atoms) of
owners_below n atoms file of some is v d inside =
    let len : length of ≡ n = sym (length-numbers of) ∙ ap length is ∙ length-map-range_with_len (λ v. slice_index (with_key v (added_by file atoms)) 0) 0 n in
    let at : (get_or of v d).0 ≡ slice_index (with_key v (added_by file atoms)) 0 =
    sym (get_or-map (λ (a : AtomNo). a.0) of v d 0 inside) ∙ ap (λ (xs : List ℕ). get_or xs v 0) is
    ∙ get_or-map-range_with_len (λ v. slice_index (with_key v (added_by file atoms)) 0) 0 n v v 0 (omega (arith, inside, len)) (omega arith) in
    omega (arith, at, key_below atoms v (added_by file atoms) (omega (arith, some)) (added_below file atoms atoms 0 (omega arith)))

-- and each vertex has one
pub owners_each : (n : ℕ) (added : List (ℕ × ℕ)) (of : List ℕ) → of ≡ owners_of n added → length of ≡ n
owners_each n added of is = ap length is ∙ length-map-range_with_len (λ v. slice_index (with_key v added) 0) 0 n

pub gather_forms : (g : DataGraph) (index : List ℕ) (file : ℕ → List ℕ) (atoms : ℕ) (fault : AtomsFault) → index_fault index ≡ None → atoms ≡ atoms_in index → forms_fault file atoms 0 ≡ Some fault → gather_fault g index file ≡ Some fault
gather_forms g index file atoms fault none is e =
    gather_behind g index file atoms (Some fault) none is
    (or_first (forms_fault file atoms 0) (option_or (owner_fault (size g) (added_by file atoms)) (cut_fault g (owners_of (size g) (added_by file atoms)) atoms index file)) fault e)

pub gather_owner : (g : DataGraph) (index : List ℕ) (file : ℕ → List ℕ) (atoms : ℕ) (fault : AtomsFault) → index_fault index ≡ None → atoms ≡ atoms_in index → forms_fault file atoms 0 ≡ None → owner_fault (size g) (added_by file atoms) ≡ Some fault → gather_fault g index file ≡ Some fault
gather_owner g index file atoms fault none is forms e =
    let cut = cut_fault g (owners_of (size g) (added_by file atoms)) atoms index file in
    gather_behind g index file atoms (Some fault) none is
    (or_second (forms_fault file atoms 0) (option_or (owner_fault (size g) (added_by file atoms)) cut) (Some fault) forms
    (or_first (owner_fault (size g) (added_by file atoms)) cut fault e))

pub gather_late : (g : DataGraph) (index : List ℕ) (file : ℕ → List ℕ) (atoms : ℕ) (of : List ℕ) (answer : Option AtomsFault) → index_fault index ≡ None → atoms ≡ atoms_in index → forms_fault file atoms 0 ≡ None → owner_fault (size g) (added_by file atoms) ≡ None
    → of ≡ owners_of (size g) (added_by file atoms) → cut_fault g of atoms index file ≡ answer → gather_fault g index file ≡ answer
gather_late g index file atoms of answer none is forms owner of_is e =
    let cut = cut_fault g (owners_of (size g) (added_by file atoms)) atoms index file in
    gather_behind g index file atoms answer none is
    (or_second (forms_fault file atoms 0) (option_or (owner_fault (size g) (added_by file atoms)) cut) answer forms
    (or_second (owner_fault (size g) (added_by file atoms)) cut answer owner
    (ap (λ (os : List ℕ). cut_fault g os atoms index file) (sym of_is) ∙ e)))

pub is_assignment : (g : DataGraph) (k atoms : ℕ) (of : List AtomNo) → k ≡ atoms → 1 ≤ k → k ≤ 1024 → length of ≡ size g → All (λ (a : AtomNo). a.0 < k) of → IsAssignment g atoms (atom_numbers of)
is_assignment g k atoms of is some few each below =
    subst (λ (n : ℕ). IsAssignment g n (atom_numbers of)) is
    (record {
      some = some;
      few = few;
      each = length-numbers of ∙ each;
      below = All-map (λ (a : ℕ). a < k) (λ (a : AtomNo). a.0) of below;
    })

-- what follows of two facts about what was answered
pub if_ok_both : {T E : Type 0} (r : Result T E) (P Q R : T → Type 0) → ((x : T) → P x → Q x → R x) → IfOk r P → IfOk r Q → IfOk r R
if_ok_both (Ok x) P Q R f p q = f x p q
if_ok_both (Err e) P Q R f p q = tt
