-- What files of atoms say depends on their bytes alone.
use Rattle.std.proofs.Common.{◌≡◌, ◌<◌, ◌≤◌, ◌+◌, ◌++◌, ℕ, zero, suc, List, Option, refl, ap, ◌∙◌, arith}
use Rattle.std.specs.List.{flat_map, range_with_len}
use Rattle.std.specs.Option.{option_or}
use Rattle.gl_base.specs.declared.atoms.AtomsFault.{AtomsFault}
use Rattle.graph_core.specs.DataGraph.{DataGraph, size}
use Rattle.graph_atoms.specs.atom_file.Atoms.{atom_bytes}
use Rattle.graph_atoms.specs.atom_file.Faults.{atom_fault}
use Rattle.graph_atoms.specs.atom_cut.Atoms.{graph_atom}
use Rattle.graph_atoms.specs.atom_cut.Index.{index_bytes}
use Rattle.graph_atoms.specs.atom_gather.Files.{cut_fault, differs_fault, files_fault, form_of, forms_fault}
use Rattle.graph_atoms.specs.atom_gather.Gathered.{gather_fault}
use Rattle.graph_atoms.specs.atom_gather.IndexForm.{atoms_in, index_fault}
use Rattle.graph_atoms.specs.atom_gather.Owners.{added_by, owner_fault, owners_of, vertices_added, with_atom}

module _ (f h : ℕ → List ℕ) where
  -- the files of n atoms from a on are the same
  abbrev Same : ℕ → ℕ → Type 0
  Same n a = (b : ℕ) → a ≤ b → b < a + n → f b ≡ h b

  behind : (n a : ℕ) → Same (suc n) a → Same n (a + 1)
  behind n a same b low high = same b (omega (arith, low)) (omega (arith, high))

  here : (n a : ℕ) → Same (suc n) a → f a ≡ h a
  here n a same = same a (omega arith) (omega arith)

  forms-same : (n a : ℕ) → Same n a → forms_fault f n a ≡ forms_fault h n a
  forms-same zero a same = refl
  forms-same (suc n) a same =
      ap (λ (bytes : List ℕ). option_or (form_of (a + 1) (atom_fault bytes)) (forms_fault f n (a + 1))) (here n a same)
      ∙ ap (λ (rest : Option AtomsFault). option_or (form_of (a + 1) (atom_fault (h a))) rest) (forms-same n (a + 1) (behind n a same))

  files-same : (g : DataGraph) (of : List ℕ) (n a : ℕ) → Same n a → files_fault g of f n a ≡ files_fault g of h n a
  files-same g of zero a same = refl
  files-same g of (suc n) a same =
      ap (λ (bytes : List ℕ). option_or (differs_fault (a + 1) bytes (atom_bytes (graph_atom g of a))) (files_fault g of f n (a + 1))) (here n a same)
      ∙ ap (λ (rest : Option AtomsFault). option_or (differs_fault (a + 1) (h a) (atom_bytes (graph_atom g of a))) rest) (files-same g of n (a + 1) (behind n a same))

  added-same : (n a : ℕ) → Same n a → flat_map (λ b. with_atom b (vertices_added (f b))) (range_with_len a n) ≡ flat_map (λ b. with_atom b (vertices_added (h b))) (range_with_len a n)
  added-same zero a same = refl
  added-same (suc n) a same =
      ap (λ (bytes : List ℕ). with_atom a (vertices_added bytes) ++ flat_map (λ b. with_atom b (vertices_added (f b))) (range_with_len (a + 1) n)) (here n a same)
      ∙ ap (λ (rest : List (ℕ × ℕ)). with_atom a (vertices_added (h a)) ++ rest) (added-same n (a + 1) (behind n a same))

  -- so what gathering finds is the same
  pub gather-same : (g : DataGraph) (index : List ℕ) → ((a : ℕ) → a < atoms_in index → f a ≡ h a) → gather_fault g index f ≡ gather_fault g index h
  gather-same g index each =
      let n = atoms_in index in
      let same : Same n 0 = λ b low high. each b (omega (arith, high)) in
      let added : added_by f n ≡ added_by h n = added-same n 0 same in
      let Behind : Option AtomsFault → List (ℕ × ℕ) → Option AtomsFault → Option AtomsFault =
      λ forms pairs files.
      option_or (form_of 0 (index_fault index)) (option_or forms (option_or (owner_fault (size g) pairs) files)) in
      let of : List ℕ = owners_of (size g) (added_by h n) in
      ap (λ (forms : Option AtomsFault). Behind forms (added_by f n) (cut_fault g (owners_of (size g) (added_by f n)) n index f)) (forms-same n 0 same)
      ∙ ap (λ (pairs : List (ℕ × ℕ)). Behind (forms_fault h n 0) pairs (cut_fault g (owners_of (size g) pairs) n index f)) added
      ∙ ap (λ (files : Option AtomsFault). Behind (forms_fault h n 0) (added_by h n) (option_or files (differs_fault 0 index (index_bytes g of n)))) (files-same g of n 0 same)
