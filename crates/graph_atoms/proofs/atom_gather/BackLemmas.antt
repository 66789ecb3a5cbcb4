-- What a cut makes is taken back.
use Rattle.std.proofs.Common.{◌≡◌, ℕ, List, None, refl, sym, ap, ◌∙◌, arith}
use Rattle.graph_core.specs.DataGraph.{DataGraph, IsDataGraph, size}
use Rattle.graph_atoms.specs.atom_gather.IndexForm.{atoms_in, index_fault}
use Rattle.graph_atoms.specs.atom_gather.Files.{cut_fault, AreFiles}
use Rattle.graph_atoms.specs.atom_gather.Owners.{added_by, owners_of}
use Rattle.graph_atoms.specs.atom_gather.Gathered.{IsAssignment, told_owners, gather_fault}
use Rattle.graph_atoms.proofs.atom_gather.GatherLemmas.{gather_late, cut_index}
use Rattle.graph_atoms.proofs.atom_gather.TakenLemmas.{owners_taken, files_add_own, forms_taken, same_file, files_none}
use Rattle.graph_atoms.proofs.atom_gather.IndexLemmas.{index_taken}

pub atoms_taken : (g : DataGraph) (k : ℕ) (of index : List ℕ) (file : ℕ → List ℕ) → IsDataGraph g → IsAssignment g k of → AreFiles g k of index file → atoms_in index ≡ k
atoms_taken g k of index file is under are = ap atoms_in are.index_is ∙ (index_taken g of k under.some under.few).1

pub no_fault_taken : (g : DataGraph) (k : ℕ) (of index : List ℕ) (file : ℕ → List ℕ) → IsDataGraph g → IsAssignment g k of → AreFiles g k of index file → gather_fault g index file ≡ None
no_fault_taken g k of index file is under are =
    let taken = owners_taken file of (size g) k (files_add_own g k of index file is under are) under.each under.below in
    let cut : cut_fault g of k index file ≡ None =
    cut_index g of k index index file None (files_none g of file k 0 (λ a _ h. are.files_are a (omega (arith, h)))) are.index_is (same_file 0 index index refl) in
    gather_late g index file k of None (ap index_fault are.index_is ∙ (index_taken g of k under.some under.few).0) (sym (atoms_taken g k of index file is under are))
    (forms_taken g k of index file is under are) taken.0 (sym taken.1) cut

pub owners_told : (g : DataGraph) (k : ℕ) (of index : List ℕ) (file : ℕ → List ℕ) → IsDataGraph g → IsAssignment g k of → AreFiles g k of index file → told_owners g index file ≡ of
owners_told g k of index file is under are =
    ap (λ (j : ℕ). owners_of (size g) (added_by file j)) (atoms_taken g k of index file is under are)
    ∙ (owners_taken file of (size g) k (files_add_own g k of index file is under are) under.each under.below).1
