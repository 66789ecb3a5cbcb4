-- Files of atoms, one after the other.
use Rattle.std.proofs.Common.{◌≡◌, ℕ, suc, ◌+◌, ◌<◌, List, ◌++◌, get_or, Some, None, sym, ap, ◌∙◌, arith}
use Rattle.std.specs.Option.{option_or}
use Rattle.gl_base.specs.declared.atoms.AtomsFault.{AtomsFault}
use Rattle.gl_base.specs.declared.atoms.Lines.{Lines}
use Rattle.graph_core.specs.DataGraph.{DataGraph}
use Rattle.graph_atoms.specs.atom_file.Atoms.{Atom, atom_of, atom_bytes}
use Rattle.graph_atoms.specs.atom_file.Faults.{atom_fault}
use Rattle.graph_atoms.specs.atom_cut.Atoms.{graph_atom, AreAtoms}
use Rattle.graph_atoms.proofs.atom_cut.CountLemmas.{flat_map-range_more}
use Rattle.graph_atoms.specs.atom_gather.Files.{form_of, forms_fault, differs_fault, files_fault}
use Rattle.graph_atoms.specs.atom_gather.Owners.{vertices_added, with_atom, added_by}

-- a file without a fault of form
pub forms_next : (file : ℕ → List ℕ) (n i a : ℕ) → i ≡ suc n → atom_fault (file a) ≡ None → forms_fault file n (a + 1) ≡ forms_fault file i a
forms_next file n i a more none =
    sym (ap (λ (j : ℕ). forms_fault file j a) more ∙ ap (λ f. option_or (form_of (a + 1) f) (forms_fault file n (a + 1))) none)

-- and one with it
pub forms_here : (file : ℕ → List ℕ) (n i a : ℕ) (fault : AtomsFault) → i ≡ suc n → form_of (a + 1) (atom_fault (file a)) ≡ Some fault → forms_fault file i a ≡ Some fault
forms_here file n i a fault more here =
    ap (λ (j : ℕ). forms_fault file j a) more ∙ ap (λ f. option_or f (forms_fault file n (a + 1))) here

-- what one atom more adds
pub added_more : (file : ℕ → List ℕ) (a : ℕ) → added_by file (a + 1) ≡ added_by file a ++ with_atom a (vertices_added (file a))
added_more file a = flat_map-range_more (λ b. with_atom b (vertices_added (file b))) 0 a a (omega arith)

-- a file that is the graph's, and one that is not
pub files_next : (g : DataGraph) (of : List ℕ) (file : ℕ → List ℕ) (n i a : ℕ) → i ≡ suc n → differs_fault (a + 1) (file a) (atom_bytes (graph_atom g of a)) ≡ None → files_fault g of file n (a + 1) ≡ files_fault g of file i a
files_next g of file n i a more none =
    sym (ap (λ (j : ℕ). files_fault g of file j a) more ∙ ap (λ f. option_or f (files_fault g of file n (a + 1))) none)

pub files_here : (g : DataGraph) (of : List ℕ) (file : ℕ → List ℕ) (n i a : ℕ) (fault : AtomsFault) → i ≡ suc n → differs_fault (a + 1) (file a) (atom_bytes (graph_atom g of a)) ≡ Some fault → files_fault g of file i a ≡ Some fault
files_here g of file n i a fault more here =
    ap (λ (j : ℕ). files_fault g of file j a) more ∙ ap (λ f. option_or f (files_fault g of file n (a + 1))) here

-- the comparison with an atom's lines is that with the graph's atom
pub lines_fault : (g : DataGraph) (of : List ℕ) (atoms a : ℕ) (lines : List Lines) (l : Lines) (bytes found : List ℕ) → AreAtoms g of atoms lines → a < atoms → l ≡ get_or lines a l → bytes ≡ found → differs_fault (a + 1) found (atom_bytes (graph_atom g of a)) ≡ differs_fault (a + 1) bytes (atom_bytes (atom_of a l))
lines_fault g of atoms a lines l bytes found are inside is same =
    ap (λ (x : Atom). differs_fault (a + 1) found (atom_bytes x)) (sym (ap (atom_of a) is ∙ are.each a l inside))
    ∙ ap (λ (bs : List ℕ). differs_fault (a + 1) bs (atom_bytes (atom_of a l))) (sym same)
