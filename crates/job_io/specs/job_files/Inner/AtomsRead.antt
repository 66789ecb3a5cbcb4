-- What reading and looking at atoms answers.
use Rattle.std.specs.Prelude.{◌≡◌, ◌≤◌, ◌<◌, ◌+◌, ℕ, List, [], length, ⊤, Option, None, Some, Result, Ok, Err, IfSome}
use Rattle.std.specs.declared.alloc.Global.{Global}
use Rattle.std.specs.declared.vec.Vec.{Vec}
use Rattle.gl_base.specs.declared.atoms.AtomsFault.{AtomsFault}
use Rattle.gl_base.specs.declared.limits.TheConstants.{MAX_ATOM_BYTES}
use Rattle.gl_outside.specs.Faults.{Rose}
use Rattle.gl_outside.specs.FilesState.{FilesState}
use Rattle.graph_core.specs.DataGraph.{DataGraph}
use Rattle.graph_atoms.specs.atom_gather.Files.{atom_file_at}
use Rattle.graph_atoms.specs.declared.atom_gather.cuts.Cut.{Cut}
use Rattle.graph_atoms.specs.declared.atom_gather.cuts.Cut.TheVariants.{Grown}
use Rattle.job_io.specs.declared.job_files.inputs.NoInput.{NoInput}
use Rattle.job_io.specs.declared.job_files.inputs.NoInput.TheVariants as why
use Rattle.job_io.specs.job_files.Atoms.{FindsInAtoms, IsToldCut, atom_files, atom_form, atom_forms, given_bytes, long_or}
use Rattle.job_io.specs.job_files.NamesRead.{atoms_names}

-- where names are told, this holds of what the name gives
abbrev pub OfGiven : FilesState → List ℕ → (List ℕ → Type 0) → Type 0
OfGiven files name P = IfSome files.sources.names (λ told. P (given_bytes files name))

-- a fault of the files, where this holds of it, or one of reading, or want of memory
abbrev pub FindsFault : FilesState → ℕ → (AtomsFault → Type 0) → NoInput → Type 0
FindsFault files now P (why.BadJob fault) = ⊥
FindsFault files now P (why.BadGraph fault) = ⊥
FindsFault files now P (why.BadAtoms fault) = P fault
FindsFault files now P why.ReadFault = Rose files.sources.faults now
FindsFault files now P why.NoMemory = ⊤

-- what reading a file of this number answers, which may not be too long
abbrev pub TakesFile : FilesState → ℕ → List ℕ → ℕ → Result (Vec ℕ Global) NoInput → Type 0
TakesFile files now name file (Ok bytes) = (length bytes.items ≤ MAX_ATOM_BYTES) × OfGiven files name (λ given. bytes.items ≡ given)
TakesFile files now name file (Err why) =
    FindsFault files now (λ fault. OfGiven files name (λ given. (form : Option AtomsFault) → long_or file given form ≡ Some fault)) why

-- what reading the file of atom a answers
abbrev pub TakesAtom : FilesState → ℕ → List ℕ → ℕ → Result (Vec ℕ Global) NoInput → Type 0
TakesAtom files now prefix a (Ok bytes) =
    IfSome files.sources.names (λ told. (bytes.items ≡ atom_files files prefix a) × (atom_form (atom_files files prefix) a ≡ None))
TakesAtom files now prefix a (Err why) =
    FindsFault files now (λ fault. IfSome files.sources.names (λ told. atom_form (atom_files files prefix) a ≡ Some fault)) why

-- the first so many files of atoms were read, and have their length and form
pub record HaveAtoms (files : FilesState) (prefix : List ℕ) (count : ℕ) (read : List (Vec ℕ Global)) : Type 0 where
  pub each : (a : ℕ) → a < count → atom_file_at read a ≡ atom_files files prefix a
  pub forms : (n : ℕ) → atom_forms (atom_files files prefix) (count + n) 0 ≡ atom_forms (atom_files files prefix) n count

-- what reading the files of so many atoms answers
abbrev pub TakesAtoms : FilesState → ℕ → List ℕ → ℕ → Result (List (Vec ℕ Global)) NoInput → Type 0
TakesAtoms files now prefix atoms (Ok read) = IfSome files.sources.names (λ told. HaveAtoms files prefix atoms read)
TakesAtoms files now prefix atoms (Err why) =
    FindsFault files now (λ fault. IfSome files.sources.names (λ told. atom_forms (atom_files files prefix) atoms 0 ≡ Some fault)) why

-- what looking at the files at a prefix answers
abbrev pub LooksAtAtoms : FilesState → ℕ → List ℕ → DataGraph → Result Cut NoInput → Type 0
LooksAtAtoms files now prefix g (Ok cut) = FindsInAtoms files prefix g None × IsToldCut files prefix g cut
LooksAtAtoms files now prefix g (Err why) = FindsFault files now (λ fault. FindsInAtoms files prefix g (Some fault)) why

-- the same, where there is a prefix; else the graph is cut by its growth into so many atoms
abbrev pub TakesNamedAtoms : Option (List ℕ) → ℕ → FilesState → ℕ → DataGraph → Result Cut NoInput → Type 0
TakesNamedAtoms None atoms files now g result = result ≡ Ok (Grown atoms)
TakesNamedAtoms (Some prefix) atoms files now g result = LooksAtAtoms files now prefix g result

-- the names of the files at it
abbrev pub named_atoms : FilesState → Option (List ℕ) → List (List ℕ)
named_atoms files None = []
named_atoms files (Some prefix) = atoms_names files prefix
