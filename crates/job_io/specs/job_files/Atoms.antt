-- What the files of a cut say, which a job names.
use Rattle.std.specs.Prelude.{◌≡◌, ◌+◌, ℕ, zero, suc, nat_lt, List, [], length, Option, None, Some, IfSome, if◌then◌else◌}
use Rattle.std.specs.Option.{option_or}
use Rattle.gl_base.specs.declared.atoms.AtomsFault.{AtomsFault}
use Rattle.gl_base.specs.declared.atoms.AtomsKind.TheVariants.{TooLong}
use Rattle.gl_base.specs.declared.limits.TheConstants.{MAX_ATOM_BYTES}
use Rattle.gl_outside.specs.FilesState.{FilesState}
use Rattle.graph_core.specs.DataGraph.{DataGraph}
use Rattle.job_io.specs.job_config.Fields.{JobFields}
use Rattle.graph_atoms.specs.atom_file.Faults.{atom_fault}
use Rattle.graph_atoms.specs.atom_gather.Cuts.{atom_numbers}
use Rattle.graph_atoms.specs.atom_gather.Files.{AreFiles, form_of}
use Rattle.graph_atoms.specs.atom_gather.Gathered.{IsAssignment, gather_fault}
use Rattle.graph_atoms.specs.atom_gather.IndexForm.{atoms_in, index_fault}
use Rattle.graph_atoms.specs.declared.atom_gather.cuts.Cut.{Cut}
use Rattle.graph_atoms.specs.declared.atom_gather.cuts.Cut.TheVariants.{Grown, Told}
use Rattle.job_io.specs.whole_files.AtomNames.{atom_name, index_name}
use Rattle.job_io.specs.job_files.JobTexts.{DescribeJobGraph, HasStart, OfTexts}

-- the bytes that were given, or none
abbrev pub bytes_or_none : Option (List ℕ) → List ℕ
bytes_or_none None = []
bytes_or_none (Some bytes) = bytes

-- what a name gives, where that is told
abbrev pub given_bytes : FilesState → List ℕ → List ℕ
given_bytes files name = bytes_or_none (files.contents name)

-- that the file of this number has more bytes than one may have, in place of its fault of form
abbrev pub long_or : ℕ → List ℕ → Option AtomsFault → Option AtomsFault
long_or file bytes form =
    if nat_lt MAX_ATOM_BYTES (length bytes) then Some (record { file = file; kind = TooLong; at = MAX_ATOM_BYTES }) else form

-- what is wrong with the length or the form of the index, and of the file of atom a
abbrev pub index_form : List ℕ → Option AtomsFault
index_form bytes = long_or 0 bytes (form_of 0 (index_fault bytes))

abbrev pub atom_form : (ℕ → List ℕ) → ℕ → Option AtomsFault
atom_form file a = long_or (a + 1) (file a) (form_of (a + 1) (atom_fault (file a)))

-- the first such fault of n atoms, from atom a on
abbrev pub atom_forms : (ℕ → List ℕ) → ℕ → ℕ → Option AtomsFault
atom_forms file zero a = None
atom_forms file (suc n) a = option_or (atom_form file a) (atom_forms file n (a + 1))

-- the first fault of an index and the files of its atoms: length and form of the index, of each file in turn, and then what they say
abbrev pub atoms_fault : DataGraph → List ℕ → (ℕ → List ℕ) → Option AtomsFault
atoms_fault g index file = option_or (index_form index) (option_or (atom_forms file (atoms_in index) 0) (gather_fault g index file))

-- the file of each atom at a prefix
abbrev pub atom_files : FilesState → List ℕ → ℕ → List ℕ
atom_files files prefix a = given_bytes files (atom_name prefix a)

-- where names are told, this is the first fault of the files at the prefix, or there is none
abbrev pub FindsInAtoms : FilesState → List ℕ → DataGraph → Option AtomsFault → Type 0
FindsInAtoms files prefix g fault = IfSome files.sources.names (λ told. atoms_fault g (given_bytes files (index_name prefix)) (atom_files files prefix) ≡ fault)

-- the graph is cut as the files at the prefix tell: they are those of the graph, each vertex in its atom, where names are told
abbrev pub IsToldCut : FilesState → List ℕ → DataGraph → Cut → Type 0
IsToldCut files prefix g (Grown atoms) = ⊥
IsToldCut files prefix g (Told atoms of) =
    IsAssignment g atoms (atom_numbers of.items)
    × IfSome files.sources.names (λ told. AreFiles g atoms (atom_numbers of.items) (given_bytes files (index_name prefix)) (atom_files files prefix))

-- the graph is cut as the files at the prefix tell, where there is one, and else by its growth into so many atoms
abbrev pub IsCutAt : FilesState → Option (List ℕ) → ℕ → DataGraph → Cut → Type 0
IsCutAt files None atoms g cut = cut ≡ Grown atoms
IsCutAt files (Some prefix) atoms g cut = IsToldCut files prefix g cut

-- how a run of the job cuts its graph
abbrev pub IsCutOf : FilesState → JobFields → DataGraph → Cut → Type 0
IsCutOf files job g cut = IsCutAt files job.atoms_at job.atoms g cut

-- this holds of how it cuts it
abbrev pub OfJobCut : FilesState → JobFields → DataGraph → (Cut → Type 0) → Type 0
OfJobCut files job g P = (cut : Cut) × IsCutOf files job g cut × P cut

-- the two texts tell a graph that has the source which the algorithm needs, and this holds of it
abbrev pub OfGraph : JobFields → (DataGraph → Type 0) → List ℕ → List ℕ → Type 0
OfGraph job P vertices edges = (g : DataGraph) × DescribeJobGraph job vertices edges g × HasStart job.algorithm job.source g × P g

-- the job names a prefix, and the files there have this first fault
abbrev pub RefusesAtoms : FilesState → AtomsFault → JobFields → Type 0
RefusesAtoms files fault job =
    (prefix : List ℕ) × (job.atoms_at ≡ Some prefix) × OfTexts files job (OfGraph job (λ g. FindsInAtoms files prefix g (Some fault)))

-- where the job names a prefix, the files there are those of the graph
abbrev pub HasAtoms : FilesState → JobFields → Type 0
HasAtoms files job =
    (prefix : List ℕ) → job.atoms_at ≡ Some prefix → OfTexts files job (OfGraph job (λ g. FindsInAtoms files prefix g None))
