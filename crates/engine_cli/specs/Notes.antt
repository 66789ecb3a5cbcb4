-- What is told of each status on standard error.
use Rattle.std.specs.Prelude.{◌⊎◌, ◌++◌, ℕ, List, [], ◌∷◌, Option, codes, decimal}
use Rattle.std.specs.Io.KnownBytes.{Appends}
use Rattle.gl_base.specs.declared.atoms.AtomsFault.{AtomsFault}
use Rattle.gl_base.specs.declared.atoms.AtomsKind.{AtomsKind}
use Rattle.gl_base.specs.declared.job_faults.JobFault.{JobFault}
use Rattle.gl_base.specs.declared.job_faults.JobFault.TheVariants.{NotJson, TooLong, UnknownKey, Missing, WrongKind, OutOfRange, Clash}
use Rattle.gl_base.specs.FaultNames.{key_name, text_file_name, text_kind_name}
use Rattle.gl_base.specs.declared.text_faults.TextFault.{TextFault}
use Rattle.gl_outside.specs.Faults.{Rose}
use Rattle.store.specs.declared.store_format.faults.StoreFault.{StoreFault}
use Rattle.engine_cli.specs.declared.status.Status.{Status}
use Rattle.engine_cli.specs.declared.status.Status.TheVariants.{Done, Usage, BadJob, BadGraph, BadAtoms, ReadFault, WriteFault, DiskFault, BadStore, BudgetSpent, SnapshotsFull, NoMemory}
use Rattle.gl_outside.specs.Fronts.{AppendsFront}
use Rattle.gl_base.specs.declared.atoms.AtomsKind.TheVariants as kind
use Rattle.store.specs.declared.store_format.faults.StoreFault.TheVariants as store

-- texts one after another
abbrev pub joined : List (List ℕ) → List ℕ
joined [] = []
joined (text ∷ texts) = text ++ joined texts

-- what is told of a job's fault
abbrev pub job_note : JobFault → List ℕ
job_note NotJson = codes "job: not json\n"
job_note TooLong = codes "job: too long\n"
job_note (UnknownKey name) = joined (codes "job: unknown key " ∷ name ∷ codes "\n" ∷ [])
job_note (Missing k) = joined (codes "job: missing key " ∷ key_name k ∷ codes "\n" ∷ [])
job_note (WrongKind k) = joined (codes "job: wrong kind " ∷ key_name k ∷ codes "\n" ∷ [])
job_note (OutOfRange k value) = joined (codes "job: out of range " ∷ key_name k ∷ codes " " ∷ decimal value ∷ codes "\n" ∷ [])
job_note (Clash k) = joined (codes "job: clash " ∷ key_name k ∷ codes "\n" ∷ [])

-- what is told of a text's fault: the text, the line and the kind
abbrev pub graph_note : TextFault → List ℕ
graph_note fault =
    joined (codes "graph: " ∷ text_file_name fault.file ∷ codes ":" ∷ decimal fault.line ∷ codes ": " ∷ text_kind_name fault.kind ∷ codes "\n" ∷ [])

-- a fault of the files of a cut, in a word or two
abbrev pub atoms_kind_name : AtomsKind → List ℕ
atoms_kind_name kind.Torn = codes "torn"
atoms_kind_name kind.BadTag = codes "bad tag"
atoms_kind_name kind.OutOfOrder = codes "out of order"
atoms_kind_name kind.Trailing = codes "trailing"
atoms_kind_name kind.Owner = codes "owner"
atoms_kind_name kind.Differs = codes "differs"
atoms_kind_name kind.TooLong = codes "too long"

-- what is told of it: the file's number, the kind and the place
abbrev pub atoms_note : AtomsFault → List ℕ
atoms_note fault =
    joined (codes "atoms: " ∷ decimal fault.file ∷ codes ": " ∷ atoms_kind_name fault.kind ∷ codes " at " ∷ decimal fault.at ∷ codes "\n" ∷ [])

-- what is told of a store's fault
abbrev pub store_note : StoreFault → List ℕ
store_note (store.Torn at) = joined (codes "store: torn at " ∷ decimal at ∷ codes "\n" ∷ [])
store_note (store.BadByte at) = joined (codes "store: bad byte at " ∷ decimal at ∷ codes "\n" ∷ [])
store_note (store.Machines kept given) = joined (codes "store: machines " ∷ decimal kept ∷ codes " " ∷ decimal given ∷ codes "\n" ∷ [])
store_note (store.Graph kept given) = codes "store: other graph\n"
store_note (store.Program kept given) = codes "store: other program\n"
store_note (store.Used count) = joined (codes "store: used " ∷ decimal count ∷ codes "\n" ∷ [])
store_note (store.NotEmpty length) = joined (codes "store: not empty " ∷ decimal length ∷ codes "\n" ∷ [])

-- what is told of a store that has no room: how many snapshots and bytes it has
abbrev pub full_note : ℕ → ℕ → List ℕ
full_note stored length = joined (codes "snapshots full: " ∷ decimal stored ∷ codes " stored, " ∷ decimal length ∷ codes " bytes\n" ∷ [])

-- the verbs and their words
abbrev pub usage : List ℕ
usage = codes "usage: glab run|resume|init|cut JOB\nusage: glab make PREFIX --number N --vertices N --edges N [--weight N]\n"

-- what is told of a status
abbrev pub note_of : Status → List ℕ
note_of Done = []
note_of (Usage fault) = usage
note_of (BadJob fault) = job_note fault
note_of (BadGraph fault) = graph_note fault
note_of (BadAtoms fault) = atoms_note fault
note_of ReadFault = codes "read fault\n"
note_of WriteFault = codes "write fault\n"
note_of DiskFault = codes "disk fault\n"
note_of (BadStore fault) = store_note fault
note_of (BudgetSpent left) = codes "budget spent\n"
note_of (SnapshotsFull stored length) = full_note stored length
note_of NoMemory = codes "out of memory\n"

-- the whole text was appended, or a front of it where the sink failed
abbrev pub WritesNote : List ℕ → Option (List ℕ) → Option (List ℕ) → ℕ → ℕ → Type 0
WritesNote text old new before now = Appends old new text ⊎ (Rose before now × AppendsFront old new text)
