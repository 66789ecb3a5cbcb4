-- The words for keys of a job, and for what is wrong with a text.
use Rattle.std.specs.Prelude.{ℕ, List, codes}
use Rattle.gl_base.specs.declared.job_faults.Key.{Key}
use Rattle.gl_base.specs.declared.job_faults.Key.TheVariants as key
use Rattle.gl_base.specs.declared.text_faults.TextFile.{TextFile}
use Rattle.gl_base.specs.declared.text_faults.TextFile.TheVariants as file
use Rattle.gl_base.specs.declared.text_faults.TextKind.{TextKind}
use Rattle.gl_base.specs.declared.text_faults.TextKind.TheVariants as kind

-- a key as a job spells it
abbrev pub key_name : Key → List ℕ
key_name key.Vertices = codes "vertices"
key_name key.Edges = codes "edges"
key_name key.Directed = codes "directed"
key_name key.Algorithm = codes "algorithm"
key_name key.Source = codes "source"
key_name key.Engine = codes "engine"
key_name key.Machines = codes "machines"
key_name key.Atoms = codes "atoms"
key_name key.Pipeline = codes "pipeline"
key_name key.Budget = codes "budget"
key_name key.Window = codes "window"
key_name key.Store = codes "store"
key_name key.AtomsAt = codes "atoms_at"
key_name key.Order = codes "order"
key_name key.Failures = codes "failures"

-- what a text lists
abbrev pub text_file_name : TextFile → List ℕ
text_file_name file.Vertices = codes "vertices"
text_file_name file.Edges = codes "edges"

-- a fault of a text, in a word or two
abbrev pub text_kind_name : TextKind → List ℕ
text_kind_name kind.Fields = codes "fields"
text_kind_name kind.Number = codes "number"
text_kind_name kind.TooLarge = codes "too large"
text_kind_name kind.Double = codes "double"
text_kind_name kind.TooMany = codes "too many"
text_kind_name kind.Unknown = codes "unknown"
text_kind_name kind.SelfLoop = codes "self-loop"
text_kind_name kind.NoWeight = codes "no weight"
text_kind_name kind.TooLong = codes "too long"
