-- Files that are written in turn.
use Rattle.std.specs.Prelude.{◌≡◌, ◌<◌, ◌≤◌, ℕ, List, map, take, Some, IfSome}
use Rattle.std.specs.List.{range_with_len}
use Rattle.gl_outside.specs.FilesState.{FilesState}
use Rattle.gl_outside.specs.Names.{AppendsNames}
use Rattle.job_io.specs.whole_files.FilesUsed.{WritesFiles}
use Rattle.job_io.specs.whole_files.Leaves.{KeepsOrGives}

-- the first n names
abbrev pub first_names : (ℕ → List ℕ) → ℕ → List (List ℕ)
first_names name n = map name (range_with_len 0 n)

-- where names are told, each of the first n names gives its text
abbrev pub LeavesFiles : (ℕ → List ℕ) → (ℕ → List ℕ) → ℕ → FilesState → FilesState → Type 0
LeavesFiles name text n old new = IfSome old.sinks.names (λ told. (k : ℕ) → k < n → new.contents (name k) ≡ Some (text k))

-- each of the first n names gives what it gave, or, where names are told, a front of its text
abbrev pub LeavesFronts : (ℕ → List ℕ) → (ℕ → List ℕ) → ℕ → FilesState → FilesState → Type 0
LeavesFronts name text n old new =
    (k : ℕ) → k < n → KeepsOrGives old.sinks.names (old.contents (name k)) (new.contents (name k)) (λ bytes. (count : ℕ) × (bytes ≡ take count (text k)))

-- of n files the first so many were written, in turn, and nothing else
pub record WroteFiles (name text : ℕ → List ℕ) (n count : ℕ) (old new : FilesState) : Type 0 where
  pub wrote : WritesFiles (first_names name n) old new
  pub handed : AppendsNames old.sinks.names new.sinks.names (first_names name count)
  pub given : LeavesFiles name text count old new
  pub rest : (k : ℕ) → count ≤ k → k < n → new.contents (name k) ≡ old.contents (name k)
