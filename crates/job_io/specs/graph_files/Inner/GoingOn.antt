-- How the writing of a cut's files goes on with its atoms.
use Rattle.std.specs.Prelude.{◌≡◌, ◌<◌, ◌+◌, ℕ, suc, List, length, slice_index_or}
use Rattle.gl_base.specs.declared.atoms.Lines.{Lines}
use Rattle.gl_outside.specs.FilesState.{FilesState}
use Rattle.graph_atoms.specs.atom_file.Atoms.{IsAtom, atom_bytes, atom_of}
use Rattle.job_io.specs.whole_files.AtomNames.{cut_name}
use Rattle.job_io.specs.whole_files.FilesUsed.{WritesFiles}
use Rattle.job_io.specs.whole_files.InTurn.{LeavesFronts, WroteFiles, first_names}

-- each of the lines is an atom, by its place
abbrev pub AreEachAtoms : List Lines → Type 0
AreEachAtoms lines = (a : ℕ) (d : Lines) → a < length lines → IsAtom (atom_of a (slice_index_or lines a d))

-- file a + 1 has the lines of atom a
abbrev pub HaveLines : (ℕ → List ℕ) → List Lines → Type 0
HaveLines text lines = (a : ℕ) (d : Lines) → a < length lines → text (suc a) ≡ atom_bytes (atom_of a (slice_index_or lines a d))

-- of the index and so many atoms, the first files are written as a call begins, and more as it ends
abbrev pub GoesOnWriting : List ℕ → List Lines → ℕ → FilesState → FilesState → Type 0
GoesOnWriting prefix lines count old new =
    (text : ℕ → List ℕ) (start : FilesState) → HaveLines text lines → WroteFiles (cut_name prefix) text (length lines + 1) 1 start old
    → WroteFiles (cut_name prefix) text (length lines + 1) count start new

-- no other file changed, and none has other than a front of its text
abbrev pub LeavesAtMostFronts : List ℕ → List Lines → FilesState → FilesState → Type 0
LeavesAtMostFronts prefix lines old new =
    (text : ℕ → List ℕ) (start : FilesState) → HaveLines text lines → WroteFiles (cut_name prefix) text (length lines + 1) 1 start old
    → WritesFiles (first_names (cut_name prefix) (length lines + 1)) start new × LeavesFronts (cut_name prefix) text (length lines + 1) start new
