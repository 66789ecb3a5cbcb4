-- Which files a call reads and writes, and what that leaves.
use Rattle.std.specs.Prelude.{◌≡◌, ℕ, ◌≤◌, List, Contains, ⊤, Option, None, Some, take}
use Rattle.gl_outside.specs.FilesState.{FilesState}
use Rattle.gl_outside.specs.Frames.{ChangesSinks, ChangesSources}
use Rattle.gl_outside.specs.Names.{AppendsNames}

-- This holds of a text that was read, by the names that were told: it is given wherever names are told, and then this holds of
-- its bytes; where neither is told nothing is said.
abbrev pub OfRead : Option (List (List ℕ)) → Option (List ℕ) → (List ℕ → Type 0) → Type 0
OfRead names (Some bytes) P = P bytes
OfRead (Some names) None P = ⊥
OfRead None None P = ⊤

-- this holds of the text that this name gives, which was read
abbrev pub OfText : FilesState → List ℕ → (List ℕ → Type 0) → Type 0
OfText files name P = OfRead files.sources.names (files.contents name) P

-- the names that were handed on are a front of these, in turn
abbrev pub OpensInOrder : Option (List (List ℕ)) → Option (List (List ℕ)) → List (List ℕ) → Type 0
OpensInOrder old new names = (count : ℕ) × AppendsNames old new (take count names)

-- files of a front of these names were read, in turn, and all but what is read stayed
pub record ReadsFiles (names : List (List ℕ)) (old new : FilesState) : Type 0 where
  pub frame : ChangesSources old new
  pub handed : OpensInOrder old.sources.names new.sources.names names
  pub later : old.sources.faults ≤ new.sources.faults

-- files of a front of these names were written, in turn, all but what is written stayed, and no other name gives anything
-- else
pub record WritesFiles (names : List (List ℕ)) (old new : FilesState) : Type 0 where
  pub frame : ChangesSinks old new
  pub handed : OpensInOrder old.sinks.names new.sinks.names names
  pub others : (name : List ℕ) → (Contains names name → ⊥) → new.contents name ≡ old.contents name
  pub later : old.sinks.faults ≤ new.sinks.faults
