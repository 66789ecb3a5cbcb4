-- The names that were handed to the opens, where they are told.
use Rattle.std.specs.Prelude.{◌≡◌, ◌⊎◌, ℕ, List, [], ◌∷◌, ◌++◌, ⊤, Option, None, Some, Result, Ok, Err}
use Rattle.gl_outside.specs.declared.files.OpenFault.{OpenFault}
use Rattle.gl_outside.specs.declared.files.OpenFault.TheVariants.{Failed, NoMemory}
use Rattle.gl_outside.specs.declared.files.FileNo.{FileNo}

-- told names grow by these
abbrev pub AppendsNames : Option (List (List ℕ)) → Option (List (List ℕ)) → List (List ℕ) → Type 0
AppendsNames None new names = ⊤
AppendsNames (Some old) None names = ⊥
AppendsNames (Some old) (Some new) names = new ≡ old ++ names

-- an open appends its name; where it found no memory it may have left the names as they were
abbrev pub NotesName : Option (List (List ℕ)) → Option (List (List ℕ)) → List ℕ → Result FileNo OpenFault → Type 0
NotesName old new name (Ok file) = AppendsNames old new (name ∷ [])
NotesName old new name (Err Failed) = AppendsNames old new (name ∷ [])
NotesName old new name (Err NoMemory) = AppendsNames old new (name ∷ []) ⊎ (new ≡ old)
