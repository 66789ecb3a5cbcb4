-- What the writing of a file leaves under its name.
use Rattle.std.specs.Prelude.{◌≡◌, ◌⊎◌, ℕ, List, Option, Some, IfSome}
use Rattle.gl_outside.specs.declared.files.OpenFault.{OpenFault}
use Rattle.gl_outside.specs.declared.files.OpenFault.TheVariants as open_fault
use Rattle.graph_text.specs.declared.generate.making.Writing.{Writing}
use Rattle.graph_text.specs.declared.generate.making.Writing.TheVariants as out

-- a name gives bytes of which this holds
abbrev pub GivesText : Option (List ℕ) → (List ℕ → Type 0) → Type 0
GivesText given P = (bytes : List ℕ) × (given ≡ Some bytes) × P bytes

-- a name gives what it gave, or, where names are told, bytes of which this holds
abbrev pub KeepsOrGives : Option (List (List ℕ)) → Option (List ℕ) → Option (List ℕ) → (List ℕ → Type 0) → Type 0
KeepsOrGives names old new P = (new ≡ old) ⊎ IfSome names (λ told. GivesText new P)

-- a file that was not opened was not written
abbrev pub writing_of : OpenFault → Writing
writing_of open_fault.Failed = out.WriteFault
writing_of open_fault.NoMemory = out.NoMemory
