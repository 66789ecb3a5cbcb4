-- What reading a file whole answers.
use Rattle.std.specs.Prelude.{◌≡◌, ℕ, ◌≤◌, List, length, ⊤, Option, Result, Ok, Err, take}
use Rattle.std.specs.declared.vec.Vec.{Vec}
use Rattle.std.specs.declared.alloc.Global.{Global}
use Rattle.gl_outside.specs.Faults.{Rose}
use Rattle.gl_outside.specs.declared.files.OpenFault.{OpenFault}
use Rattle.gl_outside.specs.declared.files.OpenFault.TheVariants as open_fault
use Rattle.job_io.specs.whole_files.FilesUsed.{OfRead}
use Rattle.job_io.specs.declared.whole_files.reading.NotRead.{NotRead}
use Rattle.job_io.specs.declared.whole_files.reading.NotRead.TheVariants as file

-- so much of a text that it is all of it, or more than `most` bytes
pub record IsFront (most : ℕ) (text bytes : List ℕ) : Type 0 where
  pub front : bytes ≡ take (length bytes) text
  pub whole : length bytes ≤ most → bytes ≡ text

-- what reading a file's front answers, where the count of faults went from `before` to `now`
abbrev pub ReadsFront : ℕ → Option (List (List ℕ)) → Option (List ℕ) → ℕ → ℕ → Result (Vec ℕ Global) NotRead → Type 0
ReadsFront most names text before now (Ok bytes) = OfRead names text (λ whole. IsFront most whole bytes.items)
ReadsFront most names text before now (Err file.ReadFault) = Rose before now
ReadsFront most names text before now (Err file.NoMemory) = ⊤

-- a file that was not opened was not read
abbrev pub not_read_of : OpenFault → NotRead
not_read_of open_fault.Failed = file.ReadFault
not_read_of open_fault.NoMemory = file.NoMemory
