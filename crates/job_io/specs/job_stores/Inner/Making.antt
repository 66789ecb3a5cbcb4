-- What making a store on a disk answers.
use Rattle.std.specs.Prelude.{ℕ}
use Rattle.gl_outside.specs.Disk.{DiskPast}
use Rattle.gl_outside.specs.Faults.{Rose}
use Rattle.gl_outside.specs.declared.files.OpenFault.{OpenFault}
use Rattle.gl_outside.specs.declared.files.OpenFault.TheVariants as open_fault
use Rattle.job_io.specs.declared.job_stores.making.StoreError.{StoreError}
use Rattle.job_io.specs.declared.job_stores.making.StoreError.TheVariants as no
use Rattle.job_io.specs.job_stores.NewStores.{HasBytes}

-- why no store was made on it, where the count of faults went from `before` to `now`
abbrev pub IsRefusedBy : Type 0 → DiskPast → ℕ → ℕ → StoreError → Type 0
IsRefusedBy told past before now (no.BadStore fault) = told → HasBytes past fault
IsRefusedBy told past before now no.DiskFault = Rose before now
IsRefusedBy told past before now no.NoMemory = ⊥

-- a store was not made on a file that was not opened
abbrev pub no_store_of : OpenFault → StoreError
no_store_of open_fault.Failed = no.DiskFault
no_store_of open_fault.NoMemory = no.NoMemory
