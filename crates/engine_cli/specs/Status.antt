-- The numbers of statuses, and what each says of `out`.
use Rattle.std.specs.Prelude.{ℕ, ⊤}
use Rattle.graph_text.specs.declared.generate.making.Writing.{Writing}
use Rattle.job_io.specs.declared.job_files.inputs.NoInput.{NoInput}
use Rattle.job_io.specs.declared.job_stores.making.StoreError.{StoreError}
use Rattle.engine_cli.specs.declared.status.Status.{Status}
use Rattle.engine_cli.specs.declared.status.Status.TheVariants.{Done, Usage, BadJob, BadGraph, BadAtoms, ReadFault, WriteFault, DiskFault, BadStore, BudgetSpent, SnapshotsFull, NoMemory}
use Rattle.graph_text.specs.declared.generate.making.Writing.TheVariants as out
use Rattle.job_io.specs.declared.job_files.inputs.NoInput.TheVariants as why
use Rattle.job_io.specs.declared.job_stores.making.StoreError.TheVariants as no_store

-- the number that a program ends with
abbrev pub exit_number : Status → ℕ
exit_number Done = 0
exit_number (Usage fault) = 1
exit_number (BadJob fault) = 2
exit_number (BadGraph fault) = 3
exit_number (BadAtoms fault) = 4
exit_number ReadFault = 5
exit_number WriteFault = 6
exit_number DiskFault = 7
exit_number (BadStore fault) = 8
exit_number (BudgetSpent left) = 9
exit_number (SnapshotsFull stored length) = 10
exit_number NoMemory = 11

-- the statuses at which nothing was written
abbrev pub IsBeforeWriting : Status → Type 0
IsBeforeWriting Done = ⊥
IsBeforeWriting (Usage fault) = ⊤
IsBeforeWriting (BadJob fault) = ⊤
IsBeforeWriting (BadGraph fault) = ⊤
IsBeforeWriting (BadAtoms fault) = ⊤
IsBeforeWriting ReadFault = ⊤
IsBeforeWriting WriteFault = ⊥
IsBeforeWriting DiskFault = ⊤
IsBeforeWriting (BadStore fault) = ⊤
IsBeforeWriting (BudgetSpent left) = ⊤
IsBeforeWriting (SnapshotsFull stored length) = ⊤
IsBeforeWriting NoMemory = ⊤

-- the statuses at which no file was begun and no store was opened
abbrev pub IsInputRefusal : Status → Type 0
IsInputRefusal Done = ⊥
IsInputRefusal (Usage fault) = ⊤
IsInputRefusal (BadJob fault) = ⊤
IsInputRefusal (BadGraph fault) = ⊤
IsInputRefusal (BadAtoms fault) = ⊤
IsInputRefusal ReadFault = ⊤
IsInputRefusal WriteFault = ⊥
IsInputRefusal DiskFault = ⊥
IsInputRefusal (BadStore fault) = ⊥
IsInputRefusal (BudgetSpent left) = ⊥
IsInputRefusal (SnapshotsFull stored length) = ⊥
IsInputRefusal NoMemory = ⊥

-- the statuses at which the job or its graph was refused, and no atom was read
abbrev pub IsRefusedInput : Status → Type 0
IsRefusedInput Done = ⊥
IsRefusedInput (Usage fault) = ⊥
IsRefusedInput (BadJob fault) = ⊤
IsRefusedInput (BadGraph fault) = ⊤
IsRefusedInput (BadAtoms fault) = ⊥
IsRefusedInput ReadFault = ⊥
IsRefusedInput WriteFault = ⊥
IsRefusedInput DiskFault = ⊥
IsRefusedInput (BadStore fault) = ⊥
IsRefusedInput (BudgetSpent left) = ⊥
IsRefusedInput (SnapshotsFull stored length) = ⊥
IsRefusedInput NoMemory = ⊥

-- the statuses that valid words and texts come to where nothing failed
abbrev pub IsDoneOrNoMemory : Status → Type 0
IsDoneOrNoMemory Done = ⊤
IsDoneOrNoMemory (Usage fault) = ⊥
IsDoneOrNoMemory (BadJob fault) = ⊥
IsDoneOrNoMemory (BadGraph fault) = ⊥
IsDoneOrNoMemory (BadAtoms fault) = ⊥
IsDoneOrNoMemory ReadFault = ⊥
IsDoneOrNoMemory WriteFault = ⊥
IsDoneOrNoMemory DiskFault = ⊥
IsDoneOrNoMemory (BadStore fault) = ⊥
IsDoneOrNoMemory (BudgetSpent left) = ⊥
IsDoneOrNoMemory (SnapshotsFull stored length) = ⊥
IsDoneOrNoMemory NoMemory = ⊤

-- a call that was refused
abbrev pub IsRefusal : Status → Type 0
IsRefusal Done = ⊥
IsRefusal (Usage fault) = ⊤
IsRefusal (BadJob fault) = ⊤
IsRefusal (BadGraph fault) = ⊤
IsRefusal (BadAtoms fault) = ⊤
IsRefusal ReadFault = ⊤
IsRefusal WriteFault = ⊤
IsRefusal DiskFault = ⊤
IsRefusal (BadStore fault) = ⊤
IsRefusal (BudgetSpent left) = ⊤
IsRefusal (SnapshotsFull stored length) = ⊤
IsRefusal NoMemory = ⊤

-- what a call ends with that read no job or graph
abbrev pub status_of_no_input : NoInput → Status
status_of_no_input (why.BadJob fault) = BadJob fault
status_of_no_input (why.BadGraph fault) = BadGraph fault
status_of_no_input (why.BadAtoms fault) = BadAtoms fault
status_of_no_input why.ReadFault = ReadFault
status_of_no_input why.NoMemory = NoMemory

-- what a call ends with that could not write
abbrev pub status_of_writing : Writing → Status
status_of_writing out.WriteFault = WriteFault
status_of_writing out.NoMemory = NoMemory

-- what a call ends with for which there is no store
abbrev pub status_of_no_store : StoreError → Status
status_of_no_store (no_store.BadStore fault) = BadStore fault
status_of_no_store no_store.DiskFault = DiskFault
status_of_no_store no_store.NoMemory = NoMemory
