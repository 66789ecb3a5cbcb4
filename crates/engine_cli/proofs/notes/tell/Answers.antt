use Rattle.engine_cli.proofs.notes.tell.Goals as goal

pub returns-in-Usage-clause-note : goal.returns-in-Usage-clause-note
returns-in-Usage-clause-note g c = rw c.in-Usage.is c.write_text.ensures.note

pub returns-in-ReadFault-clause-note : goal.returns-in-ReadFault-clause-note
returns-in-ReadFault-clause-note g c = rw c.in-ReadFault.is c.write_text-in-ReadFault.ensures.note

pub returns-in-BudgetSpent-clause-note : goal.returns-in-BudgetSpent-clause-note
returns-in-BudgetSpent-clause-note g c = rw c.in-BudgetSpent.is c.write_text-in-BudgetSpent.ensures.note

pub returns-in-DiskFault-clause-note : goal.returns-in-DiskFault-clause-note
returns-in-DiskFault-clause-note g c = rw c.in-DiskFault.is c.write_text-in-DiskFault.ensures.note

pub returns-in-BadStore-clause-note : goal.returns-in-BadStore-clause-note
returns-in-BadStore-clause-note g c = rw c.in-BadStore.is c.tell_store.ensures.note

pub returns-in-SnapshotsFull-clause-note : goal.returns-in-SnapshotsFull-clause-note
returns-in-SnapshotsFull-clause-note g c = rw c.in-SnapshotsFull.is c.tell_full.ensures.note
