-- A machine with its program and with what it keeps for snapshots, as contracts see it.
pub use Rattle.machine_core.specs.machine_parts.Order.{IsOrderly, KnowsPlaces}
pub use Rattle.machine_core.specs.machine_parts.Parts.{is_own, part_of}
pub use Rattle.machine_core.specs.machine_parts.Settings.{SameSettings}
pub use Rattle.machine_core.specs.machine_turns.Turns.{HasEachRow}
pub use Rattle.snapshot_machines.specs.marking.Keeping.{SnapView}
pub use Rattle.snapshot_machines.specs.marking.Seeding.{AreMarkedBelow}
pub use Rattle.snapshot_machines.specs.marking.Sending.{AreMarksUpTo}
pub use Rattle.coordinator.specs.snap_update.Snaps.{outside_of}
use Rattle.std.specs.Prelude.{◌≡◌, ℕ, ◌≤◌}
use Rattle.machine_core.specs.declared.machine_parts.cores.Core.{Core}

-- its parts, what it keeps, and its program
pub record SnapMachineView (P : Type 0) : Type 0 where
  pub core : Core
  pub kept : SnapView
  pub program : P

-- The machine is in order, and each row is in. It sent no section of a snapshot that it doesn't know, and knows none from before the run;
-- its own vertices before this place have the mark of the snapshot that it knows, and none has a later one; and the tasks count the updates
-- outside.
pub record IsSnapMachine (m : Core) (w : SnapView) (seen : ℕ) : Type 0 where
  pub orderly : IsOrderly m
  pub places : KnowsPlaces m
  pub rows : HasEachRow m.numbers.local
  pub base : m.terms.base ≤ w.sent
  pub sent : w.sent ≤ w.known
  pub below : AreMarkedBelow m.numbers w.known seen
  pub most : AreMarksUpTo m.numbers w.known
  pub outside : m.numbers.tasks.outside ≡ outside_of w

-- The machine is in order, each row is in, and the tasks count the updates outside: so it is between its calls.
pub record IsBetweenCalls (m : Core) (w : SnapView) : Type 0 where
  pub orderly : IsOrderly m
  pub places : KnowsPlaces m
  pub rows : HasEachRow m.numbers.local
  pub outside : m.numbers.tasks.outside ≡ outside_of w

-- a machine that has made no update since the snapshot with which the run began, and whose vertices have its mark
pub record IsFreshMachine (m : Core) : Type 0 where
  pub orderly : IsOrderly m
  pub places : KnowsPlaces m
  pub rows : HasEachRow m.numbers.local
  pub most : AreMarksUpTo m.numbers m.terms.base
  pub outside : m.numbers.tasks.outside ≡ 0
