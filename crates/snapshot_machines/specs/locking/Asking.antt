-- What is asked of the coordinator, and what it is answered.
use Rattle.std.specs.Prelude.{Bool, None, Option, Some, false, if◌then◌else◌, length, ℕ, ◌+◌, ◌/◌, ◌||◌, ◌≡◌}
use Rattle.cluster_laws.specs.cluster_model.Machines.{is_idle}
use Rattle.coordinator.specs.snap_update.Snaps.{SnapView, has_to_ask}
use Rattle.wire.specs.wire_msgs.Views as wire
use Rattle.snapshot_machines.specs.locking.Reports.{ReportsView, with_report}
use Rattle.snapshot_machines.specs.locking.Machines.{IsPartOf, LockingMachineView, Setting, part_of}

-- where a snapshot is asked for, word of that waits
abbrev pub with_wish : Option ℕ → ReportsView → ReportsView
with_wish None r = r
with_wish (Some k) r = with_report (wire.Want k) r

-- within a window it has to ask where half of that is outside and it hasn't asked yet; and never without one
abbrev pub has_to_ask_in : Option ℕ → SnapView → Bool
has_to_ask_in None w = false
has_to_ask_in (Some window) w = has_to_ask ((window + 1) / 2) w

-- then it has asked, behind the snapshot that it knows to be acknowledged
abbrev pub with_asking_in : Option ℕ → SnapView → SnapView
with_asking_in window w = record w { wanted = w.wanted || has_to_ask_in window w }

abbrev pub asked_in : Option ℕ → SnapView → Option ℕ
asked_in window w = if has_to_ask_in window w then Some w.acknowledged else None

-- it asks where it has to
abbrev pub HasWanted : {P : Type 0} → LockingMachineView P → LockingMachineView P → Type 0
HasWanted old new =
    new ≡ record old {
      machine = record old.machine { kept = with_asking_in old.window old.machine.kept };
      reports = with_wish (asked_in old.window old.machine.kept) old.reports;
    }

-- It has told its counts in answer to a wave: so many messages were put out, what it received and the updates of its log, and whether it is
-- idle.
pub record HasToldCounts {P : Type 0} (old new : LockingMachineView P) (wave sent : ℕ) : Type 0 where
  pub idle : Bool
  pub rests : (st : Setting) → IsPartOf st old.machine.core → idle ≡ is_idle st (part_of old.machine.core)
  pub after : new ≡ record old {
    counts = record old.counts { held = None };
    reports = with_report (wire.Count wave (record { sent = sent; received = old.counts.received; updates = length old.machine.core.numbers.log.items; idle = idle })) old.reports;
  }
