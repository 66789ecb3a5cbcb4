-- What the coordinator tells machines, and what machines tell the coordinator.
use Rattle.std.specs.Prelude.{List, [], ℕ, ◌∷◌}
use Rattle.gl_base.specs.declared.entries.Entry.{Entry}
use Rattle.gl_base.specs.declared.scopes.Counted.{Counted}
use Rattle.cluster_laws.specs.cluster_core.Messages.{Section}

-- What the coordinator tells a machine.
pub data Call : Type 0 where
  -- the snapshot of this number begins
  Begin : (number : ℕ) → Call
  -- the snapshot of this number is acknowledged
  Committed : (number : ℕ) → Call
  -- the machine is asked for its counts
  Wave : (wave : ℕ) → Call
  -- the step of this colour begins
  Step : (colour : ℕ) → Call

-- What a machine tells the coordinator.
pub data Report : Type 0 where
  -- the machine's section of a snapshot: the numbers that it saved, and those of its updates that no earlier section has
  Saved : (number : ℕ) → (section : Section) → (entries : List Entry) → Report
  -- its counts
  Count : (wave : ℕ) → (counts : Counted) → Report
  -- it asks for a snapshot after the one of this number
  Want : (acknowledged : ℕ) → Report

-- ---- what of it a part of the laws looks at

-- the snapshots that are to begin, in turn
abbrev pub begins_in : List Call → List ℕ
begins_in [] = []
begins_in (Begin k ∷ calls) = k ∷ begins_in calls
begins_in (Committed k ∷ calls) = begins_in calls
begins_in (Wave k ∷ calls) = begins_in calls
begins_in (Step colour ∷ calls) = begins_in calls

-- the sections, in turn
abbrev pub sections_in : List Report → List Section
sections_in [] = []
sections_in (Saved k section entries ∷ reports) = section ∷ sections_in reports
sections_in (Count k counts ∷ reports) = sections_in reports
sections_in (Want k ∷ reports) = sections_in reports
