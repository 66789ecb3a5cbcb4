-- The machine's part behind each call, as the law has it.
use Rattle.std.proofs.Common.{◌≡◌, ℕ, Bool, true, false, if◌then◌else◌, Some, List, [], ◌∷◌, ◌++◌, refl, ap, ◌∙◌, arith}
use Rattle.std.specs.Prelude.{nat_lt}
use Rattle.gl_base.specs.declared.entries.Entry.{Entry}
use Rattle.gl_base.specs.declared.entries.Entry.TheVariants.{Go}
use Rattle.gl_base.specs.declared.numbers.Vertex.{Vertex}
use Rattle.gl_base.specs.declared.scopes.ScopeId.{ScopeId}
use Rattle.update_api.specs.Updates.{Update}
use Rattle.cluster_laws.specs.cluster_core.Settings.{IsSetting}
use Rattle.partition.specs.machine_numbers.Views.{datum_here}
use Rattle.machine_core.specs.machine_parts.Parts.{flight_at}
use Rattle.machine_core.specs.machine_turns.Turns.{HasMadeUpdate}
use Rattle.snapshot_machines.specs.marking.Marking.{HasMarked}
use Rattle.coordinator.specs.snap_update.Snaps.{IsSameButRoom, newly_begun, with_begun, with_entry}
use Rattle.snapshot_machines.specs.saving.Updates.{HasLogged}
use Rattle.snapshot_machines.specs.chromatic.Machines.{ColorSnapView, Part, Setting, SnapMachineView, SnapView, part_of, with_locking, with_snaps}
use Rattle.snapshot_machines.specs.chromatic.Snapshots.{HasMarkedInStep}
use Rattle.snapshot_machines.specs.chromatic.Updating.{HasUpdatedInColour}
use Rattle.snapshot_machines.specs.chromatic.Inner.Keeping.{seen_in_steps}
use Rattle.snapshot_machines.proofs.chromatic.GuardLemmas.{mark_seen, update_seen}

-- ---- what is kept

-- an entry changes nothing that the law has of it
pub snaps_logged : (e : Entry) (mark : ℕ) (w now : SnapView) (part : Part) → IsSameButRoom (with_entry e mark w) now → with_snaps now part ≡ with_snaps w part
snaps_logged e mark w now part same = ap (λ (x : SnapView). with_snaps x part) same ∙ by (nat_lt mark w.known)
  where
    by : (b : Bool) → with_snaps (if b then record w { before = w.before ++ e ∷ [] } else record w { behind = w.behind ++ e ∷ [] }) part ≡ with_snaps w part
    by true = refl
    by false = refl

less_no_more : (k : ℕ) → nat_lt k k ≡ false
less_no_more k = grind arith

-- a snapshot that has begun begins once
pub begun_twice : (k : ℕ) (w mid now : SnapView) → IsSameButRoom (with_begun k w) mid → IsSameButRoom (with_begun k mid) now → IsSameButRoom (with_begun k w) now
begun_twice k w mid now first second = second ∙ ap (λ (x : SnapView). record (with_begun k x) { room = now.room }) first ∙ by (nat_lt w.known k) refl
  where
    by : (b : Bool) → nat_lt w.known k ≡ b → record (with_begun k (record (if b then newly_begun k w else w) { room = mid.room })) { room = now.room } ≡ record (if b then newly_begun k w else w) { room = now.room }
    by true is = ap (λ (c : Bool). record (if c then newly_begun k (record (newly_begun k w) { room = mid.room }) else record (newly_begun k w) { room = mid.room }) { room = now.room }) (less_no_more k)
    by false is = ap (λ (c : Bool). record (if c then newly_begun k (record w { room = mid.room }) else record w { room = mid.room }) { room = now.room }) is

-- ---- settings

pub locking_setting : (st : Setting) → IsSetting st → IsSetting (with_locking st)
locking_setting st is = record { graph = is.graph; owner = is.owner }

-- ---- the calls

module _ {P : Type 0} (x : ColorSnapView P) (m : SnapMachineView P) (colours : List ℕ) where
  abbrev now : ColorSnapView P
  now = seen_in_steps m colours x.colour x.closed

  pub updated_by_colour : (program : Update) (s : ScopeId) (v : Vertex) (ticket : ℕ) → flight_at x.core.pipe s ≡ Some v → HasMadeUpdate program x.core m.core s ticket → HasLogged x.core x.kept m.kept s ticket → HasUpdatedInColour program x now s ticket
  updated_by_colour program s v ticket flies made logged =
      let kept = snaps_logged (Go s.home v ticket) (datum_here x.core.numbers v.0).mark x.kept m.kept (part_of m.core) (logged v flies) in
      record {
        may = update_seen x s made.may;
        home = made.home;
        after = λ st setting is runs.
            ap (λ (p : Part). record p { colour = x.colour; closed = x.closed }) kept
            ∙ ap (λ (p : Part). record (with_snaps x.kept p) { colour = x.colour; closed = x.closed }) (made.after (with_locking st) (locking_setting st setting) is.part runs);
      }

  pub marked_by_colour : (s : ScopeId) → HasMarked x.core x.kept m.core m.kept s → HasMarkedInStep x now s
  marked_by_colour s made =
      record {
        may = mark_seen x s made.may;
        home = made.home;
        after = λ st setting is. ap (λ (p : Part). record p { colour = x.colour; closed = x.closed }) (made.after (with_locking st) (locking_setting st setting) is.part);
      }
