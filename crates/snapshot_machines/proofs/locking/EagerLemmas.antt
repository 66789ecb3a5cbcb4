-- An update at once of a vertex that was found before.
use Rattle.std.proofs.Common.{◌≡◌, ℕ, subst, sym, ◌∙◌}
use Rattle.gl_base.specs.declared.numbers.Vertex.{Vertex}
use Rattle.update_api.specs.Updates.{Update}
use Rattle.machine_core.specs.declared.machine_at_once.finding.Found.{Found}
use Rattle.machine_core.specs.declared.machine_parts.cores.Core.{Core}
use Rattle.machine_core.specs.machine_at_once.Inner.Finding.{IsFoundPick}
use Rattle.machine_core.specs.machine_at_once.Picks.{HasRunAtOnce, HasUpdatedPick}
use Rattle.machine_core.specs.machine_parts.Order.{IsOrderly}
use Rattle.machine_core.specs.machine_parts.Settings.{SameSettings}
use Rattle.machine_core.proofs.machine_at_once.Scopes.{may_here}
use Rattle.coordinator.specs.machine_api.AtOnce.{HasUpdatedAtOnce, MayUpdateWithin}
use Rattle.coordinator.specs.machine_api.Eager.{CanBeginAtOnce}
use Rattle.cluster_laws.specs.cluster_model.Working.{asks}
use Rattle.snapshot_machines.specs.saving.Machines.{SnapMachineView, outside_of}
use Rattle.snapshot_machines.specs.saving.Updates.{HasLoggedAtOnce, HasUpdatedFound}
use Rattle.snapshot_machines.specs.locking.Asking.{HasWanted}
use Rattle.snapshot_machines.specs.locking.Machines.{IsLockingMachineOf, LockingMachineView}
use Rattle.snapshot_machines.specs.locking.Reports.{ReportsView}
use Rattle.snapshot_machines.proofs.locking.AtOnceLemmas.{at_once_here, updated_at_once}
use Rattle.snapshot_machines.proofs.locking.StandLemmas.{closed_is, room_is}
use Rattle.snapshot_machines.proofs.locking.TurnLemmas.{done_at_once, worked_at_once}

-- it may be updated at once, under whatever ticket
pub found_begins : {P : Type 0} (meaning : P → Update) (x : LockingMachineView P) → IsOrderly x.machine.core → x.machine.core.numbers.tasks.outside ≡ outside_of x.machine.kept
    → (f : Found) → IsFoundPick x.machine.core f → CanBeginAtOnce (IsLockingMachineOf meaning) x f.vertex.0
found_begins meaning x orderly counted f found ticket st a m snap is =
    let within : MayUpdateWithin st a f.vertex.0 m = record {
      may = at_once_here meaning st a m x is f.vertex.0 (may_here x.machine.core f orderly found st snap.is is.here);
      room = room_is meaning st a m x is counted ∙ found.waits.opened;
    } in (
      asks st (worked_at_once st a f.vertex.0 ticket m),
      done_at_once st a f.vertex.0 ticket m snap.is is.here.engine within.may is.none_held (closed_is meaning st a m x is) within,
    )

-- what was found was what the tasks picked
pub found_pick : (program : Update) (old new : Core) (f : Found) (ticket : ℕ) → IsOrderly old → IsFoundPick old f → HasUpdatedFound program old new f.vertex ticket → HasUpdatedPick program old new f.vertex ticket
found_pick program old new f ticket orderly found made = record { picked = found.picked; opened = found.waits.opened; may = may_here old f orderly found; after = made }

-- its update is an update at once
pub updated_found : {P : Type 0} (meaning : P → Update) (x : LockingMachineView P) (now : SnapMachineView P) (reports : ReportsView) → IsOrderly x.machine.core → x.machine.core.numbers.tasks.outside ≡ outside_of x.machine.kept
    → (f : Found) → IsFoundPick x.machine.core f → (v : Vertex) (ticket : ℕ) → f.vertex ≡ v → HasUpdatedFound (meaning x.machine.program) x.machine.core now.core v ticket
    → HasRunAtOnce x.machine.core.numbers.tasks now.core.numbers.tasks → HasLoggedAtOnce x.machine.core x.machine.kept now.kept v ticket
    → (let old = x.machine.core.numbers.local in let new = now.core.numbers.local in new ≡ record old { kept = new.kept; rows = new.rows; numbers = new.numbers })
    → now.program ≡ x.machine.program → SameSettings x.machine.core now.core → reports.messages ≡ x.reports.messages
    → (behind : LockingMachineView P) → HasWanted (record x { machine = now; reports = reports }) behind → HasUpdatedAtOnce (IsLockingMachineOf meaning) x v.0 ticket behind
updated_found meaning x now reports orderly counted f found v ticket is updated run logged local program settings told behind asked =
    let old = x.machine.core in
    let pick = found_pick (meaning x.machine.program) old now.core f ticket orderly found (subst (λ (w : Vertex). HasUpdatedFound (meaning x.machine.program) old now.core w ticket) (sym is) updated) in
    let log = subst (λ (w : Vertex). HasLoggedAtOnce old x.machine.kept now.kept w ticket) (sym is) logged in
    subst (λ (w : Vertex). HasUpdatedAtOnce (IsLockingMachineOf meaning) x w.0 ticket behind) is
    (updated_at_once meaning x now reports orderly counted f.vertex ticket pick run log local program settings told behind asked)
