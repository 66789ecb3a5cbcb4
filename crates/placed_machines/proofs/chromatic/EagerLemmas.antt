-- An update at once in a step, of a vertex that was found before.
use Rattle.std.proofs.Common.{true, ◌≡◌, ◌∙◌}
use Rattle.update_api.specs.Updates.{Update}
use Rattle.cluster_laws.specs.cluster_model.Working.{asks, has_room, prompt}
use Rattle.machine_core.specs.declared.machine_at_once.finding.Found.{Found}
use Rattle.machine_core.specs.machine_parts.Order.{IsOrderly, KnowsPlaces}
use Rattle.coordinator.specs.machine_api.Eager.{CanBeginAtOnce}
use Rattle.coordinator.specs.snap_update.Snaps.{outside_of}
use Rattle.snapshot_machines.specs.chromatic.Inner.Picking.{IsFoundInStep}
use Rattle.snapshot_machines.proofs.locking.TurnLemmas.{worked_at_once}
use Rattle.placed_machines.specs.chromatic.Machines.{ChromaticMachineView, IsChromaticMachineOf}
use Rattle.placed_machines.proofs.chromatic.AtOnceLemmas.{at_once_here, done_in_step}
use Rattle.placed_machines.proofs.chromatic.PromptLemmas.{room_is}

-- it may be updated at once, under whatever ticket
pub step_begins : {P : Type 0} (meaning : P → Update) (x : ChromaticMachineView P) → IsOrderly x.machine.core → KnowsPlaces x.machine.core → x.machine.core.numbers.tasks.outside ≡ outside_of x.machine.kept
    → (f : Found) → IsFoundInStep x.machine f → CanBeginAtOnce (IsChromaticMachineOf meaning) x f.vertex.0
step_begins meaning x orderly places counted f found ticket st a m snap is =
    let may = at_once_here meaning x orderly places counted st a m is f.vertex.0 (found.may st is.here.is is.here.part) in
    let room : has_room st m ≡ true = room_is meaning x counted st a m snap is ∙ found.waits.opened in
    let engine = is.here.part.engine in (
      prompt st a (asks st (worked_at_once st a f.vertex.0 ticket m)),
      done_in_step st is.here.is engine.colour engine.greatest engine.chromatic a f.vertex.0 ticket m may room,
    )
