-- How a machine answers the wave that it holds, and what is made sure of before.
pub use Rattle.coordinator.specs.machine_api.Promises.{OfEach}
use Rattle.std.specs.Prelude.{true, is_some, ◌<◌, ◌≡◌}
use Rattle.cluster_laws.specs.cluster_model.Working.{prompt}
use Rattle.snapshot_machines.specs.locking.Asking.{asked_in, with_asking_in, with_wish}
use Rattle.update_api.specs.Updates.{Update}
use Rattle.snapshot_machines.specs.wave_counts.Counts.{HasSlackFor, MayTellCounts, waiting_in}
use Rattle.placed_machines.specs.chromatic.Machines.{ChromaticMachineView, IsChromaticMachineOf, IsColorSnapPart, Setting, part_of_steps}

-- where a wave is held there is room for the answer
abbrev pub HasRoomToAnswer : {P : Type 0} → ChromaticMachineView P → Type 0
HasRoomToAnswer x = is_some x.counts.held ≡ true → 0 < x.reports.room

-- and in a cluster with this setting the counts can be told
abbrev pub CanTellCounts : {P : Type 0} → Setting → ChromaticMachineView P → Type 0
CanTellCounts st x = is_some x.counts.held ≡ true → MayTellCounts x.counts (waiting_in st (part_of_steps x.machine))

-- in each cluster they can, whether a wave is held or not
abbrev pub CanTellCountsNow : {P : Type 0} → ChromaticMachineView P → Type 0
CanTellCountsNow x = (st : Setting) → IsColorSnapPart st x.machine → MayTellCounts x.counts (waiting_in st (part_of_steps x.machine))

-- and so they can when one message more was received and one more for each machine put out
abbrev pub HasSlack : {P : Type 0} → ChromaticMachineView P → Type 0
HasSlack x = (st : Setting) → IsColorSnapPart st x.machine → is_some x.counts.held ≡ true → HasSlackFor x.counts (waiting_in st (part_of_steps x.machine))

-- it has answered the wave that it holds, where its share of the step is done, and where its counts can be told
abbrev pub HasPrompted : {P : Type 0} → (P → Update) → ChromaticMachineView P → ChromaticMachineView P → Type 0
HasPrompted meaning old new = OfEach (IsChromaticMachineOf meaning) old (λ st a m. CanTellCounts st old → IsChromaticMachineOf meaning st a (prompt st a m) new)

-- it asks where it has to
abbrev pub HasWantedInSteps : {P : Type 0} → ChromaticMachineView P → ChromaticMachineView P → Type 0
HasWantedInSteps old new =
    new ≡ record old {
      machine = record old.machine { kept = with_asking_in old.window old.machine.kept };
      reports = with_wish (asked_in old.window old.machine.kept) old.reports;
    }
