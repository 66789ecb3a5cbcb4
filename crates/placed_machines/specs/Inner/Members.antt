-- A new machine as a member of a cluster.
pub use Rattle.placed_machines.specs.chromatic.Machines.{ChromaticMachineView}
pub use Rattle.snapshot_machines.specs.chromatic.Machines.{ColorSnapView, IsColorSnapOf, IsFreshInSteps, in_no_step}
pub use Rattle.snapshot_machines.specs.saving.Machines.{SnapMachineView}
pub use Rattle.snapshot_machines.specs.locking.Machines.{LockingMachineView}
use Rattle.std.specs.Prelude.{All, List, Option, [], length, true, ℕ, ◌<◌, ◌≡◌}
use Rattle.coordinator.specs.declared.coord_core.steps.Engine.{Engine}
use Rattle.coordinator.specs.declared.coord_core.steps.Engine.TheVariants.{Chromatic, Locking}
use Rattle.placed_machines.specs.declared.any_machine.machines.AnyMachine.{AnyMachine}
use Rattle.placed_machines.specs.declared.any_machine.machines.AnyMachine.TheVariants as member
use Rattle.placement.specs.places.Colours.{colours_by_place}
use Rattle.update_api.specs.Updates.{Update}
use Rattle.snapshot_machines.specs.wave_counts.Counts.{none_counted}
use Rattle.placed_machines.specs.Beginning.{Setting}

-- the machine in no step yet, with the colours of its vertices, of those of the graph's
abbrev pub in_own_colours : {P : Type 0} → SnapMachineView P → List ℕ → ColorSnapView P
in_own_colours m colours = in_no_step m (colours_by_place colours m.core.by_place.items)

-- ---- what the engine wants

-- each vertex of the machine has a colour, and the machine is fresh; by its colours it is a part of some setting
pub record CanRunInColours {P : Type 0} (meaning : P → Update) (colours : List ℕ) (m : SnapMachineView P) : Type 0 where
  pub below : All (λ v. v.0 < length colours) m.core.by_place.items
  pub fresh : IsFreshInSteps m.core (length (colours_by_place colours m.core.by_place.items))
  pub st : Setting
  pub setting : IsColorSnapOf meaning st (in_own_colours m colours)

-- at the machine scopes take locks, or it can run by these colours
abbrev pub FitsEngine : {P : Type 0} → (P → Update) → Engine → List ℕ → SnapMachineView P → Type 0
FitsEngine meaning Locking colours m = m.core.terms.locks ≡ true
FitsEngine meaning (Chromatic greatest) colours m = CanRunInColours meaning colours m

-- ---- members

-- the machine with this window or without one, where nothing was counted and nothing is to be told
pub record IsNewLockingMachine {P : Type 0} (m : SnapMachineView P) (window : Option ℕ) (x : LockingMachineView P) : Type 0 where
  pub machine_is : x.machine ≡ m
  pub counts : x.counts ≡ none_counted
  pub window_is : x.window ≡ window
  pub reports : x.reports.messages ≡ []

-- and the same by colours
pub record IsNewChromaticMachine {P : Type 0} (m : ColorSnapView P) (window : Option ℕ) (x : ChromaticMachineView P) : Type 0 where
  pub machine_is : x.machine ≡ m
  pub counts : x.counts ≡ none_counted
  pub window_is : x.window ≡ window
  pub reports : x.reports.messages ≡ []

-- as the engine wants it
abbrev pub IsNewMember : {P : Type 0} → Engine → List ℕ → Option ℕ → SnapMachineView P → AnyMachine P → Type 0
IsNewMember Locking colours window m (member.Locking x) = IsNewLockingMachine m window x
IsNewMember Locking colours window m (member.Chromatic x) = ⊥
IsNewMember (Chromatic greatest) colours window m (member.Locking x) = ⊥
IsNewMember (Chromatic greatest) colours window m (member.Chromatic x) = IsNewChromaticMachine (in_own_colours m colours) window x
