-- How a machine that goes by colours and takes part in snapshots is kept.
use Rattle.std.specs.Prelude.{◌≡◌, ◌⊎◌, ℕ, ◌<◌, Bool, true, false, None, Some, List, [], length}
use Rattle.gl_base.specs.declared.scopes.ScopeId.{ScopeId}
use Rattle.machine_core.specs.color_parts.Enlisting.{is_free_such}
use Rattle.machine_core.specs.declared.color_parts.enlisting.Which.{Which}
use Rattle.machine_core.specs.declared.color_parts.enlisting.Which.TheVariants.{Pending, Tasks}
use Rattle.machine_core.specs.color_parts.Parts.{LinesView, TasksView, is_in_line}
use Rattle.update_api.specs.Updates.{Update}
use Rattle.snapshot_machines.specs.chromatic.Machines.{ColorSnapView, IsColorSnapOf, Part, Setting, SnapMachineView, part_of}

-- the machine, in this step
abbrev pub seen_in_steps : {P : Type 0} → SnapMachineView P → List ℕ → ℕ → Bool → ColorSnapView P
seen_in_steps m colours colour closed = record { core = m.core; kept = m.kept; program = m.program; colours = colours; colour = colour; closed = closed }

-- nobody holds or waits for a lock here, and each scope in flight is ready
pub record IsWithoutLocks (part : Part) : Type 0 where
  pub holder : (x : ℕ) (s : ScopeId) → part.holder x s ≡ None
  pub queue : (x : ℕ) → part.queue x ≡ []
  pub stand : (s : ScopeId) → part.stand s ≡ None
  pub ready : (s : ScopeId) (v : ℕ) → part.flight s ≡ Some v → part.ready s ≡ true

-- in line stand just those vertices of this kind that are not admitted
abbrev pub AreJustInLine : Which → TasksView → LinesView → Type 0
AreJustInLine which t lines = (place : ℕ) → place < length t.task → is_in_line lines place ≡ is_free_such which t place

-- its tasks and its pending vertices stand in line, by the same colours
pub record AreBothInLine (t : TasksView) (lines asked : LinesView) : Type 0 where
  pub many : length lines.colours ≡ length t.task
  pub colours : asked.colours ≡ lines.colours
  pub tasks : AreJustInLine Tasks t lines
  pub pending : AreJustInLine Pending t asked

-- a pending vertex that is not admitted stands in line
pub record HasDueInLine (t : TasksView) (asked : LinesView) : Type 0 where
  pub place : ℕ
  pub within : place < length t.task
  pub due : is_free_such Pending t place ≡ true
  pub stands : is_in_line asked place ≡ true

-- Who stood in line does so still, who stands there now did so or is a pending vertex that is not admitted, and where there is such a vertex one
-- stands in line.
pub record HasFirstInLine (t : TasksView) (old new : LinesView) : Type 0 where
  pub colours : new.colours ≡ old.colours
  pub kept : (place : ℕ) → is_in_line old place ≡ true → is_in_line new place ≡ true
  pub due : (place : ℕ) → is_in_line new place ≡ true → (is_in_line old place ≡ true) ⊎ (is_free_such Pending t place ≡ true)
  pub first : (place : ℕ) → is_free_such Pending t place ≡ true → HasDueInLine t new

-- It takes no locks, its vertices stand in line, and there is a setting of which it is a part and whose program it has.
pub record IsKeptInSteps {P : Type 0} (meaning : P → Update) (x : ColorSnapView P) (lines asked : LinesView) : Type 0 where
  pub unlocked : x.core.terms.locks ≡ false
  pub free : IsWithoutLocks (part_of x.core)
  pub in_line : AreBothInLine x.core.numbers.tasks lines asked
  pub st : Setting
  pub setting : IsColorSnapOf meaning st x
