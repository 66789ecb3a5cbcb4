-- An update at once that a machine can begin, before its ticket is known.
use Rattle.std.specs.Prelude.{ℕ}
use Rattle.coordinator.specs.machine_api.AtOnce.{AreDone, deeds_at_once}
use Rattle.coordinator.specs.machine_api.Going.{IsSnapSetting}
use Rattle.coordinator.specs.machine_api.Promises.{Machine, Setting}

-- v may be updated at once, under whatever ticket
abbrev pub CanBeginAtOnce : {M : Type 0} → (Setting → ℕ → Machine → M → Type 0) → M → ℕ → Type 0
CanBeginAtOnce represents y v = (ticket : ℕ) (st : Setting) (a : ℕ) (m : Machine) → IsSnapSetting st → represents st a m y → (after : Machine) × AreDone st a (deeds_at_once st a v ticket m) m after
