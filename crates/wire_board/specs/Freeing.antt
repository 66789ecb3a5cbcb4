-- A machine that has reached the count of a failure, or of none.
use Rattle.std.specs.Prelude.{List, false, slice_index_or, true, ℕ, ◌≡◌}
use Rattle.gl_base.specs.declared.jobs.FailureAt.{FailureAt}
use Rattle.cluster_laws.specs.cluster_model.Machines.{completed}
use Rattle.coordinator.specs.machine_api.Going.{IsSnapSetting}
use Rattle.coordinator.specs.machine_api.Promises.{Machine, Setting}
use Rattle.call_laws.specs.whole_calls.Following.{reaches}

-- it has reached the count of none, where each machine had completed so many updates as the attempt began
abbrev pub IsFree : {M : Type 0} → (Setting → ℕ → Machine → M → Type 0) → List FailureAt → List ℕ → M → ℕ → Type 0
IsFree represents failures done y a =
    (st : Setting) (m : Machine) → IsSnapSetting st → represents st a m y → m.done ≡ slice_index_or done a 0 → reaches failures a m.done (completed m) ≡ false

-- it has reached the count of one of them
abbrev pub HasReached : {M : Type 0} → (Setting → ℕ → Machine → M → Type 0) → List FailureAt → List ℕ → M → ℕ → Type 0
HasReached represents failures done y a =
    (st : Setting) (m : Machine) → IsSnapSetting st → represents st a m y → m.done ≡ slice_index_or done a 0 → reaches failures a m.done (completed m) ≡ true
