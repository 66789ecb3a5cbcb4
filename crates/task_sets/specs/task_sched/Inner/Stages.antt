-- The stages in which tasks wait.
use Rattle.std.specs.Prelude.{◌≡◌, ℕ, Bool, ◌||◌, List, length}
use Rattle.task_sets.specs.task_sched.Tasks.{is_flagged}

-- For each vertex whether it waits near, far, and where nothing has woken it.
pub record StagesView : Type 0 where
  pub near : List Bool
  pub far : List Bool
  pub fresh : List Bool

abbrev pub stage_count : StagesView → ℕ
stage_count s = length s.near

-- the vertex waits in some stage
abbrev pub is_staged : StagesView → ℕ → Bool
is_staged s u = is_flagged s.near u || (is_flagged s.far u || is_flagged s.fresh u)

-- each stage has a flag for each vertex, and each vertex a key
pub record AreStages (near far fresh : List Bool) (keys : ℕ) : Type 0 where
  pub far_count : length far ≡ length near
  pub fresh_count : length fresh ≡ length near
  pub key_count : keys ≡ length near
