-- What the answers to a wave add up to.
use Rattle.std.specs.Prelude.{◌≡◌, ℕ, ◌+◌, ◌*◌, ◌^◌, ◌<◌, ◌≤◌, List, Option, Some, None, if◌then◌else◌, length, sum_by}
use Rattle.gl_base.specs.declared.scopes.Counted.{Counted}
use Rattle.coordinator.specs.declared.quiet_waves.answering.Sums.{Sums}
use Rattle.coordinator.specs.quiet_waves.Waves.{total_sent, total_received, updates_told}

-- 1 where the machine has not answered
abbrev pub missing_of : Option Counted → ℕ
missing_of None = 1
missing_of (Some counted) = 0

-- 1 where the machine has not answered that it is idle
abbrev pub restless_of : Option Counted → ℕ
restless_of None = 1
restless_of (Some counted) = if counted.idle then 0 else 1

-- these are the sums of the answers
pub record AreSums (counts : List (Option Counted)) (sums : Sums) : Type 0 where
  pub missing : sums.missing ≡ sum_by missing_of counts
  pub restless : sums.restless ≡ sum_by restless_of counts
  pub sent : sums.sent ≡ total_sent counts
  pub received : sums.received ≡ total_received counts
  pub updates : sums.updates ≡ sum_by updates_told counts

-- The sums are kept, and they have room for what is missing.
pub record AreSumsKept (counts : List (Option Counted)) (kept : Sums) : Type 0 where
  pub sums : AreSums counts kept
  pub few : length counts < 2 ^ 16
  pub sent : kept.sent + kept.missing * 2 ^ 64 ≤ 2 ^ 80
  pub received : kept.received + kept.missing * 2 ^ 64 ≤ 2 ^ 80
  pub updates : kept.updates + kept.missing * 2 ^ 64 ≤ 2 ^ 80
