-- What the last two counting waves brought in, and when they show the end.
use Rattle.std.specs.List.{list_all}
use Rattle.std.specs.Prelude.{All, Bool, List, None, Option, Some, if◌then◌else◌, is_some, length, replicate, slice_set, sum_by, true, ℕ, ◌≡◌}
use Rattle.gl_base.specs.declared.scopes.Counted.{Counted}

-- By machine what it answered to the wave before, and what it answered to this wave; None where its count is missing.
pub record TwoWaves : Type 0 where
  pub before : List (Option Counted)
  pub wave : List (Option Counted)

-- ---- the end

-- the machine answered that it was idle
abbrev pub IsIdleAnswer : Option Counted → Type 0
IsIdleAnswer None = ⊥
IsIdleAnswer (Some c) = c.idle ≡ true

-- how many messages it had sent
abbrev pub sent_of : Option Counted → ℕ
sent_of None = 0
sent_of (Some c) = c.sent

-- how many it had received
abbrev pub received_of : Option Counted → ℕ
received_of None = 0
received_of (Some c) = c.received

-- how many messages all had sent
abbrev pub total_sent : List (Option Counted) → ℕ
total_sent wave = sum_by sent_of wave

-- how many all had received
abbrev pub total_received : List (Option Counted) → ℕ
total_received wave = sum_by received_of wave

-- Both times each machine answered that it was idle, and both times as many messages had been sent, and as many received:
-- the same number.
pub record ShowTheEnd (w : TwoWaves) : Type 0 where
  pub idle_before : All IsIdleAnswer w.before
  pub idle : All IsIdleAnswer w.wave
  pub received_before : total_received w.before ≡ total_sent w.before
  pub sent : total_sent w.wave ≡ total_sent w.before
  pub received : total_received w.wave ≡ total_sent w.before

-- ---- how counts come in

-- each machine has answered
abbrev pub all_answered : List (Option Counted) → Bool
all_answered wave = list_all is_some wave

-- no machine has answered
abbrev pub no_counts : ℕ → List (Option Counted)
no_counts machines = replicate machines None

-- no wave yet
abbrev pub no_waves : ℕ → TwoWaves
no_waves machines = record { before = no_counts machines; wave = no_counts machines }

-- after a whole wave the next one begins
abbrev pub turned : TwoWaves → TwoWaves
turned w = if all_answered w.wave then record { before = w.wave; wave = no_counts (length w.wave) } else w

-- machine m answered c
abbrev pub answered : TwoWaves → ℕ → Counted → TwoWaves
answered w m c = record { before = (turned w).before; wave = slice_set (turned w).wave m (Some c) }
