-- What a machine counts, and its answer to a wave.
pub use Rattle.cluster_laws.specs.cluster_core.Messages.{Message}
pub use Rattle.cluster_laws.specs.cluster_core.Parts.{Part}
pub use Rattle.cluster_laws.specs.cluster_core.Settings.{Setting}
pub use Rattle.cluster_laws.specs.cluster_model.Calls.{Wave, Report}
pub use Rattle.cluster_laws.specs.cluster_model.Machines.{Machine, gained, is_idle}
pub use Rattle.cluster_laws.specs.cluster_model.Working.{goes_back, hands, is_done, prompt, takes_call}
use Rattle.std.specs.Prelude.{◌≡◌, ℕ, ◌+◌, ◌^◌, ◌<◌, ◌≤◌, Bool, Option, Some, None, List, [], ◌∷◌, if◌then◌else◌, length, nat_lt}
use Rattle.cluster_laws.specs.cluster_model.Calls.{Count}
use Rattle.cluster_laws.specs.cluster_model.Totals.{total}
use Rattle.snapshot_machines.specs.declared.wave_counts.answers.WaveAnswer.{WaveAnswer}

-- how many messages to machines have left its outboxes, how many of machines it received, and the wave that it has to answer still
pub record CountsView : Type 0 where
  pub sent : ℕ
  pub received : ℕ
  pub held : Option ℕ

-- nothing was counted, and no wave is held
abbrev pub none_counted : CountsView
none_counted = record { sent = 0; received = 0; held = None }

-- it isn't the greatest number
abbrev pub IsOpenCount : ℕ → Type 0
IsOpenCount n = n + 1 < 2 ^ 64

-- one more, up to the greatest number
abbrev pub one_more : ℕ → ℕ
one_more n = if nat_lt (n + 1) (2 ^ 64) then n + 1 else n

-- no count stands still, and what was sent is a count with what waits
pub record MayTellCounts (w : CountsView) (waiting : ℕ) : Type 0 where
  pub sent : IsOpenCount w.sent
  pub received : IsOpenCount w.received
  pub sum : w.sent + waiting < 2 ^ 64

-- one more may be received, and one more for each machine put out, before a count stands still
pub record HasSlackFor (w : CountsView) (waiting : ℕ) : Type 0 where
  pub received : w.received + 2 < 2 ^ 64
  pub sum : w.sent + waiting + 65536 < 2 ^ 64
  pub sent : IsOpenCount w.sent

-- the counts of this wave, where one is held
abbrev pub answer_to : CountsView → ℕ → ℕ → Bool → Option ℕ → Option WaveAnswer
answer_to w sent updates idle None = None
answer_to w sent updates idle (Some wave) = Some (record { wave = wave; counted = record { sent = sent; received = w.received; updates = updates; idle = idle } })

-- where its share is done it has answered the wave that it held, with what it had counted
pub record HasAnsweredWave (old new : CountsView) (done : Bool) (sent updates : ℕ) (idle : Bool) (answer : Option WaveAnswer) : Type 0 where
  pub told : answer ≡ (if done then answer_to old sent updates idle old.held else None)
  pub rest : new ≡ record old { held = if done then None else old.held }

-- ---- in a cluster

-- how many messages wait in its outboxes to machines
abbrev pub waiting_in : Setting → Part → ℕ
waiting_in st part = total st.machines (λ q. length (part.out q))

-- The machine has counted this, where a count doesn't stand still: what it put out has left its outboxes, or waits there.
pub record IsCountOf (st : Setting) (w : CountsView) (m : Machine) : Type 0 where
  pub sent : IsOpenCount w.sent → m.sent ≡ w.sent + waiting_in st m.part
  pub received : IsOpenCount w.received → m.received ≡ w.received
  pub held : m.held ≡ w.held

-- the outboxes of the second are no shorter
abbrev pub HasPutOut : Part → Part → Type 0
HasPutOut old new = (q : ℕ) → length (old.out q) ≤ length (new.out q)

-- the answer as a report to the coordinator
abbrev pub answer_reports : Option WaveAnswer → List Report
answer_reports None = []
answer_reports (Some a) = Count a.wave a.counted ∷ []
