-- What the last two waves brought in, and when they show the end.
pub use Rattle.cluster_laws.specs.cluster_model.TwoWaves.{TwoWaves, IsIdleAnswer, sent_of, received_of, total_sent, total_received, ShowTheEnd, all_answered, no_counts, no_waves, turned, answered}
pub use Rattle.cluster_laws.specs.cluster_model.Leading.{updates_told}
use Rattle.std.specs.Prelude.{◌≡◌, ℕ, ◌<◌, None, length, slice_index_or}

-- machine m has not answered this wave yet, or the next one where this one is whole
pub record MayAnswer (w : TwoWaves) (m : ℕ) : Type 0 where
  pub machine : m < length w.wave
  pub missing : slice_index_or (turned w).wave m None ≡ None

-- In both waves as many messages had been sent, and as many received: the same number.
pub record AreEvenWaves (w : TwoWaves) : Type 0 where
  pub received_before : total_received w.before ≡ total_sent w.before
  pub sent : total_sent w.wave ≡ total_sent w.before
  pub received : total_received w.wave ≡ total_sent w.before
