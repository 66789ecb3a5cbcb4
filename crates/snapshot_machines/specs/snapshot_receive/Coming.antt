-- What comes first on a link to a machine that takes snapshots.
pub use Rattle.cluster_laws.specs.cluster_core.Messages.{Ask, Done, Message, Ready}
pub use Rattle.cluster_laws.specs.cluster_core.Settings.{Setting}
pub use Rattle.coordinator.specs.machine_api.Told.{no_word}
pub use Rattle.cluster_laws.specs.cluster_model.Clusters.{Cluster}
pub use Rattle.machine_core.specs.machine_parts.Parts.{machine_numbers}
pub use Rattle.machine_core.specs.machine_scopes.Asking.{AreMachinesFor, CanBecomeReady, IsNewAt}
pub use Rattle.snapshot_machines.specs.marking.Keeping.{SnapView}
pub use Rattle.snapshot_machines.specs.marking.Learning.{CanLearnNews, news_of}
use Rattle.std.specs.Prelude.{List, ℕ, ◌∷◌, ◌≡◌}
use Rattle.cluster_laws.specs.cluster_core.Settings.{IsSetting}
use Rattle.whole_laws.specs.cluster_whole.Whole.{IsWhole}
use Rattle.machine_core.specs.declared.machine_parts.cores.Core.{Core}
use Rattle.machine_core.specs.machine_parts.Order.{IsOrderly}
use Rattle.machine_core.specs.machine_parts.Settings.{IsPartOf}
use Rattle.cluster_laws.specs.known_parts.Alike.{LooksAlike}
use Rattle.snapshot_machines.specs.marking.Keeping.{part_of, with_snaps}

-- In this whole cluster the machine of these parts, with what it keeps for snapshots, is the one of its number as far as it looks, and the
-- message is the first on the link to it from machine p.
pub record IsFrontFor (st : Setting) (c : Cluster) (p : ℕ) (m : Core) (w : SnapView) (message : Message) : Type 0 where
  pub setting : IsSetting st
  pub whole : IsWhole st c
  pub orderly : IsOrderly m
  pub part : IsPartOf st m
  pub holds : LooksAlike st m.numbers.local.me.0 (c.machine m.numbers.local.me.0).part (with_snaps w (part_of m))
  pub behind : List Message
  pub first : c.link p m.numbers.local.me.0 ≡ message ∷ behind
