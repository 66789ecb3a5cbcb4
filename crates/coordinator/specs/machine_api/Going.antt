-- A cluster of the law to which events have led.
use Rattle.std.specs.Prelude.{List, ⊤}
use Rattle.cluster_laws.specs.cluster_core.Settings.{Chromatic, Engine, IsSetting, Locking, Setting}
use Rattle.whole_laws.specs.cluster_ending.Ends.{IsFollowed}
use Rattle.whole_laws.specs.cluster_ending.Snapshotting.{AreInformed, HasNoSteps}
use Rattle.cluster_laws.specs.cluster_model.Clusters.{Cluster}
use Rattle.whole_laws.specs.cluster_records.Recorded.{IsAccounted}
use Rattle.whole_laws.specs.cluster_whole.Logged.{Logged}
use Rattle.whole_laws.specs.cluster_whole.Whole.{AreColoured}

-- the setting is one of a cluster; and where vertices run by colours, neighbours have different ones
pub record IsSnapSetting (st : Setting) : Type 0 where
  pub is : IsSetting st
  pub coloured : AreColoured st st.engine

-- with locks no step is on its way to a machine
abbrev pub KnowsNoSteps : Engine → Cluster → Type 0
KnowsNoSteps Locking c = HasNoSteps c
KnowsNoSteps (Chromatic colour colours) c = ⊤

-- Whatever has happened in it, and whatever base it began with: it is whole, its waves are as they should be, machines and coordinator are
-- informed of each other, and each update of the attempt is accounted for.
pub record IsGoing (st : Setting) (c : Cluster) : Type 0 where
  pub followed : IsFollowed st c
  pub informed : AreInformed c
  pub no_steps : KnowsNoSteps st.engine c
  pub logged : List Logged
  pub accounts : IsAccounted st c followed.0 logged
