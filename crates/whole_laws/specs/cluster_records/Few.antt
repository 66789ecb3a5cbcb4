-- How many snapshots a list of events stores.
use Rattle.std.specs.Prelude.{List, [], if◌then◌else◌, nat_lt, ℕ, ◌+◌, ◌∷◌}
use Rattle.cluster_laws.specs.cluster_core.Settings.{Setting}
use Rattle.cluster_laws.specs.cluster_model.Clusters.{Cluster}
use Rattle.cluster_laws.specs.cluster_model.Events.{Event, PutBegin, Record, after_event, setting_after}

-- 1 where a snapshot is acknowledged
abbrev pub snapshot_at : Event → ℕ
snapshot_at Record = 1
snapshot_at event = 0

-- how many are acknowledged
abbrev pub snapshots_in_all : List Event → ℕ
snapshots_in_all [] = 0
snapshots_in_all (event ∷ events) = snapshot_at event + snapshots_in_all events

-- 1 where a snapshot begins that no machine asked for
abbrev pub unasked_at : Cluster → Event → ℕ
unasked_at c PutBegin = if c.coordinator.wanted then 0 else 1
unasked_at c event = 0

-- how many such snapshots begin
abbrev pub unasked_in : Setting → Cluster → List Event → ℕ
unasked_in st c [] = 0
unasked_in st c (event ∷ events) = unasked_at c event + unasked_in (setting_after st event) (after_event st c event) events

-- 1 while a snapshot is under way: it has begun and is not acknowledged
abbrev pub under_way : Cluster → ℕ
under_way c = if nat_lt c.coordinator.acknowledged c.coordinator.begun then 1 else 0
