-- A store beside the course of a call.
pub use Rattle.cluster_step.specs.trace.Traces.{CallOpening, Cluster, TraceGoesOn, TraceView, IsTraceNow, Machine, OpensCall, Setting, as_since, first_cluster, first_setting}
pub use Rattle.recovery.specs.records.Keeping.{IsGoodStore, IsRecordBehind, KeepsUp, fronts_in, recorded_in, stored_order}
pub use Rattle.store.specs.declared.store_format.header.Header.{Header}
use Rattle.std.specs.Prelude.{List, filter, length, ℕ, ◌*◌, ◌+◌, ◌≡◌}
use Rattle.gl_base.specs.declared.entries.Entry.{Entry}
use Rattle.call_laws.specs.attempts.Entries.{is_restart}
use Rattle.cluster_laws.specs.cluster_model.Events as law
use Rattle.graph_core.specs.DataGraph.{size}
use Rattle.recovery.specs.Journals.{records_size}
use Rattle.call_laws.specs.whole_calls.Lost.{AreLostIn}

-- From this opening events have led to where the cluster is. With these the store, which had these snapshots as the call opened, has kept
-- up; and their recoveries took these updates away.
pub record IsStoredTrace {M : Type 0} (represents : Setting → ℕ → Machine → M → Type 0) (v : TraceView M) (header : Header) (start bodies : List (List ℕ)) (lost : List Entry) (st : Setting) (o : CallOpening) : Type 0 where
  pub events : List law.Event
  pub cluster : Cluster
  pub now : IsTraceNow represents v st o events cluster
  pub keeps : KeepsUp st v.failures header start (fronts_in (first_setting st o) (first_cluster st o) events) (recorded_in (first_setting st o) (first_cluster st o) events) bodies
  pub taken : AreLostIn (first_setting st o) (first_cluster st o) events lost

-- it is the same call, remembered where the other is
pub record IsRememberedAt {M : Type 0} (old new : TraceView M) : Type 0 where
  pub start : new.start ≡ old.start
  pub failures : new.failures ≡ old.failures
  pub done : new.done ≡ old.done
  pub since : new.since ≡ old.now

-- ---- what is known of a store beside its snapshots

-- the store is for these machines and this graph
pub record IsStoreForSetting (st : Setting) (header : Header) : Type 0 where
  pub machines : header.machines ≡ st.machines
  pub n : header.n ≡ size st.graph
  pub m : header.m ≡ length st.graph.edges

-- From this opening, with the order of that store's last snapshot, a course has led here, with which a store for this setting has kept up. These
-- are the restarts of its last order; the newest attempt began with this order, and these are its restarts. The coordinator knows how many
-- snapshots the store has, and where it ends, with place for the restarts that it lacks. Without a store this is said of one that has no snapshot,
-- which nobody writes.
pub record IsKnownTrace {M : Type 0} (represents : Setting → ℕ → Machine → M → Type 0) (v : TraceView M) (header : Header) (start bodies : List (List ℕ)) (lost stored front order : List Entry) (st : Setting) (o : CallOpening) : Type 0 where
  pub kept : o.kept ≡ stored_order start
  pub was : IsStoredTrace represents v header start bodies lost st o
  pub fits : IsStoreForSetting st header
  pub stored_are : stored ≡ filter is_restart (stored_order bodies)
  pub base : was.cluster.base.order ≡ order
  pub front_are : front ≡ filter is_restart order
  pub count : was.cluster.coordinator.acknowledged ≡ length bodies
  pub place : was.cluster.coordinator.store_end + 16 * length stored ≡ 65 + records_size bodies + 16 * length front
