-- What a new machine is made with, and what a cluster's machines go by.
pub use Rattle.cluster_laws.specs.cluster_core.Settings.{IsSetting, Setting}
pub use Rattle.machine_core.specs.machine_parts.Parts.{part_of}
pub use Rattle.machine_core.specs.machine_parts.Settings.{IsPartOf}
use Rattle.std.specs.Prelude.{◌≡◌, ◌<◌, ◌==◌, ℕ, [], Option, length}
use Rattle.std.specs.List.{list_any}
use Rattle.cluster_laws.specs.cluster_core.Settings.{Locking}
use Rattle.gl_base.specs.declared.scopes.Peer.{Peer}
use Rattle.graph_core.specs.DataGraph.{size}
use Rattle.machine_core.specs.declared.machine_parts.cores.Core.{Core}
use Rattle.machine_core.specs.machine_parts.Order.{StandByPlace}
use Rattle.machine_core.specs.machine_parts.Parts.{is_owned, waiting_for}
use Rattle.machine_core.specs.machine_parts.Settings.{window_of}
use Rattle.partition.specs.declared.machine_numbers.keeping.Numbers.{Numbers}
use Rattle.scope_locks.specs.scope_pipe.Pipes.{IsEmpty}
use Rattle.scope_locks.specs.vertex_locks.Tables.{IsUnclaimed}
use Rattle.placement.specs.declared.places.cores.NewTerms.{NewTerms}

-- The cluster has so many machines and vertices; its engine is that of locks, and so many scopes of one machine may be in flight; snapshots
-- are taken where there is a window, and the run begins with this one. Whether scopes take locks the terms alone say.
pub record GoesBy (st : Setting) (window : Option ℕ) (terms : NewTerms) : Type 0 where
  pub is : IsSetting st
  pub machines : st.machines ≡ terms.machines
  pub vertices : size st.graph ≡ terms.vertices
  pub engine : st.engine ≡ Locking
  pub pipeline : st.pipeline ≡ terms.terms.pipeline
  pub window_is : window_of st ≡ window
  pub base : st.base ≡ terms.terms.base

-- The parts have these terms and numbers, and the own vertices by their places. No scope is in flight or has come, the first
-- that is admitted gets the serial, each own vertex has a lock that nobody claims, and there is an empty outbox to each machine.
pub record IsMadeWith (terms : NewTerms) (n : Numbers) (m : Core) : Type 0 where
  pub terms_are : m.terms ≡ terms.terms
  pub numbers_are : m.numbers ≡ n
  pub by_place : StandByPlace n.local (length n.local.owned) m.by_place.items
  pub home : m.pipe.home ≡ n.local.me
  pub width : m.pipe.width ≡ terms.terms.pipeline
  pub serial : m.pipe.serial ≡ terms.serial
  pub empty : IsEmpty m.pipe
  pub owned : (x : ℕ) → is_owned m.locks x ≡ list_any (λ v. v.0 == x) n.local.owned
  pub unclaimed : IsUnclaimed m.locks
  pub machines : length m.out.machines ≡ terms.machines
  pub few : terms.machines < 65536
  pub none : (to : Peer) → waiting_for m.out to ≡ []
