-- Of which settings of a cluster a machine is a part.
pub use Rattle.partition.specs.local_parts.Parts.{Setting, IsLocalOf}
use Rattle.std.specs.Prelude.{◌≡◌, ℕ, Option, Some, None, length, if◌then◌else◌}
use Rattle.cluster_laws.specs.cluster_core.Settings.{Locking}
use Rattle.machine_core.specs.declared.machine_parts.cores.Core.{Core}

-- how many updates may be outside the last snapshot that was acknowledged, where snapshots are taken
abbrev pub window_of : Setting → Option ℕ
window_of st = if st.stored then Some st.window else None

-- The machine holds its part of the graph, it has an outbox to each machine, and it goes by the setting's terms: scopes take locks.
pub record IsPartOf (st : Setting) (m : Core) : Type 0 where
  pub local : IsLocalOf st m.numbers.local
  pub machines : length m.out.machines ≡ st.machines
  pub engine : st.engine ≡ Locking
  pub pipeline : m.terms.pipeline ≡ st.pipeline
  pub base : m.terms.base ≡ st.base
  pub window : m.numbers.tasks.window ≡ window_of st

-- it is still a part of each setting of which it was one
abbrev pub SameSettings : Core → Core → Type 0
SameSettings old new = (st : Setting) → IsPartOf st old → IsPartOf st new
