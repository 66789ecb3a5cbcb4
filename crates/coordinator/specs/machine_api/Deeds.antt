-- What a machine does by itself, as part of an event of the cluster's law.
pub use Rattle.cluster_laws.specs.cluster_core.Settings.{Setting}
pub use Rattle.cluster_laws.specs.cluster_model.Machines.{Machine}
pub use Rattle.gl_base.specs.declared.scopes.ScopeId.{ScopeId}
use Rattle.std.specs.Prelude.{None, Option, Some, ℕ, ◌≡◌}
use Rattle.gl_base.specs.declared.entries.Entry.TheVariants.{Go}
use Rattle.cluster_laws.specs.cluster_core.Actions.{MayGrant, MayMark, MaySend, MayUpdate}
use Rattle.cluster_laws.specs.cluster_model.Events.{MayAdmitNow}
use Rattle.cluster_laws.specs.cluster_model.Working.{admits, grants, makes_mark, makes_update, prompt, sections}

pub data Deed : Type 0 where
  -- it admits a scope of its vertex, or grants the lock of one to the first that waits
  Admit : (vertex : ℕ) → Deed
  Grant : (vertex : ℕ) → Deed
  -- it makes the update of its scope, under this ticket, or its snapshot update
  Update : (scope : ScopeId) → (ticket : ℕ) → Deed
  Mark : (scope : ScopeId) → Deed
  -- it puts its section out
  Section : Deed

-- machine a may do it
abbrev pub MayBeDone : Setting → ℕ → Machine → Deed → Type 0
MayBeDone st a m (Admit v) = MayAdmitNow st a v m
MayBeDone st a m (Grant x) = MayGrant st a x m.part
MayBeDone st a m (Update s ticket) = (s.home.0 ≡ a) × MayUpdate s m.part 1
MayBeDone st a m (Mark s) = (s.home.0 ≡ a) × MayMark s m.part
MayBeDone st a m Section = MaySend st a m.part

-- the update of the centre of a scope, and its snapshot update
abbrev pub updates_centre : Setting → ℕ → ScopeId → ℕ → Option ℕ → Machine → Machine
updates_centre st a s ticket None m = m
updates_centre st a s ticket (Some v) m = makes_update st a s v (Go s.home (record { 0 = v }) ticket) m

abbrev pub marks_centre : Setting → ℕ → ScopeId → Option ℕ → Machine → Machine
marks_centre st a s None m = m
marks_centre st a s (Some v) m = makes_mark st a s v m

-- what it makes of machine a
abbrev pub does : Setting → ℕ → Deed → Machine → Machine
does st a (Admit v) m = prompt st a (admits st a v m)
does st a (Grant x) m = prompt st a (grants st a x m)
does st a (Update s ticket) m = prompt st a (updates_centre st a s ticket (m.part.flight s) m)
does st a (Mark s) m = prompt st a (marks_centre st a s (m.part.flight s) m)
does st a Section m = prompt st a (sections m)
