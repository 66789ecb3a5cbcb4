-- How a scope takes locks at once that nobody claims.
use Rattle.std.specs.Prelude.{ℕ, Option, Some, None, List}
use Rattle.gl_base.specs.declared.scopes.ScopeId.{ScopeId}
use Rattle.cluster_laws.specs.interior_scopes.InTurn.{AreGranted}
use Rattle.scope_locks.specs.declared.scope_pipe.next.Next.{Next}
use Rattle.machine_core.specs.declared.machine_parts.cores.Core.{Core}
use Rattle.machine_core.specs.machine_parts.Parts.{part_of}
use Rattle.machine_core.specs.machine_parts.Settings.{Setting, IsPartOf}
use Rattle.machine_core.specs.machine_scopes.Inner.Going.{HasGoneOn}

-- From `first`, to which the scope might have gone on, some locks are granted in turn.
pub record IsTakenFrom (old : Core) (s : ScopeId) (more : List ℕ) (final : Core) : Type 0 where
  pub first : Core
  pub went : HasGoneOn old first s
  pub granted : (st : Setting) → IsPartOf st old → AreGranted st old.numbers.local.me.0 more (part_of first) (part_of final)

-- However the scope goes on then, it is as if it had gone on before, and had then been granted some locks in turn.
abbrev pub HasTakenOn : Core → Core → ScopeId → Type 0
HasTakenOn old new s = (more : List ℕ) × ((final : Core) → HasGoneOn new final s → IsTakenFrom old s more final)

-- what the scope wants then: what is behind the lock that it took, and else the same
abbrev pub wanted_then : Next → Option Next → Next
wanted_then next None = next
wanted_then next (Some after) = after
