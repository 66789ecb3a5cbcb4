use Rattle.std.proofs.Common.{◌≡◌, ℕ, Bool, List, length, take}
use Rattle.gl_base.specs.declared.scopes.ScopeId.{ScopeId}
use Rattle.full_cluster.specs.WholeLocks.{AreLocksOf, released_of}
use Rattle.full_cluster.proofs.lock_rows.WholeLocks.release.Given as goal

abbrev pub invariant-loop-pair : goal.invariant-loop-pair
invariant-loop-pair l =
    record {
      long : length l.self.locks.items ≡ length l.initial.self.locks.items;
      released : (holds : ℕ → ScopeId → Bool) (queue : ℕ → List ScopeId) → AreLocksOf l.initial.self.locks.items holds queue → AreLocksOf l.self.locks.items (released_of (take l.pair-index l.vertices) l.scope holds) queue;
    }
