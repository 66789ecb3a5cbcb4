-- Gifts that are made and told one after another.
use Rattle.std.specs.Prelude.{◌≡◌, ℕ, ◌<◌, ◌≤◌, List}
use Rattle.gl_base.specs.declared.scopes.ScopeId.{ScopeId}
use Rattle.cluster_laws.specs.cluster_core.Settings.{Setting}
use Rattle.full_laws.specs.FullEffects.{gives}
use Rattle.full_laws.specs.FullMessages as model
use Rattle.full_laws.specs.FullMessages.{Gift}
use Rattle.full_cluster.specs.declared.queues.FullQueue.{FullQueue}
use Rattle.full_cluster.specs.FullQueues.{AreQueuesOf}

-- The machines below q are told what they are given, and the others aren't yet.
pub record IsToldBelow (st : Setting) (v a : ℕ) (s : ScopeId) (given : ℕ → Gift) (waits : ℕ → List model.FullMessage) (queues : List FullQueue) (q : ℕ) : Type 0 where
  pub now : ℕ → List model.FullMessage
  pub queues_are : AreQueuesOf st queues now
  pub told : (k : ℕ) → k < q → now k ≡ gives st a v s given waits k
  pub still : (k : ℕ) → q ≤ k → now k ≡ waits k
