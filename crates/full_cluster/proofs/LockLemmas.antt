-- A lock with one holder is a machine's lock.
use Rattle.std.proofs.Common.{◌≡◌, ℕ, ◌<◌, true, refl, ◌∙◌, ap}
use Rattle.gl_base.specs.declared.scopes.ScopeId.{ScopeId}
use Rattle.gl_base.specs.scope_lists.Scopes.{set_for}
use Rattle.graph_core.specs.DataGraph.{size}
use Rattle.cluster_laws.specs.cluster_core.Settings.{Setting}
use Rattle.cluster_laws.proofs.cluster_core.Basics.{set_at-same}
use Rattle.full_laws.specs.FullActions.{MayGrantFull}
use Rattle.full_laws.specs.FullEffects.{locks_full, released_full}
use Rattle.full_laws.specs.FullParts.{FullPart}
use Rattle.full_cluster.specs.declared.locks.WholeLock.{WholeLock}
use Rattle.full_cluster.specs.WholeLocks.{IsFreed, IsGrantedTo, IsLockOf, IsUngrantable}
use Rattle.full_cluster.proofs.LockRowLemmas.{freed_one, granted_one, never_one}

pub granted_law : (st : Setting) (a x : ℕ) (part : FullPart) (old new : WholeLock) (s : ScopeId) → x < size st.graph → st.owner x ≡ a → IsLockOf old (part.holds x) (part.queue x) → IsGrantedTo old new s →
    (may : MayGrantFull st a x part) × (may.scope ≡ s) × IsLockOf new ((locks_full x s may.behind part).holds x) ((locks_full x s may.behind part).queue x)
granted_law st a x part old new s low owned lock granted =
    let one = granted_one old new (part.holds x) (part.queue x) s lock granted in (
      record { vertex = low; owned = owned; scope = s; behind = one.0.behind; first = one.0.first; free = one.0.free },
      refl,
      record {
        holders = λ t. ap (λ row. row t) (set_at-same part.holds x (set_for (part.holds x) s true)) ∙ one.1.holders t;
        waiting = set_at-same part.queue x one.0.behind ∙ one.1.waiting;
      },
    )

pub not_now_law : (st : Setting) (a x : ℕ) (part : FullPart) (lock : WholeLock) → IsLockOf lock (part.holds x) (part.queue x) → IsUngrantable lock → MayGrantFull st a x part → ⊥
not_now_law st a x part lock is cannot may = never_one lock (part.holds x) (part.queue x) is cannot may.scope (record { behind = may.behind; first = may.first; free = may.free })

pub freed_law : (part : FullPart) (x : ℕ) (old new : WholeLock) (s : ScopeId) → IsLockOf old (part.holds x) (part.queue x) → IsFreed old new s → IsLockOf new (released_full s part.holds x) (part.queue x)
freed_law part x old new s lock freed = freed_one old new (part.holds x) (part.queue x) s lock freed
