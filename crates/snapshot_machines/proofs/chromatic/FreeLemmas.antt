-- A machine that takes no locks takes none, whatever it does.
use Rattle.std.proofs.Common.{◌≡◌, ℕ, Bool, true, false, if◌then◌else◌, Option, None, Some, refl}
use Rattle.gl_base.specs.declared.entries.Entry.{Entry}
use Rattle.gl_base.specs.declared.scopes.Mode.{Mode}
use Rattle.gl_base.specs.declared.scopes.ScopeId.{ScopeId}
use Rattle.gl_base.specs.scope_lists.Scopes.{is_scope, set_for}
use Rattle.cluster_laws.specs.cluster_core.Effects.{applied, begins, in_flight, marked, next_scope, updated}
use Rattle.cluster_laws.specs.cluster_core.Messages.{News}
use Rattle.snapshot_machines.specs.chromatic.Machines.{Part, Setting, SnapView, with_snaps}
use Rattle.snapshot_machines.specs.chromatic.Inner.Keeping.{IsWithoutLocks}

-- what nobody held nobody holds
gone : (f : ScopeId → Option Mode) (s t : ScopeId) → f t ≡ None → set_for f s None t ≡ None
gone f s t none = by (is_scope t s)
  where
    by : (b : Bool) → (if b then None else f t) ≡ None
    by true = refl
    by false = none

-- of those that are in flight still each is ready
still_ready : (flight : ScopeId → Option ℕ) (ready : ScopeId → Bool) (s t : ScopeId) (v : ℕ) → (flight t ≡ Some v → ready t ≡ true) → set_for flight s None t ≡ Some v → set_for ready s false t ≡ true
still_ready flight ready s t v is = by (is_scope t s)
  where
    none_some : {X : Type 0} (x : X) → None ≡ Some x → ⊥
    none_some x e = cc

    by : (b : Bool) → (if b then None else flight t) ≡ Some v → (if b then false else ready t) ≡ true
    by true now = absurd (none_some v now)
    by false now = is now

-- who is admitted is ready at once
new_ready : (flight : ScopeId → Option ℕ) (ready : ScopeId → Bool) (s t : ScopeId) (u v : ℕ) → (flight t ≡ Some v → ready t ≡ true) → set_for flight s (Some u) t ≡ Some v → set_for ready s true t ≡ true
new_ready flight ready s t u v is = by (is_scope t s)
  where
    by : (b : Bool) → (if b then Some u else flight t) ≡ Some v → (if b then true else ready t) ≡ true
    by true now = refl
    by false now = is now

pub kept_free : (w : SnapView) (part : Part) → IsWithoutLocks part → IsWithoutLocks (with_snaps w part)
kept_free w part is = record { holder = is.holder; queue = is.queue; stand = is.stand; ready = is.ready }

pub bare_free : (w : SnapView) (part : Part) → IsWithoutLocks (with_snaps w part) → IsWithoutLocks part
bare_free w part is = record { holder = is.holder; queue = is.queue; stand = is.stand; ready = is.ready }

pub begun_free : (st : Setting) (a k : ℕ) (part : Part) → IsWithoutLocks part → IsWithoutLocks (begins st a k part)
begun_free st a k part is = record { holder = is.holder; queue = is.queue; stand = is.stand; ready = is.ready }

pub learned_free : (st : Setting) (a : ℕ) (s : ScopeId) (news : News) (part : Part) → IsWithoutLocks part → IsWithoutLocks (applied st a s news part)
learned_free st a s news part is = record { holder = λ x t. gone (part.holder x) s t (is.holder x t); queue = is.queue; stand = is.stand; ready = is.ready }

pub updated_free : (st : Setting) (a : ℕ) (s : ScopeId) (v : ℕ) (entry : Entry) (part : Part) → IsWithoutLocks part → IsWithoutLocks (updated st a s v entry part)
updated_free st a s v entry part is =
    record { holder = λ x t. gone (part.holder x) s t (is.holder x t); queue = is.queue; stand = is.stand; ready = λ t u. still_ready part.flight part.ready s t u (is.ready t u) }

pub marked_free : (st : Setting) (a : ℕ) (s : ScopeId) (v : ℕ) (part : Part) → IsWithoutLocks part → IsWithoutLocks (marked st a s v part)
marked_free st a s v part is =
    record { holder = λ x t. gone (part.holder x) s t (is.holder x t); queue = is.queue; stand = is.stand; ready = λ t u. still_ready part.flight part.ready s t u (is.ready t u) }

pub flown_free : (a v : ℕ) (part : Part) → IsWithoutLocks part → IsWithoutLocks (record (in_flight a v part) { ready = set_for part.ready (next_scope a part) true })
flown_free a v part is = record { holder = is.holder; queue = is.queue; stand = is.stand; ready = λ t u. new_ready part.flight part.ready (next_scope a part) t v u (is.ready t u) }
