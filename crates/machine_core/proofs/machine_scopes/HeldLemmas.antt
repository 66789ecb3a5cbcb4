-- Own vertices, who waits first for a lock, and who holds it once it is granted.
use Rattle.std.proofs.Common.{◌≡◌, ◌≢◌, ℕ, zero, suc, ◌<◌, ◌==◌, ◌&&◌, ◌||◌, Bool, true, false, if◌then◌else◌, Option, None, Some, is_some, List, [], ◌∷◌, slice_get, nat_lt, refl, sym, ap, ◌∙◌, subst, ◌⊎◌, All, inl, inr, true≢false}
use Rattle.std.proofs.lemmas.Bool.{cases_eq, eq-eqb, ne_eqb, eqb-true, ltb-true, lt-ltb, and_parts}
use Rattle.std.proofs.lemmas.List.Elements.{All-head}
use Rattle.std.proofs.lemmas.Option.{same_Some}
use Rattle.gl_base.specs.declared.numbers.Vertex.{Vertex}
use Rattle.gl_base.specs.declared.scopes.Claim.{Claim}
use Rattle.gl_base.specs.declared.scopes.ScopeId.{ScopeId}
use Rattle.gl_base.specs.scope_lists.Scopes.{is_scope, set_for}
use Rattle.gl_base.proofs.scope_lists.SameScope.{one_or_two, set_for-here, set_for-there}
use Rattle.graph_core.specs.DataGraph.{size}
use Rattle.machine_core.specs.lock_release.Released.{is_one_of}
use Rattle.scope_locks.specs.scope_pipe.Entered.{EnteredView}
use Rattle.scope_locks.specs.scope_pipe.Pipes.{entered_at}
use Rattle.scope_locks.specs.vertex_locks.Locks.{LockView, IsNext}
use Rattle.scope_locks.specs.vertex_locks.Tables.{HasTaken, holder_at, queue_at}
use Rattle.machine_core.specs.declared.machine_parts.cores.Core.{Core}
use Rattle.machine_core.specs.machine_parts.Parts.{LocalView, is_own, last_asked}
use Rattle.machine_core.specs.machine_parts.Order.{StandsAtLock, IsOrderly, nobody}
use Rattle.machine_core.specs.machine_parts.Settings.{Setting, IsLocalOf}

-- ---- own vertices

-- an own vertex is owned in the setting
pub own_in : (st : Setting) (l : LocalView) (x : ℕ) → IsLocalOf st l → is_own l x ≡ true → (x < size st.graph) × (st.owner x ≡ l.me.0)
own_in st l x is own =
    let both : (nat_lt x (size st.graph) && st.owner x == l.me.0) ≡ true = sym (is.own x) ∙ own in
    let parts = and_parts (nat_lt x (size st.graph)) (st.owner x == l.me.0) both in
    (ltb-true x (size st.graph) parts.0, eqb-true (st.owner x) l.me.0 parts.1)

pub own_from_setting : (st : Setting) (l : LocalView) (x : ℕ) → IsLocalOf st l → x < size st.graph → st.owner x ≡ l.me.0 → is_own l x ≡ true
own_from_setting st l x is low owner = is.own x ∙ ap (λ (b : Bool). b && st.owner x == l.me.0) (lt-ltb x (size st.graph) low) ∙ eq-eqb (st.owner x) l.me.0 owner

-- a vertex that stands in a list is one of it
pub one_of : (part : List Vertex) (i : ℕ) (x : Vertex) → slice_get part i ≡ Some x → is_one_of part x.0 ≡ true
one_of [] i x is = absurd (none_is x is)
  where
    none_is : (x : Vertex) → None ≡ Some x → ⊥
    none_is x is = cc
one_of (v ∷ part) zero x is = ap (λ (b : Bool). b || is_one_of part x.0) (eq-eqb v.0 x.0 (ap (λ (w : Vertex). w.0) (same_Some v x is)))
one_of (v ∷ part) (suc i) x is = either (v.0 == x.0) (one_of part i x is)
  where
    either : (b : Bool) → is_one_of part x.0 ≡ true → (b || is_one_of part x.0) ≡ true
    either true one = refl
    either false one = one

-- and one of a list stands in it
pub stands_in : (part : List Vertex) (x : ℕ) → is_one_of part x ≡ true → (i : ℕ) × (slice_get part i ≡ Some (record { 0 = x }))
stands_in [] x is = absurd (true≢false (sym is))
stands_in (v ∷ part) x is = elim (cases_eq v.0 x) [
  | inl same ↦ (zero, λ i. Some (record { 0 = same i }))
  | inr other ↦
      let later = stands_in part x (sym (ap (λ (b : Bool). b || is_one_of part x) (ne_eqb v.0 x other)) ∙ is) in
      (suc later.0, later.1)
]

-- ---- who waits first

pub some_of : {X : Type 0} (o : Option X) → is_some o ≡ true → (e : X) × (o ≡ Some e)
some_of None is = absurd (true≢false (sym is))
some_of (Some e) is = (e, refl)

-- the lock that was asked for last stands before the place
pub last_is : (part : List Vertex) (place : ℕ) (y : Vertex) → last_asked part place ≡ Some y → (i : ℕ) × (place ≡ suc i) × (slice_get part i ≡ Some y)
last_is part zero y is = absurd (none_is y is)
  where
    none_is : (y : Vertex) → None ≡ Some y → ⊥
    none_is y is = cc
last_is part (suc i) y is = (i, refl, is)

module _ (m : Core) (x : ℕ) (c : Claim) (is : IsOrderly m) (first : IsNext (holder_at m.locks x) (queue_at m.locks x) c) where
  all_stand : All (StandsAtLock m.pipe nobody x) (c ∷ first.behind)
  all_stand = subst (All (StandsAtLock m.pipe nobody x)) first.first (is.locks.queues x)

  pub first_stands : StandsAtLock m.pipe nobody x c
  first_stands = All-head (StandsAtLock m.pipe nobody x) c first.behind all_stand

  -- as it has come
  pub first_come : (e : EnteredView) × (entered_at m.pipe c.scope ≡ Some e)
  first_come = some_of (entered_at m.pipe c.scope) first_stands.come

-- ---- what the lock's table says then

module _ (old new : List (Option LockView)) (x : ℕ) (c : Claim) (taken : HasTaken old new x c) where
  pub holds_here : (z : ℕ) (t : ScopeId) → z ≡ x → t ≡ c.scope → is_some (holder_at new z t) ≡ true
  holds_here z t at same =
      ap is_some
      (taken.holder z t ∙ ap (λ (b : Bool). (if b then set_for (holder_at old x) c.scope (Some c.mode) else holder_at old z) t) (eq-eqb z x at)
      ∙ ap (set_for (holder_at old x) c.scope (Some c.mode)) same ∙ set_for-here (holder_at old x) c.scope (Some c.mode))

  pub holds_there : (z : ℕ) (t : ScopeId) → z ≢ x → holder_at new z t ≡ holder_at old z t
  holds_there z t other = taken.holder z t ∙ ap (λ (b : Bool). (if b then set_for (holder_at old x) c.scope (Some c.mode) else holder_at old z) t) (ne_eqb z x other)

  pub holds_as : (z : ℕ) (t : ScopeId) → is_scope t c.scope ≡ false → holder_at new z t ≡ holder_at old z t
  holds_as z t other = elim (cases_eq z x) [
    | inl at ↦
        taken.holder z t ∙ ap (λ (b : Bool). (if b then set_for (holder_at old x) c.scope (Some c.mode) else holder_at old z) t) (eq-eqb z x at)
        ∙ set_for-there (holder_at old x) c.scope t (Some c.mode) other ∙ sym (ap (λ (w : ℕ). holder_at old w t) at)
    | inr away ↦ holds_there z t away
  ]

  -- who held a lock still does, and who holds one did, but for this claim
  pub holds_still : (z : ℕ) (t : ScopeId) → is_some (holder_at old z t) ≡ true → is_some (holder_at new z t) ≡ true
  holds_still z t held = elim (one_or_two t c.scope) [
    | inl same ↦ elim (cases_eq z x) [
      | inl at ↦ holds_here z t at same
      | inr away ↦ ap is_some (holds_there z t away) ∙ held
    ]
    | inr other ↦ ap is_some (holds_as z t other) ∙ held
  ]

  pub held_or : (z : ℕ) (t : ScopeId) → is_some (holder_at new z t) ≡ true → (is_some (holder_at old z t) ≡ true) ⊎ ((z ≡ x) × (t ≡ c.scope))
  held_or z t holds = elim (one_or_two t c.scope) [
    | inl same ↦ elim (cases_eq z x) [
      | inl at ↦ inr (at, same)
      | inr away ↦ inl (sym (ap is_some (holds_there z t away)) ∙ holds)
    ]
    | inr other ↦ inl (sym (ap is_some (holds_as z t other)) ∙ holds)
  ]
