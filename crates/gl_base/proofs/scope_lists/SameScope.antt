-- One scope or two.
use Rattle.std.proofs.Common.{◌≡◌, ◌⊎◌, ℕ, true, false, ◌==◌, ◌&&◌, refl, ap₂, inl, inr, ⊎_elim, arith, eq-eqb}
use Rattle.std.proofs.lemmas.Bool.{cases_Bool, eqb-true, and_parts}
use Rattle.gl_base.specs.declared.scopes.ScopeId.{ScopeId}
use Rattle.gl_base.specs.scope_lists.Scopes.{is_scope, set_for}

pub same_scope : (s : ScopeId) → is_scope s s ≡ true
same_scope s = ap₂ ◌&&◌ (eq-eqb s.home.0 s.home.0 refl) (eq-eqb s.serial s.serial refl)

pub scopes_same : (s t : ScopeId) → is_scope s t ≡ true → s ≡ t
scopes_same s t is =
    let parts = and_parts (s.home.0 == t.home.0) (s.serial == t.serial) is in
    let homes = eqb-true s.home.0 t.home.0 parts.0 in
    let serials = eqb-true s.serial t.serial parts.1 in
    λ i. record { home = record { 0 = homes i }; serial = serials i }

eqb_turned : (a b : ℕ) → (a == b) ≡ (b == a)
eqb_turned a b = grind arith

pub scope_turned : (s t : ScopeId) → is_scope s t ≡ is_scope t s
scope_turned s t = ap₂ ◌&&◌ (eqb_turned s.home.0 t.home.0) (eqb_turned s.serial t.serial)

-- two scopes are one, or apart
pub one_or_two : (s t : ScopeId) → (s ≡ t) ⊎ (is_scope s t ≡ false)
one_or_two s t = ⊎_elim (λ (yes : is_scope s t ≡ true). inl (scopes_same s t yes)) (λ (no : is_scope s t ≡ false). inr no) (cases_Bool (is_scope s t))

-- a function that is changed at s, there and elsewhere
pub set_for-here : {X : Type 0} (f : ScopeId → X) (s : ScopeId) (x : X) → set_for f s x s ≡ x
set_for-here f s x = rw (same_scope s)

pub set_for-there : {X : Type 0} (f : ScopeId → X) (s t : ScopeId) (x : X) → is_scope t s ≡ false → set_for f s x t ≡ f t
set_for-there f s t x other = rw other
