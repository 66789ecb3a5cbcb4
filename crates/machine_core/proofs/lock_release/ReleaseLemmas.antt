-- Locks that are released one after another.
use Rattle.std.proofs.Common.{◌≡◌, ℕ, ◌+◌, ◌<◌, ◌≤◌, ◌==◌, ◌||◌, true, false, true≢false, if◌then◌else◌, Option, Some, None, is_some, List, ◌∷◌, length, get_or, drop, refl, sym, ap, ◌∙◌, inl, inr}
use Rattle.std.proofs.lemmas.Bool.{cases_eq, eq-eqb, ne_eqb}
use Rattle.std.proofs.lemmas.List.{drop_more, drop_all}
use Rattle.gl_base.specs.declared.numbers.Vertex.{Vertex}
use Rattle.gl_base.specs.declared.scopes.Mode.{Mode}
use Rattle.gl_base.specs.declared.scopes.ScopeId.{ScopeId}
use Rattle.gl_base.specs.scope_lists.Scopes.{is_scope}
use Rattle.gl_base.proofs.scope_lists.SameScope.{same_scope, one_or_two, set_for-there}
use Rattle.scope_locks.specs.vertex_locks.Locks.{LockView, mode_of}
use Rattle.scope_locks.specs.vertex_locks.Tables.{HasReleased, lock_or, released_at}
use Rattle.machine_core.specs.lock_release.Released.{set_for, is_owned, holder_at, queue_at, is_one_of, released_all}

-- the first i are released
pub record AreReleased (old now : List (Option LockView)) (vertices : List Vertex) (s : ScopeId) (i : ℕ) : Type 0 where
  pub owned : (x : ℕ) → is_owned now x ≡ is_owned old x
  pub only : (x : ℕ) → is_some (holder_at now x s) ≡ true → is_one_of (drop i vertices) x ≡ true
  pub others : (x : ℕ) (t : ScopeId) → is_scope t s ≡ false → holder_at now x t ≡ holder_at old x t
  pub queue : (x : ℕ) → queue_at now x ≡ queue_at old x
  pub exact : released_all s (drop i vertices) now ≡ released_all s vertices old

-- the next one is released
left_more : (vertices : List Vertex) (s : ScopeId) (i : ℕ) (v : Vertex) (now : List (Option LockView)) → i < length vertices → v ≡ get_or vertices i v → released_all s (drop i vertices) now ≡ released_all s (drop (i + 1) vertices) (released_at now v.0 s)
left_more vertices s i v now inside is_v = ap (λ (vs : List Vertex). released_all s vs now) (drop_more vertices i v inside ∙ ap (λ (w : Vertex). w ∷ drop (i + 1) vertices) (sym is_v))

pub left_none : (vertices : List Vertex) (s : ScopeId) (i : ℕ) (now : List (Option LockView)) → length vertices ≤ i → released_all s (drop i vertices) now ≡ now
left_none vertices s i now all = ap (λ (vs : List Vertex). released_all s vs now) (drop_all i vertices all)

lock_there : (o : Option LockView) (s : ScopeId) → is_some (mode_of (lock_or o).holders s) ≡ true → is_some o ≡ true
lock_there None s holds = absurd (true≢false (sym holds))
lock_there (Some lock) s holds = refl

-- who holds a lock holds one of the table's
pub owned_where : (table : List (Option LockView)) (x : ℕ) (s : ScopeId) → is_some (holder_at table x s) ≡ true → is_owned table x ≡ true
owned_where table x s holds = lock_there (get_or table x None) s holds

one_more : (vertices : List Vertex) (i : ℕ) (v : Vertex) → i < length vertices → v ≡ get_or vertices i v → (x : ℕ) → is_one_of (drop i vertices) x ≡ ((v.0 == x) || is_one_of (drop (i + 1) vertices) x)
one_more vertices i v inside is_v x = ap (λ (vs : List Vertex). is_one_of vs x) (drop_more vertices i v inside ∙ ap (λ (w : Vertex). w ∷ drop (i + 1) vertices) (sym is_v))

pub released_more : (old now new : List (Option LockView)) (vertices : List Vertex) (s : ScopeId) (i : ℕ) (v : Vertex) → i < length vertices → v ≡ get_or vertices i v
    → AreReleased old now vertices s i → HasReleased now new v.0 s → new ≡ released_at now v.0 s → AreReleased old new vertices s (i + 1)
released_more old now new vertices s i v inside is_v are has exact =
    let cleared = set_for (holder_at now v.0) s None in
    let behind = drop (i + 1) vertices in
    let at : (x : ℕ) (t : ScopeId) → x ≡ v.0 → holder_at new x t ≡ cleared t = λ x t same. has.holder x t ∙ ap (λ b. (if b then cleared else holder_at now x) t) (eq-eqb x v.0 same) in
    let away : (x : ℕ) (t : ScopeId) → (x ≡ v.0 → ⊥) → holder_at new x t ≡ holder_at now x t = λ x t other. has.holder x t ∙ ap (λ b. (if b then cleared else holder_at now x) t) (ne_eqb x v.0 other) in
    let later : (x : ℕ) → (x ≡ v.0 → ⊥) → is_one_of (drop i vertices) x ≡ is_one_of behind x = λ x other. one_more vertices i v inside is_v x ∙ ap (λ b. b || is_one_of behind x) (ne_eqb v.0 x (λ e. other (sym e))) in
    record {
      owned = λ x. has.owned x ∙ are.owned x;
      only = λ x holds. elim (cases_eq x v.0) [
        | inl same ↦
            let none : is_some (holder_at new x s) ≡ false = ap is_some (at x s same ∙ ap (λ b. if b then None else holder_at now v.0 s) (same_scope s)) in
            absurd (true≢false (sym holds ∙ none))
        | inr other ↦ sym (later x other) ∙ are.only x (sym (ap is_some (away x s other)) ∙ holds)
      ];
      others = λ x t no. elim (cases_eq x v.0) [
        | inl same ↦ at x t same ∙ set_for-there (holder_at now v.0) s t None no ∙ ap (λ (y : ℕ). holder_at now y t) (sym same) ∙ are.others x t no
        | inr other ↦ away x t other ∙ are.others x t no
      ];
      queue = λ x. has.queue x ∙ are.queue x;
      exact = ap (released_all s behind) exact ∙ sym (left_more vertices s i v now inside is_v) ∙ are.exact;
    }

none_held : (o : Option Mode) → (is_some o ≡ true → ⊥) → o ≡ None
none_held None not_some = refl
none_held (Some mode) not_some = absurd (not_some refl)

pub none_held_after : (old now : List (Option LockView)) (vertices : List Vertex) (s : ScopeId) (i : ℕ) → length vertices ≤ i → AreReleased old now vertices s i
    → (x : ℕ) (t : ScopeId) → holder_at now x t ≡ set_for (holder_at old x) s None t
none_held_after old now vertices s i all are x t = elim (one_or_two t s) [
  | inl same ↦
      let nobody : holder_at now x s ≡ None = none_held (holder_at now x s)
      (λ holds. true≢false (sym (are.only x holds) ∙ ap (λ (vs : List Vertex). is_one_of vs x) (drop_all i vertices all))) in
      ap (holder_at now x) same ∙ nobody ∙ sym (ap (λ b. if b then None else holder_at old x s) (same_scope s)) ∙ ap (set_for (holder_at old x) s None) (sym same)
  | inr other ↦ are.others x t other ∙ sym (set_for-there (holder_at old x) s t None other)
]
