-- Who waits for a lock has come, and stands at it.
use Rattle.std.proofs.Common.{◌≡◌, ℕ, zero, suc, ◌||◌, Bool, true, false, Option, None, Some, is_some, List, [], ◌∷◌, All, get_or, slice_get, refl, sym, ap, ◌∙◌, subst, arith, true≢false}
use Rattle.std.specs.List.{AllPairs, list_any}
use Rattle.std.proofs.lemmas.List.Folds.{list_any_at}
use Rattle.gl_base.specs.declared.numbers.Vertex.{Vertex}
use Rattle.gl_base.specs.declared.scopes.Claim.{Claim}
use Rattle.gl_base.specs.declared.scopes.ScopeId.{ScopeId}
use Rattle.gl_base.specs.scope_lists.Found.{AreOfTwoScopes}
use Rattle.gl_base.proofs.scope_lists.FoundLemmas.{found_at, found_place}
use Rattle.gl_base.proofs.scope_lists.SameScope.{same_scope}
use Rattle.scope_locks.specs.scope_pipe.Entered.{EnteredView, entered_scope, last_asked, lock_asked}
use Rattle.scope_locks.specs.scope_pipe.Pipes.{entered_at}
use Rattle.scope_locks.specs.vertex_locks.Locks.{has}
use Rattle.scope_locks.specs.vertex_locks.Tables.{is_owned, queue_at}
use Rattle.machine_core.specs.declared.machine_parts.cores.Core.{Core}
use Rattle.machine_core.specs.machine_parts.Order.{IsOrderly, StandsAtLock, nobody}
use Rattle.machine_core.specs.machine_parts.Parts.{is_own, part_at}
use Rattle.machine_core.specs.machine_rest.Inner.Looking.{AsksForOwn, is_at_lock, is_in_queue}

-- ---- each asks for a lock that is here

own_asked : (m : Core) (v : ℕ) (part : List Vertex) (place : ℕ) (x : Vertex) → IsOrderly m → part ≡ part_at m.numbers.local v → last_asked part place ≡ Some x → is_own m.numbers.local x.0 ≡ true
own_asked m v part zero x orderly is asked = absurd (cc)
own_asked m v part (suc i) x orderly is asked = orderly.graph.own v i x (ap (λ (vs : List Vertex). slice_get vs i) (sym is) ∙ asked)

pub ask_for_own : (m : Core) → IsOrderly m → AllPairs (AreOfTwoScopes entered_scope) m.pipe.entered → All (AsksForOwn m.locks) m.pipe.entered
ask_for_own m orderly apart i d inside =
    let e : EnteredView = get_or m.pipe.entered i d in
    let found : entered_at m.pipe e.scope ≡ Some e = found_at entered_scope m.pipe.entered e.scope i d apart inside (same_scope e.scope) in
    λ x asked. orderly.locks.owned x.0 ∙ own_asked m e.centre.0 e.part e.place x orderly (orderly.entered e.scope e found).part asked

-- ---- somebody waits

first_has : (c : Claim) (claims : List Claim) → has c.scope (c ∷ claims) ≡ true
first_has c claims = rw (same_scope c.scope) refl

none_of : {X : Type 0} (o : Option X) → is_some o ≡ true → (e : X) × (o ≡ Some e)
none_of None is = absurd (true≢false (sym is))
none_of (Some x) is = (x, refl)

module _ (m : Core) (orderly : IsOrderly m) where
  -- where somebody waits for a lock, a scope that has come waits for the lock that it asked for last
  waits_there : (x : ℕ) (c : Claim) (claims : List Claim) → queue_at m.locks x ≡ c ∷ claims → list_any (is_at_lock m.locks) m.pipe.entered ≡ true
  waits_there x c claims queue =
      let stands : StandsAtLock m.pipe nobody x c = subst (λ (cs : List Claim). All (StandsAtLock m.pipe nobody x) cs) queue (orderly.locks.queues x) 0 c (omega arith) in
      let come = none_of (entered_at m.pipe c.scope) stands.come in
      let e : EnteredView = come.0 in
      let place = found_place entered_scope m.pipe.entered c.scope e come.1 in
      let asked : lock_asked e ≡ Some (record { 0 = x }) = stands.asked e come.1 in
      let at : is_at_lock m.locks e ≡ true =
      ap (is_in_queue m.locks e.scope) asked
      ∙ ap (λ (s : ScopeId). has s (queue_at m.locks x)) place.3
      ∙ ap (has c.scope) queue
      ∙ first_has c claims in
      list_any_at (is_at_lock m.locks) m.pipe.entered place.0 e place.1 (ap (is_at_lock m.locks) place.2 ∙ at)

  pub nobody_there : list_any (is_at_lock m.locks) m.pipe.entered ≡ false → (x : ℕ) → queue_at m.locks x ≡ []
  nobody_there none x = by (queue_at m.locks x) refl
    where
      by : (claims : List Claim) → queue_at m.locks x ≡ claims → queue_at m.locks x ≡ []
      by [] is = is
      by (c ∷ claims) is = absurd (true≢false (sym (waits_there x c claims is) ∙ none))

-- an own lock for which somebody waits
pub record IsWaitedFor (m : Core) : Type 0 where
  pub lock : ℕ
  pub own : is_own m.numbers.local lock ≡ true
  pub claim : Claim
  pub behind : List Claim
  pub queue : queue_at m.locks lock ≡ claim ∷ behind

some_in : (s : ScopeId) (claims : List Claim) → has s claims ≡ true → (c : Claim) × (behind : List Claim) × (claims ≡ c ∷ behind)
some_in s [] is = absurd (true≢false (sym is))
some_in s (c ∷ claims) is = (c, claims, refl)

lock_of : (m : Core) → IsOrderly m → (s : ScopeId) (o : Option Vertex) → ((x : Vertex) → o ≡ Some x → is_owned m.locks x.0 ≡ true) → is_in_queue m.locks s o ≡ true → IsWaitedFor m
lock_of m orderly s None own at = absurd (true≢false (sym at))
lock_of m orderly s (Some x) own at =
    let some = some_in s (queue_at m.locks x.0) at in
    record {
      lock = x.0;
      own = sym (orderly.locks.owned x.0) ∙ own x refl;
      claim = some.0;
      behind = some.1;
      queue = some.2;
    }

passing_head : {X : Type 0} (P : X → Type 0) (test : X → Bool) (x : X) (xs : List X) → P x → (list_any test xs ≡ true → (y : X) × (P y) × (test y ≡ true)) → (b : Bool) → test x ≡ b → (b || list_any test xs) ≡ true → (y : X) × (P y) × (test y ≡ true)
passing_head P test x xs holds later true is any = (x, holds, is)
passing_head P test x xs holds later false is any = later any

one_passes : {X : Type 0} (P : X → Type 0) (test : X → Bool) (xs : List X) → All P xs → list_any test xs ≡ true → (x : X) × (P x) × (test x ≡ true)
one_passes P test [] all any = absurd (true≢false (sym any))
one_passes P test (x ∷ xs) all any =
    passing_head P test x xs (all 0 x (omega arith)) (one_passes P test xs (λ k d low. all (suc k) d (omega (arith, low)))) (test x) refl any

pub somebody_there : (m : Core) → IsOrderly m → All (AsksForOwn m.locks) m.pipe.entered → list_any (is_at_lock m.locks) m.pipe.entered ≡ true → IsWaitedFor m
somebody_there m orderly own any =
    let one = one_passes (AsksForOwn m.locks) (is_at_lock m.locks) m.pipe.entered own any in
    lock_of m orderly one.0.scope (lock_asked one.0) one.1 one.2
