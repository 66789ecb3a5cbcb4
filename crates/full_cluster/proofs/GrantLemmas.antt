-- A scope that gets a lock gathers the number of its vertex, and goes on.
use Rattle.std.proofs.Common.{◌≡◌, ℕ, suc, ◌==◌, Bool, true, false, if◌then◌else◌, Option, None, Some, IfSome, List, [], ◌∷◌, ◌++◌, Err, Ok, OnErr, Result, length, refl, sym, ◌∙◌, ap, subst, ⊎_elim, arith}
use Rattle.std.proofs.lemmas.Bool.{cases_Bool}
use Rattle.gl_base.specs.declared.numbers.Vertex.{Vertex}
use Rattle.gl_base.specs.declared.scopes.ScopeId.{ScopeId}
use Rattle.gl_base.specs.scope_lists.Scopes.{is_scope, set_at, set_for}
use Rattle.cluster_laws.specs.cluster_core.Settings.{Setting}
use Rattle.full_laws.specs.FullEffects.{gathers, granted_first, granted_full, locks_full, moves_full, passes_full}
use Rattle.full_laws.specs.FullParts.{FullPart, FullStand}
use Rattle.full_laws.specs.Items.{AVertex}
use Rattle.full_cluster.specs.declared.locks.WholeLock.{WholeLock}
use Rattle.full_cluster.specs.declared.machines.FullMachine.{FullMachine}
use Rattle.full_cluster.specs.declared.machines.ScopeStand.{ScopeStand}
use Rattle.full_cluster.specs.declared.lock_rows.WholeLocks.{WholeLocks}
use Rattle.full_cluster.specs.FullMachines.{IsMachineOf, StandsAs, stood_up}
use Rattle.full_cluster.specs.FullQueues.{seen_after, seen_in}
use Rattle.full_cluster.specs.WholeLocks.{AreLocksOf, HasGrantedNext, IsNextOf}
use Rattle.full_cluster.proofs.MachineLemmas.{lists_again}

eqb_turned : (a b : ℕ) → (a == b) ≡ (b == a)
eqb_turned a b = grind arith

seen_append : (pairs : List (Vertex × ℕ)) (x : Vertex) (n y : ℕ) (here : Option ℕ) → seen_after (pairs ++ (x, n) ∷ []) y here ≡ (if x.0 == y then Some n else seen_after pairs y here)
seen_append [] x n y here = refl
seen_append (pair ∷ pairs) x n y here = seen_append pairs x n y (if pair.0.0 == y then Some pair.1 else here)

-- one number more was gathered
pub seen_more : (pairs : List (Vertex × ℕ)) (x : Vertex) (n : ℕ) → seen_in (pairs ++ (x, n) ∷ []) ≡ gathers x.0 n (seen_in pairs)
seen_more pairs x n = λ k y. (seen_append pairs x n y None ∙ ap (λ (b : Bool). if b then Some n else seen_in pairs y) (eqb_turned x.0 y)) k

heads : (s t : ScopeId) (xs ys : List ScopeId) → s ∷ xs ≡ t ∷ ys → (s ≡ t) × (xs ≡ ys)
heads s t xs ys is = (cc, cc)

-- the scope that waited first holds the lock
pub after_grant : (new : List WholeLock) (holds : ℕ → ScopeId → Bool) (queue : ℕ → List ScopeId) (x : ℕ) (s : ScopeId) (next : IsNextOf (holds x) (queue x) s) (o : Option ScopeId) → IfSome o (HasGrantedNext new holds queue x) → (o ≡ None → (t : ScopeId) → IsNextOf (holds x) (queue x) t → ⊥) →
    AreLocksOf new (set_at holds x (set_for (holds x) s true)) (set_at queue x next.behind)
after_grant new holds queue x s next None granted never = absurd (never refl s next)
after_grant new holds queue x s next (Some t) granted never =
    let same = heads t s granted.next.behind next.behind (sym granted.next.first ∙ next.first) in
    subst (λ (u : ScopeId). AreLocksOf new (set_at holds x (set_for (holds x) u true)) (set_at queue x next.behind)) same.0
    (subst (λ (behind : List ScopeId). AreLocksOf new (set_at holds x (set_for (holds x) t true)) (set_at queue x behind)) same.1 granted.after)

pub locked : (st : Setting) (m : FullMachine) (part : FullPart) (locks : WholeLocks) (x : ℕ) (s : ScopeId) (behind : List ScopeId) → IsMachineOf st m (stood_up s part) → length locks.locks.items ≡ length m.locks.locks.items →
    AreLocksOf locks.locks.items (set_at part.holds x (set_for (part.holds x) s true)) (set_at part.queue x behind) → IsMachineOf st (record m { locks = locks }) (stood_up s (locks_full x s behind part))
locked st m part locks x s behind is count are =
    record {
      numbers = lists_again st m.me.0 m.kept.numbers.items m.kept.edges.items m.kept.tasks.items (stood_up s part) (stood_up s (locks_full x s behind part)) refl refl is.numbers;
      locks = are;
      lock_count = count ∙ is.lock_count;
      log = is.log;
      serial = is.serial;
      flying = is.flying;
      flights = is.flights;
      flights_once = is.flights_once;
      stands = is.stands;
      stands_once = is.stands_once;
      ready = is.ready;
      ready_once = is.ready_once;
      out = is.out;
    }

-- ---- what the grant is in the model

pub granted_is : (st : Setting) (a x : ℕ) (part : FullPart) (s : ScopeId) (behind : List ScopeId) (standing : FullStand) → part.queue x ≡ s ∷ behind → part.stand s ≡ Some standing →
    granted_full st a x part ≡ passes_full st a s standing.centre (suc x) standing.rest (gathers x (part.number (AVertex x)) standing.seen) (locks_full x s behind part)
granted_is st a x part s behind standing first at =
    ap (λ (queue : List ScopeId). granted_first st a x queue part) first
    ∙ ap (λ (o : Option FullStand). moves_full st a x s o (locks_full x s behind part)) at

-- ---- a scope that stands up

pub stand_taken : (st : Setting) (a : ℕ) (old new : ScopeId → Option ScopeStand) (standing : ScopeId → Option FullStand) (s : ScopeId) → ((t : ScopeId) → StandsAs st a (old t) (standing t)) → ((t : ScopeId) → new t ≡ set_for old s None t) → (t : ScopeId) → StandsAs st a (new t) (set_for standing s None t)
stand_taken st a old new standing s are out t = ⊎_elim
    (λ (yes : is_scope t s ≡ true).
    subst (λ (o : Option ScopeStand). StandsAs st a o (set_for standing s None t)) (sym (out t ∙ ap (λ (b : Bool). if b then None else old t) yes))
    (subst (λ (o : Option FullStand). StandsAs st a None o) (sym (ap (λ (b : Bool). if b then None else standing t) yes)) tt))
    (λ (off : is_scope t s ≡ false).
    subst (λ (o : Option ScopeStand). StandsAs st a o (set_for standing s None t)) (sym (out t ∙ ap (λ (b : Bool). if b then None else old t) off))
    (subst (λ (o : Option FullStand). StandsAs st a (old t) o) (sym (ap (λ (b : Bool). if b then None else standing t) off)) (are t)))
    (cases_Bool (is_scope t s))

pub any_err : {T E P : Type 0} (r : Result T E) → P → OnErr r P
any_err (Ok x) p = tt
any_err (Err e) p = p
