-- The failures of a job that was read are those that a job may order.
use Rattle.std.proofs.Common.{◌≡◌, ◌≢◌, ◌<◌, ◌≤◌, ◌+◌, ◌==◌, ◌&&◌, ◌||◌, Bool, true, false, ℕ, nat_le, nat_lt, List, [], ◌∷◌, ◌++◌, length, None, Some, cond, refl, sym, ◌∙◌, subst, append_assoc, ⊎_elim, arith}
use Rattle.std.specs.List.{AllByRecursion, list_any}
use Rattle.std.proofs.lemmas.Bool.{cases_lt, eq-eqb, leb-false}
use Rattle.std.proofs.lemmas.List.{length-append}
use Rattle.std.proofs.lemmas.List.Folds.{list_any-append}
use Rattle.gl_base.specs.declared.jobs.FailureAt.{FailureAt}
use Rattle.job_io.specs.job_config.Failures.{first_faulty, is_faulty, same_failure}
use Rattle.call_laws.specs.whole_calls.Following.{AreJobFailures}

false-or-false : (a b : Bool) → (a || b) ≡ false → (a ≡ false) × (b ≡ false)
false-or-false true b e = absurd (differ e)
  where
    differ : true ≡ false → ⊥
    differ e = cc
false-or-false false b e = (refl, e)

true-is-not-false : {b : Bool} → b ≡ true → b ≡ false → ⊥
true-is-not-false t f = cc

-- where no failure is faulty the first isn't, nor is any later one
first-of : (machines : ℕ) (earlier : List FailureAt) (f : FailureAt) (fs : List FailureAt) → first_faulty machines earlier (f ∷ fs) ≡ None
    → (is_faulty machines earlier f ≡ false) × (first_faulty machines (earlier ++ f ∷ []) fs ≡ None)
first-of machines earlier f fs none = go (is_faulty machines earlier f) none
  where
    some_is_none : {n : ℕ} → Some n ≡ None → ⊥
    some_is_none e = cc

    go : (b : Bool) → cond b (Some (length earlier)) (first_faulty machines (earlier ++ f ∷ []) fs) ≡ None → (b ≡ false) × (first_faulty machines (earlier ++ f ∷ []) fs ≡ None)
    go true e = absurd (some_is_none e)
    go false e = (refl, e)

-- what is said of one that isn't faulty
pub record IsSound (machines : ℕ) (earlier : List FailureAt) (f : FailureAt) : Type 0 where
  pub owned : f.machine.0 < machines
  pub count : 1 ≤ f.after
  pub new : list_any (same_failure f) earlier ≡ false

sound-of : (machines : ℕ) (earlier : List FailureAt) (f : FailureAt) → is_faulty machines earlier f ≡ false → IsSound machines earlier f
sound-of machines earlier f none =
    let few = false-or-false (nat_le 64 (length earlier)) _ none in
    let owned = false-or-false (nat_le machines f.machine.0) _ few.1 in
    let counted = false-or-false (f.after == 0) _ owned.1 in
    let small = false-or-false (nat_lt 16777216 f.after) _ counted.1 in
    record { owned = leb-false machines f.machine.0 owned.0; count = some f.after counted.0; new = small.1 }
  where
    some : (n : ℕ) → (n == 0) ≡ false → 1 ≤ n
    some n isnt = ⊎_elim (λ (none : n < 1). absurd (true-is-not-false (eq-eqb n 0 (omega (arith, none))) isnt)) (λ (more : 1 ≤ n). more) (cases_lt n 1)

-- one that stands among the earlier ones isn't a later one
apart : (machines : ℕ) (before : List FailureAt) (f : FailureAt) (behind fs : List FailureAt) → first_faulty machines (before ++ f ∷ behind) fs ≡ None
    → AllByRecursion (λ (other : FailureAt). f ≢ other) fs
apart machines before f behind [] none = tt
apart machines before f behind (g ∷ fs) none =
    let parts = first-of machines (before ++ f ∷ behind) g fs none in
    let sound = sound-of machines (before ++ f ∷ behind) g parts.0 in
    let any : list_any (same_failure g) (f ∷ behind) ≡ false =
    (false-or-false (list_any (same_failure g) before) (list_any (same_failure g) (f ∷ behind)) (sym (list_any-append (same_failure g) before (f ∷ behind)) ∙ sound.new)).1 in
    let here : same_failure g f ≡ false = (false-or-false (same_failure g f) (list_any (same_failure g) behind) any).0 in (
      λ same. true-is-not-false (same_itself f) (subst (λ (h : FailureAt). same_failure h f ≡ false) (sym same) here),
      apart machines before f (behind ++ g ∷ []) fs (subst (λ (l : List FailureAt). first_faulty machines l fs ≡ None) (append_assoc before (f ∷ behind) (g ∷ [])) parts.1),
    )
  where
    same_itself : (f : FailureAt) → same_failure f f ≡ true
    same_itself f = subst (λ (b : Bool). (b && (f.after == f.after)) ≡ true) (sym (eq-eqb f.machine.0 f.machine.0 refl)) (eq-eqb f.after f.after refl)

failures-behind : (machines : ℕ) (earlier fs : List FailureAt) → first_faulty machines earlier fs ≡ None → AreJobFailures machines fs
failures-behind machines earlier [] none = record { owned = tt; counts = tt; different = tt }
failures-behind machines earlier (f ∷ fs) none =
    let parts = first-of machines earlier f fs none in
    let sound = sound-of machines earlier f parts.0 in
    let rest = failures-behind machines (earlier ++ f ∷ []) fs parts.1 in
    record {
      owned = (sound.owned, rest.owned);
      counts = (sound.count, rest.counts);
      different = (apart machines earlier f [] fs parts.1, rest.different);
    }

pub job-failures : (machines : ℕ) (failures : List FailureAt) → first_faulty machines [] failures ≡ None → AreJobFailures machines failures
job-failures machines failures none = failures-behind machines [] failures none

-- where none is faulty there are at most 64
few-behind : (machines : ℕ) (earlier fs : List FailureAt) → length earlier ≤ 64 → first_faulty machines earlier fs ≡ None → length earlier + length fs ≤ 64
few-behind machines earlier [] few none = omega (arith, few)
few-behind machines earlier (f ∷ fs) few none =
    let parts = first-of machines earlier f fs none in
    let room : length earlier < 64 = leb-false 64 (length earlier) (false-or-false (nat_le 64 (length earlier)) _ parts.0).0 in
    let longer : length (earlier ++ f ∷ []) ≡ length earlier + 1 = length-append earlier (f ∷ []) in
    let rest = few-behind machines (earlier ++ f ∷ []) fs (omega (arith, room, longer)) parts.1 in
    omega (arith, rest, longer)

pub few-failures : (machines : ℕ) (failures : List FailureAt) → first_faulty machines [] failures ≡ None → length failures ≤ 64
few-failures machines failures none =
    let all : length none_before + length failures ≤ 64 = few-behind machines none_before failures (omega (arith)) none in
    omega (arith, all)
  where
    none_before : List FailureAt
    none_before = []
