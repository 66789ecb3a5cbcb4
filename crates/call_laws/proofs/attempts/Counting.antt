-- Counts of entries, and of failures that were reached.
use Rattle.std.proofs.Common.{◌≡◌, ◌≤◌, ◌<◌, Bool, true, false, ℕ, suc, ◌+◌, ◌&&◌, nat_le, nat_lt, if◌then◌else◌, List, [], ◌∷◌, ◌++◌, length, filter, refl, sym, ap, ap₂, ◌∙◌, subst, ⊎_elim, le_trans, le_refl, arith}
use Rattle.std.specs.List.{AllByRecursion}
use Rattle.std.proofs.lemmas.Bool.{and_from, and_left, and_right, cases_lt, false_from_ne_true, le-leb, le-ltb, leb-true, lt-ltb}
use Rattle.std.proofs.lemmas.List.{length-append}
use Rattle.std.proofs.lemmas.List.Elements.{filter-append}
use Rattle.std.proofs.lemmas.List.Sums.{length-filter}
use Rattle.gl_base.specs.declared.entries.Entry.{Entry}
use Rattle.gl_base.specs.declared.jobs.FailureAt.{FailureAt}
use Rattle.call_laws.specs.attempts.Beginnings.{again, nothing}
use Rattle.call_laws.specs.attempts.EngineCalls.{AreAttempts, EngineCall, IsEngineCall, done_of, fired_of, made_in, opening, struck_in}
use Rattle.cluster_laws.specs.cluster_runs.Attempts.{Attempt, Beginning, IsAttempt, Shared, done_with, is_reached, made_by}
use Rattle.cluster_laws.specs.cluster_core.Replays.{is_of}

one_of : Bool → ℕ
one_of true = 1
one_of false = 0

one_more : (n : ℕ) → suc n ≡ 1 + n
one_more n = omega arith

no_more : (n : ℕ) → n ≡ 0 + n
no_more n = omega arith

count_if : {X : Type 0} (b : Bool) (x : X) (xs : List X) → length (if b then x ∷ xs else xs) ≡ one_of b + length xs
unfolding one_of
count_if true x xs = one_more (length xs)
count_if false x xs = no_more (length xs)

-- how many pass the test
abbrev pub number_of : {X : Type 0} → (X → Bool) → List X → ℕ
number_of test xs = length (filter test xs)

sums : (a b c x y z k l m : ℕ) → x ≡ a + k → y ≡ b + l → z ≡ c + m → a ≡ b + c → k ≡ l + m → x ≡ y + z
sums a b c x y z k l m one two three four five = omega arith

number_split : {X : Type 0} (p q r : X → Bool) (xs : List X) → ((x : X) → one_of (p x) ≡ one_of (q x) + one_of (r x)) → number_of p xs ≡ number_of q xs + number_of r xs
unfolding one_of
number_split p q r [] splits = refl
number_split p q r (x ∷ xs) splits =
    sums (one_of (p x)) (one_of (q x)) (one_of (r x)) (number_of p (x ∷ xs)) (number_of q (x ∷ xs)) (number_of r (x ∷ xs)) (number_of p xs) (number_of q xs) (number_of r xs)
    (count_if (p x) x (filter p xs)) (count_if (q x) x (filter q xs)) (count_if (r x) x (filter r xs)) (splits x) (number_split p q r xs splits)

number_same : {X : Type 0} (p q : X → Bool) (xs : List X) → AllByRecursion (λ x. p x ≡ q x) xs → number_of p xs ≡ number_of q xs
number_same p q [] all = refl
number_same p q (x ∷ xs) all =
    count_if (p x) x (filter p xs) ∙ ap₂ (λ (b : Bool) (n : ℕ). one_of b + n) all.0 (number_same p q xs all.1) ∙ sym (count_if (q x) x (filter q xs))

pub made_by-append : (xs ys : List Entry) (m : ℕ) → made_by (xs ++ ys) m ≡ made_by xs m + made_by ys m
made_by-append xs ys m =
    sym (length-filter (is_of m) (xs ++ ys)) ∙ ap length (filter-append (is_of m) xs ys) ∙ length-append (filter (is_of m) xs) (filter (is_of m) ys)
    ∙ ap₂ (λ (n k : ℕ). n + k) (length-filter (is_of m) xs) (length-filter (is_of m) ys)

-- ---- failures that were reached

not_le : (a b : ℕ) → b < a → a ≤ b → ⊥
not_le a b low high = omega arith

leb_no : (a b : ℕ) → b < a → nat_le a b ≡ false
leb_no a b low = false_from_ne_true (nat_le a b) (λ is. not_le a b low (leb-true a b is))

-- x is below k, and k is not above z
abbrev is_between : ℕ → ℕ → ℕ → Bool
is_between x k z = nat_lt x k && nat_le k z

parts : (p q r : Bool) (a b c : ℕ) → a ≡ b + c → one_of p ≡ a → one_of q ≡ b → one_of r ≡ c → one_of p ≡ one_of q + one_of r
parts p q r a b c sum one two three = one ∙ sum ∙ sym (ap₂ (λ (n k : ℕ). n + k) two three)

one_yes : (b : Bool) → b ≡ true → one_of b ≡ 1
unfolding one_of
one_yes b is = ap one_of is

one_no : (b : Bool) → b ≡ false → one_of b ≡ 0
unfolding one_of
one_no b is = ap one_of is

between_split : (x y z k : ℕ) → x ≤ y → y ≤ z → one_of (is_between x k z) ≡ one_of (is_between x k y) + one_of (is_between y k z)
between_split x y z k low high = ⊎_elim
    (λ (above : x < k). ⊎_elim
    (λ (late : y < k). ⊎_elim
    (λ (past : z < k). parts (is_between x k z) (is_between x k y) (is_between y k z) 0 0 0 (omega arith)
    (one_no (is_between x k z) (and_right (nat_lt x k) (nat_le k z) (leb_no k z past)))
    (one_no (is_between x k y) (and_right (nat_lt x k) (nat_le k y) (leb_no k y late)))
    (one_no (is_between y k z) (and_right (nat_lt y k) (nat_le k z) (leb_no k z past))))
    (λ (by : k ≤ z). parts (is_between x k z) (is_between x k y) (is_between y k z) 1 0 1 (omega arith)
    (one_yes (is_between x k z) (and_from (nat_lt x k) (nat_le k z) (lt-ltb x k above) (le-leb k z by)))
    (one_no (is_between x k y) (and_right (nat_lt x k) (nat_le k y) (leb_no k y late)))
    (one_yes (is_between y k z) (and_from (nat_lt y k) (nat_le k z) (lt-ltb y k late) (le-leb k z by))))
    (cases_lt z k))
    (λ (soon : k ≤ y). parts (is_between x k z) (is_between x k y) (is_between y k z) 1 1 0 (omega arith)
    (one_yes (is_between x k z) (and_from (nat_lt x k) (nat_le k z) (lt-ltb x k above) (le-leb k z (le_trans soon high))))
    (one_yes (is_between x k y) (and_from (nat_lt x k) (nat_le k y) (lt-ltb x k above) (le-leb k y soon)))
    (one_no (is_between y k z) (and_left (nat_lt y k) (nat_le k z) (le-ltb y k soon))))
    (cases_lt y k))
    (λ (before : k ≤ x). parts (is_between x k z) (is_between x k y) (is_between y k z) 0 0 0 (omega arith)
    (one_no (is_between x k z) (and_left (nat_lt x k) (nat_le k z) (le-ltb x k before)))
    (one_no (is_between x k y) (and_left (nat_lt x k) (nat_le k y) (le-ltb x k before)))
    (one_no (is_between y k z) (and_left (nat_lt y k) (nat_le k z) (le-ltb y k (le_trans before low)))))
    (cases_lt x k)

pub reached_split : (before middle now : ℕ → ℕ) → ((m : ℕ) → before m ≤ middle m) → ((m : ℕ) → middle m ≤ now m) → (failures : List FailureAt) →
    number_of (is_reached before now) failures ≡ number_of (is_reached before middle) failures + number_of (is_reached middle now) failures
reached_split before middle now low high failures =
    number_split (is_reached before now) (is_reached before middle) (is_reached middle now) failures
    (λ failure. between_split (before failure.machine.0) (middle failure.machine.0) (now failure.machine.0) failure.after (low failure.machine.0) (high failure.machine.0))

-- ---- in all attempts

plus_low : (n k : ℕ) → n ≤ n + k
plus_low n k = omega arith

plus_assoc : (n k m : ℕ) → n + (k + m) ≡ (n + k) + m
plus_assoc n k m = omega arith

pub done_longer : (b : Beginning) (a : Attempt) (rest : List Entry) → done_with b (a.made ++ rest) ≡ done_with (again b a) rest
done_longer b a rest = λ i. λ m. (ap (λ (n : ℕ). b.done m + n) (made_by-append a.made rest m) ∙ plus_assoc (b.done m) (made_by a.made m) (made_by rest m)) i

sum_up : (x y z s t l : ℕ) → x ≡ y + z → y ≡ s → z ≡ t + l → x ≡ (s + t) + l
sum_up x y z s t l one two three = omega arith

module _ (shared : Shared) where
  struck_is : (b : Beginning) (a : Attempt) → IsAttempt shared b a → number_of (is_reached b.done (done_with b a.made)) shared.failures ≡ a.struck
  struck_is b a attempt = length-filter (is_reached b.done (done_with b a.made)) shared.failures ∙ sym attempt.struck

  all_struck : (b : Beginning) (failed : List Attempt) (last : Attempt) → AreAttempts shared b failed last →
      number_of (is_reached b.done (done_with b (made_in failed last))) shared.failures ≡ struck_in failed + last.struck
  all_struck b [] last are = struck_is b last are ∙ no_more last.struck
  all_struck b (a ∷ failed) last are =
      let now : ℕ → ℕ = done_with (again b a) (made_in failed last) in
      ap (λ (done : ℕ → ℕ). number_of (is_reached b.done done) shared.failures) (done_longer b a (made_in failed last))
      ∙ sum_up (number_of (is_reached b.done now) shared.failures) (number_of (is_reached b.done (done_with b a.made)) shared.failures)
      (number_of (is_reached (again b a).done now) shared.failures) a.struck (struck_in failed) last.struck
      (reached_split b.done (done_with b a.made) now (λ m. plus_low (b.done m) (made_by a.made m)) (λ m. plus_low (done_with b a.made m) (made_by (made_in failed last) m)) shared.failures)
      (struck_is b a are.0) (all_struck (again b a) failed last are.2)

  is_fired : (call : EngineCall) → (failures : List FailureAt) → AllByRecursion (λ (failure : FailureAt). 1 ≤ failure.after) failures →
      AllByRecursion (λ (failure : FailureAt). nat_le failure.after (done_of call failure.machine.0) ≡ is_reached nothing (done_of call) failure) failures
  is_fired call [] all = tt
  is_fired call (failure ∷ failures) all = (
    sym (ap (λ (b : Bool). b && nat_le failure.after (done_of call failure.machine.0)) (lt-ltb 0 failure.after all.0)),
    is_fired call failures all.1,
  )

  pub fired_many : (call : EngineCall) → IsEngineCall shared call → length (fired_of shared call) ≡ struck_in call.failed + call.last.struck
  fired_many call is =
      number_same (λ (failure : FailureAt). nat_le failure.after (done_of call failure.machine.0)) (is_reached nothing (done_of call)) shared.failures (is_fired call shared.failures is.counts)
      ∙ ap (λ (done : ℕ → ℕ). number_of (is_reached nothing done) shared.failures) (λ i. λ m. no_more (done_of call m) i)
      ∙ all_struck (opening call) call.failed call.last is.attempts

  one_at_least : (n s k : ℕ) → n ≤ k → 1 ≤ s → suc n ≤ s + k
  one_at_least n s k low some = omega arith

  attempts_few : (b : Beginning) (failed : List Attempt) (last : Attempt) → AreAttempts shared b failed last → length failed ≤ struck_in failed
  attempts_few b [] last are = le_refl 0
  attempts_few b (a ∷ failed) last are = one_at_least (length failed) a.struck (struck_in failed) (attempts_few (again b a) failed last are.2) are.1

  pub failed_few : (call : EngineCall) → IsEngineCall shared call → length call.failed ≤ length (fired_of shared call)
  failed_few call is =
      subst (λ (n : ℕ). length call.failed ≤ n) (sym (fired_many call is)) (le_trans (attempts_few (opening call) call.failed call.last is.attempts) (plus_low (struck_in call.failed) call.last.struck))
