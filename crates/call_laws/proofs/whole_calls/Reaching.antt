-- Which failures were reached: one by one, and machine by machine.
use Rattle.std.proofs.Common.{◌≡◌, ◌≢◌, ℕ, suc, ◌+◌, ◌<◌, ◌≤◌, ◌==◌, ◌&&◌, ◌||◌, nat_le, nat_lt, Bool, true, false, if◌then◌else◌, List, [], ◌∷◌, length, filter, count_by, refl, sym, ◌∙◌, ap, subst, ⊎_elim, arith}
use Rattle.std.specs.List.{AllByRecursion}
use Rattle.std.proofs.lemmas.Bool.{and_from, and_left, and_parts, and_right, cases_Bool, cases_eq, cases_lt, cond-false, cond-true, eq-eqb, eqb-true, false_from_ne_true, le-ltb, leb-true, ne_eqb}
use Rattle.std.proofs.lemmas.List.Sums.{length-filter}
use Rattle.gl_base.specs.declared.jobs.FailureAt.{FailureAt}
use Rattle.cluster_laws.specs.cluster_model.Totals.{total}
use Rattle.cluster_laws.specs.cluster_runs.Attempts.{is_reached}
use Rattle.whole_laws.proofs.cluster_whole.Flows.{total_from-more, total_from-none, total_from-same}
use Rattle.call_laws.specs.whole_calls.Following.{AreDifferent, reaches}

-- the count of a failure is between these
abbrev pub is_within : ℕ → ℕ → FailureAt → Bool
is_within before now failure = nat_lt before failure.after && nat_le failure.after now

or_none : (a b : Bool) → (a || b) ≡ false → (a ≡ false) × (b ≡ false)
or_none true b is = absurd (not_so is)
  where
    not_so : true ≡ false → ⊥
    not_so is = cc
or_none false b is = (refl, is)

-- where a machine reached none, none of its failures was reached
pub none_reached : (failures : List FailureAt) (a before now : ℕ) → reaches failures a before now ≡ false → AllByRecursion (λ (failure : FailureAt). failure.machine.0 ≡ a → is_within before now failure ≡ false) failures
none_reached [] a before now none = tt
none_reached (failure ∷ failures) a before now none =
    let both = or_none ((failure.machine.0 == a) && is_within before now failure) (reaches failures a before now) none in (
      λ at. sym (ap (λ (b : Bool). b && is_within before now failure) (eq-eqb failure.machine.0 a at)) ∙ both.0,
      none_reached failures a before now both.1,
    )

true_false : (b : Bool) → b ≡ true → b ≡ false → ⊥
true_false b one other = not_so (sym one ∙ other)
  where
    not_so : true ≡ false → ⊥
    not_so is = cc

or_right : (b c : Bool) → b ≡ false → (b || c) ≡ c
or_right b c is = ap (λ (x : Bool). x || c) is

or_true : (b c : Bool) → b ≡ true → (b || c) ≡ true
or_true b c is = ap (λ (x : Bool). x || c) is

not_more : (n : ℕ) → n < n → ⊥
not_more n is = omega arith

-- nobody reaches one before making an update more
pub none_yet : (failures : List FailureAt) (a now : ℕ) → reaches failures a now now ≡ false
none_yet [] a now = refl
none_yet (failure ∷ failures) a now =
    or_right ((failure.machine.0 == a) && is_within now now failure) (reaches failures a now now)
    (false_from_ne_true ((failure.machine.0 == a) && is_within now now failure) (λ is.
    let both = and_parts (nat_lt now failure.after) (nat_le failure.after now) (and_parts (failure.machine.0 == a) (is_within now now failure) is).1 in
    not_more now (high now failure.after (less now failure.after both.0) (leb-true failure.after now both.1))))
    ∙ none_yet failures a now
  where
    less : (n k : ℕ) → nat_lt n k ≡ true → n < k
    less n k is = ⊎_elim (λ (yes_less : n < k). yes_less) (λ (no_less : k ≤ n). absurd (true_false (nat_lt n k) is (le-ltb n k no_less))) (cases_lt n k)

    high : (n k : ℕ) → n < k → k ≤ n → n < n
    high n k one other = omega arith

-- ---- machine by machine

suc_is : (n : ℕ) → suc n ≡ n + 1
suc_is n = omega arith

module _ (before now : ℕ → ℕ) where
  -- machine a has reached one of these
  abbrev pub at : List FailureAt → ℕ → Bool
  at failures a = reaches failures a (before a) (now a)

  -- 1 where it has
  abbrev pub one_at : List FailureAt → ℕ → ℕ
  one_at failures a = if at failures a then 1 else 0

  -- who reached the count of a failure stopped there
  abbrev pub Stops : FailureAt → Type 0
  Stops failure = is_reached before now failure ≡ true → now failure.machine.0 ≡ failure.after

  same_failure : (one other : FailureAt) → other.machine.0 ≡ one.machine.0 → other.after ≡ one.after → one ≡ other
  same_failure one other machine after = λ i. record { machine = record { 0 = (sym machine) i }; after = (sym after) i }

  -- where a failure was reached, no other one of its machine was
  none_else : (failure : FailureAt) (failures : List FailureAt) → now failure.machine.0 ≡ failure.after → AllByRecursion (λ (other : FailureAt). failure ≢ other) failures → AllByRecursion Stops failures → at failures failure.machine.0 ≡ false
  none_else failure [] stopped different stops = refl
  none_else failure (other ∷ failures) stopped different stops =
      let m : ℕ = failure.machine.0 in
      or_right ((other.machine.0 == m) && is_within (before m) (now m) other) (at failures m)
      (false_from_ne_true ((other.machine.0 == m) && is_within (before m) (now m) other) (λ is.
      let both = and_parts (other.machine.0 == m) (is_within (before m) (now m) other) is in
      let same : other.machine.0 ≡ m = eqb-true other.machine.0 m both.0 in
      different.0 (same_failure failure other same
      (sym (stops.0 (subst (λ (k : ℕ). is_within (before k) (now k) other ≡ true) (sym same) both.1)) ∙ ap now same ∙ stopped))))
      ∙ none_else failure failures stopped different.1 stops.1

  -- as many machines reached one as failures were reached
  pub reached_once : (n : ℕ) (failures : List FailureAt) → AllByRecursion (λ (failure : FailureAt). failure.machine.0 < n) failures → AreDifferent failures → AllByRecursion Stops failures →
      total n (one_at failures) ≡ length (filter (is_reached before now) failures)
  reached_once n [] low different stops = total_from-none 0 n (λ a. 0) (λ a. refl)
  reached_once n (failure ∷ failures) low different stops =
      let m : ℕ = failure.machine.0 in
      let rest : total n (one_at failures) ≡ length (filter (is_reached before now) failures) = reached_once n failures low.1 different.1 stops.1 in
      let elsewhere : (b : ℕ) → b ≢ m → one_at (failure ∷ failures) b ≡ one_at failures b =
      λ b off. ap (λ (t : Bool). if t then 1 else 0)
      (or_right ((m == b) && is_within (before b) (now b) failure) (at failures b)
      (and_left (m == b) (is_within (before b) (now b) failure) (ne_eqb m b (λ same. off (sym same))))) in
      ⊎_elim
      (λ (is : is_reached before now failure ≡ true).
      total_from-more 0 n (one_at failures) (one_at (failure ∷ failures)) m 1 (zero_low m) (to_range m n low.0)
      (ap (λ (t : Bool). if t then 1 else 0)
      (or_true ((m == m) && is_within (before m) (now m) failure) (at failures m) (and_from (m == m) (is_within (before m) (now m) failure) (eq-eqb m m refl) is))
      ∙ sym (ap (λ (t : Bool). (if t then 1 else 0) + 1) (none_else failure failures (stops.0 is) different.0 stops.1)))
      elsewhere
      ∙ ap (λ (k : ℕ). k + 1) rest
      ∙ sym (ap (λ (xs : List FailureAt). length xs) (cond-true (is_reached before now failure) (failure ∷ filter (is_reached before now) failures) (filter (is_reached before now) failures) is)
      ∙ suc_is (length (filter (is_reached before now) failures))))
      (λ (not : is_reached before now failure ≡ false).
      total_from-same 0 n (one_at failures) (one_at (failure ∷ failures))
      (λ b from to. ⊎_elim
      (λ (same : m ≡ b).
      ap (λ (t : Bool). if t then 1 else 0)
      (or_right ((m == b) && is_within (before b) (now b) failure) (at failures b)
      (and_right (m == b) (is_within (before b) (now b) failure) (subst (λ (k : ℕ). is_within (before k) (now k) failure ≡ false) same not))))
      (λ (other : m ≢ b). elsewhere b (λ same. other (sym same)))
      (cases_eq m b))
      ∙ rest
      ∙ sym (ap (λ (xs : List FailureAt). length xs) (cond-false (is_reached before now failure) (failure ∷ filter (is_reached before now) failures) (filter (is_reached before now) failures) not)))
      (cases_Bool (is_reached before now failure))
    where
      zero_low : (n : ℕ) → 0 ≤ n
      zero_low n = omega arith

      to_range : (a n : ℕ) → a < n → a < 0 + n
      to_range a n low = omega arith

  pub reached_many : (n : ℕ) (failures : List FailureAt) → AllByRecursion (λ (failure : FailureAt). failure.machine.0 < n) failures → AreDifferent failures → AllByRecursion Stops failures →
      total n (one_at failures) ≡ count_by (is_reached before now) failures
  reached_many n failures low different stops = reached_once n failures low different stops ∙ length-filter (is_reached before now) failures
