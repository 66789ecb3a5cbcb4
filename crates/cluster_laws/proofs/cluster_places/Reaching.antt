-- Where a scope goes once it has its locks below k at machine a, and which locks it has then.
use Rattle.std.proofs.Common.{◌≡◌, ◌≢◌, ◌⊎◌, ℕ, suc, ◌<◌, ◌≤◌, ◌==◌, ◌&&◌, Bool, true, false, if◌then◌else◌, Option, None, Some, List, [], ◌∷◌, refl, sym, ◌∙◌, ⊎_elim, inl, inr, nat_lt, arith}
use Rattle.std.proofs.lemmas.Bool.{cases_eq, cases_lt, eq-eqb, eqb-true, and_parts, and_from, or_cases, or_left, or_right, both_ways, ltb-true, lt-ltb}
use Rattle.gl_base.specs.declared.scopes.ScopeId.{ScopeId}
use Rattle.graph_core.specs.DataGraph.{size}
use Rattle.cluster_laws.specs.cluster_core.Settings.{Setting, IsSetting, is_in_scope}
use Rattle.cluster_laws.specs.cluster_core.Scopes.{own_from, takes_part, machines_from, is_before}
use Rattle.cluster_laws.specs.cluster_core.Stages.{Stage, Asks, Waits, Returns, Stays, has_lock, centre_of, flying}
use Rattle.cluster_laws.specs.cluster_core.Places.{IsAtHome, IsStageOf}
use Rattle.cluster_laws.proofs.cluster_core.Basics.{same_truth}
use Rattle.cluster_laws.proofs.cluster_core.Nearness.{is_own, none_own, next_machine, no_machine, owner_takes_part, part_low, scope_within}

-- the stage, where this is the next lock at machine a, and these are the machines to come
abbrev pub reached_by : ScopeId → ℕ → ℕ → Option ℕ → List ℕ → Stage
reached_by s v a (Some x) rest = Waits v x
reached_by s v a None (b ∷ rest) = Asks v a b
reached_by s v a None [] = if s.home.0 == a then Stays v else Returns v a

abbrev pub reached : Setting → ScopeId → ℕ → ℕ → ℕ → Stage
reached st s v a k = reached_by s v a (own_from st v a k) (machines_from st v (suc a))

-- the locks below k at a, and all at lower machines
abbrev pub below : Setting → ℕ → ℕ → ℕ → ℕ → Bool
below st v a k x = is_in_scope st v x && is_before st x a k

pub before_is : (st : Setting) (x a k : ℕ) → is_before st x a k ≡ true → (st.owner x < a) ⊎ ((st.owner x ≡ a) × (x < k))
before_is st x a k is =
    ⊎_elim
    (λ (lower : nat_lt (st.owner x) a ≡ true). inl (ltb-true (st.owner x) a lower))
    (λ (here : (st.owner x == a && nat_lt x k) ≡ true).
    let h = and_parts (st.owner x == a) (nat_lt x k) here in
    inr (eqb-true (st.owner x) a h.0, ltb-true x k h.1))
    (or_cases (nat_lt (st.owner x) a) (st.owner x == a && nat_lt x k) is)

pub before_from : (st : Setting) (x a k : ℕ) → (st.owner x < a) ⊎ ((st.owner x ≡ a) × (x < k)) → is_before st x a k ≡ true
before_from st x a k is =
    ⊎_elim
    (λ (lower : st.owner x < a). or_left (nat_lt (st.owner x) a) (st.owner x == a && nat_lt x k) (lt-ltb (st.owner x) a lower))
    (λ (here : (st.owner x ≡ a) × (x < k)). or_right (nat_lt (st.owner x) a) (st.owner x == a && nat_lt x k) (and_from (st.owner x == a) (nat_lt x k) (eq-eqb (st.owner x) a here.0) (lt-ltb x k here.1)))
    is

-- two places come behind the same locks of a scope
pub same_before : (st : Setting) (v a k b j x : ℕ) → (is_in_scope st v x ≡ true → (st.owner x < a) ⊎ ((st.owner x ≡ a) × (x < k)) → (st.owner x < b) ⊎ ((st.owner x ≡ b) × (x < j))) → (is_in_scope st v x ≡ true → (st.owner x < b) ⊎ ((st.owner x ≡ b) × (x < j)) → (st.owner x < a) ⊎ ((st.owner x ≡ a) × (x < k))) → below st v a k x ≡ below st v b j x
same_before st v a k b j x to from =
    same_truth (below st v a k x) (below st v b j x)
    (λ is. let h = and_parts (is_in_scope st v x) (is_before st x a k) is in
    and_from (is_in_scope st v x) (is_before st x b j) h.0 (before_from st x b j (to h.0 (before_is st x a k h.1))))
    (λ is. let h = and_parts (is_in_scope st v x) (is_before st x b j) is in
    and_from (is_in_scope st v x) (is_before st x a k) h.0 (before_from st x a k (from h.0 (before_is st x b j h.1))))

all_before : (st : Setting) (v a k x : ℕ) → (is_in_scope st v x ≡ true → (st.owner x < a) ⊎ ((st.owner x ≡ a) × (x < k))) → is_in_scope st v x ≡ below st v a k x
all_before st v a k x to =
    same_truth (is_in_scope st v x) (below st v a k x)
    (λ scoped. and_from (is_in_scope st v x) (is_before st x a k) scoped (before_from st x a k (to scoped)))
    (λ is. (and_parts (is_in_scope st v x) (is_before st x a k) is).0)

module _ (st : Setting) (is : IsSetting st) (s : ScopeId) (v a k : ℕ) (within : v < size st.graph) where
  -- no vertex of the scope has its owner between two machines in turn
  between : (c b x : ℕ) → ((d : ℕ) → c ≤ d → d < b → takes_part st v d ≡ false) → is_in_scope st v x ≡ true → c ≤ st.owner x → b ≤ st.owner x
  between c b x none scoped low =
      ⊎_elim
      (λ (high : st.owner x < b). absurd (both_ways (takes_part st v (st.owner x)) (none (st.owner x) low high) (owner_takes_part st is v x within scoped)))
      (λ (done : b ≤ st.owner x). done)
      (cases_lt (st.owner x) b)

  -- a vertex of the scope at machine a is below its next lock there exactly where it is below k
  next_lock : (y x : ℕ) → own_from st v a k ≡ Some y → below st v (st.owner y) y x ≡ below st v a k x
  next_lock y x at =
      let h = is_own st v a k y at in
      same_before st v (st.owner y) y a k x
      (λ scoped place. ⊎_elim
      (λ (lower : st.owner x < st.owner y). inl (omega (arith, h.3)))
      (λ (here : (st.owner x ≡ st.owner y) × (x < y)). ⊎_elim
      (λ (low : x < k). inr (here.0 ∙ h.3, low))
      (λ (high : k ≤ x). absurd (h.4 x high here.1 scoped (here.0 ∙ h.3)))
      (cases_lt x k))
      place)
      (λ scoped place. ⊎_elim
      (λ (lower : st.owner x < a). inl (omega (arith, h.3)))
      (λ (here : (st.owner x ≡ a) × (x < k)). inr (here.0 ∙ sym h.3, omega (arith, h.0)))
      place)

  -- where no lock is left at machine a, those before the next machine are those below k
  next_place : (b : ℕ) (rest : List ℕ) (x : ℕ) → own_from st v a k ≡ None → machines_from st v (suc a) ≡ b ∷ rest → below st v b 0 x ≡ below st v a k x
  next_place b rest x none at =
      let h = next_machine st v (suc a) b rest at in
      same_before st v b 0 a k x
      (λ scoped place. ⊎_elim
      (λ (lower : st.owner x < b). ⊎_elim
      (λ (at_a : st.owner x ≡ a). ⊎_elim
      (λ (low : x < k). inr (at_a, low))
      (λ (high : k ≤ x). absurd (none_own st v a k none x high (scope_within st is v x within scoped) scoped at_a))
      (cases_lt x k))
      (λ (off : st.owner x ≢ a). ⊎_elim
      (λ (low : st.owner x < a). inl low)
      (λ (high : a ≤ st.owner x).
      let up : suc a ≤ st.owner x = omega arith in
      let past = between (suc a) b x h.2 scoped up in
      absurd (omega arith))
      (cases_lt (st.owner x) a))
      (cases_eq (st.owner x) a))
      (λ (here : (st.owner x ≡ b) × (x < 0)). absurd (omega (arith, here.1)))
      place)
      (λ scoped place. ⊎_elim
      (λ (lower : st.owner x < a). inl (omega (arith, h.0)))
      (λ (here : (st.owner x ≡ a) × (x < k)). inl (omega (arith, h.0, here.0)))
      place)

  -- where no lock and no machine is left, all are below k
  no_place : (x : ℕ) → own_from st v a k ≡ None → machines_from st v (suc a) ≡ [] → is_in_scope st v x ≡ below st v a k x
  no_place x none end =
      all_before st v a k x
      (λ scoped. ⊎_elim
      (λ (at_a : st.owner x ≡ a). ⊎_elim
      (λ (low : x < k). inr (at_a, low))
      (λ (high : k ≤ x). absurd (none_own st v a k none x high (scope_within st is v x within scoped) scoped at_a))
      (cases_lt x k))
      (λ (off : st.owner x ≢ a). ⊎_elim
      (λ (low : st.owner x < a). inl low)
      (λ (high : a ≤ st.owner x).
      let up : suc a ≤ st.owner x = omega arith in
      let part = owner_takes_part st is v x within scoped in
      absurd (both_ways (takes_part st v (st.owner x)) (no_machine st v (suc a) end (st.owner x) up (part_low st is v (st.owner x) part)) part))
      (cases_lt (st.owner x) a))
      (cases_eq (st.owner x) a))

  home_locks : (test : Bool) (x : ℕ) → has_lock st (if test then Stays v else Returns v a) x ≡ is_in_scope st v x
  home_locks true x = refl
  home_locks false x = refl

  pub reached_by-locks : (first : Option ℕ) (rest : List ℕ) → own_from st v a k ≡ first → machines_from st v (suc a) ≡ rest → (x : ℕ) → has_lock st (reached_by s v a first rest) x ≡ below st v a k x
  reached_by-locks (Some y) rest at next x = next_lock y x at
  reached_by-locks None (b ∷ rest) at next x = next_place b rest x at next
  reached_by-locks None [] at next x = home_locks (s.home.0 == a) x ∙ no_place x at next

  pub reached-locks : (x : ℕ) → has_lock st (reached st s v a k) x ≡ below st v a k x
  reached-locks x = reached_by-locks (own_from st v a k) (machines_from st v (suc a)) refl refl x

  home_stage : IsAtHome st s v → a < st.machines → (test : Bool) → IsStageOf st s (if test then Stays v else Returns v a)
  home_stage home low true = home
  home_stage home low false = (home, low)

  reached_by-stage : IsAtHome st s v → a < st.machines → (first : Option ℕ) (rest : List ℕ) → own_from st v a k ≡ first → machines_from st v (suc a) ≡ rest → IsStageOf st s (reached_by s v a first rest)
  reached_by-stage home low (Some x) rest at next = (home, (is_own st v a k x at).2)
  reached_by-stage home low None (b ∷ rest) at next = (home, (next_machine st v (suc a) b rest next).1, low)
  reached_by-stage home low None [] at next = home_stage home low (s.home.0 == a)

  pub reached-stage : IsAtHome st s v → a < st.machines → IsStageOf st s (reached st s v a k)
  reached-stage home low = reached_by-stage home low (own_from st v a k) (machines_from st v (suc a)) refl refl

home_centre : (v a : ℕ) (test : Bool) → centre_of (if test then Stays v else Returns v a) ≡ Some v
home_centre v a true = refl
home_centre v a false = refl

pub reached_by-centre : (s : ScopeId) (v a : ℕ) (first : Option ℕ) (rest : List ℕ) → centre_of (reached_by s v a first rest) ≡ Some v
reached_by-centre s v a (Some x) rest = refl
reached_by-centre s v a None (b ∷ rest) = refl
reached_by-centre s v a None [] = home_centre v a (s.home.0 == a)

pub reached-centre : (st : Setting) (s : ScopeId) (v a k : ℕ) → centre_of (reached st s v a k) ≡ Some v
reached-centre st s v a k = reached_by-centre s v a (own_from st v a k) (machines_from st v (suc a))

home_flying : (v a : ℕ) (test : Bool) → flying (if test then Stays v else Returns v a) ≡ Some v
home_flying v a true = refl
home_flying v a false = refl

pub reached_by-flying : (s : ScopeId) (v a : ℕ) (first : Option ℕ) (rest : List ℕ) → flying (reached_by s v a first rest) ≡ Some v
reached_by-flying s v a (Some x) rest = refl
reached_by-flying s v a None (b ∷ rest) = refl
reached_by-flying s v a None [] = home_flying v a (s.home.0 == a)

pub reached-flying : (st : Setting) (s : ScopeId) (v a k : ℕ) → flying (reached st s v a k) ≡ Some v
reached-flying st s v a k = reached_by-flying s v a (own_from st v a k) (machines_from st v (suc a))
