-- What adding and removing leave of stages.
use Rattle.std.proofs.Common.{◌≡◌, ℕ, ◌<◌, ◌==◌, Bool, true, false, ◌||◌, List, length, slice_set, if◌then◌else◌, refl, sym, ◌∙◌, ap, subst, ⊎_elim, eq-eqb, ne_eqb}
use Rattle.std.proofs.Math.ListN.{length-set}
use Rattle.std.proofs.lemmas.Bool.{cases_eq}
use Rattle.std.proofs.lemmas.List.{get_or-set_same, get_or-set_other}
use Rattle.task_sets.specs.task_sched.Tasks.{is_flagged}
use Rattle.task_sets.specs.task_sched.Inner.Stages.{is_staged}

-- what a flag is after one was written
pub flag-set : (flags : List Bool) (v u : ℕ) (b : Bool) → v < length flags → is_flagged (slice_set flags v b) u ≡ (if u == v then b else is_flagged flags u)
flag-set flags v u b within = ⊎_elim
    (λ (same : u ≡ v). rw (eq-eqb u v same) (subst (λ x. is_flagged (slice_set flags v b) x ≡ b) (sym same) (get_or-set_same flags v b false within)))
    (λ (other : u ≡ v → ⊥). rw (ne_eqb u v other) (get_or-set_other flags v u b false other))
    (cases_eq u v)

or_true : (a b : Bool) → (a || (true || b)) ≡ true
or_true true b = refl
or_true false b = refl

-- a vertex joins the near ones, and leaves the others
pub joined_near : (near far fresh : List Bool) (v u : ℕ) → v < length near → v < length far → v < length fresh →
    is_staged (record { near = slice_set near v true; far = slice_set far v false; fresh = slice_set fresh v false }) u ≡ (if u == v then true else is_staged (record { near = near; far = far; fresh = fresh }) u)
joined_near near far fresh v u a b c =
    rw (flag-set near v u true a, flag-set far v u false b, flag-set fresh v u false c) (choose (u == v) (is_flagged near u) (is_flagged far u) (is_flagged fresh u))
  where
    choose : (test a c d : Bool) → ((if test then true else a) || ((if test then false else c) || (if test then false else d))) ≡ (if test then true else a || (c || d))
    choose true a c d = refl
    choose false a c d = refl

-- a vertex joins the far ones, and leaves the fresh ones
pub joined_far : (near far fresh : List Bool) (v u : ℕ) → v < length far → v < length fresh →
    is_staged (record { near = near; far = slice_set far v true; fresh = slice_set fresh v false }) u ≡ (if u == v then true else is_staged (record { near = near; far = far; fresh = fresh }) u)
joined_far near far fresh v u b c =
    rw (flag-set far v u true b, flag-set fresh v u false c) (choose (u == v) (is_flagged near u) (is_flagged far u) (is_flagged fresh u))
  where
    choose : (test a c d : Bool) → (a || ((if test then true else c) || (if test then false else d))) ≡ (if test then true else a || (c || d))
    choose true a c d = or_true a false
    choose false a c d = refl

-- a vertex leaves all stages
pub left_all : (near far fresh : List Bool) (v u : ℕ) → v < length near → v < length far → v < length fresh →
    is_staged (record { near = slice_set near v false; far = slice_set far v false; fresh = slice_set fresh v false }) u ≡ (if u == v then false else is_staged (record { near = near; far = far; fresh = fresh }) u)
left_all near far fresh v u a b c =
    rw (flag-set near v u false a, flag-set far v u false b, flag-set fresh v u false c) (choose (u == v) (is_flagged near u) (is_flagged far u) (is_flagged fresh u))
  where
    choose : (test a c d : Bool) → ((if test then false else a) || ((if test then false else c) || (if test then false else d))) ≡ (if test then false else a || (c || d))
    choose true a c d = refl
    choose false a c d = refl

-- a far one goes over
pub gone_over : (near far fresh : List Bool) (v u : ℕ) → v < length near → v < length far → is_flagged far v ≡ true →
    is_staged (record { near = slice_set near v true; far = slice_set far v false; fresh = fresh }) u ≡ is_staged (record { near = near; far = far; fresh = fresh }) u
gone_over near far fresh v u a b there = ⊎_elim
    (λ (same : u ≡ v). rw (flag-set near v u true a, flag-set far v u false b, eq-eqb u v same) (sym (or_far (is_flagged near u) (is_flagged far u) (is_flagged fresh u) (subst (λ x. is_flagged far x ≡ true) (sym same) there))))
    (λ (other : u ≡ v → ⊥). rw (flag-set near v u true a, flag-set far v u false b, ne_eqb u v other) refl)
    (cases_eq u v)
  where
    or_far : (a c d : Bool) → c ≡ true → (a || (c || d)) ≡ true
    or_far true c d is = refl
    or_far false c d is = ap (λ b. b || d) is

-- a near one goes back
pub gone_back : (near far fresh : List Bool) (v u : ℕ) → v < length near → v < length far → is_flagged near v ≡ true →
    is_staged (record { near = slice_set near v false; far = slice_set far v true; fresh = fresh }) u ≡ is_staged (record { near = near; far = far; fresh = fresh }) u
gone_back near far fresh v u a b there = ⊎_elim
    (λ (same : u ≡ v). rw (flag-set near v u false a, flag-set far v u true b, eq-eqb u v same) (sym (or_near (is_flagged near u) (is_flagged far u) (is_flagged fresh u) (subst (λ x. is_flagged near x ≡ true) (sym same) there))))
    (λ (other : u ≡ v → ⊥). rw (flag-set near v u false a, flag-set far v u true b, ne_eqb u v other) refl)
    (cases_eq u v)
  where
    or_near : (a c d : Bool) → a ≡ true → (a || (c || d)) ≡ true
    or_near a c d is = ap (λ b. b || (c || d)) is

-- a far one leaves and comes again
pub came_again : (near far fresh : List Bool) (v u : ℕ) → v < length far → is_flagged far v ≡ true →
    is_staged (record { near = near; far = slice_set (slice_set far v false) v true; fresh = fresh }) u ≡ is_staged (record { near = near; far = far; fresh = fresh }) u
came_again near far fresh v u b there =
    ap (λ c. is_flagged near u || (c || is_flagged fresh u)) (⊎_elim
    (λ (same : u ≡ v). subst (λ x. is_flagged (slice_set (slice_set far v false) v true) x ≡ is_flagged far x) (sym same) (get_or-set_same (slice_set far v false) v true false (rw (length-set far v false) b) ∙ sym there))
    (λ (other : u ≡ v → ⊥). get_or-set_other (slice_set far v false) v u true false other ∙ get_or-set_other far v u false false other)
    (cases_eq u v))
