-- Loads of machines, atom by atom, and their bound.
use Rattle.std.proofs.Common.{◌≡◌, ◌≢◌, ℕ, zero, suc, ◌+◌, ◌*◌, ◌<◌, ◌≤◌, inl, inr, List, [], ◌∷◌, ◌++◌, length, get_or, slice_index, set, take, All, sum, sum_by, eqb, cond, refl, sym, ap, ◌∙◌, subst, arith, get_or-set_other, get_or-set_same, length-set}
use Rattle.std.specs.List.{range_with_len, AllByRecursion}
use Rattle.std.proofs.Math.Nat.{mul-le-mul_left}
use Rattle.std.proofs.lemmas.Bool.{cases_lt, cases_eq, eq-eqb, ne_eqb, cond_both}
use Rattle.std.proofs.lemmas.List.{append_assoc, get_or_at, get_or_past, length_push, take_all}
use Rattle.std.proofs.lemmas.List.Elements.{All-from_recursion}
use Rattle.std.proofs.lemmas.List.Sums.{sum_by-cons, sum_by_more, sum_by_more_le_part}
use Rattle.std.proofs.lemmas.List.Sorted.{All-permutation, sum_by-IsPermutation}
use Rattle.graph_atoms.specs.atom_place.Placing.{all_atoms, IsFalling, load_of, IsLeastLoaded, IsPlacing, IsBalanced}

-- what an atom adds to the load of a machine
abbrev part_of : List ℕ → List ℕ → ℕ → ℕ → ℕ
part_of weights owners m a = cond (eqb (slice_index owners a) m) (slice_index weights a) 0

load_of-more : (weights owners order : List ℕ) (i m : ℕ) → i < length order
    → load_of weights owners (take (i + 1) order) m ≡ load_of weights owners (take i order) m + part_of weights owners m (slice_index order i)
load_of-more weights owners order i m inside = sum_by_more (part_of weights owners m) order i 0 inside

-- a change of one atom's owner changes no load of others
pub load_of-set : (weights owners : List ℕ) (a m : ℕ) (atoms : List ℕ) (k : ℕ) → AllByRecursion (λ b. b ≢ a) atoms → load_of weights (set owners a m) atoms k ≡ load_of weights owners atoms k
load_of-set weights owners a m [] k apart = refl
load_of-set weights owners a m (b ∷ atoms) k apart =
    let other : slice_index (set owners a m) b ≡ slice_index owners b = get_or-set_other owners a b m 0 apart.0 in
    sum_by-cons (part_of weights (set owners a m) k) b atoms
    ∙ ap (λ (o : ℕ). cond (eqb o k) (slice_index weights b) 0 + load_of weights (set owners a m) atoms k) other
    ∙ ap (λ (l : ℕ). part_of weights owners k b + l) (load_of-set weights owners a m atoms k apart.1)
    ∙ sym (sum_by-cons (part_of weights owners k) b atoms)

-- the same loads have the same least
pub IsLeastLoaded-same : (f g : ℕ → ℕ) (machines m : ℕ) → ((k : ℕ) → k < machines → f k ≡ g k) → IsLeastLoaded f machines m → IsLeastLoaded g machines m
IsLeastLoaded-same f g machines m same least =
    let below = least.below in
    let here = same m below in
    record {
      below = below;
      least = λ k h. omega (arith, here, same k h, least.least k h);
      lower = λ k h. omega (arith, here, same k (omega arith), least.lower k h);
    }

-- where so many atoms of the order were placed
pub record Placed (weights order owners loads : List ℕ) (machines i : ℕ) : Type 0 where
  pub each : length owners ≡ length weights
  pub machine_count : length loads ≡ machines
  pub carried : (m : ℕ) → m < machines → slice_index loads m ≡ load_of weights owners (take i order) m
  pub turns : (j : ℕ) → j < i → IsLeastLoaded (load_of weights owners (take j order)) machines (slice_index owners (slice_index order j))

-- of two atoms in an order neither is the other
order_apart : (weights order : List ℕ) (i j : ℕ) → IsFalling weights order → i < j → j < length order → slice_index order i ≢ slice_index order j
order_apart weights order i j falling before inside = λ e.
    elim (falling.falling i j 0 before inside) [
      | inl heavier ↦
          let same = ap (slice_index weights) e in
          omega (arith, heavier, same)
      | inr lower ↦ omega (arith, e, lower.1)
    ]

-- an atom of the order is none of those before it
before_apart : (weights order : List ℕ) (i j : ℕ) → IsFalling weights order → j ≤ i → i < length order → AllByRecursion (λ b. b ≢ slice_index order i) (take j order)
before_apart weights order i j falling le inside =
    none_of (slice_index order i) order j (λ k h. order_apart weights order k i falling (omega arith) inside)
  where
    none_of : (a : ℕ) (xs : List ℕ) (j : ℕ) → ((k : ℕ) → k < j → slice_index xs k ≢ a) → AllByRecursion (λ b. b ≢ a) (take j xs)
    none_of a xs zero apart = tt
    none_of a [] (suc j) apart = tt
    none_of a (x ∷ xs) (suc j) apart = (apart 0 (omega arith), none_of a xs j (λ k h. apart (suc k) (omega arith)))

pub Placed-more : (weights order owners loads : List ℕ) (machines i m : ℕ) → IsFalling weights order → Placed weights order owners loads machines i → i < length order → slice_index order i < length weights → IsLeastLoaded (slice_index loads) machines m
    → Placed weights order (set owners (slice_index order i) m) (set loads m (slice_index loads m + slice_index weights (slice_index order i))) machines (i + 1)
Placed-more weights order owners loads machines i m falling placed inside below least =
    let a : ℕ = slice_index order i in
    let w : ℕ = slice_index weights a in
    let owns : slice_index (set owners a m) a ≡ m = get_or-set_same owners a m 0 (omega (arith, placed.each)) in
    let kept = λ (j : ℕ) (le : j ≤ i) (k : ℕ).
    load_of-set weights owners a m (take j order) k (before_apart weights order i j falling le inside) in
    record {
      each = omega (arith, length-set owners a m, placed.each);
      machine_count = omega (arith, length-set loads m (slice_index loads m + w), placed.machine_count);
      carried = λ k h.
          let so_far = kept i (omega arith) k in
          let was = placed.carried k h in
          let more = load_of-more weights (set owners a m) order i k inside in
          let part : part_of weights (set owners a m) k a ≡ cond (eqb m k) w 0 = ap (λ (o : ℕ). cond (eqb o k) w 0) owns in
          elim (cases_eq k m) [
            | inl same ↦
                let here : get_or (set loads m (slice_index loads m + w)) k 0 ≡ slice_index loads m + w =
                ap (λ (n : ℕ). get_or (set loads m (slice_index loads m + w)) n 0) same
                ∙ get_or-set_same loads m (slice_index loads m + w) 0 (omega (arith, placed.machine_count, least.below)) in
                let loaded = ap (slice_index loads) same in
                let all : cond (eqb m k) w 0 ≡ w = rw (eq-eqb m k (sym same)) refl in
                omega (arith, here, was, so_far, more, part, all, loaded)
            | inr other ↦
                let here = get_or-set_other loads m k (slice_index loads m + w) 0 other in
                let none : cond (eqb m k) w 0 ≡ 0 = rw (ne_eqb m k (λ e. other (sym e))) refl in
                omega (arith, here, was, so_far, more, part, none)
          ];
      turns = λ j h. elim (cases_lt j i) [
        | inl earlier ↦
            let apart = order_apart weights order j i falling earlier inside in
            let owner : slice_index (set owners a m) (slice_index order j) ≡ slice_index owners (slice_index order j) = get_or-set_other owners a (slice_index order j) m 0 apart in
            rw owner (IsLeastLoaded-same (load_of weights owners (take j order)) (load_of weights (set owners a m) (take j order)) machines (slice_index owners (slice_index order j)) (λ k _. sym (kept j (omega arith) k)) (placed.turns j earlier))
        | inr now ↦
            let same : j ≡ i = omega arith in
            let turn : IsLeastLoaded (load_of weights (set owners a m) (take i order)) machines m =
            IsLeastLoaded-same (slice_index loads) (load_of weights (set owners a m) (take i order)) machines m (λ k l. placed.carried k l ∙ sym (kept i (omega arith) k)) least in
            subst (λ (n : ℕ). IsLeastLoaded (load_of weights (set owners a m) (take n order)) machines (slice_index (set owners a m) (slice_index order n))) (sym same)
            (subst (IsLeastLoaded (load_of weights (set owners a m) (take i order)) machines) (sym owns) turn)
      ];
    }

-- nothing is placed at first
pub Placed-none : (weights order owners loads : List ℕ) (machines : ℕ) → length owners ≡ length weights → length loads ≡ machines → ((m : ℕ) → slice_index loads m ≡ 0) → Placed weights order owners loads machines 0
Placed-none weights order owners loads machines each count empty =
    record {
      each = each;
      machine_count = count;
      carried = λ m h. empty m;
      turns = λ j h. absurd (omega arith);
    }

-- and all in the end
pub IsPlacing-from_placed : (weights order owners loads : List ℕ) (machines i : ℕ) → IsFalling weights order → Placed weights order owners loads machines i → length order ≤ i → IsPlacing weights machines owners
IsPlacing-from_placed weights order owners loads machines i falling placed all =
    record {
      each = placed.each;
      order = order;
      falling = falling;
      turns = λ j h. placed.turns j (omega arith);
    }

-- the weights, by the numbers of their atoms
sum_from : (weights front : List ℕ) (n : ℕ) → length front ≡ n → sum_by (slice_index (front ++ weights)) (range_with_len n (length weights)) ≡ sum weights
sum_from [] front n len = refl
sum_from (w ∷ weights) front n len =
    let here : slice_index (front ++ (w ∷ weights)) n ≡ w = get_or_at front w weights 0 n len in
    let rest = sum_from weights (front ++ w ∷ []) (n + 1) (length_push front w ∙ ap (λ (k : ℕ). k + 1) len) in
    let same : (front ++ w ∷ []) ++ weights ≡ front ++ (w ∷ weights) = append_assoc front (w ∷ []) weights in
    sum_by-cons (slice_index (front ++ (w ∷ weights))) n (range_with_len (n + 1) (length weights))
    ∙ ap (λ (x : ℕ). x + sum_by (slice_index (front ++ (w ∷ weights))) (range_with_len (n + 1) (length weights))) here
    ∙ ap (λ (xs : List ℕ). w + sum_by (slice_index xs) (range_with_len (n + 1) (length weights))) (sym same)
    ∙ ap (λ (s : ℕ). w + s) rest ∙ sym (sum_by-cons (λ (x : ℕ). x) w weights)

-- what the atoms of an order weigh
pub sum_order : (weights order : List ℕ) → IsFalling weights order → sum_by (slice_index weights) order ≡ sum weights
sum_order weights order falling =
    sum_by-IsPermutation (slice_index weights) (all_atoms weights) order falling.all ∙ sum_from weights [] 0 refl

-- numbers of a range are below its end
range_below : (a n limit : ℕ) → a + n ≤ limit → AllByRecursion (λ b. b < limit) (range_with_len a n)
range_below a zero limit h = tt
range_below a (suc n) limit h = (omega arith, range_below (a + 1) n limit (omega arith))

-- each atom of an order is one of the weights
pub order-below : (weights order : List ℕ) (i : ℕ) → IsFalling weights order → i < length order → slice_index order i < length weights
order-below weights order i falling inside =
    All-permutation (λ b. b < length weights) (all_atoms weights) order falling.all
    (All-from_recursion (λ b. b < length weights) (all_atoms weights) (range_below 0 (length weights) (length weights) (omega arith))) i 0 inside

part_of-le : (weights owners : List ℕ) (m a : ℕ) → part_of weights owners m a ≤ slice_index weights a
part_of-le weights owners m a = cond_both (eqb (slice_index owners a) m) (slice_index weights a) 0 (λ x. x ≤ slice_index weights a) (λ _. omega arith) (λ _. omega arith)

-- so no machine grows above what all weigh
pub load-fits : (weights order owners loads : List ℕ) (machines i m : ℕ) → IsFalling weights order → Placed weights order owners loads machines i → i < length order → m < machines → slice_index loads m + slice_index weights (slice_index order i) ≤ sum weights
load-fits weights order owners loads machines i m falling placed inside below =
    omega (arith, placed.carried m below, sum_by_more_le_part (part_of weights owners m) (slice_index weights) order i 0 inside (part_of-le weights owners m), sum_order weights order falling)

-- the sum over the first of the machines
total : (ℕ → ℕ) → ℕ → ℕ
total f zero = 0
total f (suc n) = total f n + f n

total_least : (f : ℕ → ℕ) (n x : ℕ) → ((k : ℕ) → k < n → x ≤ f k) → n * x ≤ total f n
unfolding total
total_least f zero x least = omega arith
total_least f (suc n) x least =
    let rest = total_least f n x (λ k h. least k (omega arith)) in
    omega (arith, rest, least n (omega arith))

total_same : (f g : ℕ → ℕ) (n : ℕ) → ((k : ℕ) → k < n → f k ≡ g k) → total f n ≡ total g n
unfolding total
total_same f g zero same = refl
total_same f g (suc n) same =
    let rest = total_same f g n (λ k h. same k (omega arith)) in
    omega (arith, rest, same n (omega arith))

total_sum : (f g : ℕ → ℕ) (n : ℕ) → total (λ k. f k + g k) n ≡ total f n + total g n
unfolding total
total_sum f g zero = refl
total_sum f g (suc n) = let rest = total_sum f g n in omega (arith, rest)

total_zero : (n : ℕ) → total (λ k. 0) n ≡ 0
unfolding total
total_zero zero = refl
total_zero (suc n) = let rest = total_zero n in omega (arith, rest)

none_hot : (o w n : ℕ) → n ≤ o → total (λ k. cond (eqb o k) w 0) n ≡ 0
unfolding total
none_hot o w zero h = refl
none_hot o w (suc n) h =
    let rest = none_hot o w n (omega arith) in
    rw (ne_eqb o n (λ e. omega arith)) (omega (arith, rest))

-- an atom adds its weight once
one_hot : (o w n : ℕ) → o < n → total (λ k. cond (eqb o k) w 0) n ≡ w
unfolding total
one_hot o w zero h = absurd (omega arith)
one_hot o w (suc n) h = elim (cases_eq o n) [
  | inl last ↦
      let rest = none_hot o w n (omega arith) in
      rw (eq-eqb o n last) (omega (arith, rest))
  | inr other ↦
      let rest = one_hot o w n (omega arith) in
      rw (ne_eqb o n other) (omega (arith, rest))
]

-- all loads together are what the atoms weigh
total_loads : (weights owners : List ℕ) (machines : ℕ) (atoms : List ℕ) → AllByRecursion (λ a. slice_index owners a < machines) atoms → total (load_of weights owners atoms) machines ≡ sum_by (slice_index weights) atoms
total_loads weights owners machines [] below = total_zero machines
total_loads weights owners machines (a ∷ atoms) below =
    total_same (load_of weights owners (a ∷ atoms)) (λ m. part_of weights owners m a + load_of weights owners atoms m) machines (λ m _. sum_by-cons (part_of weights owners m) a atoms)
    ∙ total_sum (λ m. part_of weights owners m a) (load_of weights owners atoms) machines
    ∙ ap (λ (x : ℕ). x + total (load_of weights owners atoms) machines) (one_hot (slice_index owners a) (slice_index weights a) machines below.0)
    ∙ ap (λ (x : ℕ). slice_index weights a + x) (total_loads weights owners machines atoms below.1)
    ∙ sym (sum_by-cons (slice_index weights) a atoms)

owned : (order owners : List ℕ) (machines i : ℕ) → i ≤ length order → ((j : ℕ) → j < length order → slice_index owners (slice_index order j) < machines) → AllByRecursion (λ a. slice_index owners a < machines) (take i order)
owned order owners machines zero h below = tt
owned [] owners machines (suc i) h below = tt
owned (a ∷ order) owners machines (suc i) h below =
    (below 0 (omega arith), owned order owners machines i (omega arith) (λ j l. below (suc j) (omega arith)))

-- the bound after so many atoms
balanced_at : (weights owners order : List ℕ) (machines heaviest : ℕ) → ((j : ℕ) → j < length order → IsLeastLoaded (load_of weights owners (take j order)) machines (slice_index owners (slice_index order j))) → ((a : ℕ) → slice_index weights a ≤ heaviest) → (i : ℕ) → i ≤ length order → (m : ℕ) → m < machines
    → machines * load_of weights owners (take i order) m ≤ sum_by (slice_index weights) (take i order) + machines * heaviest
balanced_at weights owners order machines heaviest turns light zero h m below = omega arith
balanced_at weights owners order machines heaviest turns light (suc i) h m below =
    let next : suc i ≡ i + 1 = omega arith in
    let a : ℕ = slice_index order i in
    let before = balanced_at weights owners order machines heaviest turns light i (omega arith) m below in
    let load = load_of-more weights owners order i m (omega arith) in
    let weighs = sum_by_more (slice_index weights) order i 0 (omega arith) in
    let step : machines * load_of weights owners (take (i + 1) order) m ≤ sum_by (slice_index weights) (take (i + 1) order) + machines * heaviest = elim (cases_eq (slice_index owners a) m) [
      | inl here ↦
          let turn = turns i (omega arith) in
          let loads = load_of weights owners (take i order) in
          let least = total_least loads machines (loads (slice_index owners a)) turn.least in
          let all = total_loads weights owners machines (take i order) (owned order owners machines i (omega arith) (λ j l. (turns j l).below)) in
          let part : part_of weights owners m a ≡ slice_index weights a = rw (eq-eqb (slice_index owners a) m here) refl in
          let at_m = ap loads here in
          let top = mul-le-mul_left machines (light a) in
          let product = ap (λ (x : ℕ). machines * x) load in
          let product_least = ap (λ (x : ℕ). machines * x) at_m in
          let product_part = ap (λ (x : ℕ). machines * x) part in
          omega (arith, least, all, top, product, product_least, product_part, weighs)
      | inr other ↦
          let part : part_of weights owners m a ≡ 0 = rw (ne_eqb (slice_index owners a) m other) refl in
          let same : load_of weights owners (take (i + 1) order) m ≡ load_of weights owners (take i order) m = omega (arith, load, part) in
          let product = ap (λ (x : ℕ). machines * x) same in
          omega (arith, product, before, weighs)
    ] in
    subst (λ (k : ℕ). machines * load_of weights owners (take k order) m ≤ sum_by (slice_index weights) (take k order) + machines * heaviest) (sym next) step

-- where each atom went to the least loaded machine, loads are balanced
pub IsBalanced-from_placing : (weights : List ℕ) (machines : ℕ) (owners : List ℕ) → IsPlacing weights machines owners → IsBalanced weights machines owners
IsBalanced-from_placing weights machines owners placing = λ heaviest m light below.
    let order = placing.order in
    let all = balanced_at weights owners order machines heaviest placing.turns (light_at heaviest light) (length order) (omega arith) m below in
    let whole : take (length order) order ≡ order = take_all (length order) order (omega arith) in
    let same = sum_by-IsPermutation (part_of weights owners m) (all_atoms weights) order placing.falling.all in
    let product = ap (λ (x : ℕ). machines * x) same in
    let ended = rw whole at all in
    omega (arith, ended, product, sum_order weights order placing.falling)
  where
    light_at : (heaviest : ℕ) → All (λ w. w ≤ heaviest) weights → (a : ℕ) → slice_index weights a ≤ heaviest
    light_at heaviest light a = elim (cases_lt a (length weights)) [
      | inl inside ↦ light a 0 inside
      | inr past ↦ omega (arith, get_or_past weights a 0 past)
    ]
