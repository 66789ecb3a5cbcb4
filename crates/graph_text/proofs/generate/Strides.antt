-- Lemmas on strides and offsets.
use Rattle.std.proofs.Common.{◌≡◌, ◌≢◌, ◌⊎◌, ℕ, zero, suc, ◌+◌, ◌-◌, ◌*◌, ◌/◌, ◌%◌, ◌<◌, ◌≤◌, inl, inr, sym, ap, ◌∙◌, subst, arith}
use Rattle.std.specs.Int.{IsGcd, ◌∣◌}
use Rattle.std.proofs.Math.Nat.{dvd-mod_iff, dvd-mul_left_of_dvd, dvd-mul_left, dvd-mul_right, dvd-sub, dvd_of_mod-eq-zero, le_of_dvd, dvd_refl, mod-add-div', mod-eq_of_lt, mod-eq-sub-mod, mul-le-mul_left}
use Rattle.std.proofs.lemmas.Nat.Gcd.{IsGcd-from_sub, IsGcd-from_zero, same_from_IsGcd}
use Rattle.std.proofs.lemmas.Bool.{cases_eq, cases_lt}
use Rattle.gl_base.specs.declared.jobs.MakePlan.{MakePlan}
use Rattle.graph_text.specs.generate.Making.{IsPlanInRange, IsStep, IsStride, HaveSameEnds, edge_from, edge_to, offset_count, neighbour_offset}

one_divides : (n : ℕ) → 1 ∣ n
one_divides n = dvd_of_mod-eq-zero 1 (omega arith)

-- the number after `half` will always do
pub step_after : (half : ℕ) → IsStep half (half + 1)
step_after half =
    let rest : half + 1 - half ≡ 1 = omega arith in
    let one : IsGcd 1 half 1 = (dvd_refl 1, one_divides half, λ d p q. p) in
    record {
      some = omega arith;
      large = omega arith;
      apart = IsGcd-from_sub (half + 1) half 1 (omega arith) (subst (λ (n : ℕ). IsGcd n half 1) (sym rest) one);
    }

-- a number with a common divisor won't
pub not_a_step : (half t g : ℕ) → IsGcd t half g → (g ≡ 1 → ⊥) → IsStep half t → ⊥
not_a_step half t g gcd apart step = apart (same_from_IsGcd t half g 1 gcd step.apart)

-- a number that divides two multiples divides the same multiple of the greatest common divisor
split : (r q b k a : ℕ) → r + q * b ≡ a → a * k - q * (b * k) ≡ r * k
split r q b k a e =
    let spread : (r + q * b) * k ≡ r * k + q * (b * k) = omega arith in
    subst (λ (n : ℕ). n * k - q * (b * k) ≡ r * k) e (omega (arith, spread))

divides_multiple : (fuel a b g d k : ℕ) → b < fuel → IsGcd a b g → d ∣ a * k → d ∣ b * k → d ∣ g * k
divides_multiple zero a b g d k below gcd p q = absurd (omega (arith, below))
divides_multiple (suc fuel) a b g d k below gcd p q = elim (cases_eq b 0) [
  | inl none ↦ subst (λ (n : ℕ). d ∣ n * k) (same_from_IsGcd a b a g (IsGcd-from_zero a b none) gcd) p
  | inr some ↦
      let small : a % b < b = omega (arith, some) in
      let step : IsGcd b (a % b) g = (gcd.1, (dvd-mod_iff g gcd.1).1 gcd.0, λ e x y. gcd.2 e ((dvd-mod_iff e x).0 y) x) in
      let rest : d ∣ a * k - a / b * (b * k) = dvd-sub d p (dvd-mul_left_of_dvd d q (a / b)) in
      divides_multiple fuel b (a % b) g d k (omega (arith, small, below)) step q
      (subst (λ (n : ℕ). d ∣ n) (split (a % b) (a / b) b k a (mod-add-div' a b)) rest)
]

-- a number that divides a product and has no common divisor with the first factor divides the second
divides_other : (s h k : ℕ) → IsGcd s h 1 → h ∣ s * k → h ∣ k
divides_other s h k gcd p =
    let r : h ∣ 1 * k = divides_multiple (h + 1) s h 1 h k (omega arith) gcd p (dvd-mul_right h k) in
    subst (λ (n : ℕ). h ∣ n) (omega arith) r

-- two numbers with one remainder are a multiple apart
apart_by : (x y rx ry px py : ℕ) → rx + px ≡ x → ry + py ≡ y → rx ≡ ry → py - px ≡ y - x
apart_by x y rx ry px py ex ey e = omega (arith, ex, ey, e)

divides_difference : (h x y : ℕ) → x % h ≡ y % h → h ∣ y - x
divides_difference h x y e =
    subst (λ (n : ℕ). h ∣ n) (apart_by x y (x % h) (y % h) (x / h * h) (y / h * h) (mod-add-div' x h) (mod-add-div' y h) e)
    (dvd-sub h (dvd-mul_left h (y / h)) (dvd-mul_left h (x / h)))

difference : (number s i e : ℕ) → (number + (i + e) * s) - (number + i * s) ≡ s * e
difference number s i e =
    let spread : number + (i + e) * s ≡ (number + i * s) + s * e = omega arith in
    omega (arith, spread)

remainders_apart : (number s h i j : ℕ) → IsGcd s h 1 → i < j → j < h → (number + i * s) % h ≡ (number + j * s) % h → ⊥
remainders_apart number s h i j gcd order inside same =
    let e = j - i in
    let j_is : i + (j - i) ≡ j = omega (arith, order) in
    let p : h ∣ (number + j * s) - (number + i * s) = divides_difference h (number + i * s) (number + j * s) same in
    let q : h ∣ s * (j - i) = subst (λ (n : ℕ). h ∣ n) (subst (λ (m : ℕ). (number + m * s) - (number + i * s) ≡ s * (j - i)) j_is (difference number s i (j - i))) p in
    let r = divides_other s h (j - i) gcd q in
    let some : 0 < j - i = omega (arith, order) in
    let low = le_of_dvd some r in
    omega (arith, low, order, inside)

-- offsets are apart
pub offsets_apart : (number half stride i j : ℕ) → IsStride half stride → i < half → j < half → i ≢ j → neighbour_offset number half stride i ≢ neighbour_offset number half stride j
offsets_apart number half stride i j is i_in j_in apart same =
    let equal : (number + i * stride) % half ≡ (number + j * stride) % half = omega (arith, same) in
    elim (cases_lt i j) [
      | inl below ↦ remainders_apart number stride half i j is.step.apart below j_in equal
      | inr above ↦ remainders_apart number stride half j i is.step.apart (omega (arith, above, apart)) i_in (sym equal)
    ]

-- and below half of the vertices
pub offset_small : (number vertices stride k : ℕ) → 0 < offset_count vertices → (1 ≤ neighbour_offset number (offset_count vertices) stride k) × (neighbour_offset number (offset_count vertices) stride k * 2 < vertices)
offset_small number vertices stride k some =
    let low : (number + k * stride) % offset_count vertices < offset_count vertices = omega (arith, some) in
    (omega arith, omega (arith, low, some))

pub one_stride : (half t u : ℕ) → IsStride half t → IsStride half u → t ≡ u
one_stride half t u a b =
    let up = a.least u b.step in
    let down = b.least t a.step in
    omega (arith, up, down)

-- a step round the circle
abbrev Wraps : ℕ → ℕ → ℕ → ℕ → Type 0
Wraps a d n to = ((to ≡ a + d) × (to < n)) ⊎ ((to + n ≡ a + d) × (to < n))

wraps : (a d n : ℕ) → a < n → d < n → Wraps a d n ((a + d) % n)
wraps a d n a_in d_in = elim (cases_lt (a + d) n) [
  | inl below ↦ let same = mod-eq_of_lt below in inl (same, omega (arith, same, below))
  | inr above ↦
      let small : a + d - n < n = omega (arith, a_in, d_in) in
      let same = mod-eq-sub-mod above ∙ mod-eq_of_lt small in
      inr (omega (arith, same, above), omega (arith, same, small))
]

step_is_no_loop : (a d n to : ℕ) → 1 ≤ d → d < n → Wraps a d n to → a ≢ to
step_is_no_loop a d n to some small (inl w) e = omega (arith, w.0, some, e)
step_is_no_loop a d n to some small (inr w) e = omega (arith, w.0, small, e)

same_steps : (a b d e n to other : ℕ) → d < n → e < n → Wraps a d n to → Wraps b e n other → a ≡ b → to ≡ other → d ≡ e
same_steps a b d e n to other d_in e_in (inl w) (inl v) start end = omega (arith, w.0, v.0, start, end)
same_steps a b d e n to other d_in e_in (inl w) (inr v) start end = absurd (omega (arith, w.0, w.1, v.0, e_in, start, end))
same_steps a b d e n to other d_in e_in (inr w) (inl v) start end = absurd (omega (arith, w.0, v.0, v.1, d_in, start, end))
same_steps a b d e n to other d_in e_in (inr w) (inr v) start end = omega (arith, w.0, v.0, start, end)

no_way_back : (a b d e n to other : ℕ) → 1 ≤ d → 1 ≤ e → d * 2 < n → e * 2 < n → Wraps a d n to → Wraps b e n other → a ≡ other → to ≡ b → ⊥
no_way_back a b d e n to other d_some e_some d_in e_in (inl w) (inl v) start end = omega (arith, w.0, v.0, d_some, e_some, start, end)
no_way_back a b d e n to other d_some e_some d_in e_in (inl w) (inr v) start end = omega (arith, w.0, v.0, d_in, e_in, d_some, e_some, start, end)
no_way_back a b d e n to other d_some e_some d_in e_in (inr w) (inl v) start end = omega (arith, w.0, v.0, d_in, e_in, d_some, e_some, start, end)
no_way_back a b d e n to other d_some e_some d_in e_in (inr w) (inr v) start end = omega (arith, w.0, v.0, d_in, e_in, start, end)

-- an edge of a plan: there are vertices and offsets, and its turn is that of an offset
record Stands (plan : MakePlan) (i : ℕ) : Type 0 where
  vertices : 0 < plan.vertices
  offsets : 0 < offset_count plan.vertices
  turn : i / plan.vertices < offset_count plan.vertices

positive : (n h m i : ℕ) → i < m → m ≤ n * h → (0 < n) × (0 < h)
positive zero h m i inside few = absurd (let none : 0 * h ≡ 0 = omega arith in omega (arith, inside, few, none))
positive (suc n) zero m i inside few = absurd (let none : suc n * 0 ≡ 0 = omega arith in omega (arith, inside, few, none))
positive (suc n) (suc h) m i inside few = (omega arith, omega arith)

turn_below : (n h m i : ℕ) → 0 < n → i < m → m ≤ n * h → i / n < h
turn_below n h m i some inside few = elim (cases_lt (i / n) h) [
  | inl below ↦ below
  | inr above ↦
      let much = mul-le-mul_left n above in
      let parts : n * (i / n) + i % n ≡ i = omega (arith, some) in
      absurd (omega (arith, much, parts, inside, few))
]

stands : (plan : MakePlan) (i : ℕ) → IsPlanInRange plan → i < plan.edges → Stands plan i
stands plan i ranges inside =
    let some = positive plan.vertices (offset_count plan.vertices) plan.edges i inside ranges.offsets in
    record { vertices = some.0; offsets = some.1; turn = turn_below plan.vertices (offset_count plan.vertices) plan.edges i some.0 inside ranges.offsets }

edge_wraps : (plan : MakePlan) (stride i : ℕ) → Stands plan i → Wraps (edge_from plan i) (neighbour_offset plan.number (offset_count plan.vertices) stride (i / plan.vertices)) plan.vertices (edge_to plan stride i)
edge_wraps plan stride i s =
    let small = offset_small plan.number plan.vertices stride (i / plan.vertices) s.offsets in
    wraps (edge_from plan i) (neighbour_offset plan.number (offset_count plan.vertices) stride (i / plan.vertices)) plan.vertices (omega (arith, s.vertices)) (omega (arith, small.1))

pub no_loop : (plan : MakePlan) (stride i : ℕ) → IsPlanInRange plan → i < plan.edges → edge_from plan i ≢ edge_to plan stride i
no_loop plan stride i ranges inside =
    let s = stands plan i ranges inside in
    let small = offset_small plan.number plan.vertices stride (i / plan.vertices) s.offsets in
    step_is_no_loop (edge_from plan i) (neighbour_offset plan.number (offset_count plan.vertices) stride (i / plan.vertices)) plan.vertices (edge_to plan stride i) small.0 (omega (arith, small.1)) (edge_wraps plan stride i s)

same_index : (n i j : ℕ) → i % n ≡ j % n → i / n ≡ j / n → i ≡ j
same_index n i j low high =
    let a = mod-add-div' i n in
    let b = mod-add-div' j n in
    let c : i / n * n ≡ j / n * n = ap (λ (k : ℕ). k * n) high in
    sym a ∙ ap (λ (k : ℕ). k + i / n * n) low ∙ ap (λ (k : ℕ). j % n + k) c ∙ b

pub no_double : (plan : MakePlan) (stride i j : ℕ) → IsPlanInRange plan → IsStride (offset_count plan.vertices) stride → i < plan.edges → j < plan.edges → i ≢ j → HaveSameEnds plan stride i j → ⊥
no_double plan stride i j ranges is i_in j_in apart (inl same) =
    let s = stands plan i ranges i_in in
    let t = stands plan j ranges j_in in
    let h = offset_count plan.vertices in
    let d = offset_small plan.number plan.vertices stride (i / plan.vertices) s.offsets in
    let e = offset_small plan.number plan.vertices stride (j / plan.vertices) t.offsets in
    let steps = same_steps (edge_from plan i) (edge_from plan j) (neighbour_offset plan.number h stride (i / plan.vertices)) (neighbour_offset plan.number h stride (j / plan.vertices)) plan.vertices (edge_to plan stride i) (edge_to plan stride j)
    (omega (arith, d.1)) (omega (arith, e.1)) (edge_wraps plan stride i s) (edge_wraps plan stride j t) same.0 same.1 in
    elim (cases_eq (i / plan.vertices) (j / plan.vertices)) [
      | inl turn ↦ apart (same_index plan.vertices i j same.0 turn)
      | inr turns ↦ offsets_apart plan.number h stride (i / plan.vertices) (j / plan.vertices) is s.turn t.turn turns steps
    ]
no_double plan stride i j ranges is i_in j_in apart (inr back) =
    let s = stands plan i ranges i_in in
    let t = stands plan j ranges j_in in
    let h = offset_count plan.vertices in
    let d = offset_small plan.number plan.vertices stride (i / plan.vertices) s.offsets in
    let e = offset_small plan.number plan.vertices stride (j / plan.vertices) t.offsets in
    no_way_back (edge_from plan i) (edge_from plan j) (neighbour_offset plan.number h stride (i / plan.vertices)) (neighbour_offset plan.number h stride (j / plan.vertices)) plan.vertices (edge_to plan stride i) (edge_to plan stride j)
    d.0 e.0 d.1 e.1 (edge_wraps plan stride i s) (edge_wraps plan stride j t) back.0 back.1
