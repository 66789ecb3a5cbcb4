-- Cuts of an order that goes on.
use Rattle.std.proofs.Common.{◌≡◌, ℕ, zero, suc, pred, ◌<◌, ◌≤◌, Bool, true, false, ◌≢◌, ◌⊎◌, List, [], ◌∷◌, ◌++◌, length, take, if◌then◌else◌, ◌==◌, sym, refl, ap, ◌∙◌, subst, ap₂, subst₂, inl, inr, ⊎_elim, le_trans, arith, eq-eqb, ne_eqb}
use Rattle.std.proofs.lemmas.Bool.{cases_eq, cases_Bool, cond-true, cond-false}
use Rattle.gl_base.specs.declared.entries.Entry.{Entry}
use Rattle.gl_base.specs.declared.entries.Entry.TheVariants.{Go, Restart}
use Rattle.gl_base.specs.declared.numbers.MachineNo.{MachineNo}
use Rattle.gl_base.specs.declared.numbers.Vertex.{Vertex}
use Rattle.cluster_laws.specs.cluster_core.Cuts.{updates_of, cut_of, updates_at, Begins}
use Rattle.cluster_laws.specs.cluster_core.Ranges.{set_at}
use Rattle.cluster_laws.proofs.cluster_core.Basics.{set_at-cases, set_at-here, set_at-there}

-- ---- counts

suc_if : (b : Bool) (n : ℕ) → suc (if b then suc n else n) ≡ (if b then suc (suc n) else suc n)
suc_if true n = refl
suc_if false n = refl

updates_of-push : (v : ℕ) (order : List Entry) (m : MachineNo) (u : Vertex) (t : ℕ) → updates_of v (order ++ Go m u t ∷ []) ≡ (if u.0 == v then suc (updates_of v order) else updates_of v order)
updates_of-push v [] m u t = refl
updates_of-push v (Restart ticket ∷ order) m u t = updates_of-push v order m u t
updates_of-push v (Go machine vertex ticket ∷ order) m u t = ⊎_elim
    (λ (here : (vertex.0 == v) ≡ true).
    cond-true (vertex.0 == v) (suc (updates_of v (order ++ Go m u t ∷ []))) (updates_of v (order ++ Go m u t ∷ [])) here
    ∙ ap suc (updates_of-push v order m u t) ∙ suc_if (u.0 == v) (updates_of v order)
    ∙ ap (λ n. if u.0 == v then suc n else n) (sym (cond-true (vertex.0 == v) (suc (updates_of v order)) (updates_of v order) here)))
    (λ (there : (vertex.0 == v) ≡ false).
    cond-false (vertex.0 == v) (suc (updates_of v (order ++ Go m u t ∷ []))) (updates_of v (order ++ Go m u t ∷ [])) there
    ∙ updates_of-push v order m u t
    ∙ ap (λ n. if u.0 == v then suc n else n) (sym (cond-false (vertex.0 == v) (suc (updates_of v order)) (updates_of v order) there)))
    (cases_Bool (vertex.0 == v))

pub updates_push-same : (v : ℕ) (order : List Entry) (m : MachineNo) (u : Vertex) (t : ℕ) → u.0 ≡ v → updates_of v (order ++ Go m u t ∷ []) ≡ suc (updates_of v order)
updates_push-same v order m u t same = updates_of-push v order m u t ∙ cond-true (u.0 == v) (suc (updates_of v order)) (updates_of v order) (eq-eqb u.0 v same)

pub updates_push-other : (v : ℕ) (order : List Entry) (m : MachineNo) (u : Vertex) (t : ℕ) → u.0 ≢ v → updates_of v (order ++ Go m u t ∷ []) ≡ updates_of v order
updates_push-other v order m u t other = updates_of-push v order m u t ∙ cond-false (u.0 == v) (suc (updates_of v order)) (updates_of v order) (ne_eqb u.0 v other)

-- ---- one entry at the front

updates_front-same : (v : ℕ) (order : List Entry) (m : MachineNo) (u : Vertex) (t : ℕ) → u.0 ≡ v → updates_of v (Go m u t ∷ order) ≡ suc (updates_of v order)
updates_front-same v order m u t same = cond-true (u.0 == v) (suc (updates_of v order)) (updates_of v order) (eq-eqb u.0 v same)

updates_front-other : (v : ℕ) (order : List Entry) (m : MachineNo) (u : Vertex) (t : ℕ) → u.0 ≢ v → updates_of v (Go m u t ∷ order) ≡ updates_of v order
updates_front-other v order m u t other = cond-false (u.0 == v) (suc (updates_of v order)) (updates_of v order) (ne_eqb u.0 v other)

-- the counts that are left behind an update of u that is in the cut
abbrev left_of : (ℕ → ℕ) → Vertex → ℕ → ℕ
left_of count u = set_at count u.0 (pred (count u.0))

cut_skips : (count : ℕ → ℕ) (m : MachineNo) (u : Vertex) (t : ℕ) (order : List Entry) → count u.0 ≡ 0 → cut_of count (Go m u t ∷ order) ≡ cut_of count order
cut_skips count m u t order none = cond-true (count u.0 == 0) (cut_of count order) (Go m u t ∷ cut_of (left_of count u) order) (eq-eqb (count u.0) 0 none)

cut_takes : (count : ℕ → ℕ) (m : MachineNo) (u : Vertex) (t : ℕ) (order : List Entry) → count u.0 ≢ 0 → cut_of count (Go m u t ∷ order) ≡ Go m u t ∷ cut_of (left_of count u) order
cut_takes count m u t order some = cond-false (count u.0 == 0) (cut_of count order) (Go m u t ∷ cut_of (left_of count u) order) (ne_eqb (count u.0) 0 some)

pred_above : (n k : ℕ) → suc n < k → n < pred k
pred_above n zero low = absurd (omega arith)
pred_above n (suc k) low = omega arith

pred_within : (n k : ℕ) → k ≤ suc n → pred k ≤ n
pred_within n zero low = omega arith
pred_within n (suc k) low = omega arith

pred_enough : (n k : ℕ) → suc n ≤ k → n ≤ pred k
pred_enough n zero low = absurd (omega arith)
pred_enough n (suc k) low = omega arith

-- ---- one more update, in the cut or not

module _ (m : MachineNo) (u : Vertex) (t : ℕ) where
  abbrev last : List Entry
  last = Go m u t ∷ []

  pub cut_push-in : (count : ℕ → ℕ) (order : List Entry) → updates_of u.0 order < count u.0 → cut_of count (order ++ last) ≡ cut_of count order ++ last
  cut_push-in count [] low = cut_takes count m u t [] (λ none. absurd (omega arith))
  cut_push-in count (Restart ticket ∷ order) low = ap (λ es. Restart ticket ∷ es) (cut_push-in count order low)
  cut_push-in count (Go machine vertex ticket ∷ order) low = ⊎_elim
      (λ (none : count vertex.0 ≡ 0).
      let other : vertex.0 ≢ u.0 = λ same. let its : count vertex.0 ≡ count u.0 = ap count same in absurd (omega arith) in
      let few : updates_of u.0 order < count u.0 = subst (λ n. n < count u.0) (updates_front-other u.0 order machine vertex ticket other) low in
      cut_skips count machine vertex ticket (order ++ last) none ∙ cut_push-in count order few ∙ ap (λ es. es ++ last) (sym (cut_skips count machine vertex ticket order none)))
      (λ (some : count vertex.0 ≡ 0 → ⊥).
      let few : updates_of u.0 order < left_of count vertex u.0 =
      set_at-cases (λ n. updates_of u.0 order < n) count vertex.0 (pred (count vertex.0)) u.0
      (λ same. pred_above (updates_of u.0 order) (count vertex.0) (subst₂ (λ n k. n < k) (updates_front-same u.0 order machine vertex ticket (sym same)) (ap count same) low))
      (λ other. subst (λ n. n < count u.0) (updates_front-other u.0 order machine vertex ticket (λ same. other (sym same))) low) in
      cut_takes count machine vertex ticket (order ++ last) some ∙ ap (λ es. Go machine vertex ticket ∷ es) (cut_push-in (left_of count vertex) order few)
      ∙ ap (λ es. es ++ last) (sym (cut_takes count machine vertex ticket order some)))
      (cases_eq (count vertex.0) 0)

  pub cut_push-out : (count : ℕ → ℕ) (order : List Entry) → count u.0 ≤ updates_of u.0 order → cut_of count (order ++ last) ≡ cut_of count order
  cut_push-out count [] low = cut_skips count m u t [] (omega arith)
  cut_push-out count (Restart ticket ∷ order) low = ap (λ es. Restart ticket ∷ es) (cut_push-out count order low)
  cut_push-out count (Go machine vertex ticket ∷ order) low = ⊎_elim
      (λ (none : count vertex.0 ≡ 0).
      let few : count u.0 ≤ updates_of u.0 order = ⊎_elim
      (λ (same : vertex.0 ≡ u.0). let its : count vertex.0 ≡ count u.0 = ap count same in omega arith)
      (λ (other : vertex.0 ≡ u.0 → ⊥). subst (λ n. count u.0 ≤ n) (updates_front-other u.0 order machine vertex ticket other) low)
      (cases_eq vertex.0 u.0) in
      cut_skips count machine vertex ticket (order ++ last) none ∙ cut_push-out count order few ∙ sym (cut_skips count machine vertex ticket order none))
      (λ (some : count vertex.0 ≡ 0 → ⊥).
      let few : left_of count vertex u.0 ≤ updates_of u.0 order =
      set_at-cases (λ n. n ≤ updates_of u.0 order) count vertex.0 (pred (count vertex.0)) u.0
      (λ same. pred_within (updates_of u.0 order) (count vertex.0) (subst₂ (λ k n. k ≤ n) (ap count same) (updates_front-same u.0 order machine vertex ticket (sym same)) low))
      (λ other. subst (λ n. count u.0 ≤ n) (updates_front-other u.0 order machine vertex ticket (λ same. other (sym same))) low) in
      cut_takes count machine vertex ticket (order ++ last) some ∙ ap (λ es. Go machine vertex ticket ∷ es) (cut_push-out (left_of count vertex) order few)
      ∙ sym (cut_takes count machine vertex ticket order some))
      (cases_eq (count vertex.0) 0)

-- ---- counts that are enough

-- each count is the same, or both are enough for all updates
abbrev pub AreAsGood : (ℕ → ℕ) → (ℕ → ℕ) → List Entry → Type 0
AreAsGood one other order = (v : ℕ) → (one v ≡ other v) ⊎ ((updates_of v order ≤ one v) × (updates_of v order ≤ other v))

front_more : (v : ℕ) (order : List Entry) (m : MachineNo) (u : Vertex) (t : ℕ) → updates_of v order ≤ updates_of v (Go m u t ∷ order)
front_more v order m u t = ⊎_elim
    (λ (same : u.0 ≡ v). subst (λ n. updates_of v order ≤ n) (sym (updates_front-same v order m u t same)) (omega arith))
    (λ (other : u.0 ≡ v → ⊥). subst (λ n. updates_of v order ≤ n) (sym (updates_front-other v order m u t other)) (omega arith))
    (cases_eq u.0 v)

good_behind : (one other : ℕ → ℕ) (order : List Entry) (m : MachineNo) (u : Vertex) (t : ℕ) → AreAsGood one other (Go m u t ∷ order) → AreAsGood one other order
good_behind one other order m u t good v = ⊎_elim
    (λ (same : one v ≡ other v). inl same)
    (λ (enough : (updates_of v (Go m u t ∷ order) ≤ one v) × (updates_of v (Go m u t ∷ order) ≤ other v)).
    let more = front_more v order m u t in
    inr (le_trans more enough.0, le_trans more enough.1))
    (good v)

good_left : (one other : ℕ → ℕ) (order : List Entry) (m : MachineNo) (u : Vertex) (t : ℕ) → AreAsGood one other (Go m u t ∷ order) → AreAsGood (left_of one u) (left_of other u) order
good_left one other order m u t good v = ⊎_elim
    (λ (here : v ≡ u.0).
    let one_is : left_of one u v ≡ pred (one u.0) = set_at-here (λ n. n) one u.0 (pred (one u.0)) v here in
    let other_is : left_of other u v ≡ pred (other u.0) = set_at-here (λ n. n) other u.0 (pred (other u.0)) v here in
    ⊎_elim
    (λ (same : one v ≡ other v). inl (one_is ∙ ap pred (ap one (sym here) ∙ same ∙ ap other here) ∙ sym other_is))
    (λ (enough : (updates_of v (Go m u t ∷ order) ≤ one v) × (updates_of v (Go m u t ∷ order) ≤ other v)).
    let front = updates_front-same v order m u t (sym here) in
    inr (
      subst (λ n. updates_of v order ≤ n) (sym one_is) (pred_enough (updates_of v order) (one u.0) (subst₂ (λ n k. n ≤ k) front (ap one here) enough.0)),
      subst (λ n. updates_of v order ≤ n) (sym other_is) (pred_enough (updates_of v order) (other u.0) (subst₂ (λ n k. n ≤ k) front (ap other here) enough.1)),
    ))
    (good v))
    (λ (there : v ≡ u.0 → ⊥).
    let one_is : left_of one u v ≡ one v = set_at-there (λ n. n) one u.0 (pred (one u.0)) v there in
    let other_is : left_of other u v ≡ other v = set_at-there (λ n. n) other u.0 (pred (other u.0)) v there in
    ⊎_elim
    (λ (same : one v ≡ other v). inl (one_is ∙ same ∙ sym other_is))
    (λ (enough : (updates_of v order ≤ one v) × (updates_of v order ≤ other v)).
    inr (subst (λ n. updates_of v order ≤ n) (sym one_is) enough.0, subst (λ n. updates_of v order ≤ n) (sym other_is) enough.1))
    (good_behind one other order m u t good v))
    (cases_eq v u.0)

pub cut_same : (one other : ℕ → ℕ) (order : List Entry) → AreAsGood one other order → cut_of one order ≡ cut_of other order
cut_same one other [] good = refl
cut_same one other (Restart ticket ∷ order) good = ap (λ es. Restart ticket ∷ es) (cut_same one other order good)
cut_same one other (Go m u t ∷ order) good =
    let rest = cut_same one other order (good_behind one other order m u t good) in
    let behind = cut_same (left_of one u) (left_of other u) order (good_left one other order m u t good) in
    let taken_both : one u.0 ≢ 0 → other u.0 ≢ 0 → cut_of one (Go m u t ∷ order) ≡ cut_of other (Go m u t ∷ order) =
    λ some more. cut_takes one m u t order some ∙ ap (λ es. Go m u t ∷ es) behind ∙ sym (cut_takes other m u t order more) in
    ⊎_elim
    (λ (same : one u.0 ≡ other u.0). ⊎_elim
    (λ (none : one u.0 ≡ 0). cut_skips one m u t order none ∙ rest ∙ sym (cut_skips other m u t order (sym same ∙ none)))
    (λ (some : one u.0 ≡ 0 → ⊥). taken_both some (λ none. some (same ∙ none)))
    (cases_eq (one u.0) 0))
    (λ (enough : (updates_of u.0 (Go m u t ∷ order) ≤ one u.0) × (updates_of u.0 (Go m u t ∷ order) ≤ other u.0)).
    let front = updates_front-same u.0 order m u t refl in
    let low : suc (updates_of u.0 order) ≤ one u.0 = subst (λ n. n ≤ one u.0) front enough.0 in
    let other_low : suc (updates_of u.0 order) ≤ other u.0 = subst (λ n. n ≤ other u.0) front enough.1 in
    taken_both (λ none. absurd (omega arith)) (λ none. absurd (omega arith)))
    (good u.0)

-- with a count of all updates the cut is the whole order
pub cut_all : (order : List Entry) (count : ℕ → ℕ) → ((v : ℕ) → updates_of v order ≤ count v) → cut_of count order ≡ order
cut_all [] count enough = refl
cut_all (Restart ticket ∷ order) count enough = ap (λ es. Restart ticket ∷ es) (cut_all order count enough)
cut_all (Go m u t ∷ order) count enough =
    let low : suc (updates_of u.0 order) ≤ count u.0 = subst (λ n. n ≤ count u.0) (updates_front-same u.0 order m u t refl) (enough u.0) in
    cut_takes count m u t order (λ none. absurd (omega arith))
    ∙ ap (λ es. Go m u t ∷ es) (cut_all order (left_of count u) (λ v.
    set_at-cases (λ n. updates_of v order ≤ n) count u.0 (pred (count u.0)) v
    (λ same. subst (λ x. updates_of x order ≤ pred (count u.0)) (sym same) (pred_enough (updates_of u.0 order) (count u.0) low))
    (λ other. le_trans (front_more v order m u t) (enough v))))

-- ---- what a cut has of one vertex

take_none : (n : ℕ) → take {A = Entry} n [] ≡ []
take_none zero = refl
take_none (suc n) = refl

take_some : (n : ℕ) (entry : Entry) (entries : List Entry) → n ≢ 0 → take n (entry ∷ entries) ≡ entry ∷ take (pred n) entries
take_some zero entry entries some = absurd (some refl)
take_some (suc n) entry entries some = refl

updates_at-here : (v : ℕ) (m : MachineNo) (u : Vertex) (t : ℕ) (order : List Entry) → u.0 ≡ v → updates_at v (Go m u t ∷ order) ≡ Go m u t ∷ updates_at v order
updates_at-here v m u t order same = cond-true (u.0 == v) (Go m u t ∷ updates_at v order) (updates_at v order) (eq-eqb u.0 v same)

updates_at-there : (v : ℕ) (m : MachineNo) (u : Vertex) (t : ℕ) (order : List Entry) → u.0 ≢ v → updates_at v (Go m u t ∷ order) ≡ updates_at v order
updates_at-there v m u t order other = cond-false (u.0 == v) (Go m u t ∷ updates_at v order) (updates_at v order) (ne_eqb u.0 v other)

-- of each vertex the cut has the first updates, as many as are counted
pub cut_updates : (v : ℕ) (count : ℕ → ℕ) (order : List Entry) → updates_at v (cut_of count order) ≡ take (count v) (updates_at v order)
cut_updates v count [] = sym (take_none (count v))
cut_updates v count (Restart ticket ∷ order) = cut_updates v count order
cut_updates v count (Go m u t ∷ order) = ⊎_elim
    (λ (none : count u.0 ≡ 0). ap (updates_at v) (cut_skips count m u t order none) ∙ ⊎_elim
    (λ (same : u.0 ≡ v).
    let nothing : count v ≡ 0 = ap count (sym same) ∙ none in
    cut_updates v count order ∙ ap (λ n. take n (updates_at v order)) nothing ∙ sym (ap (λ n. take n (updates_at v (Go m u t ∷ order))) nothing))
    (λ (other : u.0 ≡ v → ⊥). cut_updates v count order ∙ ap (take (count v)) (sym (updates_at-there v m u t order other)))
    (cases_eq u.0 v))
    (λ (some : count u.0 ≡ 0 → ⊥). ap (updates_at v) (cut_takes count m u t order some) ∙ ⊎_elim
    (λ (same : u.0 ≡ v).
    let left : left_of count u v ≡ pred (count v) = set_at-here (λ n. n) count u.0 (pred (count u.0)) v (sym same) ∙ ap (λ x. pred (count x)) same in
    updates_at-here v m u t (cut_of (left_of count u) order) same
    ∙ ap (λ es. Go m u t ∷ es) (cut_updates v (left_of count u) order ∙ ap (λ n. take n (updates_at v order)) left)
    ∙ sym (take_some (count v) (Go m u t) (updates_at v order) (λ none. some (ap count same ∙ none)))
    ∙ ap (take (count v)) (sym (updates_at-here v m u t order same)))
    (λ (other : u.0 ≡ v → ⊥).
    let left : left_of count u v ≡ count v = set_at-there (λ n. n) count u.0 (pred (count u.0)) v (λ same. other (sym same)) in
    updates_at-there v m u t (cut_of (left_of count u) order) other ∙ cut_updates v (left_of count u) order
    ∙ ap₂ (λ n es. take n es) left (sym (updates_at-there v m u t order other)))
    (cases_eq u.0 v))
    (cases_eq (count u.0) 0)

updates_at-append : (v : ℕ) (order more : List Entry) → updates_at v (order ++ more) ≡ updates_at v order ++ updates_at v more
updates_at-append v [] more = refl
updates_at-append v (Restart ticket ∷ order) more = updates_at-append v order more
updates_at-append v (Go m u t ∷ order) more = ⊎_elim
    (λ (same : u.0 ≡ v).
    updates_at-here v m u t (order ++ more) same ∙ ap (λ es. Go m u t ∷ es) (updates_at-append v order more) ∙ ap (λ es. es ++ updates_at v more) (sym (updates_at-here v m u t order same)))
    (λ (other : u.0 ≡ v → ⊥).
    updates_at-there v m u t (order ++ more) other ∙ updates_at-append v order more ∙ ap (λ es. es ++ updates_at v more) (sym (updates_at-there v m u t order other)))
    (cases_eq u.0 v)

length-updates_at : (v : ℕ) (order : List Entry) → length (updates_at v order) ≡ updates_of v order
length-updates_at v [] = refl
length-updates_at v (Restart ticket ∷ order) = length-updates_at v order
length-updates_at v (Go m u t ∷ order) = ⊎_elim
    (λ (same : u.0 ≡ v). ap length (updates_at-here v m u t order same) ∙ ap suc (length-updates_at v order) ∙ sym (updates_front-same v order m u t same))
    (λ (other : u.0 ≡ v → ⊥). ap length (updates_at-there v m u t order other) ∙ length-updates_at v order ∙ sym (updates_front-other v order m u t other))
    (cases_eq u.0 v)

fewer_first : (n m : ℕ) (entries : List Entry) → n ≤ m → Begins (take n entries) (take m entries)
fewer_first zero m entries low = (take m entries, refl)
fewer_first (suc n) zero entries low = absurd (omega arith)
fewer_first (suc n) (suc m) [] low = ([], refl)
fewer_first (suc n) (suc m) (entry ∷ entries) low = let rest = fewer_first n m entries (omega arith) in (rest.0, ap (λ es. entry ∷ es) rest.1)

take_front : (n : ℕ) (xs ys : List Entry) → n ≤ length xs → take n (xs ++ ys) ≡ take n xs
take_front zero xs ys low = refl
take_front (suc n) [] ys low = absurd (omega arith)
take_front (suc n) (x ∷ xs) ys low = ap (λ es. x ∷ es) (take_front n xs ys (omega arith))

-- a later cut of an order that went on has of each vertex what the earlier cut has, and maybe more
pub cuts_nest : (order more : List Entry) (one other : ℕ → ℕ) (v : ℕ) → one v ≤ updates_of v order → one v ≤ other v → Begins (updates_at v (cut_of one order)) (updates_at v (cut_of other (order ++ more)))
cuts_nest order more one other v few low =
    let whole : List Entry = updates_at v (order ++ more) in
    let front : take (one v) whole ≡ updates_at v (cut_of one order) =
    ap (take (one v)) (updates_at-append v order more) ∙ take_front (one v) (updates_at v order) (updates_at v more) (subst (λ n. one v ≤ n) (sym (length-updates_at v order)) few)
    ∙ sym (cut_updates v one order) in
    subst₂ Begins front (sym (cut_updates v other (order ++ more))) (fewer_first (one v) (other v) whole low)
