-- Lists of entries that have the same ones, each as often.
use Rattle.std.proofs.Common.{◌≡◌, ◌<◌, ◌≤◌, ℕ, suc, zero, ◌+◌, ◌∷◌, ◌∙◌, ◌==◌, ◌&&◌, Bool, true, false, List, [], length, get_or, cond, count_by, ap, ap₂, sym, subst, refl, arith}
use Rattle.std.specs.Prelude.{remove}
use Rattle.std.specs.List.Sorted.{IsPermutation}
use Rattle.std.proofs.lemmas.Bool.{and_from, and_parts, eq-eqb, eqb-true}
use Rattle.std.proofs.lemmas.List.Sorted.{IsPermutation-refl, IsPermutation-cons, IsPermutation-remove, IsPermutation-sym, IsPermutation-trans, sum_by-IsPermutation, sum_by_popped}
use Rattle.std.proofs.lemmas.List.{get_or_default}
use Rattle.std.proofs.lemmas.List.Sums.{sum_by-cons}
use Rattle.gl_base.specs.declared.entries.Entry.{Entry}
use Rattle.gl_base.specs.declared.entries.Entry.TheVariants.{Go, Restart}
use Rattle.cluster_laws.specs.merged_logs.Merges.{IsByTicket, IsMerge, RiseByTicket, ticket_of}
use Rattle.cluster_laws.proofs.merged_logs.FrontLemmas.{no_entry}

-- each test passes as many of both
abbrev pub HaveSame : List Entry → List Entry → Type 0
HaveSame xs ys = (p : Entry → Bool) → count_by p xs ≡ count_by p ys

abbrev bit : (Entry → Bool) → Entry → ℕ
bit p x = cond (p x) 1 0

pub same_from : (xs ys : List Entry) → IsPermutation xs ys → HaveSame xs ys
same_from xs ys perm = λ p. sym (sum_by-IsPermutation (bit p) xs ys perm)

one_more : (n : ℕ) → 1 + n ≡ suc n
one_more n = omega arith

pub count_all : (xs : List Entry) → count_by (λ x. true) xs ≡ length xs
count_all [] = refl
count_all (x ∷ xs) = sum_by-cons (bit (λ y. true)) x xs ∙ ap (λ (n : ℕ). 1 + n) (count_all xs) ∙ one_more (length xs)

none_from_length : (ys : List Entry) → length ys ≡ 0 → [] ≡ ys
none_from_length [] e = refl
none_from_length (y ∷ ys) e = absurd (omega arith)

-- ---- entries are told apart

pub same_entry : Entry → Entry → Bool
same_entry (Go machine vertex ticket) (Go other_machine other_vertex other) = machine.0 == other_machine.0 && (vertex.0 == other_vertex.0 && ticket == other)
same_entry (Go machine vertex ticket) (Restart other) = false
same_entry (Restart ticket) (Go other_machine other_vertex other) = false
same_entry (Restart ticket) (Restart other) = ticket == other

pub same_itself : (x : Entry) → same_entry x x ≡ true
unfolding same_entry
same_itself (Go machine vertex ticket) =
    and_from (machine.0 == machine.0) (vertex.0 == vertex.0 && ticket == ticket) (eq-eqb machine.0 machine.0 refl)
    (and_from (vertex.0 == vertex.0) (ticket == ticket) (eq-eqb vertex.0 vertex.0 refl) (eq-eqb ticket ticket refl))
same_itself (Restart ticket) = eq-eqb ticket ticket refl

pub same_is : (x y : Entry) → same_entry x y ≡ true → x ≡ y
unfolding same_entry
same_is (Go machine vertex ticket) (Go other_machine other_vertex other) h =
    let one = and_parts (machine.0 == other_machine.0) (vertex.0 == other_vertex.0 && ticket == other) h in
    let two = and_parts (vertex.0 == other_vertex.0) (ticket == other) one.1 in
    let machines : machine ≡ other_machine = ap (λ (n : ℕ). record { 0 = n }) (eqb-true machine.0 other_machine.0 one.0) in
    let vertices : vertex ≡ other_vertex = ap (λ (n : ℕ). record { 0 = n }) (eqb-true vertex.0 other_vertex.0 two.0) in
    let tickets : ticket ≡ other = eqb-true ticket other two.1 in
    cc
same_is (Go machine vertex ticket) (Restart other) h = absurd (apart h)
  where
    apart : false ≡ true → ⊥
    apart e = cc
same_is (Restart ticket) (Go other_machine other_vertex other) h = absurd (apart h)
  where
    apart : false ≡ true → ⊥
    apart e = cc
same_is (Restart ticket) (Restart other) h = ap Restart (eqb-true ticket other h)

-- ---- one that passes a test

abbrev IsFound : (Entry → Bool) → List Entry → Type 0
IsFound p ys = (k : ℕ) × (k < length ys) × (p (get_or ys k no_entry) ≡ true)

found_by : (p : Entry → Bool) (y : Entry) (ys : List Entry) (b : Bool) → p y ≡ b → (0 < cond b 1 0 + count_by p ys) → (0 < count_by p ys → IsFound p ys) → IsFound p (y ∷ ys)
found_by p y ys true is some rest = (zero, omega arith, is)
found_by p y ys false is some rest =
    let there = rest (omega arith) in
    (suc there.0, omega (arith, there.1), there.2)

found : (p : Entry → Bool) (ys : List Entry) → 0 < count_by p ys → IsFound p ys
found p [] some = absurd (omega arith)
found p (y ∷ ys) some =
    let split : count_by p (y ∷ ys) ≡ bit p y + count_by p ys = sum_by-cons (bit p) y ys in
    found_by p y ys (p y) refl (omega (arith, split, some)) (found p ys)

-- the first of a list stands in one that has the same
first_found : (x : Entry) (xs ys : List Entry) → HaveSame (x ∷ xs) ys → IsFound (same_entry x) ys
first_found x xs ys same =
    let split : count_by (same_entry x) (x ∷ xs) ≡ cond (same_entry x x) 1 0 + count_by (same_entry x) xs = sum_by-cons (bit (same_entry x)) x xs in
    let one : bit (same_entry x) x ≡ 1 = ap (λ (b : Bool). cond b 1 0) (same_itself x) in
    found (same_entry x) ys (omega (arith, split, one, same (same_entry x)))

-- ---- the same entries are a permutation

pub permutation_from : (xs ys : List Entry) → HaveSame xs ys → IsPermutation xs ys
permutation_from [] ys same =
    subst (IsPermutation []) (none_from_length ys (sym (count_all ys) ∙ sym (same (λ x. true)))) (IsPermutation-refl [])
permutation_from (x ∷ xs) ys same =
    let there = first_found x xs ys same in
    let k = there.0 in
    let is : x ≡ get_or ys k no_entry = same_is x (get_or ys k no_entry) there.2 in
    let moved : IsPermutation ys (x ∷ remove ys k) = IsPermutation-remove ys k x there.1 (is ∙ get_or_default ys k no_entry x there.1) in
    let rest : HaveSame xs (remove ys k) = λ p.
    let out : count_by p (remove ys k) + bit p x ≡ count_by p ys = sum_by_popped (bit p) x ys (remove ys k) moved in
    let split : count_by p (x ∷ xs) ≡ bit p x + count_by p xs = sum_by-cons (bit p) x xs in
    omega (arith, out, split, same p) in
    IsPermutation-trans (x ∷ xs) (x ∷ remove ys k) ys (IsPermutation-cons x xs (remove ys k) (permutation_from xs (remove ys k) rest)) (IsPermutation-sym ys (x ∷ remove ys k) moved)

-- ---- one way to stand by ticket

same_tails : (x : Entry) (xs ys : List Entry) → HaveSame (x ∷ xs) (x ∷ ys) → HaveSame xs ys
same_tails x xs ys same = λ p.
    let one : count_by p (x ∷ xs) ≡ bit p x + count_by p xs = sum_by-cons (bit p) x xs in
    let other : count_by p (x ∷ ys) ≡ bit p x + count_by p ys = sum_by-cons (bit p) x ys in
    omega (arith, one, other, same p)

tail_by_ticket : (x : Entry) (xs : List Entry) → IsByTicket (x ∷ xs) → IsByTicket xs
tail_by_ticket x xs up = λ i j d le low. up (suc i) (suc j) d (omega arith) (omega arith)

tail_rises : (y : Entry) (ys : List Entry) → RiseByTicket (y ∷ ys) → RiseByTicket ys
tail_rises y ys up = λ i j d le low. up (suc i) (suc j) d (omega arith) (omega arith)

-- the first of rising entries has a lower ticket than any other
head_is : (x y : Entry) (ys : List Entry) → RiseByTicket (y ∷ ys) → ticket_of x ≤ ticket_of y → (k : ℕ) → k < length (y ∷ ys) → x ≡ get_or (y ∷ ys) k no_entry → x ≡ y
head_is x y ys up low zero inside is = is
head_is x y ys up low (suc k) inside is =
    let high : ticket_of y < ticket_of (get_or (y ∷ ys) (suc k) no_entry) = up zero (suc k) no_entry (omega arith) inside in
    let at : ticket_of x ≡ ticket_of (get_or (y ∷ ys) (suc k) no_entry) = ap ticket_of is in
    absurd (omega arith)

pub one_order : (xs ys : List Entry) → IsByTicket xs → RiseByTicket ys → HaveSame xs ys → xs ≡ ys
one_order [] ys by_ticket up same = none_from_length ys (sym (count_all ys) ∙ sym (same (λ x. true)))
one_order (x ∷ xs) [] by_ticket up same =
    let many : length (x ∷ xs) ≡ 0 = sym (count_all (x ∷ xs)) ∙ same (λ x. true) in
    absurd (omega arith)
one_order (x ∷ xs) (y ∷ ys) by_ticket up same =
    let there = first_found x xs (y ∷ ys) same in
    let here = first_found y ys (x ∷ xs) (λ p. sym (same p)) in
    let is_y : y ≡ get_or (x ∷ xs) here.0 no_entry = same_is y (get_or (x ∷ xs) here.0 no_entry) here.2 in
    let le : ticket_of x ≤ ticket_of (get_or (x ∷ xs) here.0 no_entry) = by_ticket zero here.0 no_entry (omega arith) here.1 in
    let at : ticket_of y ≡ ticket_of (get_or (x ∷ xs) here.0 no_entry) = ap ticket_of is_y in
    let is : x ≡ y = head_is x y ys up (omega (arith, le, at)) there.0 there.1 (same_is x (get_or (y ∷ ys) there.0 no_entry) there.2) in
    let tails = same_tails x xs ys (subst (λ (z : Entry). HaveSame (x ∷ xs) (z ∷ ys)) (sym is) same) in
    ap₂ (λ (z : Entry) (zs : List Entry). z ∷ zs) is (one_order xs ys (tail_by_ticket x xs by_ticket) (tail_rises y ys up) tails)

pub one_merge : (entries order other : List Entry) → IsMerge entries order → IsPermutation entries other → RiseByTicket other → order ≡ other
one_merge entries order other merge perm up =
    one_order order other merge.by_ticket up (λ p. sym (same_from entries order merge.same p) ∙ same_from entries other perm p)
