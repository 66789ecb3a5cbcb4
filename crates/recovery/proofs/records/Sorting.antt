-- Entries that are put into an order one by one: where they are those of an order by ticket, that is what comes.
use Rattle.std.proofs.Common.{◌≡◌, ◌≤◌, ◌<◌, ℕ, suc, ◌+◌, ◌*◌, ◌∙◌, Bool, true, false, if◌then◌else◌, List, [], ◌∷◌, ◌++◌, cond, count_by, nat_lt, refl, sym, ap, ap₂, subst, ⊎_elim, arith}
use Rattle.std.proofs.Math.Nat.{le_antisymm}
use Rattle.std.specs.List.{AllByRecursion}
use Rattle.std.proofs.lemmas.Bool.{cases_Bool, cases_lt, le-ltb, lt-ltb}
use Rattle.std.proofs.lemmas.List.Sums.{sum_by-append, sum_by-cons}
use Rattle.gl_base.specs.declared.entries.Entry.{Entry}
use Rattle.gl_base.specs.declared.entries.Entry.TheVariants.{Go, Restart}
use Rattle.cluster_laws.specs.cluster_model.ByTicket.{StandByTicket}
use Rattle.cluster_laws.proofs.merged_logs.SameLemmas.{HaveSame, same_entry, same_is, same_itself}
use Rattle.store.proofs.store_format.OrderLemmas.{Ascending, with_ascends}
use Rattle.store.specs.store_format.StoredOrders.{entry_rank, put_in_order, with_entries}

bit : (Entry → Bool) → Entry → ℕ
bit p x = cond (p x) 1 0

-- ---- how often

none_counted : (p : Entry → Bool) (xs : List Entry) → AllByRecursion (λ e. p e ≡ false) xs → count_by p xs ≡ 0
none_counted p [] all = refl
none_counted p (x ∷ xs) all = sum_by-cons (λ (e : Entry). cond (p e) 1 0) x xs ∙ ap₂ (λ (n k : ℕ). n + k) (ap (λ (b : Bool). cond b 1 0) all.0) (none_counted p xs all.1)

first_counted : (p : Entry → Bool) (x : Entry) (xs : List Entry) → count_by p (x ∷ xs) ≡ 0 → p x ≡ false
first_counted p x xs none = one (p x) (sum_by-cons (λ (e : Entry). cond (p e) 1 0) x xs)
  where
    some : (n : ℕ) → count_by p (x ∷ xs) ≡ 1 + n → ⊥
    some n is = omega (arith, none, is)

    one : (b : Bool) → count_by p (x ∷ xs) ≡ cond b 1 0 + count_by p xs → b ≡ false
    one true is = absurd (some (count_by p xs) is)
    one false is = refl

-- ---- ranks

ranks_down : (n k : ℕ) → k ≤ n → (xs : List Entry) → AllByRecursion (λ e. 2 * n ≤ entry_rank e) xs → AllByRecursion (λ e. 2 * k ≤ entry_rank e) xs
ranks_down n k less [] all = tt
ranks_down n k less (x ∷ xs) all = (lower n k (entry_rank x) less all.0, ranks_down n k less xs all.1)
  where
    lower : (n k r : ℕ) → k ≤ n → 2 * n ≤ r → 2 * k ≤ r
    lower n k r less is = omega arith

above_go : (low ticket : ℕ) → low ≤ ticket → 2 * low ≤ 2 * ticket + 1
above_go low ticket is = omega arith

above_restart : (low ticket : ℕ) → low ≤ ticket → 2 * low ≤ 2 * ticket
above_restart low ticket is = omega arith

suc_up : (low ticket : ℕ) → low ≤ ticket → low ≤ suc ticket
suc_up low ticket is = omega arith

ranks_above : (low : ℕ) (xs : List Entry) (high : ℕ) → StandByTicket low xs high → AllByRecursion (λ e. 2 * low ≤ entry_rank e) xs
ranks_above low [] high stand = tt
ranks_above low (Go machine vertex ticket ∷ xs) high stand =
    (above_go low ticket stand.0, ranks_down (suc ticket) low (suc_up low ticket stand.0) xs (ranks_above (suc ticket) xs high stand.1))
ranks_above low (Restart ticket ∷ xs) high stand = (above_restart low ticket stand.0, ranks_down ticket low stand.0 xs (ranks_above ticket xs high stand.1))

stands_on : (low : ℕ) (x : Entry) (xs : List Entry) (high : ℕ) → StandByTicket low (x ∷ xs) high → (next : ℕ) × StandByTicket next xs high
stands_on low (Go machine vertex ticket) xs high stand = (suc ticket, stand.1)
stands_on low (Restart ticket) xs high stand = (ticket, stand.1)

-- the first has the least rank
none_below : (r : ℕ) (xs : List Entry) → AllByRecursion (λ e. r ≤ entry_rank e) xs → AllByRecursion (λ e. nat_lt (entry_rank e) r ≡ false) xs
none_below r [] all = tt
none_below r (x ∷ xs) all = (le-ltb (entry_rank x) r all.0, none_below r xs all.1)

go_low : (ticket r : ℕ) → 2 * suc ticket ≤ r → 2 * ticket + 1 ≤ r
go_low ticket r is = omega arith

first_least : (low : ℕ) (x : Entry) (xs : List Entry) (high : ℕ) → StandByTicket low (x ∷ xs) high → AllByRecursion (λ e. entry_rank x ≤ entry_rank e) xs
first_least low (Go machine vertex ticket) xs high stand = lower xs (ranks_above (suc ticket) xs high stand.1)
  where
    lower : (ys : List Entry) → AllByRecursion (λ e. 2 * suc ticket ≤ entry_rank e) ys → AllByRecursion (λ e. 2 * ticket + 1 ≤ entry_rank e) ys
    lower [] all = tt
    lower (y ∷ ys) all = (go_low ticket (entry_rank y) all.0, lower ys all.1)
first_least low (Restart ticket) xs high stand = ranks_above ticket xs high stand.1

not_less : (r : ℕ) → r < r → ⊥
not_less r is = omega arith

le_of_not : (r s : ℕ) → nat_lt r s ≡ false → s ≤ r
le_of_not r s none = ⊎_elim (λ (less : r < s). absurd (apart (sym (lt-ltb r s less) ∙ none))) (λ (more : s ≤ r). more) (cases_lt r s)
  where
    apart : true ≡ false → ⊥
    apart is = cc

-- where an update is first, no other has its rank
go_apart : (ticket : ℕ) (x : Entry) (xs : List Entry) → entry_rank x ≡ 2 * ticket + 1 → AllByRecursion (λ e. 2 * suc ticket ≤ entry_rank e) xs → AllByRecursion (λ e. same_entry x e ≡ false) xs
go_apart ticket x [] rank all = tt
go_apart ticket x (e ∷ xs) rank all = (
  ⊎_elim
      (λ (here : same_entry x e ≡ true). absurd (apart ticket (entry_rank x) (entry_rank e) rank all.0 (ap entry_rank (same_is x e here))))
      (λ (off : same_entry x e ≡ false). off)
      (cases_Bool (same_entry x e)),
  go_apart ticket x xs rank all.1,
)
  where
    apart : (ticket r s : ℕ) → r ≡ 2 * ticket + 1 → 2 * suc ticket ≤ s → r ≡ s → ⊥
    apart ticket r s one two three = omega arith

odd_even : (n k : ℕ) → 2 * n + 1 ≡ 2 * k → ⊥
odd_even n k is = omega arith

even_same : (n k : ℕ) → 2 * n ≡ 2 * k → n ≡ k
even_same n k is = omega arith

odd_same : (n k : ℕ) → 2 * n + 1 ≡ 2 * k + 1 → n ≡ k
odd_same n k is = omega arith

some_zero : (n k : ℕ) → n ≡ 1 + k → n ≡ 0 → ⊥
some_zero n k one none = omega arith

first_same : (x y : Entry) (xs ys : List Entry) (low high : ℕ) → StandByTicket low (y ∷ ys) high → HaveSame (x ∷ xs) (y ∷ ys) → entry_rank x ≡ entry_rank y → x ≡ y
first_same (Restart t) (Restart k) xs ys low high stand same rank = ap Restart (even_same t k rank)
first_same (Restart t) (Go m v k) xs ys low high stand same rank = absurd (odd_even k t (sym rank))
first_same (Go m v t) (Restart k) xs ys low high stand same rank = absurd (odd_even t k rank)
first_same (Go m v t) (Go n u k) xs ys low high stand same rank =
    let x : Entry = Go m v t in
    let y : Entry = Go n u k in
    ⊎_elim
    (λ (here : same_entry x y ≡ true). same_is x y here)
    (λ (off : same_entry x y ≡ false).
    absurd (some_zero (count_by (same_entry x) (x ∷ xs)) (count_by (same_entry x) xs)
    (sum_by-cons (λ (e : Entry). cond (same_entry x e) 1 0) x xs ∙ ap (λ (b : Bool). cond b 1 0 + count_by (same_entry x) xs) (same_itself x))
    (same (same_entry x) ∙ none_counted (same_entry x) (y ∷ ys) (off, go_apart k x ys rank (ranks_above (suc k) ys high stand.1)))))
    (cases_Bool (same_entry x y))

same_tails : (x : Entry) (xs ys : List Entry) → HaveSame (x ∷ xs) (x ∷ ys) → HaveSame xs ys
same_tails x xs ys same = λ p. cancel (cond (p x) 1 0) (count_by p xs) (count_by p ys) (sum_by-cons (λ (e : Entry). cond (p e) 1 0) x xs) (sum_by-cons (λ (e : Entry). cond (p e) 1 0) x ys) (same p)
  where
    cancel : {n k : ℕ} (a b c : ℕ) → n ≡ a + b → k ≡ a + c → n ≡ k → b ≡ c
    cancel a b c one two three = omega arith

no_entry_less : {n : ℕ} (k : ℕ) → n ≡ 1 + k → 0 ≡ n → ⊥
no_entry_less k one none = omega arith

-- a list that ascends, and has what an order by ticket has, is that order
pub sorted_same : (low high : ℕ) (xs ys : List Entry) → Ascending entry_rank xs → StandByTicket low ys high → HaveSame xs ys → xs ≡ ys
sorted_same low high [] [] up stand same = refl
sorted_same low high [] (y ∷ ys) up stand same = absurd (no_entry_less (count_by (λ e. true) ys) (sum_by-cons (λ (e : Entry). cond true 1 0) y ys) (same (λ e. true)))
sorted_same low high (x ∷ xs) [] up stand same = absurd (no_entry_less (count_by (λ e. true) xs) (sum_by-cons (λ (e : Entry). cond true 1 0) x xs) (sym (same (λ e. true))))
sorted_same low high (x ∷ xs) (y ∷ ys) up stand same =
    let below_x : Entry → Bool = λ e. nat_lt (entry_rank e) (entry_rank x) in
    let below_y : Entry → Bool = λ e. nat_lt (entry_rank e) (entry_rank y) in
    let up_to : entry_rank x ≤ entry_rank y = le_of_not (entry_rank y) (entry_rank x)
    (first_counted below_x y ys (sym (same below_x) ∙ none_counted below_x (x ∷ xs) (le-ltb (entry_rank x) (entry_rank x) (itself (entry_rank x)), none_below (entry_rank x) xs up.0))) in
    let down_to : entry_rank y ≤ entry_rank x = le_of_not (entry_rank x) (entry_rank y)
    (first_counted below_y x xs (same below_y ∙ none_counted below_y (y ∷ ys) (le-ltb (entry_rank y) (entry_rank y) (itself (entry_rank y)), none_below (entry_rank y) ys (first_least low y ys high stand)))) in
    let here : x ≡ y = first_same x y xs ys low high stand same (le_antisymm up_to down_to) in
    let next = stands_on low y ys high stand in
    ap₂ (λ (e : Entry) (es : List Entry). e ∷ es) here
    (sorted_same next.0 high xs ys up.1 next.1 (same_tails x xs ys (subst (λ (z : Entry). HaveSame (x ∷ xs) (z ∷ ys)) (sym here) same)))
  where
    itself : (r : ℕ) → r ≤ r
    itself r = omega arith

-- ---- entries that are put in

put_counted : (p : Entry → Bool) (entry : Entry) (order : List Entry) → count_by p (put_in_order entry order) ≡ count_by p (entry ∷ order)
put_counted p entry [] = refl
put_counted p entry (first ∷ order) = one (nat_lt (entry_rank entry) (entry_rank first)) (put_counted p entry order)
  where
    swaps : {n k l m : ℕ} (a b c : ℕ) → n ≡ b + k → k ≡ l → l ≡ a + c → m ≡ a + (b + c) → n ≡ m
    swaps a b c one two three four = omega arith

    one : (b : Bool) → count_by p (put_in_order entry order) ≡ count_by p (entry ∷ order) → count_by p (if b then entry ∷ first ∷ order else first ∷ put_in_order entry order) ≡ count_by p (entry ∷ first ∷ order)
    one true rest = refl
    one false rest =
        swaps (cond (p entry) 1 0) (cond (p first) 1 0) (count_by p order)
        (sum_by-cons (λ (e : Entry). cond (p e) 1 0) first (put_in_order entry order)) rest (sum_by-cons (λ (e : Entry). cond (p e) 1 0) entry order)
        (sum_by-cons (λ (e : Entry). cond (p e) 1 0) entry (first ∷ order) ∙ ap (λ (n : ℕ). cond (p entry) 1 0 + n) (sum_by-cons (λ (e : Entry). cond (p e) 1 0) first order))

pub with_counted : (p : Entry → Bool) (entries order : List Entry) → count_by p (with_entries order entries) ≡ count_by p order + count_by p entries
with_counted p [] order = plus_none (count_by p order)
  where
    plus_none : (n : ℕ) → n ≡ n + 0
    plus_none n = omega arith
with_counted p (entry ∷ entries) order =
    with_counted p entries (put_in_order entry order)
    ∙ ap (λ (n : ℕ). n + count_by p entries) (put_counted p entry order ∙ sum_by-cons (λ (e : Entry). cond (p e) 1 0) entry order)
    ∙ moves (cond (p entry) 1 0) (count_by p order) (count_by p entries)
    ∙ ap (λ (n : ℕ). count_by p order + n) (sym (sum_by-cons (λ (e : Entry). cond (p e) 1 0) entry entries))
  where
    moves : (a b c : ℕ) → (a + b) + c ≡ b + (a + c)
    moves a b c = omega arith

-- an order by ticket ascends
pub ascends : (low : ℕ) (order : List Entry) (high : ℕ) → StandByTicket low order high → Ascending entry_rank order
ascends low [] high stand = tt
ascends low (x ∷ xs) high stand = (first_least low x xs high stand, ascends (stands_on low x xs high stand).0 xs high (stands_on low x xs high stand).1)

-- the entries of an order by ticket, put into what stands by ticket, are that order
pub put_is : (before entries order : List Entry) (high later : ℕ) → StandByTicket 0 before high → StandByTicket 0 order later → HaveSame (before ++ entries) order → with_entries before entries ≡ order
put_is before entries order high later stand stand_too same =
    sorted_same 0 later (with_entries before entries) order (with_ascends entries before (ascends 0 before high stand)) stand_too
    (λ p. with_counted p entries before ∙ sym (sum_by-append (λ (e : Entry). cond (p e) 1 0) before entries) ∙ same p)
