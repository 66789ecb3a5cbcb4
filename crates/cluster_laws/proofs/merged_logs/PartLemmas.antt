-- The parts of an order that machines have as their logs.
use Rattle.std.proofs.Common.{◌≡◌, ◌<◌, ◌≤◌, ℕ, suc, zero, ◌+◌, ◌∷◌, ◌∙◌, ◌==◌, if◌then◌else◌, Bool, true, false, List, [], cond, count_by, length, sum_by, All, map, ap, sym, subst, refl, inl, inr, add-zero, zero-add, arith}
use Rattle.std.specs.List.{AllByRecursion, range_with_len}
use Rattle.std.proofs.lemmas.Bool.{cases_eq, eq-eqb, ne_eqb}
use Rattle.std.proofs.lemmas.List.Elements.{All-cons, All-nil}
use Rattle.std.proofs.lemmas.List.Kept.{AllPairs-cons}
use Rattle.std.proofs.lemmas.List.Sums.{sum_by-cons, sum_by-append}
use Rattle.gl_base.specs.declared.entries.Entry.{Entry}
use Rattle.gl_base.specs.declared.entries.Entry.TheVariants.{Go, Restart}
use Rattle.std.proofs.lemmas.List.Sums.{length-filter}
use Rattle.cluster_laws.specs.merged_logs.Merges.{AreUpdatesFrom, IsByMachineBelow, IsMerge, RiseByTicket, all_logged, entries_of, is_of, logs_of, ticket_of}
use Rattle.cluster_laws.proofs.merged_logs.SameLemmas.{HaveSame, count_all, one_merge, permutation_from}

-- ---- updates from a ticket on rise

all_later : (low next : ℕ) (order : List Entry) → low < next → AreUpdatesFrom next order → All (λ (later : Entry). low < ticket_of later) order
all_later low next [] less are = All-nil (λ (later : Entry). low < ticket_of later)
all_later low next (Go machine vertex ticket ∷ order) less are =
    All-cons (λ (later : Entry). low < ticket_of later) (Go machine vertex ticket) order (omega (arith, are.0)) (all_later low (suc next) order (omega arith) are.1)
all_later low next (Restart ticket ∷ order) less are = absurd are

pub updates_rise : (next : ℕ) (order : List Entry) → AreUpdatesFrom next order → RiseByTicket order
updates_rise next [] are = λ i j d less low. absurd (omega arith)
updates_rise next (Go machine vertex ticket ∷ order) are =
    AllPairs-cons (λ (earlier later : Entry). ticket_of earlier < ticket_of later) (Go machine vertex ticket) order
    (subst (λ (n : ℕ). All (λ (later : Entry). n < ticket_of later) order) (sym are.0) (all_later next (suc next) order (omega arith) are.1))
    (updates_rise (suc next) order are.1)
updates_rise next (Restart ticket ∷ order) are = absurd are

-- ---- sums over machines

-- nothing is added before this machine
sum_miss : (f g : ℕ → ℕ) (m c : ℕ) → ((k : ℕ) → g k ≡ f k + (if m == k then c else 0)) → (a n : ℕ) → m < a → sum_by g (range_with_len a n) ≡ sum_by f (range_with_len a n)
sum_miss f g m c adds a zero past = refl
sum_miss f g m c adds a (suc n) past =
    let here : g a ≡ f a + 0 = adds a ∙ ap (λ (b : Bool). f a + (if b then c else 0)) (ne_eqb m a (λ e. omega arith)) in
    let one : sum_by g (range_with_len a (suc n)) ≡ g a + sum_by g (range_with_len (a + 1) n) = sum_by-cons g a (range_with_len (a + 1) n) in
    let other : sum_by f (range_with_len a (suc n)) ≡ f a + sum_by f (range_with_len (a + 1) n) = sum_by-cons f a (range_with_len (a + 1) n) in
    omega (arith, here, one, other, sum_miss f g m c adds (a + 1) n (omega arith))

-- and once at it
sum_hit : (f g : ℕ → ℕ) (m c : ℕ) → ((k : ℕ) → g k ≡ f k + (if m == k then c else 0)) → (a n : ℕ) → a ≤ m → m < a + n → sum_by g (range_with_len a n) ≡ sum_by f (range_with_len a n) + c
sum_hit f g m c adds a zero low high = absurd (omega arith)
sum_hit f g m c adds a (suc n) low high =
    let one : sum_by g (range_with_len a (suc n)) ≡ g a + sum_by g (range_with_len (a + 1) n) = sum_by-cons g a (range_with_len (a + 1) n) in
    let other : sum_by f (range_with_len a (suc n)) ≡ f a + sum_by f (range_with_len (a + 1) n) = sum_by-cons f a (range_with_len (a + 1) n) in
    elim (cases_eq m a) [
      | inl at ↦
          let here : g a ≡ f a + c = adds a ∙ ap (λ (b : Bool). f a + (if b then c else 0)) (eq-eqb m a at) in
          omega (arith, here, one, other, sum_miss f g m c adds (a + 1) n (omega arith))
      | inr off ↦
          let here : g a ≡ f a + 0 = adds a ∙ ap (λ (b : Bool). f a + (if b then c else 0)) (ne_eqb m a off) in
          let above : a + 1 ≤ m = apart a m low off in
          omega (arith, here, one, other, sum_hit f g m c adds (a + 1) n above (omega arith))
    ]
  where
    apart : (a m : ℕ) → a ≤ m → (m ≡ a → ⊥) → a + 1 ≤ m
    apart a m le ne = omega arith

-- ---- the logs have together what the order has

-- how many entries of the logs of the machines from a on pass a test
abbrev in_logs : (Entry → Bool) → ℕ → ℕ → List Entry → ℕ
in_logs p a n order = sum_by (λ k. count_by p (entries_of k order)) (range_with_len a n)

count_logs : (p : Entry → Bool) (order : List Entry) (a n : ℕ) → count_by p (all_logged (map (λ k. entries_of k order) (range_with_len a n))) ≡ in_logs p a n order
count_logs p order a zero = refl
count_logs p order a (suc n) =
    sum_by-append (λ (e : Entry). cond (p e) 1 0) (entries_of a order) (all_logged (map (λ k. entries_of k order) (range_with_len (a + 1) n)))
    ∙ ap (λ (k : ℕ). count_by p (entries_of a order) + k) (count_logs p order (a + 1) n)
    ∙ sym (sum_by-cons (λ (k : ℕ). count_by p (entries_of k order)) a (range_with_len (a + 1) n))

none_in_logs : (p : Entry → Bool) (a n : ℕ) → in_logs p a n [] ≡ 0
none_in_logs p a zero = refl
none_in_logs p a (suc n) = sum_by-cons (λ (k : ℕ). count_by p (entries_of k [])) a (range_with_len (a + 1) n) ∙ zero-add (in_logs p (a + 1) n []) ∙ none_in_logs p (a + 1) n

flips : (n c : ℕ) → c + n ≡ n + c
flips n c = omega arith

counted_in : (p : Entry → Bool) (e : Entry) (order : List Entry) (b : Bool) → count_by p (if b then e ∷ order else order) ≡ count_by p order + (if b then cond (p e) 1 0 else 0)
counted_in p e order true = sum_by-cons (λ (x : Entry). cond (p x) 1 0) e order ∙ flips (count_by p order) (cond (p e) 1 0)
counted_in p e order false = sym (add-zero (count_by p order))

logs_have_all : (p : Entry → Bool) (machines : ℕ) (order : List Entry) → AllByRecursion (IsByMachineBelow machines) order → in_logs p 0 machines order ≡ count_by p order
logs_have_all p machines [] below = none_in_logs p 0 machines
logs_have_all p machines (Go machine vertex ticket ∷ order) below =
    let e = Go machine vertex ticket in
    let low : machine.0 < machines = below.0 in
    let one : in_logs p 0 machines (e ∷ order) ≡ in_logs p 0 machines order + cond (p e) 1 0 =
    sum_hit (λ k. count_by p (entries_of k order)) (λ k. count_by p (entries_of k (e ∷ order))) machine.0 (cond (p e) 1 0)
    (λ k. counted_in p e (entries_of k order) (machine.0 == k)) 0 machines (omega arith) (omega arith) in
    let other : count_by p (e ∷ order) ≡ cond (p e) 1 0 + count_by p order = sum_by-cons (λ (x : Entry). cond (p x) 1 0) e order in
    omega (arith, one, other, logs_have_all p machines order below.1)
logs_have_all p machines (Restart ticket ∷ order) below = absurd below.0

-- the logs have the entries of the order, each as often
pub parts_have_all : (machines : ℕ) (order : List Entry) → AllByRecursion (IsByMachineBelow machines) order → HaveSame (all_logged (logs_of machines order)) order
parts_have_all machines order below = λ p. count_logs p order 0 machines ∙ logs_have_all p machines order below

-- so each machine's updates, counted and added up, are all of them
pub machines_sum : (machines : ℕ) (order : List Entry) → AllByRecursion (IsByMachineBelow machines) order → sum_by (λ m. count_by (is_of m) order) (range_with_len 0 machines) ≡ length order
machines_sum machines order below = one_by_one 0 machines ∙ logs_have_all (λ e. true) machines order below ∙ count_all order
  where
    one_by_one : (a n : ℕ) → sum_by (λ m. count_by (is_of m) order) (range_with_len a n) ≡ in_logs (λ e. true) a n order
    one_by_one a n = ap (λ (f : ℕ → ℕ). sum_by f (range_with_len a n)) (λ i. λ m. (sym (length-filter (is_of m) order) ∙ sym (count_all (entries_of m order))) i)

pub logs_merge : (machines : ℕ) (order merged : List Entry) → RiseByTicket order → AllByRecursion (IsByMachineBelow machines) order →
    IsMerge (all_logged (logs_of machines order)) merged → merged ≡ order
logs_merge machines order merged up below merge =
    one_merge (all_logged (logs_of machines order)) merged order merge
    (permutation_from (all_logged (logs_of machines order)) order (parts_have_all machines order below)) up
