-- Two lists of the same entries that both stand by ticket are the same list.
use Rattle.std.proofs.Common.{◌≡◌, ◌⊎◌, ℕ, zero, suc, ◌+◌, ◌<◌, ◌≤◌, ◌==◌, ◌&&◌, Bool, true, false, if◌then◌else◌, List, [], ◌∷◌, ◌++◌, sum_by, IsPermutation, inl, inr, IsPermutation, refl, sym, ◌∙◌, ap, ap₂, subst, ⊎_elim, le_refl, le_trans, arith}
use Rattle.std.specs.List.{AllByRecursion}
use Rattle.std.proofs.lemmas.Bool.{and_from, and_parts, cases_Bool, eq-eqb, eqb-true}
use Rattle.std.proofs.lemmas.List.Sorted.{sum_by-IsPermutation}
use Rattle.std.proofs.lemmas.List.Sums.{sum_by-cons}
use Rattle.gl_base.specs.declared.entries.Entry.{Entry}
use Rattle.gl_base.specs.declared.entries.Entry.TheVariants.{Go, Restart}
use Rattle.gl_base.specs.declared.numbers.MachineNo.{MachineNo}
use Rattle.gl_base.specs.declared.numbers.Vertex.{Vertex}
use Rattle.cluster_laws.specs.cluster_model.ByTicket.{StandByTicket, restarts}
use Rattle.whole_laws.specs.cluster_whole.Logged.{Logged, all_entries}
use Rattle.whole_laws.proofs.cluster_records.Filtering.{passing, passing-cons_in, passing-cons_out}

-- ---- how lists stand by ticket

-- by ticket, and at one ticket the restarts first
rank : Entry → ℕ
rank (Go machine vertex ticket) = suc (ticket + ticket)
rank (Restart ticket) = ticket + ticket

rank_go : (machine : MachineNo) (vertex : Vertex) (ticket : ℕ) → rank (Go machine vertex ticket) ≡ suc (ticket + ticket)
unfolding rank
rank_go machine vertex ticket = refl

rank_restart : (ticket : ℕ) → rank (Restart ticket) ≡ ticket + ticket
unfolding rank
rank_restart ticket = refl

pub stand_lower : (low lower high : ℕ) (xs : List Entry) → lower ≤ low → StandByTicket low xs high → StandByTicket lower xs high
stand_lower low lower high [] down stand = le_trans down stand
stand_lower low lower high (Go machine vertex ticket ∷ xs) down stand = (le_trans down stand.0, stand.1)
stand_lower low lower high (Restart ticket ∷ xs) down stand = (le_trans down stand.0, stand.1)

doubled : (low ticket : ℕ) → low ≤ ticket → low + low ≤ ticket + ticket
doubled low ticket is = omega arith

doubled_go : (low ticket : ℕ) → low ≤ ticket → low + low ≤ suc (ticket + ticket)
doubled_go low ticket is = omega arith

suc_le : (low ticket : ℕ) → low ≤ ticket → low ≤ suc ticket
suc_le low ticket is = omega arith

-- no rank is below the lowest ticket's
ranks_high : (low high : ℕ) (xs : List Entry) → StandByTicket low xs high → AllByRecursion (λ e. low + low ≤ rank e) xs
ranks_high low high [] stand = tt
ranks_high low high (Go machine vertex ticket ∷ xs) stand = (
  subst (λ (n : ℕ). low + low ≤ n) (sym (rank_go machine vertex ticket)) (doubled_go low ticket stand.0),
  ranks_high low high xs (stand_lower (suc ticket) low high xs (suc_le low ticket stand.0) stand.1),
)
ranks_high low high (Restart ticket ∷ xs) stand =
    (subst (λ (n : ℕ). low + low ≤ n) (sym (rank_restart ticket)) (doubled low ticket stand.0), ranks_high low high xs (stand_lower ticket low high xs stand.0 stand.1))

-- ---- how often an entry comes

is_entry : Entry → Entry → Bool
is_entry (Go m v t) (Go n u k) = m.0 == n.0 && (v.0 == u.0 && t == k)
is_entry (Go m v t) (Restart k) = false
is_entry (Restart t) (Go n u k) = false
is_entry (Restart t) (Restart k) = t == k

entry_itself : (x : Entry) → is_entry x x ≡ true
unfolding is_entry
entry_itself (Go m v t) = and_from (m.0 == m.0) (v.0 == v.0 && t == t) (eq-eqb m.0 m.0 refl) (and_from (v.0 == v.0) (t == t) (eq-eqb v.0 v.0 refl) (eq-eqb t t refl))
entry_itself (Restart t) = eq-eqb t t refl

not_false : false ≡ true → ⊥
not_false is = cc

entry_same : (x y : Entry) → is_entry x y ≡ true → x ≡ y
unfolding is_entry
entry_same (Go m v t) (Go n u k) is =
    let one = and_parts (m.0 == n.0) (v.0 == u.0 && t == k) is in
    let two = and_parts (v.0 == u.0) (t == k) one.1 in
    λ i. Go (record { 0 = eqb-true m.0 n.0 one.0 i }) (record { 0 = eqb-true v.0 u.0 two.0 i }) (eqb-true t k two.1 i)
entry_same (Go m v t) (Restart k) is = absurd (not_false is)
entry_same (Restart t) (Go n u k) is = absurd (not_false is)
entry_same (Restart t) (Restart k) is = λ i. Restart (eqb-true t k is i)

one_where : Entry → Entry → ℕ
one_where x y = if is_entry x y then 1 else 0

times : Entry → List Entry → ℕ
times x xs = sum_by (one_where x) xs

-- both lists have each entry equally often
abbrev HaveSame : List Entry → List Entry → Type 0
HaveSame xs ys = (f : Entry → ℕ) → sum_by f xs ≡ sum_by f ys

some_more : (n m k : ℕ) → n ≡ m + k → m ≡ 1 → 0 < n
some_more n m k is one = omega arith

times_itself : (x : Entry) (xs : List Entry) → 0 < times x (x ∷ xs)
unfolding times one_where
times_itself x xs = some_more (sum_by (one_where x) (x ∷ xs)) (one_where x x) (sum_by (one_where x) xs) (sum_by-cons (one_where x) x xs) (ap (λ (b : Bool). if b then 1 else 0) (entry_itself x))

none_less : 0 < 0 → ⊥
none_less is = omega arith

rest_some : (n m k : ℕ) → n ≡ m + k → m ≡ 0 → 0 < n → 0 < k
rest_some n m k is none some = omega arith

-- what all have an entry has that comes
comes_has : (P : Entry → Type 0) (x : Entry) (xs : List Entry) → AllByRecursion P xs → 0 < times x xs → P x
unfolding times one_where
comes_has P x [] all some = absurd (none_less some)
comes_has P x (y ∷ ys) all some =
    ⊎_elim
    (λ (here : is_entry x y ≡ true). subst P (sym (entry_same x y here)) all.0)
    (λ (off : is_entry x y ≡ false).
    comes_has P x ys all.1 (rest_some (sum_by (one_where x) (y ∷ ys)) (one_where x y) (sum_by (one_where x) ys) (sum_by-cons (one_where x) y ys) (ap (λ (b : Bool). if b then 1 else 0) off) some))
    (cases_Bool (is_entry x y))

-- the first entry, or one behind it
comes_behind : (x y : Entry) (ys : List Entry) → 0 < times x (y ∷ ys) → (x ≡ y) ⊎ (0 < times x ys)
unfolding times one_where
comes_behind x y ys some =
    ⊎_elim
    (λ (here : is_entry x y ≡ true). inl (entry_same x y here))
    (λ (off : is_entry x y ≡ false). inr (rest_some (sum_by (one_where x) (y ∷ ys)) (one_where x y) (sum_by (one_where x) ys) (sum_by-cons (one_where x) y ys) (ap (λ (b : Bool). if b then 1 else 0) off) some))
    (cases_Bool (is_entry x y))

go_go : (t k : ℕ) → suc t + suc t ≤ suc (k + k) → suc k + suc k ≤ suc (t + t) → ⊥
go_go t k one other = omega arith

go_restart : (t k : ℕ) → suc t + suc t ≤ k + k → k + k ≤ suc (t + t) → ⊥
go_restart t k one other = omega arith

restart_restart : (t k : ℕ) → t + t ≤ k + k → k + k ≤ t + t → t ≡ k
restart_restart t k one other = omega arith

-- each comes behind the other: then they are restarts with one ticket
firsts_same : (low low' high high' : ℕ) (x y : Entry) (xs ys : List Entry) → StandByTicket low (x ∷ xs) high → StandByTicket low' (y ∷ ys) high' → 0 < times y xs → 0 < times x ys → x ≡ y
firsts_same low low' high high' (Go m v t) (Go n u k) xs ys one other in_one in_other =
    absurd (go_go t k
    (subst (λ (r : ℕ). suc t + suc t ≤ r) (rank_go n u k) (comes_has (λ e. suc t + suc t ≤ rank e) (Go n u k) xs (ranks_high (suc t) high xs one.1) in_one))
    (subst (λ (r : ℕ). suc k + suc k ≤ r) (rank_go m v t) (comes_has (λ e. suc k + suc k ≤ rank e) (Go m v t) ys (ranks_high (suc k) high' ys other.1) in_other)))
firsts_same low low' high high' (Go m v t) (Restart k) xs ys one other in_one in_other =
    absurd (go_restart t k
    (subst (λ (r : ℕ). suc t + suc t ≤ r) (rank_restart k) (comes_has (λ e. suc t + suc t ≤ rank e) (Restart k) xs (ranks_high (suc t) high xs one.1) in_one))
    (subst (λ (r : ℕ). k + k ≤ r) (rank_go m v t) (comes_has (λ e. k + k ≤ rank e) (Go m v t) ys (ranks_high k high' ys other.1) in_other)))
firsts_same low low' high high' (Restart t) (Go n u k) xs ys one other in_one in_other =
    absurd (go_restart k t
    (subst (λ (r : ℕ). suc k + suc k ≤ r) (rank_restart t) (comes_has (λ e. suc k + suc k ≤ rank e) (Restart t) ys (ranks_high (suc k) high' ys other.1) in_other))
    (subst (λ (r : ℕ). t + t ≤ r) (rank_go n u k) (comes_has (λ e. t + t ≤ rank e) (Go n u k) xs (ranks_high t high xs one.1) in_one)))
firsts_same low low' high high' (Restart t) (Restart k) xs ys one other in_one in_other =
    ap Restart (restart_restart t k
    (subst (λ (r : ℕ). t + t ≤ r) (rank_restart k) (comes_has (λ e. t + t ≤ rank e) (Restart k) xs (ranks_high t high xs one.1) in_one))
    (subst (λ (r : ℕ). k + k ≤ r) (rank_restart t) (comes_has (λ e. k + k ≤ rank e) (Restart t) ys (ranks_high k high' ys other.1) in_other)))

stands_behind : (low high : ℕ) (x : Entry) (xs : List Entry) → StandByTicket low (x ∷ xs) high → (next : ℕ) × StandByTicket next xs high
stands_behind low high (Go machine vertex ticket) xs stand = (suc ticket, stand.1)
stands_behind low high (Restart ticket) xs stand = (ticket, stand.1)

cancelled : (a b c d e : ℕ) → a ≡ c + d → b ≡ c + e → a ≡ b → d ≡ e
cancelled a b c d e one two same = omega arith

none_some : (n m : ℕ) → 0 ≡ n → n ≡ 1 + m → ⊥
none_some n m one two = omega arith

same_list : (low low' high high' : ℕ) (xs ys : List Entry) → StandByTicket low xs high → StandByTicket low' ys high' → HaveSame xs ys → xs ≡ ys
unfolding times
same_list low low' high high' [] [] one other same = refl
same_list low low' high high' [] (y ∷ ys) one other same = absurd (none_some (sum_by (λ e. 1) (y ∷ ys)) (sum_by (λ e. 1) ys) (same (λ e. 1)) (sum_by-cons (λ e. 1) y ys))
same_list low low' high high' (x ∷ xs) [] one other same = absurd (none_some (sum_by (λ e. 1) (x ∷ xs)) (sum_by (λ e. 1) xs) (sym (same (λ e. 1))) (sum_by-cons (λ e. 1) x xs))
same_list low low' high high' (x ∷ xs) (y ∷ ys) one other same =
    let here : x ≡ y = ⊎_elim (λ (at : x ≡ y). at)
    (λ (behind : 0 < times x ys). ⊎_elim (λ (at : y ≡ x). sym at)
    (λ (back : 0 < times y xs). firsts_same low low' high high' x y xs ys one other back behind)
    (comes_behind y x xs (subst (λ (n : ℕ). 0 < n) (sym (same (one_where y))) (times_itself y ys))))
    (comes_behind x y ys (subst (λ (n : ℕ). 0 < n) (same (one_where x)) (times_itself x xs))) in
    let left = stands_behind low high x xs one in
    let right = stands_behind low' high' y ys other in
    ap₂ (λ (e : Entry) (es : List Entry). e ∷ es) here
    (same_list left.0 right.0 high high' xs ys left.1 right.1
    (λ f. cancelled (sum_by f (x ∷ xs)) (sum_by f (y ∷ ys)) (f x) (sum_by f xs) (sum_by f ys) (sum_by-cons f x xs) (sum_by-cons f y ys ∙ ap (λ (e : Entry). f e + sum_by f ys) (sym here)) (same f)))

-- by ticket there is one order
pub one_order : (low low' high high' : ℕ) (xs ys : List Entry) → StandByTicket low xs high → StandByTicket low' ys high' → IsPermutation xs ys → xs ≡ ys
one_order low low' high high' xs ys one other same = same_list low low' high high' xs ys one other (λ f. sym (sum_by-IsPermutation f xs ys same))

-- ---- lists that stand by ticket

pub stand_push : (low high : ℕ) (xs : List Entry) (machine : MachineNo) (vertex : Vertex) → StandByTicket low xs high → StandByTicket low (xs ++ Go machine vertex high ∷ []) (suc high)
stand_push low high [] machine vertex stand = (stand, le_refl (suc high))
stand_push low high (Go m v t ∷ xs) machine vertex stand = (stand.0, stand_push (suc t) high xs machine vertex stand.1)
stand_push low high (Restart t ∷ xs) machine vertex stand = (stand.0, stand_push t high xs machine vertex stand.1)

restarts_stand : (n low high : ℕ) → low ≤ high → StandByTicket low (restarts n high) high
restarts_stand zero low high up = up
restarts_stand (suc n) low high up = (up, restarts_stand n high high (le_refl high))

pub stand_restarts : (low high n : ℕ) (xs : List Entry) → StandByTicket low xs high → StandByTicket low (xs ++ restarts n high) high
stand_restarts low high n [] stand = restarts_stand n low high stand
stand_restarts low high n (Go m v t ∷ xs) stand = (stand.0, stand_restarts (suc t) high n xs stand.1)
stand_restarts low high n (Restart t ∷ xs) stand = (stand.0, stand_restarts t high n xs stand.1)

-- some of them left out behind others
drops : (low high : ℕ) (e : Entry) (xs : List Entry) → StandByTicket low (e ∷ xs) high → StandByTicket low xs high
drops low high (Go m v t) xs stand = stand_lower (suc t) low high xs (suc_le low t stand.0) stand.1
drops low high (Restart t) xs stand = stand_lower t low high xs stand.0 stand.1

keeps : (low high : ℕ) (e : Entry) (xs ys : List Entry) → ((next : ℕ) → StandByTicket next xs high → StandByTicket next ys high) → StandByTicket low (e ∷ xs) high → StandByTicket low (e ∷ ys) high
keeps low high (Go m v t) xs ys same stand = (stand.0, same (suc t) stand.1)
keeps low high (Restart t) xs ys same stand = (stand.0, same t stand.1)

stand_passing : (low high : ℕ) (test : Logged → Bool) (logged : List Logged) → StandByTicket low (all_entries logged) high → StandByTicket low (passing test logged) high
stand_passing low high test [] stand = stand
stand_passing low high test (l ∷ logged) stand =
    ⊎_elim
    (λ (yes_in : test l ≡ true). subst (λ (es : List Entry). StandByTicket low es high) (sym (passing-cons_in test l logged yes_in))
    (keeps low high l.entry (all_entries logged) (passing test logged) (λ next. stand_passing next high test logged) stand))
    (λ (out : test l ≡ false). subst (λ (es : List Entry). StandByTicket low es high) (sym (passing-cons_out test l logged out))
    (stand_passing low high test logged (drops low high l.entry (all_entries logged) stand)))
    (cases_Bool (test l))

pub stand_behind : (low high : ℕ) (front : List Entry) (test : Logged → Bool) (logged : List Logged) → StandByTicket low (front ++ all_entries logged) high → StandByTicket low (front ++ passing test logged) high
stand_behind low high [] test logged stand = stand_passing low high test logged stand
stand_behind low high (Go m v t ∷ front) test logged stand = (stand.0, stand_behind (suc t) high front test logged stand.1)
stand_behind low high (Restart t ∷ front) test logged stand = (stand.0, stand_behind t high front test logged stand.1)
