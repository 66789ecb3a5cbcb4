-- Later snapshots begin with earlier ones, and a full one has all updates.
use Rattle.std.proofs.Common.{◌≡◌, ◌≢◌, ℕ, zero, suc, ◌+◌, ◌<◌, ◌≤◌, Bool, if◌then◌else◌, List, [], ◌∷◌, ◌++◌, length, sum_by, refl, sym, ◌∙◌, ap, ap₂, subst, ⊎_elim, le_refl, le_trans, length-append, zero-add, arith}
use Rattle.std.specs.List.{AllByRecursion}
use Rattle.std.proofs.lemmas.Bool.{cases_lt}
use Rattle.std.proofs.lemmas.List.Sums.{sum_by-cons}
use Rattle.gl_base.specs.declared.entries.Entry.{Entry}
use Rattle.cluster_laws.specs.cluster_core.Cuts.{Begins, updates_at}
use Rattle.cluster_laws.specs.cluster_core.Replays.{entries_of}
use Rattle.cluster_laws.specs.cluster_core.Settings.{IsSetting, Setting}
use Rattle.cluster_laws.specs.cluster_model.Events.{entries_below, entries_in_all}
use Rattle.cluster_laws.specs.cluster_model.Leading.{Snapshot, entries_held}
use Rattle.cluster_laws.specs.cluster_model.Totals.{total, total_from}
use Rattle.whole_laws.proofs.cluster_whole.Flows.{total_from-more, total_from-none}
use Rattle.whole_laws.specs.cluster_whole.Logged.{Logged, all_entries, entries_to, is_up_to}
use Rattle.whole_laws.specs.cluster_records.Recorded.{IsSinceBase}
use Rattle.whole_laws.proofs.cluster_records.Filtering.{passing-cons_in, passing-cons_out, up_to_no, up_to_yes}
use Rattle.whole_laws.proofs.cluster_records.Fewness.{held_few}
use Rattle.whole_laws.proofs.cluster_records.Gathering.{IsMadeBelow, all_made}
use Rattle.whole_laws.proofs.cluster_records.Recording.{updates_at-append}

-- ---- two beginnings of one list

first_of : (x y : Entry) (xs ys : List Entry) → x ∷ xs ≡ y ∷ ys → x ≡ y
first_of x y xs ys is = cc

rest_same : (x y : Entry) (xs ys : List Entry) → x ∷ xs ≡ y ∷ ys → xs ≡ ys
rest_same x y xs ys is = cc

not_longer : (n : ℕ) → suc n ≤ 0 → ⊥
not_longer n is = omega arith

one_less : (n m : ℕ) → suc n ≤ suc m → n ≤ m
one_less n m is = omega arith

both_begin : (xs ys zs : List Entry) → Begins xs zs → Begins ys zs → length xs ≤ length ys → Begins xs ys
both_begin [] ys zs one other low = (ys, refl)
both_begin (x ∷ xs) [] zs one other low = absurd (not_longer (length xs) low)
both_begin (x ∷ xs) (y ∷ ys) zs one other low =
    let same : x ∷ (xs ++ one.0) ≡ y ∷ (ys ++ other.0) = sym one.1 ∙ other.1 in
    let rest = both_begin xs ys (xs ++ one.0) (one.0, refl) (other.0, rest_same x y (xs ++ one.0) (ys ++ other.0) same) (one_less (length xs) (length ys) low) in
    (rest.0, ap₂ (λ (e : Entry) (es : List Entry). e ∷ es) (sym (first_of x y (xs ++ one.0) (ys ++ other.0) same)) rest.1)

many : ℕ → List Entry → ℕ
many v es = length (updates_at v es)

many_cons : (v : ℕ) (e : Entry) (es : List Entry) → many v (e ∷ es) ≡ many v (e ∷ []) + many v es
unfolding many
many_cons v e es = ap (λ (xs : List Entry). length xs) (updates_at-append v (e ∷ []) es) ∙ length-append (updates_at v (e ∷ [])) (updates_at v es)

both_more : (x y u a b : ℕ) → x ≡ u + a → y ≡ u + b → a ≤ b → x ≤ y
both_more x y u a b one two is = omega arith

second_more : (x y u a b : ℕ) → x ≡ a → y ≡ u + b → a ≤ b → x ≤ y
second_more x y u a b one two is = omega arith

-- a later snapshot has no fewer updates of a vertex
later_many : (v j k : ℕ) → j ≤ k → (ls : List Logged) → many v (entries_to j ls) ≤ many v (entries_to k ls)
later_many v j k up [] = le_refl (many v [])
later_many v j k up (l ∷ ls) =
    let rest = later_many v j k up ls in
    let with_it : (n : ℕ) → l.number ≤ n → many v (entries_to n (l ∷ ls)) ≡ many v (l.entry ∷ []) + many v (entries_to n ls) =
    λ n low. ap (many v) (passing-cons_in (is_up_to n) l ls (up_to_yes n l low)) ∙ many_cons v l.entry (entries_to n ls) in
    let without : (n : ℕ) → n < l.number → many v (entries_to n (l ∷ ls)) ≡ many v (entries_to n ls) =
    λ n high. ap (many v) (passing-cons_out (is_up_to n) l ls (up_to_no n l high)) in
    ⊎_elim
    (λ (high : j < l.number). ⊎_elim
    (λ (higher : k < l.number). subst (λ (n : ℕ). n ≤ many v (entries_to k (l ∷ ls))) (sym (without j high)) (subst (λ (n : ℕ). many v (entries_to j ls) ≤ n) (sym (without k higher)) rest))
    (λ (low : l.number ≤ k).
    second_more (many v (entries_to j (l ∷ ls))) (many v (entries_to k (l ∷ ls))) (many v (l.entry ∷ [])) (many v (entries_to j ls)) (many v (entries_to k ls)) (without j high) (with_it k low) rest)
    (cases_lt k l.number))
    (λ (low : l.number ≤ j).
    both_more (many v (entries_to j (l ∷ ls))) (many v (entries_to k (l ∷ ls))) (many v (l.entry ∷ [])) (many v (entries_to j ls)) (many v (entries_to k ls)) (with_it j low) (with_it k (le_trans low up)) rest)
    (cases_lt j l.number)

pub later_begins : (v j k : ℕ) (ls : List Logged) → j ≤ k → Begins (updates_at v (entries_to j ls)) (updates_at v (all_entries ls)) → Begins (updates_at v (entries_to k ls)) (updates_at v (all_entries ls)) →
    Begins (updates_at v (entries_to j ls)) (updates_at v (entries_to k ls))
unfolding many
later_begins v j k ls up one other = both_begin (updates_at v (entries_to j ls)) (updates_at v (entries_to k ls)) (updates_at v (all_entries ls)) one other (later_many v j k up ls)

-- ---- all updates

too_few : (x n m : ℕ) → x ≡ n → n ≤ m → x ≡ suc m → ⊥
too_few x n m one few is = omega arith

one_fewer : (x n m : ℕ) → x ≡ suc n → x ≡ suc m → n ≡ m
one_fewer x n m one two = omega arith

-- as many updates as there are, are all
pub all_held : (k : ℕ) (ls : List Logged) → length (entries_to k ls) ≡ length ls → entries_to k ls ≡ all_entries ls
all_held k [] full = refl
all_held k (l ∷ ls) full =
    ⊎_elim
    (λ (high : k < l.number).
    absurd (too_few (length (entries_to k (l ∷ ls))) (length (entries_to k ls)) (length ls) (ap (λ (es : List Entry). length es) (passing-cons_out (is_up_to k) l ls (up_to_no k l high))) (held_few k ls) full))
    (λ (low : l.number ≤ k).
    let kept = passing-cons_in (is_up_to k) l ls (up_to_yes k l low) in
    kept ∙ ap (λ (es : List Entry). l.entry ∷ es) (all_held k ls (one_fewer (length (entries_to k (l ∷ ls))) (length (entries_to k ls)) (length ls) (ap (λ (es : List Entry). length es) kept) full)))
    (cases_lt k l.number)

zero_plus : (n : ℕ) → n ≡ n + 0
zero_plus n = omega arith

shift : (a b c : ℕ) → a + (b + c) ≡ (a + b) + c
shift a b c = omega arith

plus_suc : (k n : ℕ) → suc k + n ≡ k + suc n
plus_suc k n = omega arith

-- the last term of a total
total_last : (k n : ℕ) (f : ℕ → ℕ) → total_from k (suc n) f ≡ total_from k n f + f (k + n)
unfolding total_from
total_last k zero f = ap (λ (x : ℕ). x + 0) (ap f (zero_plus k)) ∙ sym (zero_plus (f (k + 0))) ∙ sym (zero-add (f (k + 0)))
total_last k (suc n) f =
    ap (λ (x : ℕ). f k + x) (total_last (suc k) n f ∙ ap (λ (x : ℕ). total_from (suc k) n f + f x) (plus_suc k n)) ∙ shift (f k) (total_from (suc k) n f) (f (k + suc n))

pub below_long : (n : ℕ) (s : Snapshot) → length (entries_below n s) ≡ total n (λ a. length (s.sections a).entries)
unfolding total_from
below_long zero s = refl
below_long (suc n) s =
    length-append (entries_below n s) (s.sections n).entries
    ∙ ap₂ (λ (x y : ℕ). x + y) (below_long n s) (ap (λ (a : ℕ). length (s.sections a).entries) (sym (zero-add n)))
    ∙ sym (total_last 0 n (λ a. length (s.sections a).entries))

pub all_long : (st : Setting) (snapshots : List Snapshot) → length (entries_in_all st snapshots) ≡ sum_by (entries_held st) snapshots
all_long st [] = refl
all_long st (s ∷ ss) =
    length-append (entries_below st.machines s) (entries_in_all st ss) ∙ ap₂ (λ (x y : ℕ). x + y) (below_long st.machines s) (all_long st ss) ∙ sym (sum_by-cons (entries_held st) s ss)

one_plus : (n : ℕ) → suc n ≡ n + 1
one_plus n = omega arith

-- each update is in one machine's part
parts_long : (n : ℕ) (ls : List Logged) → AllByRecursion (IsMadeBelow n) ls → total n (λ a. length (entries_of a (all_entries ls))) ≡ length ls
parts_long n [] all = total_from-none 0 n (λ a. 0) (λ a. refl)
parts_long n (l ∷ ls) all =
    let made = all.0 in
    let more : ℕ → ℕ = λ a. length (entries_of a (all_entries (l ∷ ls))) in
    let less : ℕ → ℕ = λ a. length (entries_of a (all_entries ls)) in
    let here : more made.0 ≡ less made.0 + 1 = ap (λ (b : Bool). length (if b then l.entry ∷ entries_of made.0 (all_entries ls) else entries_of made.0 (all_entries ls))) made.2 ∙ one_plus (less made.0) in
    let there : (b : ℕ) → b ≢ made.0 → more b ≡ less b = λ b off. ap (λ (x : Bool). length (if x then l.entry ∷ entries_of b (all_entries ls) else entries_of b (all_entries ls))) (made.3 b off) in
    total_from-more 0 n less more made.0 1 (zero_low made.0) (below_all made.0 n made.1) here there ∙ ap (λ (x : ℕ). x + 1) (parts_long n ls all.1) ∙ sym (one_plus (length ls))
  where
    zero_low : (n : ℕ) → 0 ≤ n
    zero_low n = omega arith

    below_all : (a n : ℕ) → a < n → a < 0 + n
    below_all a n low = omega arith

pub logs_long : (st : Setting) → IsSetting st → (ls : List Logged) → AllByRecursion (IsSinceBase st) ls → total st.machines (λ a. length (entries_of a (all_entries ls))) ≡ length ls
logs_long st is ls since = parts_long st.machines ls (all_made st is ls since)
