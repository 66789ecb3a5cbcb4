-- An attempt of a cluster has at most a window of each machine's updates outside its last snapshot.
use Rattle.std.proofs.Common.{◌≡◌, ℕ, suc, ◌+◌, ◌<◌, ◌≤◌, ◌&&◌, Bool, true, false, if◌then◌else◌, List, [], ◌∷◌, ◌++◌, length, filter, sum_by, refl, sym, ◌∙◌, ap, subst, ⊎_elim, le_trans, arith}
use Rattle.std.specs.List.{AllByRecursion}
use Rattle.std.proofs.lemmas.Bool.{cases_Bool, cases_lt, cond-false, cond-true, false_from_ne_true}
use Rattle.std.proofs.lemmas.List.Sorted.{sum_by-IsPermutation}
use Rattle.std.proofs.lemmas.List.Sums.{length-filter}
use Rattle.gl_base.specs.declared.entries.Entry.{Entry}
use Rattle.gl_base.specs.declared.jobs.FailureAt.{FailureAt}
use Rattle.call_laws.specs.attempts.Beginnings.{KeepsWindow, held_updates, last_of, nothing, unheld_updates}
use Rattle.call_laws.proofs.attempts.Counting.{made_by-append}
use Rattle.call_laws.proofs.attempts.Cutting.{cut_and_left}
use Rattle.call_laws.specs.cluster_attempts.CallsSoFar.{attempt_of}
use Rattle.call_laws.proofs.cluster_attempts.Making.{held_is}
use Rattle.cluster_laws.specs.cluster_core.Replays.{is_of}
use Rattle.cluster_laws.specs.cluster_core.Settings.{IsSetting, Setting}
use Rattle.cluster_laws.specs.cluster_cuts.Goings.{AreUpdatesFrom}
use Rattle.cluster_laws.specs.cluster_model.Clusters.{Cluster}
use Rattle.cluster_laws.specs.cluster_model.Machines.{outside}
use Rattle.cluster_laws.specs.cluster_runs.Attempts.{Attempt, Beginning, made_by}
use Rattle.whole_laws.specs.cluster_whole.Logged.{Logged, all_entries, entries_to, is_up_to}
use Rattle.whole_laws.specs.cluster_whole.Whole.{IsWhole}
use Rattle.whole_laws.specs.cluster_records.Recorded.{IsAccounted}
use Rattle.whole_laws.specs.cluster_records.Wanting.{AreAsking, is_outside, sizes_from}
use Rattle.whole_laws.proofs.cluster_records.Asking.{counted}
use Rattle.whole_laws.proofs.cluster_records.Filtering.{passing-cons_in, passing-cons_out, passing-none, up_to_no, up_to_yes}
use Rattle.whole_laws.proofs.cluster_records.Gathering.{IsMadeBelow, all_made}
use Rattle.whole_laws.proofs.cluster_records.Outside.{many_outside, out_no, out_yes, sizes_split}

-- ---- of a list of logged updates

-- how many are of machine m
abbrev by_many : ℕ → List Entry → ℕ
by_many m es = length (filter (is_of m) es)

by_in : (m : ℕ) (e : Entry) (es : List Entry) → is_of m e ≡ true → by_many m (e ∷ es) ≡ suc (by_many m es)
by_in m e es is = ap (λ (xs : List Entry). length xs) (cond-true (is_of m e) (e ∷ filter (is_of m) es) (filter (is_of m) es) is)

by_out : (m : ℕ) (e : Entry) (es : List Entry) → is_of m e ≡ false → by_many m (e ∷ es) ≡ by_many m es
by_out m e es is = ap (λ (xs : List Entry). length xs) (cond-false (is_of m e) (e ∷ filter (is_of m) es) (filter (is_of m) es) is)

out_other : (a k : ℕ) (l : Logged) → is_of a l.entry ≡ false → is_outside a k l ≡ false
out_other a k l other = false_from_ne_true (is_outside a k l) (λ is. true_false (is_of a l.entry) (and_first (is_of a l.entry) _ is) other)
  where
    true_false : (b : Bool) → b ≡ true → b ≡ false → ⊥
    true_false b one two = not_so (sym one ∙ two)
      where
        not_so : true ≡ false → ⊥
        not_so is = cc

    and_first : (b c : Bool) → (b && c) ≡ true → b ≡ true
    and_first true c is = refl
    and_first false c is = is

sums_in : (x y z u v w : ℕ) → x ≡ suc u → y ≡ suc v → z ≡ w → u ≡ v + w → x ≡ y + z
sums_in x y z u v w one two three is = omega arith

sums_out : (x y z u v w : ℕ) → x ≡ suc u → y ≡ v → z ≡ suc w → u ≡ v + w → x ≡ y + z
sums_out x y z u v w one two three is = omega arith

sums_none : (x y z u v w : ℕ) → x ≡ u → y ≡ v → z ≡ w → u ≡ v + w → x ≡ y + z
sums_none x y z u v w one two three is = omega arith

-- a machine's updates are those that snapshot k has, and those outside it
in_and_out : (m k : ℕ) (ls : List Logged) → by_many m (all_entries ls) ≡ by_many m (entries_to k ls) + many_outside m k ls
in_and_out m k [] = refl
in_and_out m k (l ∷ ls) =
    let rest = in_and_out m k ls in
    let x : ℕ = by_many m (all_entries (l ∷ ls)) in
    let y : ℕ = by_many m (entries_to k (l ∷ ls)) in
    let z : ℕ = many_outside m k (l ∷ ls) in
    let u : ℕ = by_many m (all_entries ls) in
    let v : ℕ = by_many m (entries_to k ls) in
    let w : ℕ = many_outside m k ls in
    let out_out : is_outside m k l ≡ false → z ≡ w = λ is. ap (λ (es : List Entry). length es) (passing-cons_out (is_outside m k) l ls is) in
    ⊎_elim
    (λ (high : k < l.number).
    let not_held : y ≡ v = ap (by_many m) (passing-cons_out (is_up_to k) l ls (up_to_no k l high)) in
    ⊎_elim
    (λ (own : is_of m l.entry ≡ true).
    sums_out x y z u v w (by_in m l.entry (all_entries ls) own) not_held (ap (λ (es : List Entry). length es) (passing-cons_in (is_outside m k) l ls (out_yes m k l own high))) rest)
    (λ (other : is_of m l.entry ≡ false). sums_none x y z u v w (by_out m l.entry (all_entries ls) other) not_held (out_out (out_other m k l other)) rest)
    (cases_Bool (is_of m l.entry)))
    (λ (low : l.number ≤ k).
    let held : y ≡ by_many m (l.entry ∷ entries_to k ls) = ap (by_many m) (passing-cons_in (is_up_to k) l ls (up_to_yes k l low)) in
    ⊎_elim
    (λ (own : is_of m l.entry ≡ true).
    sums_in x y z u v w (by_in m l.entry (all_entries ls) own) (held ∙ by_in m l.entry (entries_to k ls) own) (out_out (out_no m k l low)) rest)
    (λ (other : is_of m l.entry ≡ false).
    sums_none x y z u v w (by_out m l.entry (all_entries ls) other) (held ∙ by_out m l.entry (entries_to k ls) other) (out_out (out_no m k l low)) rest)
    (cases_Bool (is_of m l.entry)))
    (cases_lt k l.number)

-- of no machine of the cluster, so none
none_outside : (n m k : ℕ) → n ≤ m → (ls : List Logged) → AllByRecursion (IsMadeBelow n) ls → many_outside m k ls ≡ 0
none_outside n m k past ls made = ap (λ (es : List Entry). length es) (passing-none (is_outside m k) ls (each ls made))
  where
    not_same : (n m a : ℕ) → n ≤ m → a < n → m ≡ a → ⊥
    not_same n m a past low same = omega arith

    each : (ls : List Logged) → AllByRecursion (IsMadeBelow n) ls → AllByRecursion (λ l. is_outside m k l ≡ false) ls
    each [] made = tt
    each (l ∷ ls) made = (out_other m k l (made.0.3 m (λ same. not_same n m made.0.0 past made.0.1 same)), each ls made.1)

-- ---- of a cluster

part_low : (x s y : ℕ) → x ≡ s + y → y ≤ x
part_low x s y is = omega arith

first_low : (x y z : ℕ) → x + y ≤ z → x ≤ z
first_low x y z is = omega arith

zero_below : (n k : ℕ) → n ≡ 0 → n ≤ k
zero_below n k is = omega arith

rest_is : (x y z w : ℕ) → x ≡ y + z → x ≡ y + w → z ≡ w
rest_is x y z w one two = omega arith

module _ (st : Setting) (is : IsSetting st) (c : Cluster) (whole : IsWhole st c) (logged : List Logged) (account : IsAccounted st c whole logged) where
  pub few_outside : AreAsking st c logged → st.stored ≡ true → (m : ℕ) → many_outside m c.coordinator.acknowledged logged ≤ st.window
  few_outside asking stored m =
      ⊎_elim
      (λ (low : m < st.machines).
      let counting = asking.counting m low in
      let known : ℕ = (c.machine m).acknowledged in
      le_trans
      (part_low (many_outside m known logged) (sum_by (λ n. n) (sizes_from m (suc known) counting.late logged)) (many_outside m c.coordinator.acknowledged logged)
      (sizes_split m known counting.late logged ∙ ap (λ (k : ℕ). sum_by (λ n. n) (sizes_from m (suc known) counting.late logged) + many_outside m k logged) (sym counting.newest)))
      (subst (λ (k : ℕ). k ≤ st.window) (counted st is c whole logged account.lists asking m low)
      (first_low (outside (c.machine m)) (c.machine m).plans st.window ((whole.within m).window stored))))
      (λ (past : st.machines ≤ m). zero_below (many_outside m c.coordinator.acknowledged logged) st.window (none_outside st.machines m c.coordinator.acknowledged past logged (all_made st is logged account.since)))
      (cases_lt m st.machines)

  -- what of a machine the last snapshot lacks
  pub unheld_many : (failures : List FailureAt) (b : Beginning) → AreUpdatesFrom b.next (all_entries logged) → (m : ℕ) → made_by (unheld_updates (attempt_of failures b c logged)) m ≡ many_outside m c.coordinator.acknowledged logged
  unheld_many failures b tickets m =
      let a : Attempt = attempt_of failures b c logged in
      let k : ℕ = c.coordinator.acknowledged in
      let one : made_by (all_entries logged) m ≡ made_by (held_updates a) m + made_by (unheld_updates a) m =
      sum_by-IsPermutation (λ (e : Entry). if is_of m e then 1 else 0) (held_updates a ++ unheld_updates a) (all_entries logged) (cut_and_left (last_of nothing a.kept) b.next (all_entries logged) tickets)
      ∙ made_by-append (held_updates a) (unheld_updates a) m in
      let two : made_by (all_entries logged) m ≡ made_by (held_updates a) m + many_outside m k logged =
      sym (length-filter (is_of m) (all_entries logged)) ∙ in_and_out m k logged
      ∙ ap (λ (n : ℕ). n + many_outside m k logged)
      (length-filter (is_of m) (entries_to k logged) ∙ ap (λ (es : List Entry). made_by es m) (sym (held_is st is c whole logged account failures b tickets))) in
      rest_is (made_by (all_entries logged) m) (made_by (held_updates a) m) (made_by (unheld_updates a) m) (many_outside m k logged) one two

  pub unheld_few : (failures : List FailureAt) (b : Beginning) → AreUpdatesFrom b.next (all_entries logged) → AreAsking st c logged → st.stored ≡ true → KeepsWindow st.window (attempt_of failures b c logged)
  unheld_few failures b tickets asking stored m = subst (λ (n : ℕ). n ≤ st.window) (sym (unheld_many failures b tickets m)) (few_outside asking stored m)
