-- What a recovery takes away is what has been logged and the base's order lacks.
use Rattle.std.proofs.Common.{◌≡◌, ℕ, zero, suc, ◌+◌, ◌<◌, ◌≤◌, ◌∙◌, ◌==◌, ◌&&◌, ◌||◌, Bool, true, false, List, [], ◌∷◌, ◌++◌, cond, count_by, filter, length, not, refl, sym, ap, ap₂, subst, ⊎_elim, append_assoc, le_refl, arith}
use Rattle.std.specs.List.{AllByRecursion, list_any}
use Rattle.std.proofs.lemmas.Bool.{cases_Bool, eq-eqb, eqb-true}
use Rattle.std.proofs.lemmas.List.Folds.{list_any-append}
use Rattle.std.proofs.lemmas.List.Kept.{AllPairs-filter}
use Rattle.std.proofs.lemmas.List.Sums.{sum_by-append, sum_by-cons}
use Rattle.gl_base.specs.declared.entries.Entry.{Entry}
use Rattle.gl_base.specs.declared.entries.Entry.TheVariants.{Go, Restart}
use Rattle.gl_base.specs.declared.jobs.FailureAt.{FailureAt}
use Rattle.gl_base.specs.declared.numbers.MachineNo.{MachineNo}
use Rattle.gl_base.specs.declared.numbers.Vertex.{Vertex}
use Rattle.call_laws.specs.attempts.Beginnings.{held_updates, last_of, left_out, nothing, unheld_updates}
use Rattle.call_laws.specs.attempts.Entries.{is_restart}
use Rattle.call_laws.proofs.attempts.Accounting.{any_left, any_right}
use Rattle.call_laws.proofs.attempts.Cutting.{all_cut, all_left, cut_and_left}
use Rattle.call_laws.proofs.attempts.Failing.{no_restart}
use Rattle.call_laws.specs.cluster_attempts.CallsSoFar.{attempt_of}
use Rattle.call_laws.proofs.cluster_attempts.Making.{held_is}
use Rattle.cluster_laws.specs.cluster_core.Replays.{ticket_of}
use Rattle.cluster_laws.specs.cluster_core.Settings.{IsSetting, Setting}
use Rattle.cluster_laws.specs.cluster_cuts.Goings.{AreUpdatesFrom}
use Rattle.cluster_laws.specs.cluster_model.ByTicket.{StandByTicket, restarts}
use Rattle.cluster_laws.specs.cluster_model.Clusters.{BaseView, Cluster}
use Rattle.cluster_laws.specs.cluster_model.Events.{GoesBackTo, failures_in}
use Rattle.whole_laws.specs.cluster_records.Bases.{IsBased}
use Rattle.whole_laws.specs.cluster_records.Recorded.{IsAccounted}
use Rattle.whole_laws.proofs.cluster_records.Based.{base_order}
use Rattle.whole_laws.proofs.cluster_records.Numbering.{all_own}
use Rattle.cluster_laws.specs.cluster_runs.Attempts.{Attempt, Beginning}
use Rattle.whole_laws.specs.cluster_whole.Logged.{Logged, all_entries}
use Rattle.whole_laws.specs.cluster_whole.Whole.{IsWhole}
use Rattle.cluster_laws.specs.merged_logs.Merges.{IsMerge}
use Rattle.cluster_laws.proofs.merged_logs.PartLemmas.{logs_merge, updates_rise}
use Rattle.cluster_laws.proofs.merged_logs.SameLemmas.{one_order, same_from}
use Rattle.call_laws.specs.whole_calls.Lost.{RiseByTicket, TakesAway, all_logged, is_lacking, is_update_at, machine_logs}
use Rattle.call_laws.proofs.whole_calls.Fronting.{split}
use Rattle.call_laws.proofs.whole_calls.Losing.{logs_same, own_by_machines, rise_by_ticket, unheld_taken}

-- ---- tests that pass, and that don't

none_any : (p : Entry → Bool) (xs : List Entry) → count_by p xs ≡ 0 → list_any p xs ≡ false
none_any p [] none = refl
none_any p (x ∷ xs) none = one (p x) (sum_by-cons (λ (e : Entry). cond (p e) 1 0) x xs) (none_any p xs)
  where
    some : (n : ℕ) → count_by p (x ∷ xs) ≡ 1 + n → ⊥
    some n is = omega (arith, none, is)

    rest_none : (n : ℕ) → count_by p (x ∷ xs) ≡ 0 + n → n ≡ 0
    rest_none n is = omega (arith, none, is)

    one : (b : Bool) → count_by p (x ∷ xs) ≡ cond b 1 0 + count_by p xs → (count_by p xs ≡ 0 → list_any p xs ≡ false) → (b || list_any p xs) ≡ false
    one true is rest = absurd (some (count_by p xs) is)
    one false is rest = rest (rest_none (count_by p xs) is)

-- both lists are without
neither : (p : Entry → Bool) (xs ys : List Entry) → list_any p xs ≡ false → list_any p ys ≡ false → list_any p (xs ++ ys) ≡ false
neither p xs ys one other = list_any-append p xs ys ∙ ap₂ (λ (b c : Bool). b || c) one other

restarts_none : (t n ticket : ℕ) → list_any (is_update_at t) (restarts n ticket) ≡ false
restarts_none t zero ticket = refl
restarts_none t (suc n) ticket = restarts_none t n ticket

-- ---- tickets

all_from : (low next : ℕ) (made : List Entry) → low ≤ next → AreUpdatesFrom next made → AllByRecursion (λ e. low ≤ ticket_of e) made
all_from low next [] less are = tt
all_from low next (Restart ticket ∷ made) less are = absurd are
all_from low next (Go machine vertex ticket ∷ made) less are = (subst (λ (n : ℕ). low ≤ n) (sym are.0) less, all_from low (suc next) made (le_up low next less) are.1)
  where
    le_up : (n k : ℕ) → n ≤ k → n ≤ suc k
    le_up n k is = omega arith

above_none : (t next : ℕ) (made : List Entry) → t < next → AreUpdatesFrom next made → count_by (is_update_at t) made ≡ 0
above_none t next [] less are = refl
above_none t next (Restart ticket ∷ made) less are = absurd are
above_none t next (Go machine vertex ticket ∷ made) less are =
    sum_by-cons (λ (e : Entry). cond (is_update_at t e) 1 0) (Go machine vertex ticket) made
    ∙ ap₂ (λ (n k : ℕ). n + k) (off (ticket == t) refl) (above_none t (suc next) made (less_up t next less) are.1)
  where
    less_up : (n k : ℕ) → n < k → n < suc k
    less_up n k is = omega arith

    apart : (ticket next t : ℕ) → ticket ≡ next → t < next → ticket ≡ t → ⊥
    apart ticket next t one less same = omega arith

    off : (b : Bool) → (ticket == t) ≡ b → ◌≡◌ {A = ℕ} (cond b 1 0) 0
    off true is = absurd (apart ticket next t are.0 less (eqb-true ticket t is))
    off false is = refl

-- no ticket comes twice
once : (t next : ℕ) (made : List Entry) → AreUpdatesFrom next made → count_by (is_update_at t) made ≤ 1
once t next [] are = none_low
  where
    none_low : 0 ≤ 1
    none_low = omega arith
once t next (Restart ticket ∷ made) are = absurd are
once t next (Go machine vertex ticket ∷ made) are =
    by (ticket == t) refl (sum_by-cons (λ (e : Entry). cond (is_update_at t e) 1 0) (Go machine vertex ticket) made) (once t (suc next) made are.1)
  where
    low : (ticket next t : ℕ) → ticket ≡ next → ticket ≡ t → t < suc next
    low ticket next t one other = omega arith

    at_one : {n : ℕ} (k : ℕ) → n ≡ 1 + k → k ≡ 0 → n ≤ 1
    at_one k one none = omega arith

    at_none : {n : ℕ} (k : ℕ) → n ≡ 0 + k → k ≤ 1 → n ≤ 1
    at_none k one less = omega arith

    by : (b : Bool) → (ticket == t) ≡ b → count_by (is_update_at t) (Go machine vertex ticket ∷ made) ≡ cond b 1 0 + count_by (is_update_at t) made → count_by (is_update_at t) made ≤ 1 →
        count_by (is_update_at t) (Go machine vertex ticket ∷ made) ≤ 1
    by true is many rest = at_one (count_by (is_update_at t) made) many (above_none t (suc next) made (low ticket next t are.0 (eqb-true ticket t is)) are.1)
    by false is many rest = at_none (count_by (is_update_at t) made) many rest

-- each update is found among them
found : (front xs : List Entry) → AllByRecursion (λ entry. is_restart entry ≡ false) xs → AllByRecursion (λ e. 1 ≤ count_by (is_update_at (ticket_of e)) (front ++ xs)) xs
found front [] none = tt
found front (Restart ticket ∷ xs) none = absurd (apart none.0)
  where
    apart : true ≡ false → ⊥
    apart is = cc
found front (Go machine vertex ticket ∷ xs) none =
    let x : Entry = Go machine vertex ticket in (
      some (count_by (is_update_at ticket) front) (count_by (is_update_at ticket) xs)
          (sum_by-append (λ (e : Entry). cond (is_update_at ticket e) 1 0) front (x ∷ xs)
          ∙ ap (λ (n : ℕ). count_by (is_update_at ticket) front + n) (sum_by-cons (λ (e : Entry). cond (is_update_at ticket e) 1 0) x xs ∙ ap (λ (b : Bool). cond b 1 0 + count_by (is_update_at ticket) xs) (eq-eqb ticket ticket refl))),
      subst (λ (es : List Entry). AllByRecursion (λ e. 1 ≤ count_by (is_update_at (ticket_of e)) es) xs) (append_assoc front (x ∷ []) xs) (found (front ++ x ∷ []) xs none.1),
    )
  where
    some : {n : ℕ} (k l : ℕ) → n ≡ k + (1 + l) → 1 ≤ n
    some k l is = omega arith

some_any : (p : Entry → Bool) (xs : List Entry) → 1 ≤ count_by p xs → list_any p xs ≡ true
some_any p xs some =
    ⊎_elim (λ (here : list_any p xs ≡ true). here) (λ (none : list_any p xs ≡ false). absurd (low (count_by p xs) (any_none p xs none) some)) (cases_Bool (list_any p xs))
  where
    low : (n : ℕ) → n ≡ 0 → 1 ≤ n → ⊥
    low n none some = omega arith

    any_none : (p : Entry → Bool) (xs : List Entry) → list_any p xs ≡ false → count_by p xs ≡ 0
    any_none p [] none = refl
    any_none p (x ∷ xs) none = one (p x) (sum_by-cons (λ (e : Entry). cond (p e) 1 0) x xs) (any_none p xs) none
      where
        apart : true ≡ false → ⊥
        apart is = cc

        rest_is : {n : ℕ} (k : ℕ) → n ≡ 0 + k → k ≡ 0 → n ≡ 0
        rest_is k one none = omega arith

        one : (b : Bool) → count_by p (x ∷ xs) ≡ cond b 1 0 + count_by p xs → (list_any p xs ≡ false → count_by p xs ≡ 0) → (b || list_any p xs) ≡ false → count_by p (x ∷ xs) ≡ 0
        one true is rest none = absurd (apart none)
        one false is rest none = rest_is (count_by p xs) is (rest none)

-- an earlier order has none of these tickets
before_none : (t low : ℕ) (xs : List Entry) (machine : MachineNo) (vertex : Vertex) (ticket : ℕ) (ys : List Entry) (high : ℕ) → ticket ≤ t → StandByTicket low (xs ++ Go machine vertex ticket ∷ ys) high → list_any (is_update_at t) xs ≡ false
before_none t low [] machine vertex ticket ys high less stand = refl
before_none t low (Restart k ∷ xs) machine vertex ticket ys high less stand = before_none t k xs machine vertex ticket ys high less stand.1
before_none t low (Go m v k ∷ xs) machine vertex ticket ys high less stand =
    by (k == t) refl (before_none t (suc k) xs machine vertex ticket ys high less stand.1)
  where
    reached : (low : ℕ) (zs : List Entry) → StandByTicket low (zs ++ Go machine vertex ticket ∷ ys) high → low ≤ ticket
    reached low [] stand = stand.0
    reached low (Restart k ∷ zs) stand = up low k ticket stand.0 (reached k zs stand.1)
      where
        up : (a b c : ℕ) → a ≤ b → b ≤ c → a ≤ c
        up a b c one other = omega arith
    reached low (Go m v k ∷ zs) stand = up low k ticket stand.0 (reached (suc k) zs stand.1)
      where
        up : (a b c : ℕ) → a ≤ b → suc b ≤ c → a ≤ c
        up a b c one other = omega arith

    apart : (k ticket t : ℕ) → suc k ≤ ticket → ticket ≤ t → k ≡ t → ⊥
    apart k ticket t one other same = omega arith

    by : (b : Bool) → (k == t) ≡ b → list_any (is_update_at t) xs ≡ false → (b || list_any (is_update_at t) xs) ≡ false
    by true is rest = absurd (apart k ticket t (reached (suc k) xs stand.1) less (eqb-true k t is))
    by false is rest = rest

-- ---- what is lacking

filter_count : (q p : Entry → Bool) (xs : List Entry) → AllByRecursion (λ e. q e ≡ true) xs → count_by (λ x. q x && p x) xs ≡ count_by p xs
filter_count q p [] all = refl
filter_count q p (x ∷ xs) all =
    sum_by-cons (λ (e : Entry). cond (q e && p e) 1 0) x xs ∙ ap₂ (λ (n k : ℕ). n + k) (ap (λ (b : Bool). cond (b && p x) 1 0) all.0) (filter_count q p xs all.1)
    ∙ sym (sum_by-cons (λ (e : Entry). cond (p e) 1 0) x xs)

filter_none : (q p : Entry → Bool) (xs : List Entry) → AllByRecursion (λ e. q e ≡ false) xs → count_by (λ x. q x && p x) xs ≡ 0
filter_none q p [] all = refl
filter_none q p (x ∷ xs) all =
    sum_by-cons (λ (e : Entry). cond (q e && p e) 1 0) x xs ∙ ap₂ (λ (n k : ℕ). n + k) (ap (λ (b : Bool). cond (b && p x) 1 0) all.0) (filter_none q p xs all.1)

zero_more : (n : ℕ) → 0 + n ≡ n
zero_more n = omega arith

module _ (st : Setting) (is : IsSetting st) (c : Cluster) (whole : IsWhole st c) (logged : List Logged) (account : IsAccounted st c whole logged) (based : IsBased st c logged)
    (failures : List FailureAt) (b : Beginning) (tickets : AreUpdatesFrom b.next (all_entries logged)) (base : BaseView) (back : GoesBackTo st c base) where
  abbrev made : List Entry
  made = all_entries logged

  abbrev a : Attempt
  a = attempt_of failures b c logged

  abbrev count : ℕ → ℕ
  count = last_of nothing a.kept

  abbrev lacking : Entry → Bool
  lacking = is_lacking base.order

  parts : base.order ≡ (c.base.order ++ held_updates a) ++ restarts (failures_in st c) c.next
  parts = base_order st is c whole logged account based base back ∙ ap (λ (es : List Entry). (c.base.order ++ es) ++ restarts (failures_in st c) c.next) (sym (held_is st is c whole logged account failures b tickets))

  held_found : (xs : List Entry) → AllByRecursion (λ e. 1 ≤ count_by (is_update_at (ticket_of e)) (held_updates a)) xs → AllByRecursion (λ e. lacking e ≡ false) xs
  held_found [] all = tt
  held_found (x ∷ xs) all = (
    ap not
        (ap (list_any (is_update_at (ticket_of x))) parts
        ∙ any_left (is_update_at (ticket_of x)) (c.base.order ++ held_updates a) (restarts (failures_in st c) c.next)
        (any_right (is_update_at (ticket_of x)) c.base.order (held_updates a) (some_any (is_update_at (ticket_of x)) (held_updates a) all.0))),
    held_found xs all.1,
  )

  none_held : (x : Entry) → 1 ≤ count_by (is_update_at (ticket_of x)) (unheld_updates a) → count_by (is_update_at (ticket_of x)) (held_updates a) ≡ 0
  none_held x some =
      let p : Entry → Bool = is_update_at (ticket_of x) in
      only (count_by p (held_updates a)) (count_by p (unheld_updates a))
      (sym (same_from (held_updates a ++ unheld_updates a) made (cut_and_left count b.next made tickets) p) ∙ sum_by-append (λ (e : Entry). cond (p e) 1 0) (held_updates a) (unheld_updates a))
      (once (ticket_of x) b.next made tickets) some
    where
      only : {n : ℕ} (k l : ℕ) → n ≡ k + l → n ≤ 1 → 1 ≤ l → k ≡ 0
      only k l one two three = omega arith

  none_before : (es : List Entry) → all_entries logged ≡ es → AreUpdatesFrom b.next es → (x : Entry) → b.next ≤ ticket_of x → 1 ≤ length es → list_any (is_update_at (ticket_of x)) c.base.order ≡ false
  none_before [] same are x low some = absurd (nothing_there some)
    where
      nothing_there : 1 ≤ 0 → ⊥
      nothing_there is = omega arith
  none_before (Restart ticket ∷ es) same are x low some = absurd are
  none_before (Go machine vertex ticket ∷ es) same are x low some =
      before_none (ticket_of x) 0 c.base.order machine vertex ticket es c.next (subst (λ (n : ℕ). n ≤ ticket_of x) (sym are.0) low)
      (subst (λ (all : List Entry). StandByTicket 0 (c.base.order ++ all) c.next) same based.by_ticket)

  unheld_lacks : (xs : List Entry) → AllByRecursion (λ e. 1 ≤ count_by (is_update_at (ticket_of e)) (unheld_updates a)) xs → AllByRecursion (λ e. b.next ≤ ticket_of e) xs → 1 ≤ length made →
      AllByRecursion (λ e. lacking e ≡ true) xs
  unheld_lacks [] all high some = tt
  unheld_lacks (x ∷ xs) all high some =
      let p : Entry → Bool = is_update_at (ticket_of x) in (
        ap not
            (ap (list_any p) parts
            ∙ neither p (c.base.order ++ held_updates a) (restarts (failures_in st c) c.next)
            (neither p c.base.order (held_updates a) (none_before made refl tickets x high.0 some) (none_any p (held_updates a) (none_held x all.0)))
            (restarts_none (ticket_of x) (failures_in st c) c.next)),
        unheld_lacks xs all.1 high.1 some,
      )

  all_lacking : (es : List Entry) → made ≡ es → AllByRecursion (λ e. lacking e ≡ true) (unheld_updates a)
  all_lacking [] none = subst (λ (ms : List Entry). AllByRecursion (λ e. lacking e ≡ true) (left_out count ms)) (sym none) tt
  all_lacking (e ∷ es) same =
      unheld_lacks (unheld_updates a) (found [] (unheld_updates a) (all_left (λ entry. is_restart entry ≡ false) count made (no_restart b.next made tickets)))
      (all_left (λ e. b.next ≤ ticket_of e) count made (all_from b.next b.next made (le_refl b.next) tickets)) (subst (λ (ms : List Entry). 1 ≤ length ms) (sym same) (some (length es)))
    where
      some : (n : ℕ) → 1 ≤ suc n
      some n = omega arith

  lacking_is : filter lacking made ≡ unheld_updates a
  lacking_is =
      let taken : TakesAway st c base (unheld_updates a) = unheld_taken st is c whole logged account based failures b tickets base back in
      let rises : RiseByTicket (filter lacking made) = AllPairs-filter (λ (earlier later : Entry). ticket_of earlier < ticket_of later) lacking made (updates_rise b.next made tickets) in
      one_order (filter lacking made) (unheld_updates a) (rise_by_ticket (filter lacking made) rises) taken.rise (λ p.
      split lacking p made
      ∙ sym (same_from (held_updates a ++ unheld_updates a) made (cut_and_left count b.next made tickets) (λ x. lacking x && p x))
      ∙ sum_by-append (λ (e : Entry). cond (lacking e && p e) 1 0) (held_updates a) (unheld_updates a)
      ∙ ap₂ (λ (n k : ℕ). n + k)
      (filter_none lacking p (held_updates a) (held_found (held_updates a) (found [] (held_updates a) (all_cut (λ entry. is_restart entry ≡ false) count made (no_restart b.next made tickets)))))
      (filter_count lacking p (unheld_updates a) (all_lacking made refl))
      ∙ zero_more (count_by p (unheld_updates a)))

  -- what is merged of the logs, and the base's order lacks
  pub lacking_taken : (merged : List Entry) → IsMerge (all_logged (machine_logs st.machines c)) merged → TakesAway st c base (filter lacking merged)
  lacking_taken merged merges =
      let same : merged ≡ made = logs_merge st.machines made merged (updates_rise b.next made tickets) (own_by_machines st is made (all_own st is logged account.since))
      (subst (λ (logs : List (List Entry)). IsMerge (all_logged logs) merged) (logs_same st is c whole logged account based failures b tickets) merges) in
      subst (TakesAway st c base) (sym lacking_is ∙ ap (filter lacking) (sym same)) (unheld_taken st is c whole logged account based failures b tickets base back)
