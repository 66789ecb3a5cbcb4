-- What is so where the store takes no record more.
use Rattle.std.proofs.Common.{◌≡◌, ◌⊎◌, ℕ, zero, suc, ◌+◌, ◌*◌, ◌<◌, ◌≤◌, List, [], ◌∷◌, ◌++◌, length, map, inl, inr, refl, sym, ◌∙◌, ap, subst, ⊎_elim, length-append, arith}
use Rattle.std.proofs.lemmas.Bool.{cases_lt}
use Rattle.std.proofs.lemmas.List.{length-map}
use Rattle.std.proofs.lemmas.List.Sorted.{length_permutation}
use Rattle.gl_base.specs.declared.entries.Entry.{Entry}
use Rattle.gl_base.specs.declared.jobs.FailureAt.{FailureAt}
use Rattle.graph_core.specs.DataGraph.{size}
use Rattle.call_laws.specs.attempts.Beginnings.{again, held_updates, last_of, nothing, order_after, snapshot_order, unheld_updates}
use Rattle.call_laws.specs.attempts.Stores.{ResumesFrom, last_order, snapshot_orders}
use Rattle.call_laws.proofs.attempts.Cutting.{cut_and_left}
use Rattle.call_laws.proofs.attempts.Prefixes.{last_order_map}
use Rattle.call_laws.specs.cluster_attempts.CallsSoFar.{attempt_of}
use Rattle.call_laws.proofs.cluster_attempts.Making.{held_is}
use Rattle.cluster_laws.specs.cluster_core.Cuts.{cut_of}
use Rattle.cluster_laws.specs.cluster_core.Settings.{IsSetting, Setting}
use Rattle.cluster_laws.specs.cluster_cuts.Goings.{AreUpdatesFrom}
use Rattle.cluster_laws.specs.cluster_model.ByTicket.{restarts}
use Rattle.cluster_laws.specs.cluster_model.Clusters.{Cluster}
use Rattle.cluster_laws.specs.cluster_model.Events.{entries_below}
use Rattle.cluster_laws.specs.cluster_model.Leading.{HasStoreRoom, RecordIsDue, Snapshot, come_or, record_length}
use Rattle.cluster_laws.specs.cluster_model.Totals.{total}
use Rattle.cluster_laws.specs.cluster_runs.Attempts.{Attempt, Beginning}
use Rattle.whole_laws.specs.cluster_whole.Logged.{Logged, all_entries, entries_to}
use Rattle.whole_laws.specs.cluster_whole.Whole.{IsWhole}
use Rattle.whole_laws.specs.cluster_records.Recorded.{IsAccounted, snapshot_due}
use Rattle.whole_laws.proofs.cluster_records.Fewness.{held_few}
use Rattle.whole_laws.proofs.cluster_records.Fronts.{below_long}
use Rattle.whole_laws.proofs.cluster_records.Gathering.{one_gathered}
use Rattle.whole_laws.proofs.cluster_records.Recording.{due_updates, next_number}
use Rattle.call_laws.specs.whole_calls.Telling.{length_with}

-- ---- the last order

-- the last order is the one before where the attempt acknowledged nothing, and else what its last snapshot has
pub newest_is : (snapshot : List Entry) (b : Beginning) (a : Attempt) → ((a.kept ≡ []) × (last_order snapshot (snapshot_orders b a) ≡ snapshot)) ⊎ (last_order snapshot (snapshot_orders b a) ≡ b.front ++ held_updates a)
newest_is snapshot b a = by_kept a.kept refl
  where
    by_kept : (counts : List (ℕ → ℕ)) → a.kept ≡ counts → ((a.kept ≡ []) × (last_order snapshot (snapshot_orders b a) ≡ snapshot)) ⊎ (last_order snapshot (snapshot_orders b a) ≡ b.front ++ held_updates a)
    by_kept [] same = inl (same, ap (λ (counts : List (ℕ → ℕ)). last_order snapshot (map (snapshot_order b a) counts)) same)
    by_kept (count ∷ counts) same =
        inr (ap (λ (cs : List (ℕ → ℕ)). last_order snapshot (map (snapshot_order b a) cs)) same ∙ last_order_map (snapshot_order b a) count counts
        ∙ ap (λ (cs : List (ℕ → ℕ)). b.front ++ cut_of (last_of nothing cs) a.made) (sym same))

long_restarts : (n ticket : ℕ) → length (restarts n ticket) ≡ n
long_restarts zero ticket = refl
long_restarts (suc n) ticket = ap suc (long_restarts n ticket)

not_longer : (x front held own missing newest : ℕ) → x ≡ front + (held + own) → front ≡ newest + missing → 1 ≤ own → x ≡ newest → ⊥
not_longer x front held own missing newest one two some same = omega arith

not_longer_held : (x front held own newest : ℕ) → x ≡ front + (held + own) → newest ≡ front + held → 1 ≤ own → x ≡ newest → ⊥
not_longer_held x front held own newest one two some same = omega arith

-- where an attempt failed, the next one begins behind the last order, and not with it
pub again_longer : (newest : List Entry) (b : Beginning) (a : Attempt) → ResumesFrom newest b.front → 1 ≤ a.struck → (again b a).front ≡ last_order newest (snapshot_orders b a) → ⊥
again_longer newest b a back some same =
    let own : List Entry = restarts a.struck (b.next + length a.made) in
    let long : length (again b a).front ≡ length b.front + (length (held_updates a) + length own) =
    length-append b.front (held_updates a ++ own) ∙ ap (λ (n : ℕ). length b.front + n) (length-append (held_updates a) own) in
    let some_own : 1 ≤ length own = subst (λ (n : ℕ). 1 ≤ n) (sym (long_restarts a.struck (b.next + length a.made))) some in
    ⊎_elim
    (λ (none : (a.kept ≡ []) × (last_order newest (snapshot_orders b a) ≡ newest)).
    not_longer (length (again b a).front) (length b.front) (length (held_updates a)) (length own) (length back.0) (length newest) long
    (ap (λ (es : List Entry). length es) back.1 ∙ length-append newest back.0) some_own (ap (λ (es : List Entry). length es) (same ∙ none.1)))
    (λ (held : last_order newest (snapshot_orders b a) ≡ b.front ++ held_updates a).
    not_longer_held (length (again b a).front) (length b.front) (length (held_updates a)) (length own) (length (last_order newest (snapshot_orders b a))) long
    (ap (λ (es : List Entry). length es) held ∙ length-append b.front (held_updates a)) some_own (ap (λ (es : List Entry). length es) same))
    (newest_is newest b a)

none_of : (newest missing made : ℕ) → newest ≡ (newest + missing) + made → made ≡ 0
none_of newest missing made is = omega arith

pub nil_of : {X : Type 0} (xs : List X) → length xs ≡ 0 → xs ≡ []
nil_of [] is = refl
nil_of (x ∷ xs) is = absurd (not_zero (length xs) is)
  where
    not_zero : (n : ℕ) → suc n ≡ 0 → ⊥
    not_zero n is = omega arith

-- an attempt that acknowledged nothing leads to the last order only where it made nothing
pub made_none : (newest : List Entry) (b : Beginning) (a : Attempt) → ResumesFrom newest b.front → newest ≡ order_after b a → a.made ≡ []
made_none newest b a back same =
    nil_of a.made (none_of (length newest) (length back.0) (length a.made)
    (ap (λ (es : List Entry). length es) same ∙ length-append b.front a.made ∙ ap (λ (n : ℕ). n + length a.made) (ap (λ (es : List Entry). length es) back.1 ∙ length-append newest back.0)))

-- ---- what is due

few_below : (held below next all unheld : ℕ) → next ≡ held + below → next ≤ all → all ≡ held + unheld → below ≤ unheld
few_below held below next all unheld one low two = omega arith

module _ (st : Setting) (is : IsSetting st) (c : Cluster) (whole : IsWhole st c) (logged : List Logged) (account : IsAccounted st c whole logged) (failures : List FailureAt) (b : Beginning) (tickets : AreUpdatesFrom b.next (all_entries logged)) where
  abbrev its : Attempt
  its = attempt_of failures b c logged

  -- what a record that is due brings is outside the last snapshot
  pub due_few : RecordIsDue st c.coordinator → total st.machines (λ a. length (come_or (c.coordinator.come a)).entries) ≤ length (unheld_updates its)
  due_few due =
      let k : ℕ = c.coordinator.acknowledged in
      let snapshot : Snapshot = snapshot_due c.coordinator in
      let below : List Entry = entries_below st.machines snapshot in
      subst (λ (n : ℕ). n ≤ length (unheld_updates its)) (below_long st.machines snapshot)
      (few_below (length (entries_to k logged)) (length below) (length (entries_to (suc k) logged)) (length logged) (length (unheld_updates its))
      (length_permutation (entries_to k logged ++ below) (entries_to (suc k) logged)
      (one_gathered st is logged account.since k snapshot (next_number st is c whole due) (due_updates st is c whole logged account.records account.sections due))
      ∙ length-append (entries_to k logged) below)
      (held_few (suc k) logged)
      (sym (length-map logged (λ (l : Logged). l.entry))
      ∙ length_permutation (held_updates its ++ unheld_updates its) (all_entries logged) (cut_and_left (last_of nothing its.kept) b.next (all_entries logged) tickets)
      ∙ length-append (held_updates its) (unheld_updates its)
      ∙ ap (λ (es : List Entry). length es + length (unheld_updates its)) (held_is st is c whole logged account failures b tickets)))

  more_bytes : (end few many a b c most : ℕ) → few ≤ many → most < end + (8 + 16 * few + a + b + c + 9) → most < end + (8 + 16 * many + a + b + c + 9)
  more_bytes end few many a b c most low over = omega arith

  -- a record that is refused is one too many or too long
  pub refused_by : RecordIsDue st c.coordinator → (HasStoreRoom st c.coordinator → ⊥) → (4096 ≤ c.coordinator.acknowledged) ⊎ (1073741824 < c.coordinator.store_end + length_with st (length (unheld_updates its)))
  refused_by due refused =
      ⊎_elim
      (λ (few : c.coordinator.acknowledged < 4096).
      ⊎_elim
      (λ (over : 1073741824 < c.coordinator.store_end + record_length st (λ a. come_or (c.coordinator.come a))).
      inr (more_bytes c.coordinator.store_end (total st.machines (λ a. length (come_or (c.coordinator.come a)).entries)) (length (unheld_updates its)) (8 * st.machines) (12 * size st.graph) (12 * length st.graph.edges) 1073741824
      (due_few due) over))
      (λ (short : c.coordinator.store_end + record_length st (λ a. come_or (c.coordinator.come a)) ≤ 1073741824). absurd (refused (record { few = few; short = short })))
      (cases_lt 1073741824 (c.coordinator.store_end + record_length st (λ a. come_or (c.coordinator.come a)))))
      (λ (many : 4096 ≤ c.coordinator.acknowledged). inl many)
      (cases_lt c.coordinator.acknowledged 4096)
