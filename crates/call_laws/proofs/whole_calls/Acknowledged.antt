-- The snapshots of an attempt are of its orders, one after another.
use Rattle.std.proofs.Common.{◌≡◌, ◌≤◌, ℕ, suc, ◌+◌, List, [], ◌∷◌, ◌++◌, length, map, true, IsPermutation, refl, sym, ◌∙◌, ap, subst, subst₂, append-nil, append_assoc, arith}
use Rattle.std.specs.List.{AllByRecursion}
use Rattle.std.proofs.lemmas.List.{map-append}
use Rattle.std.proofs.lemmas.List.Sorted.{IsPermutation-append_right}
use Rattle.gl_base.specs.declared.entries.Entry.{Entry}
use Rattle.gl_base.specs.declared.jobs.FailureAt.{FailureAt}
use Rattle.call_laws.specs.attempts.Beginnings.{again, last_of, nothing, snapshot_order}
use Rattle.call_laws.specs.attempts.EngineCalls.{begins_behind}
use Rattle.call_laws.specs.attempts.Entries.{is_restart}
use Rattle.call_laws.specs.attempts.Stores.{ResumesFrom, attempted_snapshots, last_order, snapshot_orders}
use Rattle.call_laws.specs.cluster_attempts.CallsSoFar.{attempt_of, count_to, counts_of}
use Rattle.call_laws.proofs.cluster_attempts.Counted.{count_rises, cut_is, last_count}
use Rattle.call_laws.proofs.cluster_attempts.Making.{count_none, valid_here}
use Rattle.cluster_laws.specs.cluster_core.Cuts.{cut_of}
use Rattle.cluster_laws.specs.cluster_core.Settings.{IsSetting, Setting}
use Rattle.cluster_laws.specs.cluster_cuts.Goings.{AreUpdatesFrom}
use Rattle.cluster_laws.specs.cluster_model.Clusters.{Cluster}
use Rattle.cluster_laws.specs.cluster_model.Events.{entries_below, snapshot_numbers}
use Rattle.cluster_laws.specs.cluster_model.Leading.{RecordIsDue, Snapshot}
use Rattle.cluster_laws.specs.cluster_runs.Attempts.{Attempt, Beginning}
use Rattle.whole_laws.specs.cluster_whole.Logged.{Logged, all_entries, entries_to, is_up_to}
use Rattle.whole_laws.specs.cluster_whole.Whole.{IsWhole}
use Rattle.whole_laws.specs.cluster_records.Bases.{IsBased}
use Rattle.whole_laws.specs.cluster_records.Recorded.{GoOnByNumber, HaveSameNumbers, IsAccounted, IsGoodSnapshot, snapshot_due}
use Rattle.whole_laws.proofs.cluster_records.Based.{snapshot_replayed}
use Rattle.whole_laws.proofs.cluster_records.Filtering.{nothing_up_to}
use Rattle.whole_laws.proofs.cluster_records.Gathering.{all_since, one_gathered}
use Rattle.whole_laws.proofs.cluster_records.Numbering.{passing_own}
use Rattle.whole_laws.proofs.cluster_records.Recording.{due_good, next_number, one_recorded}
use Rattle.seq_run.specs.Orders.{IsValidFrom, all_tasks, replay}
use Rattle.call_laws.specs.whole_calls.Saved.{AreSnapshotsOf, IsSnapshotOf}

plus_none : (n : ℕ) → n + 0 ≡ n
plus_none n = omega arith

plus_suc : (n k : ℕ) → n + suc k ≡ suc n + k
plus_suc n k = omega arith

pub snapshots_append : (st : Setting) (n : ℕ) (before : List Entry) (xs ys : List Snapshot) (os ps : List (List Entry)) → AreSnapshotsOf st n before xs os → AreSnapshotsOf st (n + length xs) (last_order before os) ys ps →
    AreSnapshotsOf st n before (xs ++ ys) (os ++ ps)
snapshots_append st n before [] ys [] ps one other = subst (λ (k : ℕ). AreSnapshotsOf st k before ys ps) (plus_none n) other
snapshots_append st n before [] ys (o ∷ os) ps one other = absurd one
snapshots_append st n before (x ∷ xs) ys [] ps one other = absurd one
snapshots_append st n before (x ∷ xs) ys (o ∷ os) ps one other =
    (one.0, snapshots_append st (suc n) o xs ys os ps one.1 (subst (λ (k : ℕ). AreSnapshotsOf st k (last_order o os) ys ps) (plus_suc n (length xs)) other))

pub snapshots_long : (st : Setting) (n : ℕ) (before : List Entry) (xs : List Snapshot) (os : List (List Entry)) → AreSnapshotsOf st n before xs os → length os ≡ length xs
snapshots_long st n before [] [] are = refl
snapshots_long st n before [] (o ∷ os) are = absurd are
snapshots_long st n before (x ∷ xs) [] are = absurd are
snapshots_long st n before (x ∷ xs) (o ∷ os) are = ap suc (snapshots_long st (suc n) o xs os are.1)

-- the last of them
last_snapshot : (st : Setting) (n : ℕ) (before : List Entry) (xs : List Snapshot) (x : Snapshot) (os : List (List Entry)) (o : List Entry) → AreSnapshotsOf st n before (xs ++ x ∷ []) (os ++ o ∷ []) →
    IsSnapshotOf st (suc (n + length xs)) (last_order before os) o x
last_snapshot st n before [] x [] o are = subst (λ (k : ℕ). IsSnapshotOf st (suc k) before o x) (sym (plus_none n)) are.0
last_snapshot st n before [] x (p ∷ []) o are = absurd are.1
last_snapshot st n before [] x (p ∷ q ∷ os) o are = absurd are.1
last_snapshot st n before (y ∷ []) x [] o are = absurd are.1
last_snapshot st n before (y ∷ z ∷ xs) x [] o are = absurd are.1
last_snapshot st n before (y ∷ xs) x (p ∷ os) o are = subst (λ (k : ℕ). IsSnapshotOf st (suc k) (last_order p os) o x) (sym (plus_suc n (length xs))) (last_snapshot st (suc n) p xs x os o are.1)

pub numbered_long : (low high : ℕ) (snapshots : List Snapshot) → GoOnByNumber low snapshots high → high ≡ low + length snapshots
numbered_long low high [] numbered = numbered ∙ sym (plus_none low)
numbered_long low high (snapshot ∷ snapshots) numbered = numbered_long (suc low) high snapshots numbered.1 ∙ sym (plus_suc low (length snapshots))

pub attempted_push : (b : Beginning) (failed : List Attempt) (a : Attempt) → attempted_snapshots b (failed ++ a ∷ []) ≡ attempted_snapshots b failed ++ snapshot_orders (begins_behind b failed) a
attempted_push b [] a = append-nil (snapshot_orders b a)
attempted_push b (one ∷ failed) a =
    ap (λ (orders : List (List Entry)). snapshot_orders b one ++ orders) (attempted_push (again b one) failed a)
    ∙ sym (append_assoc (snapshot_orders b one) (attempted_snapshots (again b one) failed) (snapshot_orders (begins_behind (again b one) failed) a))

module _ (st : Setting) (is : IsSetting st) (c : Cluster) (whole : IsWhole st c) (logged : List Logged) (account : IsAccounted st c whole logged) (based : IsBased st c logged)
    (failures : List FailureAt) (b : Beginning) (front : c.base.order ≡ b.front) (tickets : AreUpdatesFrom b.next (all_entries logged)) where
  abbrev its_attempt : Attempt
  its_attempt = attempt_of failures b c logged

  order_is : (snapshot : Snapshot) → IsGoodSnapshot st logged snapshot → snapshot_order b its_attempt (count_to logged snapshot.number) ≡ b.front ++ entries_to snapshot.number logged
  order_is snapshot good = ap (λ (es : List Entry). b.front ++ es) (cut_is snapshot.number logged b.next tickets good.first)

  -- behind an order that lacks these restarts of what the snapshots before have
  snapshots_from : (low high : ℕ) (before missing : List Entry) → AllByRecursion (λ entry. is_restart entry ≡ true) missing → before ++ missing ≡ b.front ++ entries_to low logged →
      (snapshots : List Snapshot) → GoOnByNumber low snapshots high → AllByRecursion (IsGoodSnapshot st logged) snapshots →
      AreSnapshotsOf st low before snapshots (map (snapshot_order b its_attempt) (counts_of logged snapshots))
  snapshots_from low high before missing alone same [] numbered good = tt
  snapshots_from low high before missing alone same (snapshot ∷ snapshots) numbered good =
      let order : List Entry = snapshot_order b its_attempt (count_to logged snapshot.number) in
      let brought : List Entry = entries_below st.machines snapshot in
      let is_order : order ≡ b.front ++ entries_to snapshot.number logged = order_is snapshot good.0 in
      let now : order ≡ b.front ++ entries_to (suc low) logged = is_order ∙ ap (λ (k : ℕ). b.front ++ entries_to k logged) numbered.0 in (
        (
          numbered.0,
          subst (λ (es : List Entry). HaveSameNumbers st.graph (snapshot_numbers st snapshot) (replay st.graph st.program es))
              (ap (λ (es : List Entry). es ++ entries_to snapshot.number logged) front ∙ sym is_order)
              (snapshot_replayed st is c whole logged account based snapshot good.0),
          missing,
          alone,
          subst₂ IsPermutation
              (sym (sym (append_assoc before missing brought) ∙ ap (λ (es : List Entry). es ++ brought) same ∙ append_assoc b.front (entries_to low logged) brought))
              (sym now)
              (IsPermutation-append_right b.front (entries_to low logged ++ brought) (entries_to (suc low) logged) (one_gathered st is logged account.since low snapshot numbered.0 good.0.updates)),
        ),
        snapshots_from (suc low) high order [] tt (append-nil order ∙ now) snapshots numbered.1 good.1,
      )

  -- what the attempt began with
  begins_with : (before : List Entry) (resumes : ResumesFrom before b.front) → before ++ resumes.0 ≡ b.front ++ entries_to st.base logged
  begins_with before resumes =
      sym resumes.1 ∙ sym (append-nil b.front) ∙ ap (λ (es : List Entry). b.front ++ es) (sym (nothing_up_to st.base logged (all_since st is logged account.since)))

  pub good_snapshots : (before : List Entry) → ResumesFrom before b.front → AreSnapshotsOf st st.base before c.coordinator.snapshots (snapshot_orders b its_attempt)
  good_snapshots before resumes =
      snapshots_from st.base c.coordinator.acknowledged before resumes.0 resumes.2 (begins_with before resumes) c.coordinator.snapshots account.records.numbered account.records.good

  -- and the one that is due may follow them
  pub pending_is : (before : List Entry) → ResumesFrom before b.front → RecordIsDue st c.coordinator →
      (later : ℕ → ℕ)
      × ((v : ℕ) → last_of nothing its_attempt.kept v ≤ later v)
      × IsValidFrom st.graph st.program (replay st.graph st.program b.front) (all_tasks st.graph) (cut_of later (all_entries logged))
      × IsSnapshotOf st c.coordinator.begun (last_order before (snapshot_orders b its_attempt)) (snapshot_order b its_attempt later) (snapshot_due c.coordinator)
  pending_is before resumes is_due =
      let k : ℕ = c.coordinator.acknowledged in
      let begun : ℕ = c.coordinator.begun in
      let snapshots : List Snapshot = c.coordinator.snapshots in
      let last : Snapshot = snapshot_due c.coordinator in
      let next : begun ≡ suc k = next_number st is c whole is_due in
      let good : IsGoodSnapshot st logged last = due_good st is c whole logged account.records account.order account.sections is_due in
      let records = one_recorded st is c whole logged account.records account.order account.sections is_due in
      let held : last_of nothing (counts_of logged snapshots) ≡ count_to logged k =
      ap (λ (count : ℕ → ℕ). last_of count (counts_of logged snapshots)) (sym (count_none st is c whole logged account failures b)) ∙ last_count logged st.base k snapshots account.records.numbered in
      let f : (ℕ → ℕ) → List Entry = snapshot_order b its_attempt in
      let g : Snapshot → ℕ → ℕ = λ (snapshot : Snapshot). count_to logged snapshot.number in
      let orders : map f (counts_of logged (snapshots ++ last ∷ [])) ≡ snapshot_orders b its_attempt ++ f (count_to logged begun) ∷ [] =
      ap (map f) (map-append g snapshots (last ∷ [])) ∙ map-append f (map g snapshots) (count_to logged begun ∷ []) in (
        count_to logged begun,
        λ v. subst (λ (n : ℕ). n ≤ count_to logged begun v) (sym (λ i. held i v)) (subst (λ (n : ℕ). count_to logged k v ≤ count_to logged n v) (sym next) (count_rises k logged v)),
        subst (IsValidFrom st.graph st.program (replay st.graph st.program b.front) (all_tasks st.graph)) (sym (cut_is begun logged b.next tickets good.first))
            (valid_here st is c whole logged account failures b based front (entries_to begun logged) (passing_own st is (is_up_to begun) logged account.since) good.valid),
        subst (λ (n : ℕ). IsSnapshotOf st n (last_order before (snapshot_orders b its_attempt)) (f (count_to logged begun)) last)
            (ap suc (sym (numbered_long st.base k snapshots account.records.numbered)) ∙ sym next)
            (last_snapshot st st.base before snapshots last (snapshot_orders b its_attempt) (f (count_to logged begun))
            (subst (AreSnapshotsOf st st.base before (snapshots ++ last ∷ [])) orders
            (snapshots_from st.base begun before resumes.0 resumes.2 (begins_with before resumes) (snapshots ++ last ∷ []) records.numbered records.good))),
      )
