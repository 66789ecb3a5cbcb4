-- What a recovery takes away is what the attempt's last snapshot doesn't hold.
use Rattle.std.proofs.Common.{◌≡◌, ℕ, suc, ◌+◌, ◌<◌, ◌≤◌, ◌∙◌, Bool, true, false, List, [], ◌∷◌, ◌++◌, All, cond, count_by, get_or, inl, inr, length, map, sym, ap, subst, le_refl, append_assoc, append-nil, arith}
use Rattle.std.specs.List.{AllByRecursion, range_with_len}
use Rattle.std.proofs.Math.Nat.{le_antisymm}
use Rattle.std.proofs.lemmas.Bool.{cases_lt}
use Rattle.std.proofs.lemmas.List.Elements.{All-cons, All-nil}
use Rattle.std.proofs.lemmas.List.Kept.{AllPairs-cons}
use Rattle.std.proofs.lemmas.List.Sums.{sum_by-append}
use Rattle.gl_base.specs.declared.entries.Entry.{Entry}
use Rattle.gl_base.specs.declared.entries.Entry.TheVariants.{Go, Restart}
use Rattle.gl_base.specs.declared.jobs.FailureAt.{FailureAt}
use Rattle.call_laws.specs.attempts.Beginnings.{held_updates, last_of, nothing, unheld_updates}
use Rattle.call_laws.specs.attempts.EngineCalls.{lost_in}
use Rattle.call_laws.specs.attempts.Entries.{is_restart}
use Rattle.call_laws.proofs.attempts.Cutting.{all_left, cut_and_left, stand_left}
use Rattle.call_laws.proofs.attempts.Failing.{no_restart}
use Rattle.call_laws.proofs.attempts.Standing.{stand_made}
use Rattle.call_laws.specs.cluster_attempts.CallsSoFar.{attempt_of}
use Rattle.call_laws.proofs.cluster_attempts.Making.{held_is, logs_are}
use Rattle.cluster_laws.specs.cluster_core.Replays.{ticket_of}
use Rattle.cluster_laws.specs.cluster_core.Settings.{IsSetting, Setting}
use Rattle.cluster_laws.specs.cluster_cuts.Goings.{AreUpdatesFrom}
use Rattle.cluster_laws.specs.cluster_model.ByTicket.{StandByTicket, restarts}
use Rattle.cluster_laws.specs.cluster_model.Clusters.{BaseView, Cluster}
use Rattle.cluster_laws.specs.cluster_model.Events.{GoesBackTo, failures_in}
use Rattle.whole_laws.specs.cluster_records.Bases.{IsBased}
use Rattle.whole_laws.specs.cluster_records.Recorded.{IsAccounted, IsOwnUpdate}
use Rattle.whole_laws.proofs.cluster_records.Based.{base_order}
use Rattle.whole_laws.proofs.cluster_records.Numbering.{all_own}
use Rattle.cluster_laws.specs.cluster_runs.Attempts.{Attempt, Beginning}
use Rattle.whole_laws.specs.cluster_whole.Logged.{Logged, all_entries, entries_to}
use Rattle.whole_laws.specs.cluster_whole.Whole.{IsWhole}
use Rattle.cluster_laws.specs.merged_logs.Merges.{IsByMachineBelow, IsByTicket, logs_of}
use Rattle.cluster_laws.proofs.merged_logs.PartLemmas.{parts_have_all}
use Rattle.cluster_laws.proofs.merged_logs.SameLemmas.{HaveSame, one_order, permutation_from, same_from}
use Rattle.call_laws.specs.whole_calls.Lost.{RiseByTicket, TakesAway, all_logged, machine_logs}

-- ---- lists by ticket

le_up : (a b c : ℕ) → a ≤ b → b ≤ c → a ≤ c
le_up a b c one other = omega arith

suc_le : (a b c : ℕ) → a ≤ b → suc b ≤ c → a ≤ c
suc_le a b c one other = omega arith

all_high : (low middle : ℕ) (order : List Entry) (high : ℕ) → low ≤ middle → StandByTicket middle order high → All (λ (e : Entry). low ≤ ticket_of e) order
all_high low middle [] high less stand = All-nil (λ (e : Entry). low ≤ ticket_of e)
all_high low middle (Go machine vertex ticket ∷ order) high less stand =
    All-cons (λ (e : Entry). low ≤ ticket_of e) (Go machine vertex ticket) order (le_up low middle ticket less stand.0)
    (all_high low (suc ticket) order high (le_up low ticket (suc ticket) (le_up low middle ticket less stand.0) (omega arith)) stand.1)
all_high low middle (Restart ticket ∷ order) high less stand =
    All-cons (λ (e : Entry). low ≤ ticket_of e) (Restart ticket) order (le_up low middle ticket less stand.0) (all_high low ticket order high (le_up low middle ticket less stand.0) stand.1)

stand_rises : (low : ℕ) (order : List Entry) (high : ℕ) → StandByTicket low order high → AllByRecursion (λ entry. is_restart entry ≡ false) order → RiseByTicket order
stand_rises low [] high stand none = λ i j d less inside. absurd (omega arith)
stand_rises low (Go machine vertex ticket ∷ order) high stand none =
    AllPairs-cons (λ (earlier later : Entry). ticket_of earlier < ticket_of later) (Go machine vertex ticket) order
    (all_high (suc ticket) (suc ticket) order high (le_refl (suc ticket)) stand.1) (stand_rises (suc ticket) order high stand.1 none.1)
stand_rises low (Restart ticket ∷ order) high stand none = absurd (not_so none.0)
  where
    not_so : true ≡ false → ⊥
    not_so is = cc

pub rise_by_ticket : (order : List Entry) → RiseByTicket order → IsByTicket order
rise_by_ticket order up = λ i j d less inside. ordered i j d less inside
  where
    ordered : (i j : ℕ) (d : Entry) → i ≤ j → j < length order → ticket_of (get_or order i d) ≤ ticket_of (get_or order j d)
    ordered i j d less inside =
        elim (cases_lt i j) [
          | inl below ↦ omega (arith, up i j d below inside)
          | inr same ↦ omega (arith, ap (λ (k : ℕ). ticket_of (get_or order k d)) (le_antisymm less same))
        ]

-- ---- what is taken away is one list

counted : (p : Entry → Bool) (xs ys : List Entry) → count_by p (xs ++ ys) ≡ count_by p xs + count_by p ys
counted p xs ys = sum_by-append (λ (e : Entry). cond (p e) 1 0) xs ys

cancels : (a b c d : ℕ) → a + b ≡ d → a + c ≡ d → b ≡ c
cancels a b c d one other = omega arith

pub taken_once : (st : Setting) (c : Cluster) (base : BaseView) (lost other : List Entry) → TakesAway st c base lost → TakesAway st c base other → lost ≡ other
taken_once st c base lost other one two =
    let all : List Entry = (c.base.order ++ all_logged (machine_logs st.machines c)) ++ restarts (failures_in st c) c.next in
    one_order lost other (rise_by_ticket lost one.rise) two.rise
    (λ p. cancels (count_by p base.order) (count_by p lost) (count_by p other) (count_by p all)
    (sym (counted p base.order lost) ∙ same_from (base.order ++ lost) all one.together p) (sym (counted p base.order other) ∙ same_from (base.order ++ other) all two.together p))

-- ---- what the last snapshot doesn't hold is taken away

-- updates by owners are by machines of the cluster
pub own_by_machines : (st : Setting) → IsSetting st → (es : List Entry) → AllByRecursion (IsOwnUpdate st) es → AllByRecursion (IsByMachineBelow st.machines) es
own_by_machines st is [] own = tt
own_by_machines st is (Go machine vertex ticket ∷ es) own = (subst (λ (m : ℕ). m < st.machines) own.0.1 (is.owner vertex.0 own.0.0), own_by_machines st is es own.1)
own_by_machines st is (Restart ticket ∷ es) own = absurd own.0

pub lost_push : (failed : List Attempt) (a : Attempt) → lost_in (failed ++ a ∷ []) ≡ lost_in failed ++ unheld_updates a
lost_push [] a = append-nil (unheld_updates a)
lost_push (one ∷ failed) a = ap (λ (es : List Entry). unheld_updates one ++ es) (lost_push failed a) ∙ sym (append_assoc (unheld_updates one) (lost_in failed) (unheld_updates a))

module _ (st : Setting) (is : IsSetting st) (c : Cluster) (whole : IsWhole st c) (logged : List Logged) (account : IsAccounted st c whole logged) (based : IsBased st c logged)
    (failures : List FailureAt) (b : Beginning) (tickets : AreUpdatesFrom b.next (all_entries logged)) where
  abbrev made : List Entry
  made = all_entries logged

  abbrev a : Attempt
  a = attempt_of failures b c logged

  pub logs_same : machine_logs st.machines c ≡ logs_of st.machines made
  logs_same = ap (λ (log : ℕ → List Entry). map log (range_with_len 0 st.machines)) (λ i. λ m. logs_are st c whole logged account m i)

  logs_have : HaveSame (all_logged (machine_logs st.machines c)) made
  logs_have = subst (λ (logs : List (List Entry)). HaveSame (all_logged logs) made) (sym logs_same) (parts_have_all st.machines made (own_by_machines st is made (all_own st is logged account.since)))

  pub unheld_taken : (base : BaseView) → GoesBackTo st c base → TakesAway st c base (unheld_updates a)
  unheld_taken base back =
      let held : List Entry = entries_to c.coordinator.acknowledged logged in
      let after : List Entry = restarts (failures_in st c) c.next in
      let logs : List Entry = all_logged (machine_logs st.machines c) in
      let count : ℕ → ℕ = last_of nothing a.kept in
      record {
        rise = stand_rises b.next (unheld_updates a) (b.next + length made) (stand_left count b.next made (b.next + length made) (stand_made b.next made tickets))
            (all_left (λ entry. is_restart entry ≡ false) count made (no_restart b.next made tickets));
        together = permutation_from (base.order ++ unheld_updates a) ((c.base.order ++ logs) ++ after) (λ p.
            sums (count_by p c.base.order) (count_by p held) (count_by p after) (count_by p (unheld_updates a)) (count_by p logs)
            (counted p base.order (unheld_updates a) ∙ ap (λ (n : ℕ). n + count_by p (unheld_updates a))
            (ap (count_by p) (base_order st is c whole logged account based base back) ∙ counted p (c.base.order ++ held) after ∙ ap (λ (n : ℕ). n + count_by p after) (counted p c.base.order held)))
            (counted p (c.base.order ++ logs) after ∙ ap (λ (n : ℕ). n + count_by p after) (counted p c.base.order logs))
            (logs_have p ∙ sym (same_from (held_updates a ++ unheld_updates a) made (cut_and_left count b.next made tickets) p) ∙ counted p (held_updates a) (unheld_updates a)
            ∙ ap (λ (es : List Entry). count_by p es + count_by p (unheld_updates a)) (held_is st is c whole logged account failures b tickets)));
      }
    where
      sums : {w v : ℕ} (cb ch ca cu cl : ℕ) → w ≡ ((cb + ch) + ca) + cu → v ≡ (cb + cl) + ca → cl ≡ ch + cu → w ≡ v
      sums cb ch ca cu cl one two three = omega arith
