-- Where a recovery may go back to, told by the last snapshot's order and the restarts that it lacks.
use Rattle.std.proofs.Common.{◌≡◌, ℕ, ◌+◌, ◌<◌, Bool, true, List, ◌++◌, filter, length, refl, sym, ◌∙◌, ap, ap₂, arith}
use Rattle.std.proofs.lemmas.List.Sorted.{IsPermutation-append_right}
use Rattle.std.proofs.lemmas.List.{append_assoc, length-append}
use Rattle.gl_base.specs.declared.entries.Entry.{Entry}
use Rattle.gl_base.specs.declared.jobs.FailureAt.{FailureAt}
use Rattle.call_laws.specs.attempts.Beginnings.{again, held_updates}
use Rattle.call_laws.specs.attempts.EngineCalls.{begins_behind, ticket_above}
use Rattle.call_laws.specs.attempts.Entries.{is_restart}
use Rattle.call_laws.specs.attempts.Stores.{attempted_snapshots, last_order, snapshot_orders, snapshots_of}
use Rattle.call_laws.proofs.attempts.Prefixes.{last_order_append}
use Rattle.call_laws.proofs.attempts.Storing.{recovery_is}
use Rattle.call_laws.proofs.cluster_attempts.Joining.{made_now}
use Rattle.call_laws.proofs.cluster_attempts.Making.{held_is, struck_same}
use Rattle.cluster_laws.specs.cluster_core.Settings.{Setting}
use Rattle.cluster_laws.specs.cluster_model.ByTicket.{restarts}
use Rattle.cluster_laws.specs.cluster_model.Clusters.{BaseView, Cluster}
use Rattle.cluster_laws.specs.cluster_model.Events.{GoesBackTo, entries_in_all, failures_in, newest_of}
use Rattle.cluster_laws.specs.cluster_model.Leading.{Snapshot}
use Rattle.whole_laws.proofs.cluster_records.Based.{next_base}
use Rattle.whole_laws.proofs.cluster_records.Gathering.{all_gathered}
use Rattle.whole_laws.proofs.cluster_records.Merging.{stand_behind}
use Rattle.whole_laws.proofs.cluster_records.Recording.{all_new}
use Rattle.whole_laws.specs.cluster_records.Recorded.{HaveSameNumbers}
use Rattle.cluster_laws.specs.cluster_runs.Attempts.{Attempt, Beginning}
use Rattle.cluster_laws.specs.cluster_runs.Recorded.{shared_of}
use Rattle.whole_laws.specs.cluster_whole.Logged.{Logged, entries_to, is_up_to}
use Rattle.seq_run.specs.Orders.{replay}
use Rattle.call_laws.specs.whole_calls.Following.{has_reached}
use Rattle.call_laws.proofs.whole_calls.Acknowledged.{numbered_long}
use Rattle.call_laws.proofs.whole_calls.Ending.{IsEnding}
use Rattle.call_laws.proofs.whole_calls.Going.{IsInCall, fail_ordered}
use Rattle.call_laws.proofs.whole_calls.Leading.{call_with, opened_at}

module _ (failures : List FailureAt) (kept : List Entry) (resumed : Bool) (number budget : ℕ) (st : Setting) (c : Cluster) (logged : List Logged) (failed : List Attempt) (taken : List Snapshot) (unasked : ℕ)
    (e : IsEnding failures (opened_at kept resumed) kept number (ticket_above kept + budget) st c logged failed taken unasked) where
  abbrev at : IsInCall failures (opened_at kept resumed) st c logged failed
  at = e.at

  abbrev behind : Beginning
  behind = begins_behind (opened_at kept resumed) failed

  abbrev its : Attempt
  its = (call_with failures kept resumed c logged failed).last

  abbrev newest : List Entry
  newest = last_order kept (attempted_snapshots (opened_at kept resumed) failed)

  -- the order of the call's last snapshot
  abbrev pub last : List Entry
  last = last_order kept (snapshots_of (call_with failures kept resumed c logged failed))

  abbrev held : List Entry
  held = entries_to c.coordinator.acknowledged logged

  -- its numbers, and its order with a restart for each failure
  abbrev base : BaseView
  base =
      record {
        number = c.coordinator.acknowledged;
        order = (c.base.order ++ held) ++ restarts (failures_in st c) c.next;
        numbers = newest_of st c.coordinator.snapshots c.base.numbers;
      }

  back : 0 < failures_in st c → GoesBackTo st c base
  back some =
      record {
        failed = some;
        number = refl;
        numbers = refl;
        kept = c.base.order ++ held;
        order = refl;
        same = IsPermutation-append_right c.base.order (entries_in_all st c.coordinator.snapshots) held
            (all_gathered st at.is logged at.account.since c.coordinator.acknowledged c.coordinator.snapshots at.account.records.numbered (all_new st logged c.coordinator.snapshots at.account.records.good));
        by_ticket = stand_behind 0 c.next c.base.order (is_up_to c.coordinator.acknowledged) logged at.based.by_ticket;
      }

  order_is : ((a : ℕ) → a < st.machines → has_reached failures c a ≡ true → (c.machine a).failed ≡ true) → (missing : List Entry) →
      filter is_restart last ++ missing ≡ filter is_restart c.base.order ++ restarts (failures_in st c) c.next → base.order ≡ last ++ missing
  order_is all missing lacks =
      let struck : failures_in st c ≡ its.struck = (fail_ordered failures (opened_at kept resumed) st c logged failed at all).struck ∙ struck_same st at.is c at.whole logged at.account failures behind at.so.done in
      let last_is : last ≡ last_order newest (snapshot_orders behind its) = last_order_append kept (attempted_snapshots (opened_at kept resumed) failed) (snapshot_orders behind its) in
      let added : restarts (failures_in st c) c.next ≡ restarts its.struck (behind.next + length its.made) = ap₂ restarts struck at.so.next in
      let front : (again behind its).front ≡ base.order =
      sym (append_assoc behind.front (held_updates its) (restarts its.struck (behind.next + length its.made)))
      ∙ ap₂ (λ (xs ys : List Entry). xs ++ ys) (ap₂ (λ (xs ys : List Entry). xs ++ ys) (sym at.so.front) (held_is st at.is c at.whole logged at.account failures behind at.so.tickets)) (sym added) in
      sym front
      ∙ sym (recovery_is (shared_of st failures) newest behind its missing (made_now failures (opened_at kept resumed) st at.is c at.whole logged at.account at.based failed at.so at.stops) e.resumes
      (ap₂ (λ (xs ys : List Entry). xs ++ ys) (ap (filter is_restart) (sym at.so.front)) (sym added) ∙ sym lacks ∙ ap (λ (es : List Entry). filter is_restart es ++ missing) last_is))
      ∙ ap (λ (es : List Entry). es ++ missing) (sym last_is)

  -- the snapshots are numbered one by one
  numbered : c.coordinator.acknowledged ≡ number + length taken
  numbered =
      sums number (length e.earlier) (length c.coordinator.snapshots) e.numbered (numbered_long st.base c.coordinator.acknowledged c.coordinator.snapshots at.account.records.numbered)
      (ap (λ (ss : List Snapshot). length ss) e.taken_are ∙ length-append e.earlier c.coordinator.snapshots)
    where
      sums : {a b t : ℕ} (n k l : ℕ) → b ≡ n + k → a ≡ b + l → t ≡ k + l → a ≡ n + t
      sums n k l one two three = omega arith

  -- what it may go back to
  pub may_return : 0 < failures_in st c → ((a : ℕ) → a < st.machines → has_reached failures c a ≡ true → (c.machine a).failed ≡ true) → (missing : List Entry) →
      filter is_restart last ++ missing ≡ filter is_restart c.base.order ++ restarts (failures_in st c) c.next →
      (to : BaseView) × (to.number ≡ c.coordinator.acknowledged) × (to.number ≡ number + length taken) × (to.order ≡ last ++ missing) × HaveSameNumbers st.graph to.numbers (replay st.graph st.program to.order) × GoesBackTo st c to
  may_return some all missing lacks =
      (base, refl, numbered, order_is all missing lacks, (next_base st at.is c at.whole logged at.account at.based base (back some)).numbers, back some)
