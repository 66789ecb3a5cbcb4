-- What a course makes is a call, and what its coordinator tells is so of the call.
use Rattle.std.proofs.Common.{◌≡◌, ℕ, zero, suc, ◌+◌, ◌<◌, ◌≤◌, ◌^◌, ◌++◌, true, arith, inl, List, [], ◌∷◌, ap, ap₂, length, sym, subst, ◌∙◌}
use Rattle.std.specs.Prelude.{Err, IfNone, IfOk, IfSome, None, Ok, Option, Result, Some, min, slice_index_or, ◌-◌}
use Rattle.gl_base.specs.declared.numbers.MachineNo.{MachineNo}
use Rattle.gl_base.specs.declared.refusals.Refused.{Refused}
use Rattle.gl_base.specs.declared.snapshots.Record.{Record}
use Rattle.gl_base.specs.declared.entries.Entry.{Entry}
use Rattle.cluster_laws.specs.cluster_core.Replays.{entries_of, is_of}
use Rattle.cluster_step.specs.clusters.Clusters.{InEachCluster, StandsForSaving}
use Rattle.cluster_step.specs.clusters.Cuts.{RecordsCut, snapshot_due}
use Rattle.cluster_step.specs.clusters.Events.{CanNotTakePlace}
use Rattle.cluster_step.specs.declared.clusters.events.Event.TheVariants as event
use Rattle.cluster_step.specs.declared.clusters.events.Local.TheVariants as local
use Rattle.coordinator.specs.machine_api.Promises.{CanUpdate, CanUpdateNone, OfEach}
use Rattle.call_laws.specs.whole_calls.Following.{has_reached, reaches}
use Rattle.std.proofs.lemmas.List.Sums.{count_by-le-length}
use Rattle.call_laws.specs.attempts.EngineCalls.{EngineCall, first_ticket, made_of}
use Rattle.cluster_laws.specs.cluster_core.Actions.{MayUpdate}
use Rattle.gl_base.specs.declared.scopes.ScopeId.{ScopeId}
use Rattle.graph_core.specs.DataGraph.{size}
use Rattle.whole_laws.proofs.cluster_whole.Wholeness.{is_exclusive}
use Rattle.cluster_laws.specs.cluster_model.Machines.{completed}
use Rattle.cluster_step.specs.trace.Calls.{HasEndedCall, HasTaskLeft, MakesCall, OfTheCall}
use Rattle.cluster_step.specs.trace.Traces.{CallOpening, Cluster, TraceView, InEachTrace, IsTraceNow, IsSnapSetting, Machine, Setting, first_setting, newest_setting}
use Rattle.cluster_step.proofs.trace.Going.{setting_now}
use Rattle.cluster_laws.specs.cluster_model.Events as law
use Rattle.cluster_laws.specs.cluster_model.Leading.{RecordIsDue, SnapshotIsDue}
use Rattle.coordinator.specs.coord_core.Calls.{IsDueOf, IsRecordFor}
use Rattle.coordinator.specs.declared.coord_core.leading.Due.{Due}
use Rattle.coordinator.specs.declared.coord_core.leading.Due.TheVariants as what
use Rattle.call_laws.specs.whole_calls.Saved.{MayFollow}
use Rattle.call_laws.specs.whole_calls.Telling.{HasSavedTheEnd}
use Rattle.call_laws.proofs.whole_calls.Calling.{the_call}
use Rattle.call_laws.proofs.whole_calls.Leading.{behind_since, since}

module _ {M : Type 0} (represents : Setting → ℕ → Machine → M → Type 0) (v : TraceView M) (st : Setting) (o : CallOpening) (events : List law.Event) (c : Cluster) (is : IsTraceNow represents v st o events c) where
  pub makes_call : (call : EngineCall) × MakesCall st v.failures o events c call
  makes_call =
      let all = the_call st v.failures o.kept o.resumed o.base o.first events c is.trace in
      (all.0, record { is = all.1; windows = all.2; snapshots = all.3; few = all.4; tells = all.5; lost = all.6; orders = all.7; owners = all.8 })

  abbrev last : Setting
  last = newest_setting st o events

  saved_first : HasSavedTheEnd last c.coordinator → HasSavedTheEnd st c.coordinator
  saved_first end =
      let there : HasSavedTheEnd (since (first_setting st o) last.start last.base) c.coordinator = subst (λ (s : Setting). HasSavedTheEnd s c.coordinator) (behind_since events (first_setting st o)) end in
      record { end = there.end; none = there.none; all = λ (due : SnapshotIsDue st c.coordinator). there.all (record { stored = due.stored; none = due.none; wanted = due.wanted }) }

  pub due_first : RecordIsDue last c.coordinator → RecordIsDue st c.coordinator
  due_first due =
      let there : RecordIsDue (since (first_setting st o) last.start last.base) c.coordinator = subst (λ (s : Setting). RecordIsDue s c.coordinator) (behind_since events (first_setting st o)) due in
      record { under = there.under; sections = there.sections }

  -- what a machine has logged
  module _ (a : ℕ) (x : M) (entries : List Entry) (it_is : InEachCluster represents v.now (λ st c. represents st a (c.machine a) x)) (tells : OfEach represents x (λ st a m. entries ≡ m.part.log)) where
    pub logged : entries ≡ (c.machine a).part.log
    logged = tells last a (c.machine a) (setting_now st o events is.setting) (it_is last c (setting_now st o events is.setting) is.code)

    pub logged_of : (call : EngineCall) → MakesCall st v.failures o events c call → entries ≡ entries_of a call.last.made
    logged_of call makes = logged ∙ makes.is.logs a

  -- a machine of the code is one of the setting
  pub low_machine : (a : ℕ) → a < length v.now.machines.items → a < st.machines
  low_machine a low =
      let many : length v.now.machines.items ≡ last.machines = is.code.many in
      let same : last.machines ≡ st.machines = ap (λ (s : Setting). s.machines) (behind_since events (first_setting st o)) in
      subst (λ (n : ℕ). a < n) (many ∙ same) low

  -- whether it has reached a count
  pub reached_is : (a : ℕ) → a < length v.now.machines.items → (before made : ℕ) → before ≡ slice_index_or v.done a 0 → made ≡ length (c.machine a).part.log →
      reaches v.failures a before (before + made) ≡ has_reached v.failures c a
  reached_is a low before made before_is made_is =
      let done : before ≡ (c.machine a).done = before_is ∙ sym (is.done a (low_machine a low)) in
      ap₂ (λ (n k : ℕ). reaches v.failures a n (n + k)) done made_is

  -- how many updates a machine has completed
  completed_is : (a : ℕ) → a < length v.now.machines.items → (before made : ℕ) → before ≡ slice_index_or v.done a 0 → made ≡ length (c.machine a).part.log → before + made ≡ completed (c.machine a)
  completed_is a low before made before_is made_is =
      let done : before ≡ (c.machine a).done = before_is ∙ sym (is.done a (low_machine a low)) in
      ap₂ (λ (n k : ℕ). n + k) done made_is

  below_next : (done made first next left : ℕ) → done ≤ made → next ≡ first + made → next + left < 2 ^ 64 → done < 2 ^ 64
  below_next done made first next left few is fits = omega arith

  -- they have tickets of their own
  completed_fits : (a : ℕ) → completed (c.machine a) < 2 ^ 64
  completed_fits a =
      let one = makes_call in
      let made : List Entry = made_of one.0 in
      let few : completed (c.machine a) ≤ length made = subst (λ (n : ℕ). n ≤ length made) (sym (one.1.is.done a)) (count_by-le-length (is_of a) made) in
      let next : v.now.next ≡ first_ticket one.0 + length made = sym is.code.next ∙ one.1.is.next in
      below_next (completed (c.machine a)) (length made) (first_ticket one.0) v.now.next v.now.left few next is.code.few

  no_more : (n : ℕ) → n < 2 ^ 64 → min n (2 ^ 64 - 1) ≡ n
  no_more n fits = omega arith

  -- so that no sum of them is cut off
  pub count_is : (a : ℕ) → a < length v.now.machines.items → (before made : ℕ) → before ≡ slice_index_or v.done a 0 → made ≡ length (c.machine a).part.log → min (before + made) (2 ^ 64 - 1) ≡ completed (c.machine a)
  count_is a low before made before_is made_is =
      let sum : before + made ≡ completed (c.machine a) = completed_is a low before made before_is made_is in
      no_more (before + made) (subst (λ (n : ℕ). n < 2 ^ 64) (sym sum) (completed_fits a)) ∙ sum

  -- a scope that is ready for its update has a task, also after the call's order
  module _ (s : ScopeId) (a : ℕ) (x : M) (it_is : InEachCluster represents v.now (λ st c. represents st a (c.machine a) x)) (can : CanUpdate represents x s) where
    may_here : (s.home.0 ≡ a) × MayUpdate s (c.machine a).part 1
    may_here = can 0 last a (c.machine a) (setting_now st o events is.setting) (it_is last c (setting_now st o events is.setting) is.code)

    pub is_home : s.home.0 ≡ a
    is_home = may_here.0

    may_update : MayUpdate s (c.machine s.home.0).part 1
    may_update = subst (λ (n : ℕ). MayUpdate s (c.machine n).part 1) (sym may_here.0) may_here.1

    at_home : (may_update.vertex < size last.graph) × (last.owner may_update.vertex ≡ s.home.0)
    at_home =
        let setting : IsSnapSetting last = setting_now st o events is.setting in
        (is_exclusive last setting.is c is.code.going.followed.0).owned s may_update.vertex (may_update.flight, may_update.ready)

    home_first : (may_update.vertex < size st.graph) × (st.owner may_update.vertex ≡ s.home.0)
    home_first =
        subst (λ (x : Setting). (may_update.vertex < size x.graph) × (x.owner may_update.vertex ≡ s.home.0)) (behind_since events (first_setting st o)) at_home

    pub task_left : (call : EngineCall) → MakesCall st v.failures o events c call → HasTaskLeft st call
    task_left call makes =
        let task : (c.machine (st.owner may_update.vertex)).part.task may_update.vertex ≡ true = subst (λ (n : ℕ). (c.machine n).part.task may_update.vertex ≡ true) (sym home_first.1) may_update.task in
        (may_update.vertex, home_first.0, (makes.is.tasks may_update.vertex home_first.0).1 (inl task))

  module _ (answer : Due) (due : IsDueOf v.now.coordinator answer) (call : EngineCall) (makes : MakesCall st v.failures o events c call) where
    pub has_ended : answer ≡ what.Ended → HasEndedCall st call
    has_ended ended =
        let seen = (due.ended last c.coordinator is.code.coordinator).0 ended in
        let saved : HasSavedTheEnd st c.coordinator = saved_first (record { end = seen.2; none = seen.1; all = seen.0 }) in
        record { tasks = makes.tells.tasks saved.end; unharmed = makes.tells.unharmed saved.end; some = λ stored. makes.tells.some stored saved; saved = λ stored. makes.tells.saved stored saved }

    pub may_follow : (k : ℕ) → answer ≡ what.Record k → MayFollow st c.coordinator call
    may_follow k is_record = makes.tells.pending (due_first ((due.saved last c.coordinator k is.code.coordinator).0 is_record).0)

-- ---- what the type shows of it

one_ticket : 0 < 1
one_ticket = omega arith

module _ {M : Type 0} (represents : Setting → ℕ → Machine → M → Type 0) (v own : TraceView M) (view_is : v ≡ own) where
  -- what is so of each cluster is so in each course
  pub in_trace : (holds : Setting → Cluster → Type 0) → InEachCluster represents v.now holds → InEachTrace represents own (λ st o events c. holds (newest_setting st o events) c)
  in_trace holds all st o events c is =
      let here : InEachCluster represents own.now holds = subst (λ (x : TraceView M). InEachCluster represents x.now holds) view_is all in
      here (newest_setting st o events) c (setting_now st o events is.setting) is.code

  pub left_is : (left : ℕ) → InEachCluster represents v.now (λ st c. left ≡ c.left) → OfTheCall represents own (λ st o c call. length (made_of call) + left ≡ o.first.left)
  left_is left all st o events c is call makes =
      subst (λ (n : ℕ). length (made_of call) + n ≡ o.first.left) (sym (in_trace (λ st x. left ≡ x.left) all st o events c is)) makes.tells.spent

  record_first : (made : Record) (st : Setting) (o : CallOpening) (events : List law.Event) (c : Cluster) → IsTraceNow represents own st o events c → RecordsCut (newest_setting st o events) c made → IsRecordFor st (snapshot_due c.coordinator) made
  record_first made st o events c is cut =
      let last : Setting = newest_setting st o events in
      let there : IsRecordFor (since (first_setting st o) last.start last.base) (snapshot_due c.coordinator) made =
      subst (λ (s : Setting). IsRecordFor s (snapshot_due c.coordinator) made) (behind_since events (first_setting st o)) cut.is
      in
      record { number = there.number; machines = there.machines; parts = there.parts; entries = there.entries; by_ticket = there.by_ticket }

  pub record_is : (r : Result Record Refused) → IfOk r (λ made. InEachCluster represents v.now (λ st c. RecordsCut st c made)) → IfOk r (λ made. InEachTrace represents own (λ st o events c. IsRecordFor st (snapshot_due c.coordinator) made))
  record_is (Ok made) all = λ st o events c is. record_first made st o events c is (in_trace (λ st x. RecordsCut st x made) all st o events c is)
  record_is (Err e) all = tt

  module _ (a : ℕ) (x : M) (it_is : InEachCluster represents v.now (λ st c. represents st a (c.machine a) x)) where
    pub home_of : (r : Option ScopeId) (at : MachineNo) → at.0 ≡ a → StandsForSaving represents v.now → IfSome r (CanUpdate represents x) → IfSome r (λ s. s.home ≡ at)
    home_of None at at_is some can = tt
    home_of (Some s) at at_is some can =
        let number : s.home.0 ≡ at.0 = (can 0 some.0 a (some.1.machine a) some.2 (it_is some.0 some.1 some.2 some.3)).0 ∙ sym at_is in
        ap (λ (n : ℕ). let m : MachineNo = record { 0 = n } in m) number

    pub flagged_of : (r : Option ScopeId) → IfSome r (CanUpdate represents x) → IfSome r (λ s. InEachTrace represents own (λ st o events c. (v : ℕ) × ((c.machine a).part.task v ≡ true)))
    flagged_of None can = tt
    flagged_of (Some s) can = λ st o events c is.
        let may = may_here represents own st o events c is s a x (subst (λ (y : TraceView M). InEachCluster represents y.now (λ st c. represents st a (c.machine a) x)) view_is it_is) can in
        (may.1.vertex, may.1.task)

    -- where it has none, no update of it may take place
    no_update : CanUpdateNone represents x → (s : ScopeId) → s.home.0 ≡ a → CanNotTakePlace represents v.now (event.Local (local.Update s))
    no_update none s home st c setting of e is may =
        let there : law.MayDo st c (law.Update s) = subst (law.MayDo st c) is may.1 in
        let here : MayUpdate s (c.machine a).part c.left = subst (λ (k : ℕ). MayUpdate s (c.machine k).part c.left) home there.1 in
        none s 0 st a (c.machine a) setting (it_is st c setting of)
        (home, record { vertex = here.vertex; flight = here.flight; ready = here.ready; not_pending = here.not_pending; task = here.task; ticket = one_ticket })

    pub none_of : (r : Option ScopeId) (at : MachineNo) → at.0 ≡ a → IfNone r (CanUpdateNone represents x) → IfNone r ((s : ScopeId) → s.home ≡ at → CanNotTakePlace represents own.now (event.Local (local.Update s)))
    none_of None at at_is none = λ s home.
        subst (λ (y : TraceView M). CanNotTakePlace represents y.now (event.Local (local.Update s))) view_is (no_update none s (ap (λ (m : MachineNo). m.0) home ∙ at_is))
    none_of (Some s) at at_is none = tt

    pub task_of : (r : Option ScopeId) → IfSome r (CanUpdate represents x) → IfSome r (λ s. OfTheCall represents own (λ st o c call. HasTaskLeft st call))
    task_of None can = tt
    task_of (Some s) can = λ st o events c is call makes.
        task_left represents own st o events c is s a x (subst (λ (y : TraceView M). InEachCluster represents y.now (λ st c. represents st a (c.machine a) x)) view_is it_is) can call makes

-- one more behind a list
pub grown : (P : ℕ → ℕ → Type 0) (xs : List ℕ) (x : ℕ) → ((a : ℕ) → a < length xs → P a (slice_index_or xs a 0)) → P (length xs) x → (a : ℕ) → a < suc (length xs) → P a (slice_index_or (xs ++ x ∷ []) a 0)
grown P [] x all one zero low = one
grown P [] x all one (suc a) low = absurd (none a low)
  where
    none : (a : ℕ) → suc a < suc zero → ⊥
    none a low = omega arith
grown P (y ∷ xs) x all one zero low = all zero (first (length xs))
  where
    first : (n : ℕ) → zero < suc n
    first n = omega arith
grown P (y ∷ xs) x all one (suc a) low = grown (λ n. P (suc n)) xs x (λ b below. all (suc b) (more b (length xs) below)) one a (less a (length xs) low)
  where
    more : (b n : ℕ) → b < n → suc b < suc n
    more b n below = omega arith

    less : (a n : ℕ) → suc a < suc (suc n) → a < suc n
    less a n low = omega arith
