-- A machine that has reached the count of a failure has made an update since it answered the wave before, or answers no more wave.
use Rattle.std.proofs.Common.{◌≡◌, ◌⊎◌, ℕ, suc, pred, ◌+◌, ◌<◌, ◌≤◌, true, false, Option, None, Some, List, [], ◌∷◌, ◌++◌, length, slice_index_or, inl, inr, refl, sym, ◌∙◌, ap, subst, ⊎_elim, append-nil, append_assoc, arith}
use Rattle.std.proofs.lemmas.Bool.{both_ways, cases_eq, false_from_ne_true}
use Rattle.std.proofs.lemmas.List.Elements.{All-get_or}
use Rattle.gl_base.specs.declared.jobs.FailureAt.{FailureAt}
use Rattle.gl_base.specs.declared.scopes.Counted.{Counted}
use Rattle.gl_base.specs.declared.scopes.ScopeId.{ScopeId}
use Rattle.call_laws.specs.cluster_attempts.Failures.{done_before}
use Rattle.cluster_laws.specs.cluster_core.Messages.{Message}
use Rattle.cluster_laws.specs.cluster_core.Settings.{Setting}
use Rattle.cluster_laws.proofs.cluster_core.Basics.{set_at-other}
use Rattle.whole_laws.specs.cluster_ending.Watched.{HasAnswered, IsNotAbove, IsWatched, Watch, last_counts, shown_by, shown_in, waves_in}
use Rattle.whole_laws.proofs.cluster_ending.Coming.{last_same}
use Rattle.whole_laws.proofs.cluster_ending.Deeds.{low_again}
use Rattle.whole_laws.proofs.cluster_ending.Finding.{done, last_is}
use Rattle.whole_laws.proofs.cluster_ending.Words.{waves-append}
use Rattle.cluster_laws.specs.cluster_model.Calls.{Begin, Call, Committed, Count, Report, Saved, Step, Want, Wave}
use Rattle.cluster_laws.specs.cluster_model.Clusters.{BaseView, Cluster, call_way}
use Rattle.cluster_laws.specs.cluster_model.Counting.{Counting}
use Rattle.cluster_laws.specs.cluster_model.Events.{Event, Admit, DeliverCall, DeliverReport, Deliver, Fail, Grant, Mark, MayDo, PutBegin, PutStep, PutWave, Record, Recover, Section, Send, SendCall, SendReport, Stop, Update, after_event, delivers_call, delivers_message, delivers_report, makes, recovers, saves, sends_call, sends_message, sends_report}
use Rattle.cluster_laws.specs.cluster_model.Leading.{HasSeenTheEnd}
use Rattle.cluster_laws.specs.cluster_model.Machines.{Machine, count_of}
use Rattle.cluster_laws.specs.cluster_model.Rounds.{with_step}
use Rattle.cluster_laws.specs.cluster_model.TwoWaves.{IsIdleAnswer}
use Rattle.cluster_laws.specs.cluster_runs.Attempts.{Attempt, Beginning}
use Rattle.whole_laws.specs.cluster_whole.Logged.{Logged}
use Rattle.whole_laws.specs.cluster_whole.Steps.{Holds, IsCalled, Tells, Told, Turn, calls_of, is_told}
use Rattle.whole_laws.specs.cluster_whole.Whole.{IsNoRecovery}
use Rattle.whole_laws.proofs.cluster_whole.Pieces.{passed}
use Rattle.whole_laws.proofs.cluster_records.Entering.{IsNoUpdate}
use Rattle.call_laws.specs.whole_calls.Following.{FollowsJob, has_reached, reaches}
use Rattle.call_laws.proofs.whole_calls.Going.{IsInCall, log_kept, log_more, log_there, reached_kept, reached_there}
use Rattle.call_laws.proofs.whole_calls.Reaching.{none_yet}

-- where no wave is on its way to the machine, it has made an update since it answered the wave before
abbrev pub HasWorkedSince : Cluster → ℕ → Type 0
HasWorkedSince c a =
    waves_in (call_way c a) ≡ [] → (counts : Counted) → slice_index_or (last_counts c.coordinator.rounds.counting) a None ≡ Some counts →
    counts.updates < length (c.machine a).part.log

-- so it is with each that has reached the count of a failure
abbrev pub IsLate : List FailureAt → Setting → Cluster → Type 0
IsLate failures st c = (a : ℕ) → a < st.machines → has_reached failures c a ≡ true → HasWorkedSince c a

not_nil : {X : Type 0} (xs : List X) (x : X) → xs ++ x ∷ [] ≡ [] → ⊥
not_nil [] x is = cc
not_nil (y ∷ xs) x is = cc

-- ---- what events change of the waves on their way to a machine

module _ (failures : List FailureAt) (st : Setting) (c : Cluster) (watch : Watch) (was : IsWatched st c watch) (b : ℕ) where
  abbrev counting : Counting
  counting = c.coordinator.rounds.counting

  -- what is on its way to the machine, and the wave before, are as they were
  abbrev AsBefore : Cluster → Type 0
  AsBefore later = (waves_in (call_way later b) ≡ waves_in (call_way c b)) × (last_counts later.coordinator.rounds.counting ≡ last_counts counting)

  -- or a wave is on its way, or the machine has reached no count
  abbrev Watches : Cluster → Type 0
  Watches later = AsBefore later ⊎ ((waves_in (call_way later b) ≡ [] → ⊥) ⊎ (has_reached failures c b ≡ false))

  pushed : (call : Call) → waves_in (c.calls b ++ (c.coordinator.out b ++ call ∷ [])) ≡ waves_in (call_way c b) ++ waves_in (call ∷ [])
  pushed call = ap waves_in (sym (append_assoc (c.calls b) (c.coordinator.out b) (call ∷ []))) ∙ waves-append (call_way c b) (call ∷ [])

  told : (call : Call) → waves_in (call ∷ []) ≡ [] → waves_in (c.calls b ++ (c.coordinator.out b ++ call ∷ [])) ≡ waves_in (call_way c b)
  told call none = pushed call ∙ ap (λ (cs : List Call). waves_in (call_way c b) ++ cs) none ∙ append-nil (waves_in (call_way c b))

  reported : (a : ℕ) → a < st.machines → (report : Report) (behind : List Report) → c.reports a ≡ report ∷ behind → AsBefore (delivers_report c a (report ∷ behind))
  reported a low (Saved k section entries) behind first = (refl, refl)
  reported a low (Count k counts) behind first = (refl, last_same st c.coordinator.begun c watch.turn watch.begun_before watch.begun_newest was a low k counts behind first)
  reported a low (Want k) behind first = (refl, refl)

  heard : (a : ℕ) (call : Call) (behind : List Call) → has_reached failures c a ≡ false → Watches (delivers_call st c a (call ∷ behind))
  heard a call behind follows =
      ⊎_elim
      (λ (same : b ≡ a). inr (inr (subst (λ (k : ℕ). has_reached failures c k ≡ false) (sym same) follows)))
      (λ (off : b ≡ a → ⊥). inl (ap (λ (calls : List Call). waves_in (calls ++ c.coordinator.out b)) (set_at-other c.calls a behind b off), refl))
      (cases_eq b a)

  pub watches_by : (event : Event) → MayDo st c event → IsNoRecovery event → FollowsJob st failures c event → Watches (after_event st c event)
  watches_by (Admit a v) may other follows = inl (refl, refl)
  watches_by (Grant a x) may other follows = inl (refl, refl)
  watches_by (Send p q) may other follows = inl (subst (λ (ms : List Message). AsBefore (sends_message c p q ms)) (sym may.2.first) (refl, refl))
  watches_by (SendCall a) may other follows =
      inl (subst (λ (calls : List Call). AsBefore (sends_call c a calls)) (sym may.1.first) (ap waves_in (passed c.calls c.coordinator.out a may.1.message may.1.behind may.1.first b), refl))
  watches_by (SendReport a) may other follows = inl (subst (λ (reports : List Report). AsBefore (sends_report c a reports)) (sym may.1.first) (refl, refl))
  watches_by (Deliver p q) may other follows = inl (subst (λ (ms : List Message). AsBefore (delivers_message st c p q ms)) (sym may.2.first) (refl, refl))
  watches_by (DeliverCall a) may other follows = subst (λ (calls : List Call). Watches (delivers_call st c a calls)) (sym may.1.first) (heard a may.1.message may.1.behind follows)
  watches_by (DeliverReport a) may other follows =
      inl (subst (λ (reports : List Report). AsBefore (delivers_report c a reports)) (sym may.1.first) (reported a may.0 may.1.message may.1.behind may.1.first))
  watches_by (Update s) may other follows = inl (subst (λ (flight : Option ℕ). AsBefore (makes st c s flight)) (sym may.1.flight) (refl, refl))
  watches_by (Mark s) may other follows = inl (subst (λ (flight : Option ℕ). AsBefore (saves st c s flight)) (sym may.1.flight) (refl, refl))
  watches_by (Section a) may other follows = inl (refl, refl)
  watches_by Record may other follows = inl (told (Committed c.coordinator.begun) refl, refl)
  watches_by PutBegin may other follows = inl (told (Begin (suc c.coordinator.begun)) refl, refl)
  watches_by PutStep may other follows = inl (told (Step (with_step st.engine c.coordinator.rounds).colour) refl, refl)
  watches_by PutWave may other follows = inr (inl (λ none. not_nil (waves_in (call_way c b)) (Wave counting.put_out) (sym (pushed (Wave counting.put_out)) ∙ none)))
  watches_by (Fail a) may other follows = inl (refl, refl)
  watches_by (Recover base) may other follows = absurd (other base refl)
  watches_by Stop may other follows = inl (refl, refl)

-- ---- each event

less_more : (n k m : ℕ) → n ≤ k → m ≡ k + 1 → n < m
less_more n k m low is = omega arith

plus_none : (n : ℕ) → n + 0 ≡ n
plus_none n = omega arith

shown_low : (st : Setting) (then now : ℕ) (turn : Turn) (m : Machine) → HasAnswered st then now turn m → IsNotAbove (shown_in turn (count_of st m)) (count_of st m)
shown_low st then now IsCalled m was = low_again (count_of st m)
shown_low st then now Holds m was = low_again (count_of st m)
shown_low st then now (Tells counts) m was = was.low
shown_low st then now (Told counts) m was = was.low

le_le : (a b c : ℕ) → a ≤ b → b ≤ c → a ≤ c
le_le a b c one other = omega arith

-- a recovery begins with no count that was reached
pub recovered_late : (failures : List FailureAt) (st later : Setting) (base : BaseView) (c : Cluster) → IsLate failures later (recovers st base c)
recovered_late failures st later base c = λ a low reached.
    let before : ℕ = done_before (recovers st base c) a in
    absurd (both_ways (reaches failures a before before) (none_yet failures a before) (subst (λ (n : ℕ). reaches failures a before n ≡ true) (plus_none before) reached))

module _ (failures : List FailureAt) (start : Beginning) (st : Setting) (c : Cluster) (logged : List Logged) (failed : List Attempt) (at : IsInCall failures start st c logged failed)
    (watch : Watch) (was : IsWatched st c watch) (late : IsLate failures st c) where
  pub quiet_late : (event : Event) → MayDo st c event → IsNoRecovery event → IsNoUpdate event → FollowsJob st failures c event → IsLate failures st (after_event st c event)
  quiet_late event may other none follows = λ a low reached.
      let before : has_reached failures c a ≡ true = sym (reached_kept failures start st c logged failed at event may other none a) ∙ reached in
      ⊎_elim
      (λ (same : AsBefore failures st c watch was a (after_event st c event)).
      λ nothing counts slot.
      subst (λ (n : ℕ). counts.updates < n) (sym (log_kept failures start st c logged failed at event may other none a))
      (late a low before (sym same.0 ∙ nothing) counts (ap (λ (cs : List (Option Counted)). slice_index_or cs a None) (sym same.1) ∙ slot)))
      (λ (more : (waves_in (call_way (after_event st c event) a) ≡ [] → ⊥) ⊎ (has_reached failures c a ≡ false)).
      ⊎_elim
      (λ (some : waves_in (call_way (after_event st c event) a) ≡ [] → ⊥). λ nothing counts slot. absurd (some nothing))
      (λ (not : has_reached failures c a ≡ false). λ nothing counts slot. absurd (both_ways (has_reached failures c a) not before))
      more)
      (watches_by failures st c watch was a event may other follows)

  pub update_late : (s : ScopeId) → MayDo st c (Update s) → IsLate failures st (after_event st c (Update s))
  update_late s may = λ a low reached.
      let made : Cluster = after_event st c (Update s) in
      let same : AsBefore failures st c watch was a made = subst (λ (flight : Option ℕ). AsBefore failures st c watch was a (makes st c s flight)) (sym may.1.flight) (refl, refl) in
      λ nothing counts slot.
      let here : slice_index_or (last_counts c.coordinator.rounds.counting) a None ≡ Some counts = ap (λ (cs : List (Option Counted)). slice_index_or cs a None) (sym same.1) ∙ slot in
      ⊎_elim
      (λ (home : a ≡ s.home.0).
      let turn = was.machines a low in
      less_more counts.updates (length (c.machine a).part.log) (length (made.machine a).part.log)
      (le_le counts.updates (shown_by st c watch a).updates (length (c.machine a).part.log) (turn.later counts here).updates
      (shown_low st watch.begun_newest c.coordinator.begun (watch.turn a) (c.machine a) turn.told).updates)
      (subst (λ (k : ℕ). length (made.machine k).part.log ≡ length (c.machine k).part.log + 1) (sym home) (log_more failures start st c logged failed at s may)))
      (λ (off : a ≡ s.home.0 → ⊥).
      subst (λ (n : ℕ). counts.updates < n) (sym (log_there failures start st c logged failed at s may a off))
      (late a low (sym (reached_there failures start st c logged failed at s may a off) ∙ reached) (sym same.0 ∙ nothing) counts here))
      (cases_eq a s.home.0)

  told_none : (k : ℕ) (turn : Turn) → is_told turn ≡ true → calls_of k turn ≡ []
  told_none k IsCalled told = absurd (both_ways false refl told)
  told_none k Holds told = refl
  told_none k (Tells counts) told = refl
  told_none k (Told counts) told = refl

  some_counts : (o : Option Counted) → IsIdleAnswer o → (x : Counted) × (o ≡ Some x)
  some_counts None idle = absurd idle
  some_counts (Some x) idle = (x, refl)

  not_same : (n k : ℕ) → n < k → k ≡ n → ⊥
  not_same n k less same = omega arith

  -- where the waves have shown the end, no machine has reached the count of a failure
  pub end_unreached : HasSeenTheEnd c.coordinator → (a : ℕ) → a < st.machines → has_reached failures c a ≡ false
  end_unreached end a low =
      false_from_ne_true (has_reached failures c a) (λ reached.
      let before : List (Option Counted) = c.coordinator.rounds.counting.waves.before in
      let some = some_counts (slice_index_or before a None) (All-get_or IsIdleAnswer before a None (subst (λ (n : ℕ). a < n) (sym was.many_before) low) end.shown.idle_before) in
      let slot : slice_index_or (last_counts c.coordinator.rounds.counting) a None ≡ Some some.0 = ap (λ (cs : List (Option Counted)). slice_index_or cs a None) (last_is st c watch was end) ∙ some.1 in
      let nothing : waves_in (call_way c a) ≡ [] = (was.machines a low).calls ∙ told_none (pred c.coordinator.rounds.counting.put_out) (watch.turn a) (was.told end.whole a low) in
      not_same some.0.updates (length (c.machine a).part.log) (late a low reached nothing some.0 slot) ((done st c watch was end).updates a some.0 low slot))
