-- A machine has a wave, or answers it, and the coordinator has its counts.
use Rattle.std.proofs.Common.{◌≡◌, ◌≢◌, ◌⊎◌, ℕ, pred, ◌+◌, ◌<◌, ◌≤◌, ◌&&◌, ◌||◌, Bool, true, false, is_some, Option, None, Some, List, [], ◌∷◌, ◌++◌, length, slice_index_or, refl, sym, ◌∙◌, ap, subst, ⊎_elim, inl, inr}
use Rattle.std.proofs.lemmas.Bool.{and_parts, both_ways, cases_eq}
use Rattle.gl_base.specs.declared.scopes.Counted.{Counted}
use Rattle.cluster_laws.specs.cluster_core.Messages.{Message}
use Rattle.cluster_laws.specs.cluster_core.Ranges.{set_at}
use Rattle.cluster_laws.specs.cluster_core.Settings.{Setting}
use Rattle.cluster_laws.proofs.cluster_core.Basics.{set_at-holds, set_at-kept, set_at-other, set_at-same}
use Rattle.cluster_laws.specs.cluster_model.Calls.{Begin, Call, Committed, Count, Report, Step, Wave, begins_in}
use Rattle.cluster_laws.specs.cluster_model.Clusters.{Cluster, call_way, report_way, with_calls, with_machine}
use Rattle.cluster_laws.specs.cluster_model.Counting.{Counting}
use Rattle.cluster_laws.specs.cluster_model.Machines.{Machine, count_of}
use Rattle.cluster_laws.specs.cluster_model.TwoWaves.{turned}
use Rattle.cluster_laws.specs.cluster_model.Working.{answers_if, is_done, or_zero, prompt, takes_call}
use Rattle.whole_laws.specs.cluster_whole.Steps.{Holds, IsCalled, Tells, Told, Turn, calls_of, come_of, counts_in, held_of, is_told, reports_of}
use Rattle.whole_laws.proofs.cluster_whole.Turning.{counts_pushed}
use Rattle.whole_laws.specs.cluster_ending.Watched.{AreWatched, HasAnswered, HasMoved, HasTold, HasSettled, IsDoneSince, IsIdleWave, IsNotAbove, IsTurnOf, Watch, behind_wave, last_counts, shown_by, shown_in, told_behind, waves_in}
use Rattle.whole_laws.proofs.cluster_ending.Deeds.{IsAlike, alike_balanced, alike_deed, alike_done, alike_rests, deed_keeps, low_again, seen_alike, turn_seen}
use Rattle.whole_laws.proofs.cluster_ending.Idle.{idle_tasks}
use Rattle.whole_laws.proofs.cluster_ending.Words.{calls_again, calls_same}

abbrev pub watch_of : (ℕ → Turn) → ℕ → ℕ → Watch
watch_of turn before newest = record { turn = turn; begun_before = before; begun_newest = newest }

-- the waves are kept, with each machine in some place
abbrev pub StayWatched : Setting → Counting → ℕ → Cluster → ℕ → ℕ → Type 0
StayWatched st counting begun c before newest = (turn : ℕ → Turn) × AreWatched st counting begun c (watch_of turn before newest)

-- ---- places that change

pub turn_as : (st : Setting) (counting : Counting) (begun : ℕ) (c : Cluster) (turn next : ℕ → Turn) (before newest a : ℕ) → next a ≡ turn a →
    IsTurnOf st counting begun c (watch_of turn before newest) a → IsTurnOf st counting begun c (watch_of next before newest) a
turn_as st counting begun c turn next before newest a same was =
    let back : turn a ≡ next a = sym same in
    record {
      calls = was.calls ∙ ap (calls_of (pred counting.put_out)) back;
      held = was.held ∙ ap (held_of (pred counting.put_out)) back;
      reports = was.reports ∙ ap (reports_of (pred counting.put_out)) back;
      missing = λ waiting. was.missing waiting ∙ ap come_of back;
      come = λ whole some. was.come whole some ∙ ap come_of back;
      later = λ counts come. subst (λ (t : Turn). IsNotAbove counts (shown_in t (count_of st (c.machine a)))) back (was.later counts come);
      told = subst (λ (t : Turn). HasAnswered st newest begun t (c.machine a)) back was.told;
      begins = was.begins;
      begins_newest = subst (λ (t : Turn). length (begins_in (told_behind t (call_way c a))) + newest ≤ begun) back was.begins_newest;
    }

abbrev moved_in : Setting → List (Option Counted) → Cluster → Watch → Type 0
moved_in st counts c watch = (a : ℕ) × (told : Counted) × (a < st.machines) × (slice_index_or counts a None ≡ Some told) × HasMoved told (shown_by st c watch a)

-- What machines show is as it was, and so is the wave before.
pub goes_alike : (st : Setting) (counting next : Counting) (begun : ℕ) (c new : Cluster) (watch later : Watch) → AreWatched st counting begun c watch → IsAlike st c new → last_counts next ≡ last_counts counting →
    ((a : ℕ) → a < st.machines → shown_by st new later a ≡ shown_by st c watch a) → later.begun_before ≡ watch.begun_before → later.begun_newest ≡ watch.begun_newest →
    ((a : ℕ) → a < st.machines → IsTurnOf st next begun new later a) →
    (next.waiting ≡ false → (a : ℕ) → a < st.machines → is_told (later.turn a) ≡ true) →
    (next.waiting ≡ false → (a : ℕ) → a < st.machines → slice_index_or (turned next.waves).wave a None ≡ None) →
    (next.waiting ≡ true → 0 < next.put_out) →
    (next.put_out ≡ 0 → (a : ℕ) → a < st.machines → (slice_index_or next.waves.wave a None ≡ None) × (slice_index_or next.waves.before a None ≡ None)) →
    length next.waves.wave ≡ st.machines → length next.waves.before ≡ st.machines → AreWatched st next begun new later
goes_alike st counting next begun c new watch later was alike last shown before newest machines told fresh some first many many_before =
    let moved : moved_in st (last_counts counting) c watch → moved_in st (last_counts counting) new later =
    λ m. (m.0, m.1, m.2, m.3, subst (λ (x : Counted). HasMoved m.1 x) (sym (shown m.0 m.2)) m.4) in
    record {
      machines = machines;
      told = told;
      fresh = fresh;
      some = some;
      first = first;
      many = many;
      many_before = many_before;
      numbers = (
        subst (λ (n : ℕ). st.base ≤ n) (sym before) was.numbers.0,
        subst (λ (n : ℕ). n ≤ later.begun_newest) (sym before) (subst (λ (n : ℕ). watch.begun_before ≤ n) (sym newest) was.numbers.1),
        subst (λ (n : ℕ). n ≤ begun) (sym newest) was.numbers.2,
      );
      balanced = alike_balanced st c new alike was.balanced;
      after_idle = subst (λ (counts : List (Option Counted)). IsIdleWave counts → IsDoneSince st new counts ⊎ moved_in st counts new later) (sym last)
          (λ idle. ⊎_elim
          (λ (done : IsDoneSince st c (last_counts counting)).
          let still = alike_done st c new alike done.left in
          inl (record { left = still.left; updates = λ a told within come. still.logs a ∙ done.updates a told within come }))
          (λ (m : moved_in st (last_counts counting) c watch). inr (moved m))
          (was.after_idle idle));
      at_rest = λ at. subst (λ (counts : List (Option Counted)). IsIdleWave counts → HasSettled st new ⊎ moved_in st counts new later) (sym last)
          (λ idle. ⊎_elim
          (λ (rest : HasSettled st c). inl (alike_rests st c new alike rest))
          (λ (m : moved_in st (last_counts counting) c watch). inr (moved m))
          (was.at_rest (sym before ∙ at) idle));
    }

-- ---- a machine answers where it may

or_false : (x : Bool) → (x || false) ≡ x
or_false true = refl
or_false false = refl

who_holds : (k : ℕ) (turn : Turn) (held : Option ℕ) → held ≡ held_of k turn → is_some held ≡ true → (turn ≡ Holds) × (or_zero held ≡ k)
who_holds k IsCalled held is some = absurd (both_ways false refl (sym (ap (λ (h : Option ℕ). is_some h) is) ∙ some))
who_holds k Holds held is some = (refl, ap or_zero is)
who_holds k (Tells counts) held is some = absurd (both_ways false refl (sym (ap (λ (h : Option ℕ). is_some h) is) ∙ some))
who_holds k (Told counts) held is some = absurd (both_ways false refl (sym (ap (λ (h : Option ℕ). is_some h) is) ∙ some))

module _ (st : Setting) (counting : Counting) (begun : ℕ) (c : Cluster) (turn : ℕ → Turn) (before newest : ℕ) (was : AreWatched st counting begun c (watch_of turn before newest)) (a : ℕ) (low : a < st.machines) where
  abbrev m : Machine
  m = c.machine a

  abbrev answering : Bool → Cluster
  answering test = with_machine c a (answers_if st test m)

  -- it counts the same
  answer_alike : (test : Bool) → IsAlike st c (answering test)
  answer_alike test =
      let told : Machine = answers_if st test m in
      record {
        counts = set_at-kept (count_of st) c.machine a told refl;
        tasks = set_at-kept (λ (x : Machine). x.part.task) c.machine a told refl;
        ways = λ p q. ap (λ (ms : List Message). c.link p q ++ ms) (set_at-kept (λ (x : Machine). x.part.out q) c.machine a told refl p);
      }

  not_answered : StayWatched st counting begun (answering false) before newest
  not_answered =
      let told : Machine = answers_if st false m in (
        turn,
        deed_keeps st counting begun c (answering false) (watch_of turn before newest) was
            (alike_deed st c (answering false) (answer_alike false) (λ b. calls_again (call_way c b))
            (λ b. set_at-holds (λ (b : ℕ) (x : Machine). counts_in (c.reports b ++ x.out) ≡ counts_in (report_way c b)) c.machine a told b refl (λ off. refl))
            (set_at-kept (λ (x : Machine). x.held) c.machine a told refl)),
      )

  module _ (held : is_some m.held ≡ true) where
    abbrev told : Machine
    told = answers_if st true m

    abbrev k : ℕ
    k = pred counting.put_out

    abbrev answer : Turn
    answer = Tells (count_of st m)

    abbrev next : ℕ → Turn
    next = set_at turn a answer

    its : (turn a ≡ Holds) × (or_zero m.held ≡ k)
    its = who_holds k (turn a) m.held (was.machines a low).held held

    machine_is : (answering true).machine a ≡ told
    machine_is = set_at-same c.machine a told

    told_reports : counts_in (c.reports a ++ told.out) ≡ reports_of k answer
    told_reports =
        counts_pushed (c.reports a) m.out (Count (or_zero m.held) (count_of st m))
        ∙ ap (λ (rs : List Report). rs ++ Count (or_zero m.held) (count_of st m) ∷ []) ((was.machines a low).reports ∙ ap (reports_of k) its.0)
        ∙ ap (λ (n : ℕ). Count n (count_of st m) ∷ []) its.1

    has_told : HasTold st newest begun (count_of st m) ((answering true).machine a)
    has_told =
        let same : count_of st ((answering true).machine a) ≡ count_of st m = (answer_alike true).counts a in
        record {
          low = subst (IsNotAbove (count_of st m)) (sym same) (low_again (count_of st m));
          untasked = λ idle got. ((λ v within. ap (λ (f : ℕ → Bool). f v) ((answer_alike true).tasks a) ∙ idle_tasks st m.part idle v within), ap (λ (x : Counted). x.updates) same);
          resting = λ at idle got. same;
        }

    shown_same : (b : ℕ) → b < st.machines → shown_by st (answering true) (watch_of next before newest) b ≡ shown_by st c (watch_of turn before newest) b
    shown_same b within =
        ⊎_elim
        (λ (at : b ≡ a).
        subst (λ (k : ℕ). shown_in (next k) (count_of st ((answering true).machine k)) ≡ shown_in (turn k) (count_of st (c.machine k))) (sym at)
        (ap (λ (t : Turn). shown_in t (count_of st ((answering true).machine a))) (set_at-same turn a answer) ∙ sym (ap (λ (t : Turn). shown_in t (count_of st m)) its.0)))
        (λ (off : b ≢ a). (λ i. shown_in (set_at-other turn a answer b off i) ((answer_alike true).counts b i)))
        (cases_eq b a)

    answered_here : IsTurnOf st counting begun (answering true) (watch_of (λ b. answer) before newest) a
    answered_here =
        let at = was.machines a low in
        record {
          calls = at.calls ∙ ap (calls_of k) its.0;
          held = ap (λ (x : Machine). x.held) machine_is;
          reports = ap (λ (x : Machine). counts_in (c.reports a ++ x.out)) machine_is ∙ told_reports;
          missing = λ waiting. at.missing waiting ∙ ap come_of its.0;
          come = λ whole some. at.come whole some ∙ ap come_of its.0;
          later = λ counts come. subst (λ (t : Turn). IsNotAbove counts (shown_in t (count_of st m))) its.0 (at.later counts come);
          told = has_told;
          begins = at.begins;
          begins_newest = subst (λ (t : Turn). length (begins_in (told_behind t (call_way c a))) + newest ≤ begun) its.0 at.begins_newest;
        }

    answered_at : (b : ℕ) → b < st.machines → IsTurnOf st counting begun (answering true) (watch_of next before newest) b
    answered_at b within =
        ⊎_elim
        (λ (at : b ≡ a). subst (IsTurnOf st counting begun (answering true) (watch_of next before newest)) (sym at)
        (turn_as st counting begun (answering true) (λ b. answer) next before newest a (set_at-same turn a answer) answered_here))
        (λ (off : b ≢ a).
        let same : (answering true).machine b ≡ c.machine b = set_at-other c.machine a told b off in
        turn_as st counting begun (answering true) turn next before newest b (set_at-other turn a answer b off)
        (turn_seen st counting begun c (answering true) (watch_of turn before newest) b (calls_again (call_way c b))
        (ap (λ (x : Machine). counts_in (c.reports b ++ x.out)) same) (ap (λ (x : Machine). x.held) same)
        (seen_alike st (begins_in (call_way c b)) (c.machine b) ((answering true).machine b) ((answer_alike true).counts b) ((answer_alike true).tasks b))
        (was.machines b within)))
        (cases_eq b a)

    has_answered : StayWatched st counting begun (answering true) before newest
    has_answered = (
      next,
      goes_alike st counting counting begun c (answering true) (watch_of turn before newest) (watch_of next before newest) was (answer_alike true) refl shown_same refl refl answered_at
          (λ whole b within. absurd (both_ways false refl (ap is_told (sym its.0) ∙ was.told whole a low)))
          was.fresh was.some was.first was.many was.many_before,
    )

  by_test : (test : Bool) → (test ≡ true → is_some m.held ≡ true) → StayWatched st counting begun (answering test) before newest
  by_test true may = has_answered (may refl)
  by_test false may = not_answered

  pub prompt_watched : StayWatched st counting begun (with_machine c a (prompt st a (c.machine a))) before newest
  prompt_watched = by_test (is_some m.held && is_done st.engine st a m) (λ is. (and_parts (is_some m.held) (is_done st.engine st a m) is).0)

-- ---- a wave comes to a machine

call_in : Call → List Call → Call
call_in call [] = call
call_in call (c ∷ calls) = c

rest_calls : List Call → List Call
rest_calls [] = []
rest_calls (c ∷ calls) = calls

is_wave : Call → Bool
is_wave (Begin k) = false
is_wave (Committed k) = false
is_wave (Wave k) = true
is_wave (Step colour) = false

is_first_wave : List Call → Bool
is_first_wave [] = false
is_first_wave (c ∷ calls) = is_wave c

wave_in : Call → ℕ
wave_in (Begin k) = 0
wave_in (Committed k) = 0
wave_in (Wave k) = k
wave_in (Step colour) = 0

-- where a wave comes first it was on its way to the machine
wave_first : (k seen : ℕ) (turn : Turn) (rest : List Call) → Wave seen ∷ rest ≡ calls_of k turn → (turn ≡ IsCalled) × (seen ≡ k) × (rest ≡ [])
unfolding is_first_wave is_wave wave_in call_in rest_calls
wave_first k seen IsCalled rest is = (refl, ap (λ (cs : List Call). wave_in (call_in (Step 0) cs)) is, ap rest_calls is)
wave_first k seen Holds rest is = absurd (both_ways false refl (sym (ap is_first_wave is)))
wave_first k seen (Tells counts) rest is = absurd (both_ways false refl (sym (ap is_first_wave is)))
wave_first k seen (Told counts) rest is = absurd (both_ways false refl (sym (ap is_first_wave is)))

module _ (st : Setting) (counting : Counting) (begun : ℕ) (c : Cluster) (turn : ℕ → Turn) (before newest : ℕ) (was : AreWatched st counting begun c (watch_of turn before newest)) (a : ℕ) (low : a < st.machines)
    (seen : ℕ) (behind : List Call) (first : c.calls a ≡ Wave seen ∷ behind) where
  abbrev number : ℕ
  number = pred counting.put_out

  abbrev rest : List Call
  rest = behind ++ c.coordinator.out a

  abbrev waved : Machine
  waved = takes_call st a (Wave seen) (c.machine a)

  abbrev heard : Cluster
  heard = with_calls (with_machine c a waved) a behind

  way_is : call_way c a ≡ Wave seen ∷ rest
  way_is = ap (λ (cs : List Call). cs ++ c.coordinator.out a) first

  it : (turn a ≡ IsCalled) × (seen ≡ number) × (waves_in rest ≡ [])
  it = wave_first number seen (turn a) (waves_in rest) (sym (ap waves_in way_is) ∙ (was.machines a low).calls)

  -- the wave is the newest, and the machine holds none
  pub called_newest : (seen ≡ number) × ((c.machine a).held ≡ None) × (turn a ≡ IsCalled)
  called_newest = (it.1, (was.machines a low).held ∙ ap (held_of number) it.0, it.0)

  heard_alike : IsAlike st c heard
  heard_alike =
      record {
        counts = set_at-kept (count_of st) c.machine a waved refl;
        tasks = set_at-kept (λ (x : Machine). x.part.task) c.machine a waved refl;
        ways = λ p q. ap (λ (ms : List Message). c.link p q ++ ms) (set_at-kept (λ (x : Machine). x.part.out q) c.machine a waved refl p);
      }

  abbrev holding : ℕ → Turn
  holding = set_at turn a Holds

  waved_is : heard.machine a ≡ waved
  waved_is = set_at-same c.machine a waved

  new_way : call_way heard a ≡ rest
  new_way = ap (λ (cs : List Call). cs ++ c.coordinator.out a) (set_at-same c.calls a behind)

  shown_held : (b : ℕ) → b < st.machines → shown_by st heard (watch_of holding before newest) b ≡ shown_by st c (watch_of turn before newest) b
  shown_held b within =
      ⊎_elim
      (λ (at : b ≡ a).
      subst (λ (j : ℕ). shown_in (holding j) (count_of st (heard.machine j)) ≡ shown_in (turn j) (count_of st (c.machine j))) (sym at)
      (ap (λ (t : Turn). shown_in t (count_of st (heard.machine a))) (set_at-same turn a Holds) ∙ heard_alike.counts a ∙ sym (ap (λ (t : Turn). shown_in t (count_of st (c.machine a))) it.0)))
      (λ (off : b ≢ a). (λ i. shown_in (set_at-other turn a Holds b off i) (heard_alike.counts b i)))
      (cases_eq b a)

  held_here : IsTurnOf st counting begun heard (watch_of (λ b. Holds) before newest) a
  held_here =
      let at = was.machines a low in
      record {
        calls = ap waves_in new_way ∙ it.2;
        held = ap (λ (x : Machine). x.held) waved_is ∙ ap (λ (n : ℕ). Some n) it.1;
        reports = ap (λ (x : Machine). counts_in (c.reports a ++ x.out)) waved_is ∙ at.reports ∙ ap (reports_of number) it.0;
        missing = λ waiting. at.missing waiting ∙ ap come_of it.0;
        come = λ whole some. at.come whole some ∙ ap come_of it.0;
        later = λ counts come. subst (IsNotAbove counts) (ap (λ (t : Turn). shown_in t (count_of st (c.machine a))) it.0 ∙ sym (heard_alike.counts a)) (at.later counts come);
        told = tt;
        begins = subst (λ (cs : List Call). length (begins_in cs) + before ≤ begun) (sym new_way) (subst (λ (cs : List Call). length (begins_in cs) + before ≤ begun) way_is at.begins);
        begins_newest = subst (λ (cs : List Call). length (begins_in cs) + newest ≤ begun) (sym new_way)
            (subst (λ (cs : List Call). length (begins_in (behind_wave cs)) + newest ≤ begun) way_is
            (subst (λ (t : Turn). length (begins_in (told_behind t (call_way c a))) + newest ≤ begun) it.0 at.begins_newest));
      }

  held_at : (b : ℕ) → b < st.machines → IsTurnOf st counting begun heard (watch_of holding before newest) b
  held_at b within =
      ⊎_elim
      (λ (at : b ≡ a). subst (IsTurnOf st counting begun heard (watch_of holding before newest)) (sym at)
      (turn_as st counting begun heard (λ b. Holds) holding before newest a (set_at-same turn a Holds) held_here))
      (λ (off : b ≢ a).
      let same : heard.machine b ≡ c.machine b = set_at-other c.machine a waved b off in
      turn_as st counting begun heard turn holding before newest b (set_at-other turn a Holds b off)
      (turn_seen st counting begun c heard (watch_of turn before newest) b
      (calls_same (call_way c b) (call_way heard b) (ap (λ (cs : List Call). cs ++ c.coordinator.out b) (set_at-other c.calls a behind b off)))
      (ap (λ (x : Machine). counts_in (c.reports b ++ x.out)) same) (ap (λ (x : Machine). x.held) same)
      (seen_alike st (begins_in (call_way c b)) (c.machine b) (heard.machine b) (heard_alike.counts b) (heard_alike.tasks b))
      (was.machines b within)))
      (cases_eq b a)

  pub wave_watched : AreWatched st counting begun heard (watch_of holding before newest)
  wave_watched =
      goes_alike st counting counting begun c heard (watch_of turn before newest) (watch_of holding before newest) was heard_alike refl shown_held refl refl held_at
      (λ whole b within. absurd (both_ways false refl (ap is_told (sym it.0) ∙ was.told whole a low)))
      was.fresh was.some was.first was.many was.many_before
