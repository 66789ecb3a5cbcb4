-- A machine answers the wave that it holds.
use Rattle.std.proofs.Common.{◌≡◌, ℕ, ◌+◌, ◌<◌, ◌≤◌, ◌&&◌, ◌||◌, ◌++◌, Bool, true, false, true≢false, Option, None, Some, [], ◌∷◌, length, refl, sym, ap, ◌∙◌, subst, arith}
use Rattle.std.specs.Prelude.{is_some}
use Rattle.update_api.specs.Updates.{Update}
use Rattle.cluster_laws.specs.cluster_core.Effects.{closes}
use Rattle.cluster_laws.specs.cluster_core.Parts.{Part}
use Rattle.cluster_laws.specs.cluster_core.Settings.{Chromatic, Engine}
use Rattle.cluster_laws.specs.cluster_model.Calls.{Count}
use Rattle.cluster_laws.specs.cluster_model.Machines.{is_idle}
use Rattle.cluster_laws.specs.cluster_model.Working.{answers_if, has_room, is_done, prompt}
use Rattle.snapshot_machines.specs.chromatic.Steps.{HasShareDone}
use Rattle.coordinator.specs.machine_api.Going.{IsSnapSetting}
use Rattle.snapshot_machines.proofs.locking.StandLemmas.{room_is as locking_room}
use Rattle.snapshot_machines.proofs.locking.WorkLemmas.{reports_push}
use Rattle.coordinator.specs.snap_update.Snaps.{outside_of}
use Rattle.task_sets.specs.task_sched.Tasks.{is_open}
use Rattle.snapshot_machines.specs.wave_counts.Counts.{HasAnsweredWave, HasSlackFor, IsCountOf, MayTellCounts, answer_reports, answer_to, waiting_in}
use Rattle.snapshot_machines.specs.declared.wave_counts.answers.WaveAnswer.{WaveAnswer}
use Rattle.snapshot_machines.proofs.wave_counts.CountLemmas.{prompt_counts, prompt_is}
use Rattle.wire.specs.wire_msgs.Views as wire
use Rattle.snapshot_machines.specs.locking.Reports.{with_report}
use Rattle.placed_machines.specs.chromatic.Prompting.{HasPrompted}
use Rattle.placed_machines.specs.chromatic.Machines.{ChromaticMachineView, ColorSnapView, CountsView, IsChromaticMachineOf, IsColorSnapPart, Machine, ReportsView, Setting, part_of_steps}
use Rattle.placed_machines.proofs.chromatic.ApartLemmas.{apart, machine_apart, member_apart}

-- ---- where no wave is held, or the share isn't done

pub prompt_none : (st : Setting) (a : ℕ) (m : Machine) → (is_some m.held && is_done st.engine st a m) ≡ false → prompt st a m ≡ m
prompt_none st a m none = ap (λ (b : Bool). answers_if st b m) none ∙ λ i. record m { part = record m.part { closed = or_false m.part.closed i } }
  where
    or_false : (b : Bool) → (b || false) ≡ b
    or_false true = refl
    or_false false = refl

and_false : (b : Bool) → (b && false) ≡ false
and_false true = refl
and_false false = refl

-- what is done doesn't hang on numbers and copies
done_alike : (engine : Engine) (colour : ℕ → ℕ) (colours : ℕ) → engine ≡ Chromatic colour colours → (st : Setting) (a : ℕ) (m : Machine) (part : Part) (d : _) (n : _) → m.part ≡ record part { datum = d; edge = n } → is_done engine st a m ≡ is_done engine st a (record m { part = part })
done_alike engine colour colours chromatic st a m part d n same =
    ap (λ (e : Engine). is_done e st a m) chromatic
    ∙ ap (λ (p : Part). is_done (Chromatic colour colours) st a (record m { part = p })) same
    ∙ sym (ap (λ (e : Engine). is_done e st a (record m { part = part })) chromatic)

module _ {P : Type 0} (meaning : P → Update) (x : ChromaticMachineView P) (counted : x.machine.core.numbers.tasks.outside ≡ outside_of x.machine.kept) where
  module _ (st : Setting) (a : ℕ) (m : Machine) (snap : IsSnapSetting st) (is : IsChromaticMachineOf meaning st a m x) where
    pub room_is : has_room st m ≡ is_open x.machine.core.numbers.tasks
    room_is = locking_room meaning _ a (machine_apart m) (member_apart x) (apart meaning st a m x is) counted

    pub done_is : (done : Bool) → HasShareDone x.machine done → is_done st.engine st a m ≡ done
    done_is done has =
        done_alike st.engine is.here.part.engine.colour is.here.part.engine.greatest is.here.part.engine.chromatic st a m (part_of_steps x.machine) m.part.datum m.part.edge is.part.rest
        ∙ ap (λ (k : ℕ). is_done st.engine st k (record m { part = part_of_steps x.machine })) (sym is.number)
        ∙ has st (record m { part = part_of_steps x.machine }) is.here.part refl room_is

  pub prompt_free : is_some x.counts.held ≡ false → HasPrompted meaning x x
  prompt_free none st a m snap is can =
      subst (λ (n : Machine). IsChromaticMachineOf meaning st a n x)
      (sym (prompt_none st a m (ap (λ (b : Bool). b && is_done st.engine st a m) (ap (λ (o : Option ℕ). is_some o) is.counts.held ∙ none)))) is

  pub prompt_busy : HasShareDone x.machine false → HasPrompted meaning x x
  prompt_busy busy st a m snap is can =
      subst (λ (n : Machine). IsChromaticMachineOf meaning st a n x)
      (sym (prompt_none st a m (ap (λ (b : Bool). is_some m.held && b) (done_is st a m snap is false busy) ∙ and_false (is_some m.held)))) is

  -- where the counts can't be told nothing is promised
  pub prompt_ended : (waiting : ℕ) → ((st : Setting) → IsColorSnapPart st x.machine → waiting ≡ waiting_in st (part_of_steps x.machine)) → is_some x.counts.held ≡ true → (MayTellCounts x.counts waiting → ⊥) → HasPrompted meaning x x
  prompt_ended waiting waits held ended st a m snap is can = absurd (ended (subst (MayTellCounts x.counts) (sym (waits st is.here.part)) (can held)))

  -- ---- it answers

  module _ (done : HasShareDone x.machine true) (waiting sent updates : ℕ) (idle : Bool) (counts : CountsView) (result : Option WaveAnswer) (answers : HasAnsweredWave x.counts counts true sent updates idle result)
      (waits : (st : Setting) → IsColorSnapPart st x.machine → waiting ≡ waiting_in st (part_of_steps x.machine)) (can : MayTellCounts x.counts waiting) (sum : sent ≡ x.counts.sent + waiting)
      (made : updates ≡ length (part_of_steps x.machine).log) (rests : (st : Setting) → IsColorSnapPart st x.machine → idle ≡ is_idle st (part_of_steps x.machine)) where
    -- the step is closed
    abbrev pub shut : ColorSnapView P
    shut = record x.machine { closed = true }

    module _ (answer : WaveAnswer) (is_answer : result ≡ Some answer) where
      abbrev pub answering : ChromaticMachineView P
      answering = record { machine = shut; counts = counts; window = x.window; reports = with_report (wire.Count answer.wave answer.counted) x.reports }

      or_true : (b : Bool) → (b || true) ≡ true
      or_true true = refl
      or_true false = refl

      answer_stands : HasPrompted meaning x answering
      answer_stands st a m snap is told =
          let wait_is : waiting ≡ waiting_in st m.part = waits st is.here.part ∙ sym (ap (waiting_in st) is.part.rest) in
          let can_here : MayTellCounts x.counts (waiting_in st m.part) = subst (MayTellCounts x.counts) wait_is can in
          let sum_here : sent ≡ x.counts.sent + waiting_in st m.part = sum ∙ ap (λ (n : ℕ). x.counts.sent + n) wait_is in
          let made_here : updates ≡ length m.part.log = made ∙ sym (ap (λ (p : Part). length p.log) is.part.rest) in
          let rests_here : idle ≡ is_idle st m.part = rests st is.here.part ∙ sym (ap (is_idle st) is.part.rest) in
          let has : HasAnsweredWave x.counts counts (is_done st.engine st a m) sent updates idle result = subst (λ (b : Bool). HasAnsweredWave x.counts counts b sent updates idle result) (sym (done_is st a m snap is true done)) answers in
          let one : prompt st a m ≡ record m { part = record m.part { closed = true }; held = counts.held; out = m.out ++ Count answer.wave answer.counted ∷ [] } =
          prompt_is st a sent updates idle x.counts counts result m is.counts can_here sum_here made_here rests_here has
          ∙ λ i. record m { part = record m.part { closed = (ap (λ (o : Option WaveAnswer). m.part.closed || is_some o) is_answer ∙ or_true m.part.closed) i }; held = counts.held; out = m.out ++ answer_reports (is_answer i) } in
          let counts_now : IsCountOf st counts (prompt st a m) = prompt_counts st a sent updates idle x.counts counts result m is.counts can_here sum_here made_here rests_here has in
          subst (λ (n : Machine). IsChromaticMachineOf meaning st a n answering) (sym one)
          (record {
            here = record { is = is.here.is; part = record { part = is.here.part.part; engine = is.here.part.engine }; program = is.here.program };
            few = is.few;
            number = is.number;
            window = is.window;
            part = record { rest = ap (λ (p : Part). record p { closed = true }) is.part.rest; vertices = is.part.vertices; edges = is.part.edges };
            free = is.free;
            kept = record {
              known = is.kept.known;
              sent = is.kept.sent;
              acknowledged = is.kept.acknowledged;
              wanted = is.kept.wanted;
              saved = record { vertices = is.kept.saved.vertices; edges = is.kept.saved.edges };
              before = is.kept.before;
              behind = is.kept.behind;
              unsure = is.kept.unsure;
            };
            counts = subst (IsCountOf st counts) one counts_now;
            plans = record { many = is.plans.many; planned = is.plans.planned; others = is.plans.others };
            saved = record {
              vertices = λ v number has. let right = is.saved.vertices v number has in record { vertex = right.vertex; owned = right.owned; marked = right.marked };
              edges = λ e number has. let right = is.saved.edges e number has in (right.0, right.1, record { vertex = right.2.vertex; owned = right.2.owned; marked = right.2.marked });
              pending = is.saved.pending;
            };
            once = is.once;
            reports = reports_push x.reports.messages m.out (wire.Count answer.wave answer.counted) (Count answer.wave answer.counted) is.reports (refl, tt);
          })

      pub answered : (now : ColorSnapView P) → part_of_steps now ≡ closes (part_of_steps x.machine) → now ≡ record x.machine { closed = now.closed } → (reports : ReportsView) → reports ≡ with_report (wire.Count answer.wave answer.counted) x.reports
          → HasPrompted meaning x (record { machine = now; counts = counts; window = x.window; reports = reports })
      answered now closed rest reports put =
          let shut_is : now ≡ shut = rest ∙ λ i. record x.machine { closed = ap (λ (p : Part). p.closed) closed i } in
          subst (HasPrompted meaning x) (λ i. record { machine = sym shut_is i; counts = counts; window = x.window; reports = sym put i }) answer_stands

    -- a wave that is held is answered
    pub not_unanswered : is_some x.counts.held ≡ true → result ≡ None → ⊥
    not_unanswered held none = by x.counts.held held (sym none ∙ answers.told)
      where
        by : (o : Option ℕ) → is_some o ≡ true → None ≡ answer_to x.counts sent updates idle o → ⊥
        by None held is = true≢false (sym held)
        by (Some k) held is = cc

-- ---- beforehand

-- a count that has slack can be told behind a call
pub slack_told : (w now : CountsView) (machines waiting later : ℕ) → machines < 65536 → HasSlackFor w waiting → later ≤ waiting + machines → now.sent ≡ w.sent → now.received ≤ w.received + 1 → MayTellCounts now later
slack_told w now machines waiting later few slack more sent received =
    let one = slack.received in
    let two = slack.sum in
    let three = slack.sent in
    record { sent = omega (arith, two, sent, few); received = omega (arith, one, received); sum = omega (arith, two, sent, few, more) }
