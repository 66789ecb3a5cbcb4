-- Whose part the coordinator is, as events change it.
use Rattle.std.proofs.Common.{◌≡◌, ℕ, suc, ◌+◌, ◌<◌, ◌≤◌, ◌&&◌, Bool, true, false, inl, inr, Option, Some, None, List, [], ◌∷◌, ◌++◌, length, refl, sym, ap, add-one, subst, ◌∙◌}
use Rattle.std.specs.Prelude.{Err, IfOk, Ok, Result, option_map, slice_get, slice_index_or, slice_set}
use Rattle.std.specs.List.{list_all}
use Rattle.std.proofs.lemmas.Bool.{cases_lt}
use Rattle.std.proofs.lemmas.List.{get_or_past, length-replicate, length-set, set-get_or}
use Rattle.std.proofs.lemmas.List.Folds.{list_all-append}
use Rattle.cluster_laws.proofs.cluster_core.Basics.{set_at-same, set_at-other}
use Rattle.cluster_laws.specs.cluster_core.Ranges.{set_at}
use Rattle.cluster_laws.specs.cluster_model.Calls.{Begin, Committed, Count, Saved, Step, Want, Wave}
use Rattle.cluster_laws.specs.cluster_model.Rounds.{Rounds, first_rounds, with_step, with_wave}
use Rattle.gl_base.specs.declared.scopes.Counted.{Counted}
use Rattle.wire.specs.outboxes.Outboxes.{left_behind, without_first}
use Rattle.wire.specs.declared.wire_msgs.messages.Message.{Message}
use Rattle.wire.specs.wire_msgs.Views as wire
use Rattle.coordinator.specs.coord_core.Calls.{HasBegunNext, HasHandedOver, HasPutStep, HasPutWave, HasRecorded, HasTakenReport, IsFirstWith, StaysCoordinator}
use Rattle.coordinator.specs.coord_core.Coordinators.{AreCalls, Call, Coordinator, CoordinatorView, Counting, AreStepsOf, IsCoordinatorOf, IsEngineOf, IsSavingOf, Report, Setting, StepsView, TellsCall, MessageView, OutboxView, OutboxesView, acknowledges, begins_snapshot, count_answer, count_wave, first_coordinator, first_counting, hands_call, message_view, puts_step, puts_wave, takes_report, waiting_at, no_outbox}
use Rattle.coordinator.specs.coord_core.Inner.Asking.{AreOutboxesOf, SameMessages, is_call}
use Rattle.coordinator.specs.coord_core.Inner.Kept.{IsSavingKept}
use Rattle.coordinator.specs.coord_core.Inner.Seen.{IsFirstSaving}
use Rattle.coordinator.specs.coord_core.Saving.{IsRecordDue, SavingView, SectionView, StoreView, saving_first, with_acknowledged, saving_begun, saving_section, with_want}
use Rattle.coordinator.specs.coord_core.Steps.{HasColours, colour_in_turn, first_steps, steps_asked, steps_begun}
use Rattle.coordinator.specs.declared.coord_core.steps.Engine.{Engine}
use Rattle.coordinator.proofs.coord_core.BoxLemmas.{box_set}
use Rattle.coordinator.proofs.coord_core.SavingLemmas.{acknowledged_of, begun_of, first_saving, saving_stays, section_of, stored_where_due, want_of}
use Rattle.coordinator.proofs.coord_core.StepLemmas.{asked_of, colour_of, counted_of, none_of, stepped_of}

-- what holds of the value holds of it otherwise
pub if_ok : {X E : Type 0} {P Q : X → Type 0} (r : Result X E) → ((x : X) → P x → Q x) → IfOk r P → IfOk r Q
if_ok (Ok x) turn holds = turn x holds
if_ok (Err e) turn holds = holds

-- ---- what is known of steps
engine_by : (st : Setting) (s t : StepsView) → t ≡ s → IsEngineOf s.engine st.engine → IsEngineOf t.engine st.engine
engine_by st s t same is = subst (λ (x : StepsView). IsEngineOf x.engine st.engine) (sym same) is

steps_by : (rounds : Rounds) (s t : StepsView) → t ≡ s → AreStepsOf s.engine s rounds → AreStepsOf t.engine t rounds
steps_by rounds s t same are = subst (λ (x : StepsView). AreStepsOf x.engine x rounds) (sym same) are

-- ---- at first

-- no section of so many machines has come
pub first_come : (machines : ℕ) (store : Option StoreView) → length (saving_first machines store).come ≡ machines
first_come machines None = length-replicate machines None
first_come machines (Some store) = length-replicate machines None

module _ (machines : ℕ) (view : CoordinatorView) (engine : Engine) where
  pub first_with : (store : Option StoreView) → IsFirstSaving machines engine (saving_first machines store) view → IsFirstWith machines engine store view
  first_with None first = λ st base long same engine_is plain.
      record {
        machines = first.many ∙ sym same;
        engine = engine_by st (first_steps engine) view.steps first.steps engine_is;
        stored = plain ∙ ap (λ (s : SavingView). s.stored) (sym first.saving);
        none = λ _. refl;
        saving = λ stored. absurd (cc);
        counting = ap first_counting same ∙ sym first.counting;
        steps = steps_by (first_rounds st.machines) (first_steps engine) view.steps first.steps (none_of engine (first_rounds st.machines) refl refl refl);
        out = λ a _. subst (λ (messages : List MessageView). AreCalls messages []) (sym (first.none a)) tt;
      }
  first_with (Some store) first = λ st same engine_is stored vertices edges.
      record {
        machines = first.many ∙ sym same;
        engine = engine_by st (first_steps engine) view.steps first.steps engine_is;
        stored = stored ∙ ap (λ (s : SavingView). s.stored) (sym first.saving);
        none = λ _. refl;
        saving = λ _. subst (λ (s : SavingView). IsSavingOf st s (first_coordinator st store.newest store.store_end)) (sym first.saving)
            (first_saving st machines store same vertices edges);
        counting = ap first_counting same ∙ sym first.counting;
        steps = steps_by (first_rounds st.machines) (first_steps engine) view.steps first.steps (none_of engine (first_rounds st.machines) refl refl refl);
        out = λ a _. subst (λ (messages : List MessageView). AreCalls messages []) (sym (first.none a)) tt;
      }

-- nothing that the cluster sees has changed
pub stays_part : (old new : CoordinatorView) → new.counting ≡ old.counting → new.steps ≡ old.steps → new.saving ≡ old.saving → SameMessages old.out new.out → StaysCoordinator old new
stays_part old new counting steps saving same st c part =
    record {
      machines = same.many ∙ part.machines;
      engine = engine_by st old.steps new.steps steps part.engine;
      stored = part.stored ∙ ap (λ (s : SavingView). s.stored) (sym saving);
      none = part.none;
      saving = λ stored. subst (λ (s : SavingView). IsSavingOf st s c) (sym saving) (part.saving stored);
      counting = part.counting ∙ sym counting;
      steps = steps_by c.rounds old.steps new.steps steps part.steps;
      out = λ a below. subst (λ (messages : List MessageView). AreCalls messages (c.out a)) (sym (same.each a)) (part.out a below);
    }

-- ---- each machine is told

-- one message more is one call more
pub calls_push : (messages : List MessageView) (calls : List Call) (m : MessageView) (call : Call) → AreCalls messages calls → TellsCall m call →
    AreCalls (messages ++ m ∷ []) (calls ++ call ∷ [])
calls_push [] [] m call are is = (is, tt)
calls_push [] (first ∷ calls) m call are is = absurd are
calls_push (first ∷ messages) [] m call are is = absurd are
calls_push (first ∷ messages) (one ∷ calls) m call are is = (are.0, calls_push messages calls m call are.1 is)

-- each machine is told
module _ (old new : CoordinatorView) (message : MessageView) (many : length new.out.machines ≡ length old.out.machines)
    (told : (b : ℕ) → b < length old.out.machines → waiting_at new.out b ≡ waiting_at old.out b ++ message ∷ []) where
  calls_told : (st : Setting) (c : Coordinator) (call : Call) → IsCoordinatorOf st old c → TellsCall message call → (a : ℕ) → a < st.machines → AreCalls (waiting_at new.out a) (c.out a ++ call ∷ [])
  calls_told st c call part tells a below =
      let inside : a < length old.out.machines = subst (λ (n : ℕ). a < n) (sym part.machines) below in
      subst (λ (messages : List MessageView). AreCalls messages (c.out a ++ call ∷ [])) (sym (told a inside))
      (calls_push (waiting_at old.out a) (c.out a) message call (part.out a below) tells)

  pub has_put : new.counting ≡ count_wave old.counting → new.steps ≡ steps_asked old.steps → new.saving ≡ old.saving → message ≡ wire.Wave old.counting.put_out → HasPutWave old new
  has_put counting steps saving is st c part =
      record {
        machines = many ∙ part.machines;
        engine = engine_by st (steps_asked old.steps) new.steps steps part.engine;
        stored = part.stored ∙ ap (λ (s : SavingView). s.stored) (sym saving);
        none = part.none;
        saving = λ stored. subst (λ (s : SavingView). IsSavingOf st s (puts_wave c)) (sym saving)
            (saving_stays st old.saving c (puts_wave c) refl refl refl refl refl refl (part.saving stored));
        counting = ap count_wave part.counting ∙ sym counting;
        steps = steps_by (with_wave c.rounds) (steps_asked old.steps) new.steps steps (asked_of old.steps.engine old.steps c.rounds part.steps);
        out = calls_told st c (Wave c.rounds.counting.put_out) part
            (subst (λ (m : MessageView). TellsCall m (Wave c.rounds.counting.put_out)) (sym is) (ap (λ (counting : Counting). counting.put_out) (sym part.counting)));
      }

  pub has_stepped : new.counting ≡ old.counting → new.steps ≡ steps_begun old.steps → new.saving ≡ old.saving → HasColours old.steps.engine →
      message ≡ wire.Step (colour_in_turn old.steps.engine old.steps.colour) → HasPutStep old new
  has_stepped counting steps saving some is st c part =
      let colour : (with_step st.engine c.rounds).colour ≡ colour_in_turn old.steps.engine old.steps.colour =
      colour_of old.steps.engine st.engine old.steps c.rounds part.engine some part.steps
      in
      record {
        machines = many ∙ part.machines;
        engine = engine_by st (steps_begun old.steps) new.steps steps part.engine;
        stored = part.stored ∙ ap (λ (s : SavingView). s.stored) (sym saving);
        none = part.none;
        saving = λ stored. subst (λ (s : SavingView). IsSavingOf st s (puts_step st c)) (sym saving)
            (saving_stays st old.saving c (puts_step st c) refl refl refl refl refl refl (part.saving stored));
        counting = part.counting ∙ sym counting;
        steps = steps_by (with_step st.engine c.rounds) (steps_begun old.steps) new.steps steps (stepped_of old.steps.engine st.engine old.steps c.rounds part.engine some part.steps);
        out = calls_told st c (Step (with_step st.engine c.rounds).colour) part
            (subst (λ (m : MessageView). TellsCall m (Step (with_step st.engine c.rounds).colour)) (sym is) (sym colour));
      }

  pub has_begun : new.counting ≡ old.counting → new.steps ≡ old.steps → new.saving ≡ saving_begun old.saving → message ≡ wire.Begin (old.saving.begun + 1) → old.saving.stored ≡ true → HasBegunNext old new
  has_begun counting steps saving is stored_is st c part =
      let own : IsSavingOf st old.saving c = part.saving (part.stored ∙ stored_is) in
      record {
        machines = many ∙ part.machines;
        engine = engine_by st old.steps new.steps steps part.engine;
        stored = part.stored ∙ ap (λ (s : SavingView). s.stored) (sym saving);
        none = λ plain. absurd (let both : false ≡ true = sym plain ∙ part.stored ∙ stored_is in cc);
        saving = λ stored. subst (λ (s : SavingView). IsSavingOf st s (begins_snapshot c)) (sym saving) (begun_of st old.saving c own);
        counting = part.counting ∙ sym counting;
        steps = steps_by c.rounds old.steps new.steps steps part.steps;
        out = calls_told st c (Begin (suc c.begun)) part
            (subst (λ (m : MessageView). TellsCall m (Begin (suc c.begun))) (sym is) (add-one old.saving.begun ∙ ap suc (sym own.begun)));
      }

  pub has_recorded : IsSavingKept old.saving → IsRecordDue old.saving → new.counting ≡ old.counting → new.steps ≡ old.steps → new.saving ≡ with_acknowledged old.saving → message ≡ wire.Committed old.saving.begun →
      HasRecorded old new
  has_recorded kept due counting steps saving is st c part =
      let stored_is : st.stored ≡ true = stored_where_due old kept st c part due in
      let own : IsSavingOf st old.saving c = part.saving stored_is in
      record {
        machines = many ∙ part.machines;
        engine = engine_by st old.steps new.steps steps part.engine;
        stored = part.stored ∙ ap (λ (s : SavingView). s.stored) (sym saving);
        none = λ plain. refl;
        saving = λ stored. subst (λ (s : SavingView). IsSavingOf st s (acknowledges st c)) (sym saving) (acknowledged_of st old.saving c own);
        counting = part.counting ∙ sym counting;
        steps = steps_by c.rounds old.steps new.steps steps part.steps;
        out = calls_told st c (Committed c.begun) part
            (subst (λ (m : MessageView). TellsCall m (Committed c.begun)) (sym is) (sym own.begun));
      }

-- and calls alone wait still
pub calls_alone : (old new : OutboxesView) (machines : ℕ) (message : MessageView) → AreOutboxesOf old machines → is_call message ≡ true → length new.machines ≡ machines →
    ((b : ℕ) → b < machines → waiting_at new b ≡ waiting_at old b ++ message ∷ []) → AreOutboxesOf new machines
calls_alone old new machines message are is many told = record {
  many = many;
  calls = λ a. elim (cases_lt a machines) [
    | inl below ↦
        let one : list_all is_call (message ∷ []) ≡ true = ap (λ (b : Bool). b && true) is in
        ap (list_all is_call) (told a below) ∙ list_all-append is_call (waiting_at old a) (message ∷ [])
        ∙ (λ i. are.calls a i && one i)
    | inr beyond ↦
        let outside : length new.machines ≤ a = subst (λ (n : ℕ). n ≤ a) (sym many) beyond in
        ap (λ (box : OutboxView). list_all is_call box.messages) (get_or_past new.machines a no_outbox outside)
  ];
}

-- ---- what comes

pub counts_taken : (old : CoordinatorView) (counting : Counting) (a : ℕ) (counted : Counted) (k : ℕ) → counting ≡ count_answer old.counting a counted →
    HasTakenReport old (record old { counting = counting }) a (wire.Count k counted)
counts_taken old counting a counted k is st c report tells part =
    subst (λ (r : Report). IsCoordinatorOf st (record old { counting = counting }) (takes_report a r c)) (sym tells)
    (record {
      machines = part.machines;
      engine = part.engine;
      stored = part.stored;
      none = part.none;
      saving = λ stored. saving_stays st old.saving c (takes_report a (Count k counted) c) refl refl refl refl refl refl (part.saving stored);
      counting = ap (λ (had : Counting). count_answer had a counted) part.counting ∙ sym is;
      steps = counted_of old.steps.engine old.steps c.rounds a counted part.steps;
      out = part.out;
    })

pub section_taken : (old : CoordinatorView) (a : ℕ) (section : SectionView) → a < length old.out.machines →
    HasTakenReport old (record old { saving = saving_section a section old.saving }) a (wire.Section section)
section_taken old a section inside st c (Saved number saved entries) tells part =
    record {
      machines = part.machines;
      engine = part.engine;
      stored = part.stored;
      none = part.none;
      saving = λ stored. section_of st old.saving c (part.saving stored) a section (record { section = saved; entries = entries }) (subst (λ (n : ℕ). a < n) part.machines inside)
          (record { saved = tells.1; entries = tells.2 });
      counting = part.counting;
      steps = part.steps;
      out = part.out;
    }
section_taken old a section inside st c (Count wave counts) tells part = absurd tells
section_taken old a section inside st c (Want number) tells part = absurd tells

pub want_taken : (old : CoordinatorView) (a k : ℕ) → HasTakenReport old (record old { saving = with_want k old.saving }) a (wire.Want k)
want_taken old a k st c report tells part =
    subst (λ (r : Report). IsCoordinatorOf st (record old { saving = with_want k old.saving }) (takes_report a r c)) (sym tells)
    (record {
      machines = part.machines;
      engine = part.engine;
      stored = part.stored;
      none = part.none;
      saving = λ stored. want_of st old.saving c (part.saving stored) k;
      counting = part.counting;
      steps = part.steps;
      out = part.out;
    })

-- ---- what is sent

-- the first message is the first call
pub record FirstCall (m : MessageView) (messages : List MessageView) (calls : List Call) : Type 0 where
  pub call : Call
  pub behind : List Call
  pub first : calls ≡ call ∷ behind
  pub told : TellsCall m call
  pub rest : AreCalls messages behind

pub first_call : (m : MessageView) (messages : List MessageView) (calls : List Call) → AreCalls (m ∷ messages) calls → FirstCall m messages calls
first_call m messages [] are = absurd are
first_call m messages (call ∷ behind) are = record { call = call; behind = behind; first = refl; told = are.0; rest = are.1 }

-- and no message is no call
no_call : (calls : List Call) → AreCalls [] calls → calls ≡ []
no_call [] are = refl
no_call (call ∷ calls) are = absurd are

-- the outbox of machine a without its first message
abbrev pub taken_from : OutboxesView → ℕ → OutboxesView
taken_from out a = record out { machines = slice_set out.machines a (without_first (slice_index_or out.machines a no_outbox)) }

-- nothing waits
none_first : (messages : List MessageView) → slice_get messages 0 ≡ None → messages ≡ []
none_first [] is = refl
none_first (m ∷ messages) is = absurd (cc)

none_left : (box : OutboxView) → box.messages ≡ [] → without_first box ≡ box
none_left box none = ap (λ (messages : List MessageView). left_behind messages box.room) none ∙ ap (λ (messages : List MessageView). record box { messages = messages }) (sym none)

pub none_taken : (counting : Counting) (steps : StepsView) (saving : SavingView) (out : OutboxesView) (a : ℕ) → slice_get (waiting_at out a) 0 ≡ None →
    HasHandedOver (record { counting = counting; steps = steps; saving = saving; out = out }) (record { counting = counting; steps = steps; saving = saving; out = taken_from out a }) a None
none_taken counting steps saving out a is =
    let none : waiting_at out a ≡ [] = none_first (waiting_at out a) is in
    let same : slice_set out.machines a (without_first (slice_index_or out.machines a no_outbox)) ≡ out.machines =
    ap (λ (box : OutboxView). slice_set out.machines a box) (none_left (slice_index_or out.machines a no_outbox) none) ∙ set-get_or out.machines a no_outbox
    in (
      ap (λ (boxes : List OutboxView). record { counting = counting; steps = steps; saving = saving; out = record out { machines = boxes } }) same,
      λ st c part below. no_call (c.out a) (subst (λ (messages : List MessageView). AreCalls messages (c.out a)) none (part.out a below)),
    )

-- a list that has a first element
record HasBehind (m : MessageView) (messages : List MessageView) : Type 0 where
  behind : List MessageView
  first : messages ≡ m ∷ behind

has_behind : (m : MessageView) (messages : List MessageView) → Some m ≡ slice_get messages 0 → HasBehind m messages
has_behind m [] is = absurd (cc)
has_behind m (one ∷ messages) is = record { behind = messages; first = ap (λ (x : MessageView). x ∷ messages) (sym (let e : m ≡ one = cc in e)) }

-- a message waits at the outbox of a machine alone
is_inside : (out : OutboxesView) (a : ℕ) (m : MessageView) (behind : List MessageView) → waiting_at out a ≡ m ∷ behind → a < length out.machines
is_inside out a m behind is = elim (cases_lt a (length out.machines)) [
  | inl inside ↦ inside
  | inr outside ↦ absurd (let none = ap (λ (box : OutboxView). box.messages) (get_or_past out.machines a no_outbox outside) in cc)
]

pub one_taken : (counting : Counting) (steps : StepsView) (saving : SavingView) (out : OutboxesView) (a : ℕ) (m : Message) → Some (message_view m) ≡ slice_get (waiting_at out a) 0 →
    HasHandedOver (record { counting = counting; steps = steps; saving = saving; out = out }) (record { counting = counting; steps = steps; saving = saving; out = taken_from out a }) a (Some m)
one_taken counting steps saving out a m is st c part =
    let has : HasBehind (message_view m) (waiting_at out a) = has_behind (message_view m) (waiting_at out a) is in
    let inside : a < length out.machines = is_inside out a (message_view m) has.behind has.first in
    let below : a < st.machines = subst (λ (n : ℕ). a < n) part.machines inside in
    let first : FirstCall (message_view m) has.behind (c.out a) =
    first_call (message_view m) has.behind (c.out a) (subst (λ (messages : List MessageView). AreCalls messages (c.out a)) has.first (part.out a below))
    in
    let box : OutboxView = without_first (slice_index_or out.machines a no_outbox) in
    let left : box.messages ≡ has.behind =
    ap (λ (messages : List MessageView). (left_behind messages (slice_index_or out.machines a no_outbox).room).messages) has.first
    in
    record {
      call = first.call;
      behind = first.behind;
      first = first.first;
      told = first.told;
      rest = record {
        machines = length-set out.machines a box ∙ part.machines;
        engine = part.engine;
        stored = part.stored;
        none = part.none;
        saving = λ is_stored. saving_stays st saving c (hands_call a first.behind c) refl refl refl refl refl refl (part.saving is_stored);
        counting = part.counting;
        steps = part.steps;
        out = λ b below_b.
            box_set (λ k one. k < st.machines → AreCalls one.messages (set_at c.out a first.behind k)) out.machines a b box inside
            (λ _. subst (λ (calls : List Call). AreCalls box.messages calls) (sym (set_at-same c.out a first.behind))
            (subst (λ (messages : List MessageView). AreCalls messages first.behind) (sym left) first.rest))
            (λ other below_k. subst (λ (calls : List Call). AreCalls (waiting_at out b) calls) (sym (set_at-other c.out a first.behind b other)) (part.out b below_k))
            below_b;
      };
    }

pub handed_over : (counting : Counting) (steps : StepsView) (saving : SavingView) (out : OutboxesView) (a : ℕ) (result : Option Message) → option_map message_view result ≡ slice_get (waiting_at out a) 0 →
    HasHandedOver (record { counting = counting; steps = steps; saving = saving; out = out }) (record { counting = counting; steps = steps; saving = saving; out = taken_from out a }) a result
handed_over counting steps saving out a None is = none_taken counting steps saving out a (sym is)
handed_over counting steps saving out a (Some m) is = one_taken counting steps saving out a m is
