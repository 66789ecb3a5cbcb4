-- What a list of events from the opening of a call on makes is a call.
use Rattle.std.proofs.Common.{◌≡◌, ◌⊎◌, ◌↔◌, ℕ, ◌+◌, Bool, true, false, if◌then◌else◌, List, [], ◌∷◌, ◌++◌, length, refl, sym, ◌∙◌, ap, ap₂, subst, ⊎_elim, zero-add, length-append, arith}
use Rattle.std.proofs.lemmas.Bool.{lt-ltb}
use Rattle.gl_base.specs.declared.entries.Entry.{Entry}
use Rattle.gl_base.specs.declared.entries.Entry.TheVariants.{Restart}
use Rattle.gl_base.specs.declared.jobs.FailureAt.{FailureAt}
use Rattle.call_laws.specs.attempts.Beginnings.{IsBeginning, again, nothing}
use Rattle.call_laws.specs.attempts.EngineCalls.{EngineCall, IsEngineCall, IsOrderInTurn, begins_behind, call_order, done_of, made_in, ticket_above}
use Rattle.call_laws.proofs.attempts.Counting.{done_longer}
use Rattle.call_laws.proofs.attempts.Failing.{lost_within}
use Rattle.call_laws.proofs.attempts.Opening.{plain_begins, resumed_begins}
use Rattle.call_laws.proofs.attempts.Storing.{attempts_end, call_window}
use Rattle.call_laws.specs.cluster_attempts.CallsSoFar.{attempt_of}
use Rattle.call_laws.specs.cluster_attempts.Failures.{done_before, done_now}
use Rattle.call_laws.proofs.cluster_attempts.Joining.{begins_so, made_now}
use Rattle.call_laws.proofs.cluster_attempts.Making.{done_is, logs_are}
use Rattle.cluster_laws.specs.cluster_core.Recovering.{going_on}
use Rattle.cluster_laws.specs.cluster_core.Replays.{IsTask}
use Rattle.cluster_laws.specs.cluster_core.Settings.{IsSetting, Setting}
use Rattle.cluster_laws.specs.cluster_model.ByTicket.{StandByTicket}
use Rattle.cluster_laws.specs.cluster_model.Clusters.{BaseView, Cluster}
use Rattle.cluster_laws.specs.cluster_model.Events.{Event, Admit, DeliverCall, DeliverReport, Deliver, Fail, Grant, Mark, PutBegin, PutStep, PutWave, Record, Recover, Section, Send, SendCall, SendReport, Stop, Update, recovers, setting_after}
use Rattle.cluster_laws.specs.cluster_runs.Attempts.{Attempt, Beginning, Shared, done_with}
use Rattle.cluster_laws.specs.cluster_runs.Recorded.{shared_of}
use Rattle.whole_laws.specs.cluster_whole.Logged.{Logged, all_entries}
use Rattle.whole_laws.specs.cluster_whole.Views.{world_of}
use Rattle.whole_laws.specs.cluster_whole.Whole.{AreColoured, setting_behind}
use Rattle.whole_laws.specs.cluster_records.Bases.{IsBase}
use Rattle.whole_laws.proofs.cluster_records.Based.{call_numbers, call_tasks}
use Rattle.whole_laws.proofs.cluster_records.Traces.{begun}
use Rattle.whole_laws.proofs.cluster_records.Fewness.{begun_asking}
use Rattle.whole_laws.proofs.cluster_records.Numbering.{all_own}
use Rattle.graph_core.specs.DataGraph.{size}
use Rattle.seq_run.specs.Orders.{IsValidOrder, replay, tasks_after}
use Rattle.seq_run.specs.States.{GraphState}
use Rattle.call_laws.specs.whole_calls.Called.{IsCallOf, KeepsWindows}
use Rattle.call_laws.specs.whole_calls.Opened.{IsOpened}
use Rattle.call_laws.proofs.whole_calls.Going.{IsInCall, stops_first}
use Rattle.call_laws.proofs.whole_calls.Losing.{own_by_machines}
use Rattle.call_laws.proofs.whole_calls.Windowed.{unheld_few}

-- ---- the setting behind events

-- the same but for what the attempt began with
abbrev pub since : Setting → GraphState → ℕ → Setting
since st start base = record st { start = start; base = base }

after_since : (st : Setting) (event : Event) → setting_after st event ≡ since st (setting_after st event).start (setting_after st event).base
after_since st (Admit a v) = refl
after_since st (Grant a x) = refl
after_since st (Send p q) = refl
after_since st (SendCall a) = refl
after_since st (SendReport a) = refl
after_since st (Deliver p q) = refl
after_since st (DeliverCall a) = refl
after_since st (DeliverReport a) = refl
after_since st (Update s) = refl
after_since st (Mark s) = refl
after_since st (Section a) = refl
after_since st Record = refl
after_since st PutBegin = refl
after_since st PutStep = refl
after_since st PutWave = refl
after_since st (Fail a) = refl
after_since st (Recover base) = refl
after_since st Stop = refl

pub behind_since : (events : List Event) (st : Setting) → setting_behind st events ≡ since st (setting_behind st events).start (setting_behind st events).base
behind_since [] st = refl
behind_since (event ∷ events) st =
    let last : Setting = setting_behind (setting_after st event) events in
    behind_since events (setting_after st event) ∙ ap (λ (s : Setting). since s last.start last.base) (after_since st event)

-- ---- all attempts

shift : (a b c : ℕ) → (a + b) + c ≡ a + (b + c)
shift a b c = omega arith

made_long : (b : Beginning) (failed : List Attempt) (last : Attempt) → (begins_behind b failed).next + length last.made ≡ b.next + length (made_in failed last)
made_long b [] last = refl
made_long b (a ∷ failed) last =
    made_long (again b a) failed last ∙ shift b.next (length a.made) (length (made_in failed last)) ∙ ap (λ (n : ℕ). b.next + n) (sym (length-append a.made (made_in failed last)))

all_done : (b : Beginning) (failed : List Attempt) (last : Attempt) (m : ℕ) → done_with (begins_behind b failed) last.made m ≡ done_with b (made_in failed last) m
all_done b [] last m = refl
all_done b (a ∷ failed) last m = all_done (again b a) failed last m ∙ sym (λ i. done_longer b a (made_in failed last) i m)

-- ---- the opening

-- where a call begins
abbrev pub opened_at : List Entry → Bool → Beginning
opened_at kept resumed = record { front = kept ++ (if resumed then Restart (ticket_above kept) ∷ [] else []); next = ticket_above kept; done = nothing }

module _ (st : Setting) (failures : List FailureAt) (kept : List Entry) (resumed : Bool) (base : BaseView) (first : Cluster) (opened : IsOpened st failures kept resumed base first) where
  abbrev shared : Shared
  shared = shared_of st failures

  begins : IsBeginning shared (opened_at kept resumed)
  begins =
      ⊎_elim
      (λ (yes_resumed : resumed ≡ true). subst (λ (b : Bool). IsBeginning shared (opened_at kept b)) (sym yes_resumed) (resumed_begins shared kept opened.in_turn))
      (λ (plain : (resumed ≡ false) × (kept ≡ [])).
      subst (λ (b : Bool). IsBeginning shared (opened_at kept b)) (sym plain.0) (subst (λ (es : List Entry). IsBeginning shared (opened_at es false)) (sym plain.1) (plain_begins shared)))
      opened.begins

  its_base : IsBase st base first.next
  its_base =
      let front : base.order ≡ (opened_at kept resumed).front = opened.front in
      record {
        front = record {
          valid = subst (IsValidOrder st.graph st.program) (sym front) begins.valid;
          tasks = λ u low. subst (λ (es : List Entry). tasks_after st.graph st.program es u ≡ true) (sym front) ((λ i. begins.tasks i u) ∙ lt-ltb u (size st.graph) low);
        };
        numbers = opened.numbers;
        by_ticket = subst (λ (es : List Entry). StandByTicket 0 es first.next) (sym front) (subst (λ (n : ℕ). StandByTicket 0 (opened_at kept resumed).front n) (sym opened.next) begins.by_ticket);
      }

  pub opened_in : IsSetting st → AreColoured st st.engine →
      IsInCall failures (opened_at kept resumed) (going_on st base.numbers base.number) (recovers st base first) [] []
  opened_in is coloured =
      let one = begun st is coloured base first its_base in
      record {
        is = record { graph = is.graph; owner = is.owner };
        whole = one.0;
        account = one.1;
        based = one.2;
        asking = begun_asking st base first;
        so = begins_so st failures (opened_at kept resumed) base first opened.front opened.next opened.done;
        windows = λ stored. tt;
        ordered = opened.ordered;
        stops = stops_first failures (done_before (recovers st base first)) (done_now (recovers st base first)) (λ m. plus_none (done_before (recovers st base first) m));
        fails = λ a is. absurd (not_so is);
      }
    where
      not_so : false ≡ true → ⊥
      not_so is = cc

      plus_none : (n : ℕ) → n + 0 ≡ n
      plus_none n = omega arith

-- ---- where the events lead

-- the attempts, the last of them the cluster's own
abbrev pub call_with : List FailureAt → List Entry → Bool → Cluster → List Logged → List Attempt → EngineCall
call_with failures kept resumed c logged failed =
    record { base = kept; resumed = resumed; failed = failed; last = attempt_of failures (begins_behind (opened_at kept resumed) failed) c logged }

module _ (failures : List FailureAt) (kept : List Entry) (resumed : Bool) (st : Setting) (c : Cluster) (logged : List Logged) (failed : List Attempt)
    (at : IsInCall failures (opened_at kept resumed) st c logged failed) (in_turn : IsOrderInTurn (shared_of st failures) kept) (begins_with : (resumed ≡ true) ⊎ ((resumed ≡ false) × (kept ≡ []))) where
  abbrev pub call : EngineCall
  call = call_with failures kept resumed c logged failed

  abbrev here : Beginning
  here = begins_behind (opened_at kept resumed) failed

  pub is_call : IsEngineCall (shared_of st failures) call
  is_call =
      record {
        counts = at.ordered.counts;
        base = in_turn;
        begins = begins_with;
        attempts = attempts_end (shared_of st failures) (opened_at kept resumed) failed call.last at.so.have
            (made_now failures (opened_at kept resumed) st at.is c at.whole logged at.account at.based failed at.so at.stops);
      }

  order_is : c.base.order ++ at.whole.consistent.order ≡ call_order call
  order_is = ap₂ (λ (xs ys : List Entry). xs ++ ys) at.so.front at.account.order.order

  pub call_of : IsCallOf st failures kept resumed c call
  call_of =
      record {
        is = is_call;
        base = refl;
        was_resumed = refl;
        front = at.so.front;
        logs = λ a. logs_are st c at.whole logged at.account a;
        machines = own_by_machines st at.is (all_entries logged) (all_own st at.is logged at.account.since);
        next = at.so.next ∙ made_long (opened_at kept resumed) failed call.last;
        done = λ a. done_is st at.is c at.whole logged at.account failures here at.so.done a ∙ all_done (opened_at kept resumed) failed call.last a ∙ zero-add (done_of call a);
        numbers = λ v low. call_numbers st at.is c at.whole logged at.account at.based v low ∙ ap (λ (es : List Entry). (replay st.graph st.program es).vertex v) order_is;
        tasks = λ u low.
            subst (λ (es : List Entry). (tasks_after st.graph st.program es u ≡ true) ↔ IsTask st (world_of c) u) order_is
            (subst (λ (b : Bool). (b ≡ true) ↔ IsTask st (world_of c) u) (call_tasks st at.is c at.whole logged at.account at.based u low) (at.whole.consistent.replay.tasks u low));
      }

  pub windows_are : st.stored ≡ true → KeepsWindows st failures call
  windows_are stored =
      record {
        lost = lost_within (shared_of st failures) st.window call is_call (at.windows stored);
        outside = call_window (shared_of st failures) st.window call is_call (unheld_few st at.is c at.whole logged at.account failures here at.so.tickets at.asking stored);
      }

-- nothing of the call rests on what the last attempt began with
pub call_then : (st : Setting) (start : GraphState) (number : ℕ) (failures : List FailureAt) (kept : List Entry) (resumed : Bool) (c : Cluster) (one : EngineCall) →
    IsCallOf (since st start number) failures kept resumed c one → IsCallOf st failures kept resumed c one
call_then st start number failures kept resumed c one of =
    record {
      is = of.is;
      base = of.base;
      was_resumed = of.was_resumed;
      front = of.front;
      logs = of.logs;
      machines = of.machines;
      next = of.next;
      done = of.done;
      numbers = of.numbers;
      tasks = of.tasks;
    }

pub windows_then : (st : Setting) (start : GraphState) (number : ℕ) (failures : List FailureAt) (one : EngineCall) → KeepsWindows (since st start number) failures one → KeepsWindows st failures one
windows_then st start number failures one keeps = record { lost = keeps.lost; outside = keeps.outside }
