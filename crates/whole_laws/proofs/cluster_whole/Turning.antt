-- What an event must leave for the steps to be kept.
use Rattle.std.proofs.Common.{◌≡◌, ◌≢◌, ℕ, pred, ◌+◌, ◌<◌, ◌≤◌, ◌&&◌, ◌||◌, ◌==◌, Bool, true, false, if◌then◌else◌, is_some, is_none, Option, None, List, [], ◌∷◌, ◌++◌, refl, sym, ◌∙◌, ap, subst, ⊎_elim, le_refl, le_trans, append_assoc, append-nil}
use Rattle.std.specs.List.{AllByRecursion}
use Rattle.std.proofs.lemmas.Bool.{and_parts, both_ways, cases_eq, eqb-true, or_cases}
use Rattle.gl_base.specs.declared.scopes.ScopeId.{ScopeId}
use Rattle.cluster_laws.specs.cluster_core.Messages.{Message}
use Rattle.cluster_laws.specs.cluster_core.Ranges.{first_passing, set_at}
use Rattle.cluster_laws.specs.cluster_core.Settings.{Chromatic, Engine, Setting}
use Rattle.cluster_laws.specs.cluster_core.Worlds.{World, way}
use Rattle.cluster_laws.proofs.cluster_core.Basics.{set_at-holds, set_at-kept, set_at-other, set_at-same}
use Rattle.cluster_laws.specs.cluster_model.Calls.{Begin, Call, Committed, Count, Report, Saved, Step, Want, Wave}
use Rattle.cluster_laws.specs.cluster_model.Clusters.{Cluster, call_way, report_way, with_machine}
use Rattle.cluster_laws.specs.cluster_model.Machines.{Machine, count_of}
use Rattle.cluster_laws.specs.cluster_model.Rounds.{Rounds}
use Rattle.cluster_laws.specs.cluster_model.Totals.{total}
use Rattle.cluster_laws.specs.cluster_model.Working.{answers_if, is_done, is_offered, or_zero, prompt}
use Rattle.cluster_laws.specs.cluster_places.Steps.{IsInStep, IsOfColour}
use Rattle.graph_core.specs.DataGraph.{size}
use Rattle.whole_laws.specs.cluster_whole.Steps.{AreInTurn, Holds, IsAt, ComesBetween, IsCalled, StaysShut, Tells, Told, Turn, calls_of, come_of, counts_in, has_come, held_of, is_told, reports_of, rounds_in, step_of, messages_between}
use Rattle.whole_laws.specs.cluster_whole.Views.{world_of}
use Rattle.whole_laws.specs.cluster_whole.Windows.{StaysWithin}
use Rattle.whole_laws.proofs.cluster_whole.Flows.{same_flows}
use Rattle.whole_laws.proofs.cluster_whole.Within.{is_free}

pub rounds-append : (xs ys : List Call) → rounds_in (xs ++ ys) ≡ rounds_in xs ++ rounds_in ys
rounds-append [] ys = refl
rounds-append (Begin k ∷ xs) ys = rounds-append xs ys
rounds-append (Committed k ∷ xs) ys = rounds-append xs ys
rounds-append (Wave k ∷ xs) ys = ap (λ (cs : List Call). Wave k ∷ cs) (rounds-append xs ys)
rounds-append (Step colour ∷ xs) ys = ap (λ (cs : List Call). Step colour ∷ cs) (rounds-append xs ys)

pub counts-append : (xs ys : List Report) → counts_in (xs ++ ys) ≡ counts_in xs ++ counts_in ys
counts-append [] ys = refl
counts-append (Saved k section entries ∷ xs) ys = counts-append xs ys
counts-append (Count k counts ∷ xs) ys = ap (λ (rs : List Report). Count k counts ∷ rs) (counts-append xs ys)
counts-append (Want k ∷ xs) ys = counts-append xs ys

pub rounds_pushed : (xs ys : List Call) (call : Call) → rounds_in (xs ++ (ys ++ call ∷ [])) ≡ rounds_in (xs ++ ys) ++ rounds_in (call ∷ [])
rounds_pushed xs ys call = ap rounds_in (sym (append_assoc xs ys (call ∷ []))) ∙ rounds-append (xs ++ ys) (call ∷ [])

pub counts_pushed : (xs ys : List Report) (report : Report) → counts_in (xs ++ (ys ++ report ∷ [])) ≡ counts_in (xs ++ ys) ++ counts_in (report ∷ [])
counts_pushed xs ys report = ap counts_in (sym (append_assoc xs ys (report ∷ []))) ∙ counts-append (xs ++ ys) (report ∷ [])

pub counts_told : (test : Bool) (xs ys : List Report) (report : Report) → counts_in (report ∷ []) ≡ [] → counts_in (xs ++ (if test then ys ++ report ∷ [] else ys)) ≡ counts_in (xs ++ ys)
counts_told true xs ys report none = counts_pushed xs ys report ∙ ap (λ (rs : List Report). counts_in (xs ++ ys) ++ rs) none ∙ append-nil (counts_in (xs ++ ys))
counts_told false xs ys report none = refl

-- the step goes by what is closed, in flight and on the way
pub in_step_like : (st : Setting) (colour : ℕ → ℕ) (step : ℕ) (one other : World) → IsInStep st colour step one → ((a : ℕ) → (other.part a).closed ≡ false → (other.part a).colour ≡ step) →
    ((s : ScopeId) → (other.part s.home.0).flight s ≡ (one.part s.home.0).flight s) → ((p q : ℕ) → way other p q ≡ way one p q) → IsInStep st colour step other
in_step_like st colour step one other is machines flights ways =
    record {
      machines = machines;
      flights = λ s v flies. is.flights s v (sym (flights s) ∙ flies);
      news = λ p q. subst (AllByRecursion (IsOfColour colour step)) (sym (ways p q)) (is.news p q);
    }

-- a machine that stays shut does so where it sends nothing more
pub shut_still : (m new : Machine) (turn : Turn) → (m.part.closed ≡ true → (new.part.closed ≡ true) × (new.sent ≡ m.sent) × (m.received ≤ new.received)) → StaysShut m turn → StaysShut new turn
shut_still m new IsCalled still shut = tt
shut_still m new Holds still shut = tt
shut_still m new (Tells counts) still shut = let s = still shut.0 in (s.0, s.1 ∙ shut.1, le_trans shut.2 s.2)
shut_still m new (Told counts) still shut = let s = still shut.0 in (s.0, s.1 ∙ shut.1, le_trans shut.2 s.2)

-- What stays as it is where something happens that waves and steps don't see.
pub record IsCalm (st : Setting) (c new : Cluster) : Type 0 where
  pub calls : (a : ℕ) → rounds_in (call_way new a) ≡ rounds_in (call_way c a)
  pub reports : (a : ℕ) → counts_in (report_way new a) ≡ counts_in (report_way c a)
  pub held : (a : ℕ) → (new.machine a).held ≡ (c.machine a).held
  pub closed : (a : ℕ) → (new.machine a).part.closed ≡ (c.machine a).part.closed
  -- a closed machine sends nothing
  pub shut : (a : ℕ) → (c.machine a).part.closed ≡ true → ((new.machine a).sent ≡ (c.machine a).sent) × ((c.machine a).received ≤ (new.machine a).received)

module _ (st : Setting) (colour : ℕ → ℕ) (rounds : Rounds) (c : Cluster) (t : AreInTurn st colour rounds c) where
  pub calm_at : (new : Cluster) → IsCalm st c new → (a : ℕ) → a < st.machines → IsAt rounds new a (t.made a) (t.turn a)
  calm_at new calm a low =
      let at = t.machines a low in
      record {
        calls = calm.calls a ∙ at.calls;
        held = calm.held a ∙ at.held;
        reports = calm.reports a ∙ at.reports;
        missing = at.missing;
        come = at.come;
        behind = λ un. calm.closed a ∙ at.behind un;
        first = at.first;
        in_turn = at.in_turn;
        shut = λ since. shut_still (c.machine a) (new.machine a) (t.turn a) (λ closed. (calm.closed a ∙ closed, (calm.shut a closed).0, (calm.shut a closed).1)) (at.shut since);
      }

  pub calm_turn : (new : Cluster) → IsCalm st c new → IsInStep st colour rounds.colour (world_of new) →
      ((s : ScopeId) → (new.machine s.home.0).part.closed ≡ true → (new.machine s.home.0).part.flight s ≡ None) →
      ((a x : ℕ) → (new.machine a).part.queue x ≡ []) →
      ((p q : ℕ) → AllByRecursion (ComesBetween st rounds.steps p q) (way (world_of new) p q)) →
      total st.machines (λ a. (new.machine a).sent) ≡ total st.machines (λ a. (new.machine a).received) + messages_between st (world_of new) →
      AreInTurn st colour rounds new
  calm_turn new calm step closed queues between balanced =
      record {
        made = t.made;
        turn = t.turn;
        machines = calm_at new calm;
        told = t.told;
        fresh = t.fresh;
        some = t.some;
        many = t.many;
        since = t.since;
        first = λ none a. calm.closed a ∙ t.first none a;
        others = λ a high. calm.closed a ∙ t.others a high;
        step = step;
        closed = closed;
        queues = queues;
        between = between;
        balanced = balanced;
      }

  -- and all the more where no part and no link between machines changes
  pub still_turn : (new : Cluster) → IsCalm st c new → ((a : ℕ) → (new.machine a).part.colour ≡ (c.machine a).part.colour) →
      ((a : ℕ) → (new.machine a).part.flight ≡ (c.machine a).part.flight) → ((a : ℕ) → (new.machine a).part.queue ≡ (c.machine a).part.queue) →
      ((p q : ℕ) → way (world_of new) p q ≡ way (world_of c) p q) → ((a : ℕ) → (new.machine a).sent ≡ (c.machine a).sent) → ((a : ℕ) → (new.machine a).received ≡ (c.machine a).received) →
      AreInTurn st colour rounds new
  still_turn new calm colours flights queues ways sent received =
      calm_turn new calm
      (in_step_like st colour rounds.colour (world_of c) (world_of new) t.step (λ a open_. colours a ∙ t.step.machines a (sym (calm.closed a) ∙ open_)) (λ s. λ i. flights s.home.0 i s) ways)
      (λ s closed. (λ i. flights s.home.0 i s) ∙ t.closed s (sym (calm.closed s.home.0) ∙ closed))
      (λ a x. (λ i. queues a i x) ∙ t.queues a x)
      (λ p q. subst (AllByRecursion (ComesBetween st rounds.steps p q)) (sym (ways p q)) (t.between p q))
      ((λ i. total st.machines (λ a. sent a i)) ∙ t.balanced ∙ λ i. total st.machines (λ a. sym (received a) i) + sym (same_flows st (world_of c) (world_of new) ways) i)

-- ---- a machine answers where it may

or_false : (x : Bool) → (x || false) ≡ x
or_false true = refl
or_false false = refl

or_true : (x : Bool) → (x || true) ≡ true
or_true true = refl
or_true false = refl

none_held : (k : ℕ) (turn : Turn) (held : Option ℕ) → held ≡ held_of k turn → is_some held ≡ true → (turn ≡ Holds) × (or_zero held ≡ k)
none_held k IsCalled held is some = absurd (both_ways false refl (sym (ap (λ (h : Option ℕ). is_some h) is) ∙ some))
none_held k Holds held is some = (refl, ap or_zero is)
none_held k (Tells counts) held is some = absurd (both_ways false refl (sym (ap (λ (h : Option ℕ). is_some h) is) ∙ some))
none_held k (Told counts) held is some = absurd (both_ways false refl (sym (ap (λ (h : Option ℕ). is_some h) is) ∙ some))

module _ (st : Setting) (colour : ℕ → ℕ) (colours : ℕ) (chromatic : st.engine ≡ Chromatic colour colours) (rounds : Rounds) (c : Cluster) (t : AreInTurn st colour rounds c) (a : ℕ) (low : a < st.machines) (within : StaysWithin st a (c.machine a)) where
  abbrev m : Machine
  m = c.machine a

  abbrev answering : Bool → Cluster
  answering test = with_machine c a (answers_if st test m)

  not_answered : AreInTurn st colour rounds (answering false)
  not_answered =
      still_turn st colour rounds c t (answering false)
      (record {
        calls = λ b. refl;
        reports = λ b. set_at-holds (λ (b : ℕ) (x : Machine). counts_in (c.reports b ++ x.out) ≡ counts_in (report_way c b)) c.machine a (answers_if st false m) b refl (λ off. refl);
        held = set_at-kept (λ (x : Machine). x.held) c.machine a (answers_if st false m) refl;
        closed = set_at-kept (λ (x : Machine). x.part.closed) c.machine a (answers_if st false m) (or_false m.part.closed);
        shut = λ b. set_at-holds (λ (b : ℕ) (x : Machine). (c.machine b).part.closed ≡ true → (x.sent ≡ (c.machine b).sent) × ((c.machine b).received ≤ x.received)) c.machine a (answers_if st false m) b
            (λ closed. (refl, le_refl m.received)) (λ off closed. (refl, le_refl (c.machine b).received));
      })
      (set_at-kept (λ (x : Machine). x.part.colour) c.machine a (answers_if st false m) refl)
      (set_at-kept (λ (x : Machine). x.part.flight) c.machine a (answers_if st false m) refl)
      (set_at-kept (λ (x : Machine). x.part.queue) c.machine a (answers_if st false m) refl)
      (λ p q. ap (λ (ms : List Message). c.link p q ++ ms) (set_at-kept (λ (x : Machine). x.part.out q) c.machine a (answers_if st false m) refl p))
      (set_at-kept (λ (x : Machine). x.sent) c.machine a (answers_if st false m) refl)
      (set_at-kept (λ (x : Machine). x.received) c.machine a (answers_if st false m) refl)

  -- it answers: it has no scope in flight, or was closed
  module _ (held : is_some m.held ≡ true) (done : is_done st.engine st a m ≡ true) where
    abbrev told : Machine
    told = answers_if st true m

    at : IsAt rounds c a (t.made a) (t.turn a)
    at = t.machines a low

    its : (t.turn a ≡ Holds) × (or_zero m.held ≡ pred rounds.counting.put_out)
    its = none_held (pred rounds.counting.put_out) (t.turn a) m.held at.held held

    now_free : (s : ScopeId) → s.home.0 ≡ a → m.part.flight s ≡ None
    now_free s home =
        let is : (m.part.closed || (m.part.flying == 0 && is_none (first_passing (is_offered st colour a m) 0 (size st.graph)))) ≡ true =
        subst (λ (engine : Engine). is_done engine st a m ≡ true) chromatic done in
        ⊎_elim
        (λ (closed : m.part.closed ≡ true). subst (λ (b : ℕ). (c.machine b).part.closed ≡ true → (c.machine b).part.flight s ≡ None) home (t.closed s) closed)
        (λ (over : (m.part.flying == 0 && is_none (first_passing (is_offered st colour a m) 0 (size st.graph))) ≡ true).
        is_free st a m within (eqb-true m.part.flying 0 (and_parts (m.part.flying == 0) (is_none (first_passing (is_offered st colour a m) 0 (size st.graph))) over).0) s)
        (or_cases m.part.closed (m.part.flying == 0 && is_none (first_passing (is_offered st colour a m) 0 (size st.graph))) is)

    shut_now : told.part.closed ≡ true
    shut_now = or_true m.part.closed

    told_reports : counts_in (c.reports a ++ told.out) ≡ reports_of (pred rounds.counting.put_out) (Tells (count_of st m))
    told_reports =
        counts_pushed (c.reports a) m.out (Count (or_zero m.held) (count_of st m))
        ∙ ap (λ (rs : List Report). rs ++ Count (or_zero m.held) (count_of st m) ∷ []) (at.reports ∙ ap (reports_of (pred rounds.counting.put_out)) its.0)
        ∙ ap (λ (k : ℕ). Count k (count_of st m) ∷ []) its.1

    told_at : (b : ℕ) (x : Machine) → b ≡ a → x ≡ told → counts_in (c.reports b ++ x.out) ≡ reports_of (pred rounds.counting.put_out) (Tells (count_of st m))
    told_at b x at_a is = (λ i. counts_in (c.reports (at_a i) ++ (is i).out)) ∙ told_reports

    new_at : IsAt rounds (answering true) a (t.made a) (Tells (count_of st m))
    new_at =
        let is : (answering true).machine a ≡ told = set_at-same c.machine a told in
        record {
          calls = at.calls ∙ ap (λ (turn : Turn). step_of (t.made a) rounds.colour ++ calls_of (pred rounds.counting.put_out) turn) its.0;
          held = ap (λ (x : Machine). x.held) is;
          reports = told_at a ((answering true).machine a) refl is;
          missing = λ waiting. at.missing waiting ∙ ap come_of its.0;
          come = λ whole some. at.come whole some ∙ ap come_of its.0;
          behind = λ un. ap (λ (x : Machine). x.part.closed) is ∙ shut_now;
          first = at.first;
          in_turn = λ since come. at.in_turn since (ap has_come its.0);
          shut = λ since. (ap (λ (x : Machine). x.part.closed) is ∙ shut_now, ap (λ (x : Machine). x.sent) is, subst (λ (x : Machine). m.received ≤ x.received) (sym is) (le_refl m.received));
        }

    other_at : (b : ℕ) → b < st.machines → b ≢ a → IsAt rounds (answering true) b (t.made b) (t.turn b)
    other_at b b_low off =
        let is : (answering true).machine b ≡ c.machine b = set_at-other c.machine a told b off in
        let was = t.machines b b_low in
        record {
          calls = was.calls;
          held = ap (λ (x : Machine). x.held) is ∙ was.held;
          reports = ap (λ (x : Machine). counts_in (c.reports b ++ x.out)) is ∙ was.reports;
          missing = was.missing;
          come = was.come;
          behind = λ un. ap (λ (x : Machine). x.part.closed) is ∙ was.behind un;
          first = was.first;
          in_turn = was.in_turn;
          shut = λ since. subst (λ (x : Machine). StaysShut x (t.turn b)) (sym is) (was.shut since);
        }

    ways_same : (p q : ℕ) → way (world_of (answering true)) p q ≡ way (world_of c) p q
    ways_same p q = ap (λ (ms : List Message). c.link p q ++ ms) (set_at-kept (λ (x : Machine). x.part.out q) c.machine a told refl p)

    has_answered : AreInTurn st colour rounds (answering true)
    has_answered =
        record {
          made = t.made;
          turn = set_at t.turn a (Tells (count_of st m));
          machines = λ b b_low. ⊎_elim
              (λ (here : b ≡ a). subst (λ (b : ℕ). IsAt rounds (answering true) b (t.made b) (set_at t.turn a (Tells (count_of st m)) b)) (sym here)
              (subst (IsAt rounds (answering true) a (t.made a)) (sym (set_at-same t.turn a (Tells (count_of st m)))) new_at))
              (λ (off : b ≢ a). subst (IsAt rounds (answering true) b (t.made b)) (sym (set_at-other t.turn a (Tells (count_of st m)) b off)) (other_at b b_low off))
              (cases_eq b a);
          told = λ whole b b_low. absurd (both_ways false refl (ap is_told (sym its.0) ∙ t.told whole a low));
          fresh = t.fresh;
          some = t.some;
          many = t.many;
          since = t.since;
          first = λ none b. set_at-holds (λ (b : ℕ) (x : Machine). x.part.closed ≡ true) c.machine a told b shut_now (λ off. t.first none b);
          others = λ b high. set_at-holds (λ (b : ℕ) (x : Machine). x.part.closed ≡ true) c.machine a told b shut_now (λ off. t.others b high);
          step = in_step_like st colour rounds.colour (world_of c) (world_of (answering true)) t.step
              (λ b. set_at-holds (λ (b : ℕ) (x : Machine). x.part.closed ≡ false → x.part.colour ≡ rounds.colour) c.machine a told b (λ open_. absurd (both_ways told.part.closed open_ shut_now)) (λ off. t.step.machines b))
              (λ s. ap (λ (f : ScopeId → Option ℕ). f s) (set_at-kept (λ (x : Machine). x.part.flight) c.machine a told refl s.home.0))
              ways_same;
          closed = λ s. set_at-holds (λ (b : ℕ) (x : Machine). s.home.0 ≡ b → x.part.closed ≡ true → x.part.flight s ≡ None) c.machine a told s.home.0
              (λ home closed. now_free s home)
              (λ off home closed. t.closed s closed) refl;
          queues = λ b. set_at-holds (λ (b : ℕ) (x : Machine). (y : ℕ) → x.part.queue y ≡ []) c.machine a told b (t.queues a) (λ off. t.queues b);
          between = λ p q. subst (AllByRecursion (ComesBetween st rounds.steps p q)) (sym (ways_same p q)) (t.between p q);
          balanced =
              (λ i. total st.machines (λ b. set_at-kept (λ (x : Machine). x.sent) c.machine a told refl b i)) ∙ t.balanced
              ∙ λ i. total st.machines (λ b. sym (set_at-kept (λ (x : Machine). x.received) c.machine a told refl b) i) + sym (same_flows st (world_of c) (world_of (answering true)) ways_same) i;
        }

  by_test : (test : Bool) → (test ≡ true → (is_some m.held ≡ true) × (is_done st.engine st a m ≡ true)) → AreInTurn st colour rounds (answering test)
  by_test true may = has_answered (may refl).0 (may refl).1
  by_test false may = not_answered

  pub prompt_turn : AreInTurn st colour rounds (with_machine c a (prompt st a (c.machine a)))
  prompt_turn = by_test (is_some m.held && is_done st.engine st a m) (λ is. let h = and_parts (is_some m.held) (is_done st.engine st a m) is in (h.0, h.1))
