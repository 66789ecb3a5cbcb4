-- A machine is told of a step or of a wave, and the coordinator hears counts.
use Rattle.std.proofs.Common.{◌≡◌, ◌≢◌, ℕ, pred, ◌+◌, ◌<◌, ◌≤◌, Bool, true, false, Option, None, Some, List, [], ◌∷◌, ◌++◌, refl, sym, ◌∙◌, ap, subst, ⊎_elim, arith}
use Rattle.std.specs.List.{AllByRecursion}
use Rattle.std.proofs.lemmas.Bool.{both_ways, cases_eq}
use Rattle.gl_base.specs.declared.scopes.ScopeId.{ScopeId}
use Rattle.cluster_laws.specs.cluster_core.Messages.{Message}
use Rattle.cluster_laws.specs.cluster_core.Ranges.{set_at}
use Rattle.cluster_laws.specs.cluster_core.Settings.{Setting}
use Rattle.cluster_laws.specs.cluster_core.Worlds.{way}
use Rattle.cluster_laws.proofs.cluster_core.Basics.{set_at-holds, set_at-kept, set_at-other, set_at-same}
use Rattle.cluster_laws.specs.cluster_model.Calls.{Begin, Call, Committed, Step, Wave}
use Rattle.cluster_laws.specs.cluster_model.Clusters.{Cluster, call_way, with_calls, with_machine}
use Rattle.cluster_laws.specs.cluster_model.Machines.{Machine}
use Rattle.cluster_laws.specs.cluster_model.Rounds.{Rounds}
use Rattle.cluster_laws.specs.cluster_model.Totals.{total}
use Rattle.cluster_laws.specs.cluster_model.Working.{takes_call}
use Rattle.whole_laws.specs.cluster_whole.Steps.{AreInTurn, Holds, IsAt, ComesBetween, IsCalled, StaysShut, Tells, Told, Turn, calls_of, come_of, counts_in, has_come, held_of, is_told, reports_of, rounds_in, step_of}
use Rattle.whole_laws.specs.cluster_whole.Views.{world_of}
use Rattle.whole_laws.proofs.cluster_whole.Flows.{same_flows}
use Rattle.whole_laws.proofs.cluster_whole.Turning.{in_step_like}

not_low : (a n : ℕ) → n ≤ a → a < n → ⊥
not_low a n high low = omega arith

call_in : Call → List Call → Call
call_in call [] = call
call_in call (c ∷ calls) = c

colour_in : Call → ℕ
colour_in (Begin k) = 0
colour_in (Committed k) = 0
colour_in (Wave k) = 0
colour_in (Step colour) = colour

is_step : Call → Bool
is_step (Begin k) = false
is_step (Committed k) = false
is_step (Wave k) = false
is_step (Step colour) = true

is_first_step : List Call → Bool
is_first_step [] = false
is_first_step (c ∷ calls) = is_step c

rest_calls : List Call → List Call
rest_calls [] = []
rest_calls (c ∷ calls) = calls

-- where a step comes first it is the one that the machine has not made, and behind it comes what was behind
step_first : (made : Bool) (newest k seen : ℕ) (turn : Turn) (rest : List Call) → Step seen ∷ rest ≡ step_of made newest ++ calls_of k turn → (made ≡ false) × (seen ≡ newest) × (rest ≡ calls_of k turn)
unfolding colour_in call_in rest_calls is_first_step is_step
step_first false newest k seen turn rest is = (refl, ap (λ (cs : List Call). colour_in (call_in (Wave 0) cs)) is, ap rest_calls is)
step_first true newest k seen IsCalled rest is = absurd (both_ways false refl (sym (ap is_first_step is)))
step_first true newest k seen Holds rest is = absurd (both_ways false refl (sym (ap is_first_step is)))
step_first true newest k seen (Tells counts) rest is = absurd (both_ways false refl (sym (ap is_first_step is)))
step_first true newest k seen (Told counts) rest is = absurd (both_ways false refl (sym (ap is_first_step is)))

is_wave : Call → Bool
is_wave (Begin k) = false
is_wave (Committed k) = false
is_wave (Wave k) = true
is_wave (Step colour) = false

is_first_wave : List Call → Bool
is_first_wave [] = false
is_first_wave (c ∷ calls) = is_wave c

wave_in : Call → ℕ
wave_in (Begin k) = 0
wave_in (Committed k) = 0
wave_in (Wave k) = k
wave_in (Step colour) = 0

-- where a wave comes first the machine has made the newest step, and the wave was on its way to it
wave_first : (made : Bool) (newest k seen : ℕ) (turn : Turn) (rest : List Call) → Wave seen ∷ rest ≡ step_of made newest ++ calls_of k turn → (made ≡ true) × (turn ≡ IsCalled) × (seen ≡ k) × (rest ≡ [])
unfolding is_first_wave is_wave wave_in call_in rest_calls
wave_first false newest k seen turn rest is = absurd (both_ways false refl (sym (ap is_first_wave is)))
wave_first true newest k seen IsCalled rest is = (refl, refl, ap (λ (cs : List Call). wave_in (call_in (Step 0) cs)) is, ap rest_calls is)
wave_first true newest k seen Holds rest is = absurd (both_ways false refl (sym (ap is_first_wave is)))
wave_first true newest k seen (Tells counts) rest is = absurd (both_ways false refl (sym (ap is_first_wave is)))
wave_first true newest k seen (Told counts) rest is = absurd (both_ways false refl (sym (ap is_first_wave is)))

module _ (st : Setting) (colour : ℕ → ℕ) (c : Cluster) (t : AreInTurn st colour c.coordinator.rounds c) (a : ℕ) (low : a < st.machines) (behind : List Call) where
  abbrev rounds : Rounds
  rounds = c.coordinator.rounds

  abbrev k : ℕ
  k = pred rounds.counting.put_out

  abbrev rest : List Call
  rest = rounds_in (behind ++ c.coordinator.out a)

  -- the machine has heard the first call
  abbrev heard : Call → Cluster
  heard call = with_calls (with_machine c a (takes_call st a call (c.machine a))) a behind

  other_heard : (call : Call) (b : ℕ) → b ≢ a → ((heard call).machine b ≡ c.machine b) × (rounds_in (call_way (heard call) b) ≡ rounds_in (call_way c b))
  other_heard call b off =
      (set_at-other c.machine a (takes_call st a call (c.machine a)) b off, ap (λ (cs : List Call). rounds_in (cs ++ c.coordinator.out b)) (set_at-other c.calls a behind b off))

  other_at : (call : Call) (b : ℕ) → b < st.machines → b ≢ a → IsAt rounds (heard call) b (t.made b) (t.turn b)
  other_at call b b_low off =
      let is = other_heard call b off in
      let was = t.machines b b_low in
      record {
        calls = is.1 ∙ was.calls;
        held = ap (λ (x : Machine). x.held) is.0 ∙ was.held;
        reports = ap (λ (x : Machine). counts_in (c.reports b ++ x.out)) is.0 ∙ was.reports;
        missing = was.missing;
        come = was.come;
        behind = λ un. ap (λ (x : Machine). x.part.closed) is.0 ∙ was.behind un;
        first = was.first;
        in_turn = was.in_turn;
        shut = λ since. subst (λ (x : Machine). StaysShut x (t.turn b)) (sym is.0) (was.shut since);
      }

  -- ---- a step

  module _ (seen : ℕ) (first : c.calls a ≡ Step seen ∷ behind) where
    abbrev stepped : Machine
    stepped = takes_call st a (Step seen) (c.machine a)

    found : (t.made a ≡ false) × (seen ≡ rounds.colour) × (rest ≡ calls_of k (t.turn a))
    found = step_first (t.made a) rounds.colour k seen (t.turn a) rest (sym (ap (λ (cs : List Call). rounds_in (cs ++ c.coordinator.out a)) first) ∙ (t.machines a low).calls)

    pub step_is_newest : seen ≡ rounds.colour
    step_is_newest = found.1

    was_closed : (c.machine a).part.closed ≡ true
    was_closed = (t.machines a low).behind found.0

    pub was_free : (s : ScopeId) → s.home.0 ≡ a → (c.machine a).part.flight s ≡ None
    was_free s home = subst (λ (b : ℕ). (c.machine b).part.closed ≡ true → (c.machine b).part.flight s ≡ None) home (t.closed s) was_closed

    shut_not : (turn : Turn) → t.turn a ≡ turn → 0 < rounds.since → StaysShut ((heard (Step seen)).machine a) turn
    shut_not IsCalled is since = tt
    shut_not Holds is since = tt
    shut_not (Tells counts) is since = absurd (both_ways (t.made a) found.0 ((t.machines a low).in_turn since (ap has_come is)))
    shut_not (Told counts) is since = absurd (both_ways (t.made a) found.0 ((t.machines a low).in_turn since (ap has_come is)))

    step_at : IsAt rounds (heard (Step seen)) a true (t.turn a)
    step_at =
        let was = t.machines a low in
        let is : (heard (Step seen)).machine a ≡ stepped = set_at-same c.machine a stepped in
        record {
          calls = ap (λ (cs : List Call). rounds_in (cs ++ c.coordinator.out a)) (set_at-same c.calls a behind) ∙ found.2;
          held = ap (λ (x : Machine). x.held) is ∙ was.held;
          reports = ap (λ (x : Machine). counts_in (c.reports a ++ x.out)) is ∙ was.reports;
          missing = was.missing;
          come = was.come;
          behind = λ un. absurd (both_ways true un refl);
          first = λ none. refl;
          in_turn = λ since come. refl;
          shut = λ since. shut_not (t.turn a) refl since;
        }

    ways_same : (p q : ℕ) → way (world_of (heard (Step seen))) p q ≡ way (world_of c) p q
    ways_same p q = ap (λ (ms : List Message). c.link p q ++ ms) (set_at-kept (λ (x : Machine). x.part.out q) c.machine a stepped refl p)

    steps_some : rounds.steps ≡ 0 → ⊥
    steps_some none = both_ways (t.made a) found.0 ((t.machines a low).first none)

    pub step_heard : AreInTurn st colour rounds (heard (Step seen))
    step_heard =
        record {
          made = set_at t.made a true;
          turn = t.turn;
          machines = λ b b_low. ⊎_elim
              (λ (here : b ≡ a). subst (λ (b : ℕ). IsAt rounds (heard (Step seen)) b (set_at t.made a true b) (t.turn b)) (sym here)
              (subst (λ (made : Bool). IsAt rounds (heard (Step seen)) a made (t.turn a)) (sym (set_at-same t.made a true)) step_at))
              (λ (off : b ≢ a). subst (λ (made : Bool). IsAt rounds (heard (Step seen)) b made (t.turn b)) (sym (set_at-other t.made a true b off)) (other_at (Step seen) b b_low off))
              (cases_eq b a);
          told = t.told;
          fresh = t.fresh;
          some = t.some;
          many = t.many;
          since = t.since;
          first = λ none. absurd (steps_some none);
          others = λ b high. set_at-holds (λ (b : ℕ) (x : Machine). st.machines ≤ b → x.part.closed ≡ true) c.machine a stepped b (λ high. absurd (not_low a st.machines high low)) (λ off high. t.others b high) high;
          step = in_step_like st colour rounds.colour (world_of c) (world_of (heard (Step seen))) t.step
              (λ b. set_at-holds (λ (b : ℕ) (x : Machine). x.part.closed ≡ false → x.part.colour ≡ rounds.colour) c.machine a stepped b (λ open_. found.1) (λ off. t.step.machines b))
              (λ s. ap (λ (f : ScopeId → Option ℕ). f s) (set_at-kept (λ (x : Machine). x.part.flight) c.machine a stepped refl s.home.0))
              ways_same;
          closed = λ s. set_at-holds (λ (b : ℕ) (x : Machine). s.home.0 ≡ b → x.part.closed ≡ true → x.part.flight s ≡ None) c.machine a stepped s.home.0
              (λ home closed. absurd (both_ways false refl closed)) (λ off home closed. t.closed s closed) refl;
          queues = λ b. set_at-holds (λ (b : ℕ) (x : Machine). (y : ℕ) → x.part.queue y ≡ []) c.machine a stepped b (t.queues a) (λ off. t.queues b);
          between = λ p q. subst (AllByRecursion (ComesBetween st rounds.steps p q)) (sym (ways_same p q)) (t.between p q);
          balanced =
              (λ i. total st.machines (λ b. set_at-kept (λ (x : Machine). x.sent) c.machine a stepped refl b i)) ∙ t.balanced
              ∙ λ i. total st.machines (λ b. sym (set_at-kept (λ (x : Machine). x.received) c.machine a stepped refl b) i) + sym (same_flows st (world_of c) (world_of (heard (Step seen))) ways_same) i;
        }

  -- ---- a wave

  module _ (seen : ℕ) (first : c.calls a ≡ Wave seen ∷ behind) where
    abbrev waved : Machine
    waved = takes_call st a (Wave seen) (c.machine a)

    it : (t.made a ≡ true) × (t.turn a ≡ IsCalled) × (seen ≡ k) × (rest ≡ [])
    it = wave_first (t.made a) rounds.colour k seen (t.turn a) rest (sym (ap (λ (cs : List Call). rounds_in (cs ++ c.coordinator.out a)) first) ∙ (t.machines a low).calls)

    pub none_held : (c.machine a).held ≡ None
    none_held = (t.machines a low).held ∙ ap (held_of k) it.1

    wave_at : IsAt rounds (heard (Wave seen)) a (t.made a) Holds
    wave_at =
        let was = t.machines a low in
        let is : (heard (Wave seen)).machine a ≡ waved = set_at-same c.machine a waved in
        record {
          calls = ap (λ (cs : List Call). rounds_in (cs ++ c.coordinator.out a)) (set_at-same c.calls a behind) ∙ it.3 ∙ (λ i. step_of (sym it.0 i) rounds.colour ++ []);
          held = ap (λ (x : Machine). x.held) is ∙ ap (λ (n : ℕ). Some n) it.2;
          reports = ap (λ (x : Machine). counts_in (c.reports a ++ x.out)) is ∙ was.reports ∙ ap (reports_of k) it.1;
          missing = λ waiting. was.missing waiting ∙ ap come_of it.1;
          come = λ whole some. was.come whole some ∙ ap come_of it.1;
          behind = λ un. absurd (both_ways (t.made a) un it.0);
          first = λ none. it.0;
          in_turn = λ since come. it.0;
          shut = λ since. tt;
        }

    wave_ways : (p q : ℕ) → way (world_of (heard (Wave seen))) p q ≡ way (world_of c) p q
    wave_ways p q = ap (λ (ms : List Message). c.link p q ++ ms) (set_at-kept (λ (x : Machine). x.part.out q) c.machine a waved refl p)

    pub wave_heard : AreInTurn st colour rounds (heard (Wave seen))
    wave_heard =
        record {
          made = t.made;
          turn = set_at t.turn a Holds;
          machines = λ b b_low. ⊎_elim
              (λ (here : b ≡ a). subst (λ (b : ℕ). IsAt rounds (heard (Wave seen)) b (t.made b) (set_at t.turn a Holds b)) (sym here)
              (subst (IsAt rounds (heard (Wave seen)) a (t.made a)) (sym (set_at-same t.turn a Holds)) wave_at))
              (λ (off : b ≢ a). subst (IsAt rounds (heard (Wave seen)) b (t.made b)) (sym (set_at-other t.turn a Holds b off)) (other_at (Wave seen) b b_low off))
              (cases_eq b a);
          told = λ whole b b_low. absurd (both_ways false refl (ap is_told (sym it.1) ∙ t.told whole a low));
          fresh = t.fresh;
          some = t.some;
          many = t.many;
          since = t.since;
          first = λ none b. set_at-kept (λ (x : Machine). x.part.closed) c.machine a waved refl b ∙ t.first none b;
          others = λ b high. set_at-kept (λ (x : Machine). x.part.closed) c.machine a waved refl b ∙ t.others b high;
          step = in_step_like st colour rounds.colour (world_of c) (world_of (heard (Wave seen))) t.step
              (λ b. set_at-holds (λ (b : ℕ) (x : Machine). x.part.closed ≡ false → x.part.colour ≡ rounds.colour) c.machine a waved b (t.step.machines a) (λ off. t.step.machines b))
              (λ s. ap (λ (f : ScopeId → Option ℕ). f s) (set_at-kept (λ (x : Machine). x.part.flight) c.machine a waved refl s.home.0))
              wave_ways;
          closed = λ s. set_at-holds (λ (b : ℕ) (x : Machine). s.home.0 ≡ b → x.part.closed ≡ true → x.part.flight s ≡ None) c.machine a waved s.home.0
              (λ home. subst (λ (b : ℕ). (c.machine b).part.closed ≡ true → (c.machine b).part.flight s ≡ None) home (t.closed s)) (λ off home closed. t.closed s closed) refl;
          queues = λ b. set_at-holds (λ (b : ℕ) (x : Machine). (y : ℕ) → x.part.queue y ≡ []) c.machine a waved b (t.queues a) (λ off. t.queues b);
          between = λ p q. subst (AllByRecursion (ComesBetween st rounds.steps p q)) (sym (wave_ways p q)) (t.between p q);
          balanced =
              (λ i. total st.machines (λ b. set_at-kept (λ (x : Machine). x.sent) c.machine a waved refl b i)) ∙ t.balanced
              ∙ λ i. total st.machines (λ b. sym (set_at-kept (λ (x : Machine). x.received) c.machine a waved refl b) i) + sym (same_flows st (world_of c) (world_of (heard (Wave seen))) wave_ways) i;
        }
