-- The coordinator puts a step or a wave out and hears counts; a machine is told of a step or a wave.
use Rattle.std.proofs.Common.{◌≡◌, ℕ, suc, pred, ◌<◌, ◌≤◌, true, false, None, Some, List, [], ◌∷◌, ◌++◌, slice_index_or, refl, sym, ◌∙◌, ap, subst, append-nil, arith}
use Rattle.std.specs.List.{AllByRecursion}
use Rattle.std.proofs.lemmas.Bool.{both_ways}
use Rattle.cluster_laws.specs.cluster_core.Settings.{Setting}
use Rattle.cluster_laws.specs.cluster_model.Calls.{Call, Step, Wave}
use Rattle.cluster_laws.specs.cluster_model.Clusters.{Cluster, call_way, with_coordinator}
use Rattle.cluster_laws.specs.cluster_model.Leading.{puts_step, puts_wave}
use Rattle.cluster_laws.specs.cluster_model.Rounds.{Rounds, StepIsDue, with_step, with_wave}
use Rattle.cluster_laws.specs.cluster_model.TwoWaves.{turned}
use Rattle.cluster_laws.specs.cluster_places.Steps.{IsOfColour}
use Rattle.whole_laws.specs.cluster_whole.Steps.{AreInTurn, Holds, IsAt, ComesBetween, IsCalled, Tells, Told, Turn, calls_of, held_of, is_told, reports_of, rounds_in, step_of}
use Rattle.whole_laws.proofs.cluster_whole.Due.{due_closed, due_free, due_made, due_ways}
use Rattle.whole_laws.proofs.cluster_whole.Turning.{rounds_pushed}

-- ---- a step is put out

none_flies : (v : ℕ) → None ≡ Some v → ⊥
none_flies v is = cc

suc_some : (n : ℕ) → suc n ≡ 0 → ⊥
suc_some n is = omega arith

none_less : (n : ℕ) → 0 < 0 → ⊥
none_less n low = omega arith

zero_low : (n : ℕ) → 0 ≤ n
zero_low n = omega arith

suc_low : (n : ℕ) → 0 < suc n
suc_low n = omega arith

suc_both : (n m : ℕ) → n ≤ m → suc n ≤ suc m
suc_both n m low = omega arith

told_calls : (k : ℕ) (turn : Turn) → is_told turn ≡ true → calls_of k turn ≡ []
told_calls k IsCalled told = absurd (both_ways false refl told)
told_calls k Holds told = absurd (both_ways false refl told)
told_calls k (Tells counts) told = refl
told_calls k (Told counts) told = refl

told_reports : (k : ℕ) (turn : Turn) → is_told turn ≡ true → reports_of k turn ≡ []
told_reports k IsCalled told = absurd (both_ways false refl told)
told_reports k Holds told = absurd (both_ways false refl told)
told_reports k (Tells counts) told = absurd (both_ways false refl told)
told_reports k (Told counts) told = refl

told_held : (k : ℕ) (turn : Turn) → is_told turn ≡ true → held_of k turn ≡ None
told_held k IsCalled told = absurd (both_ways false refl told)
told_held k Holds told = absurd (both_ways false refl told)
told_held k (Tells counts) told = refl
told_held k (Told counts) told = refl

module _ (st : Setting) (colour : ℕ → ℕ) (c : Cluster) (t : AreInTurn st colour c.coordinator.rounds c) where
  abbrev rounds : Rounds
  rounds = c.coordinator.rounds

  abbrev k : ℕ
  k = pred rounds.counting.put_out

  -- no step and no wave is on its way where no counts are missing and the step was made
  quiet_calls : (a : ℕ) → a < st.machines → t.made a ≡ true → is_told (t.turn a) ≡ true → rounds_in (call_way c a) ≡ []
  quiet_calls a low made told =
      (t.machines a low).calls ∙ (λ i. step_of (made i) rounds.colour ++ calls_of k (t.turn a)) ∙ told_calls k (t.turn a) told

  module _ (due : StepIsDue st.engine rounds) where
    abbrev stepped : Rounds
    stepped = with_step st.engine rounds

    abbrev posts : Cluster
    posts = with_coordinator c (puts_step st c.coordinator)

    step_at : (a : ℕ) → a < st.machines → IsAt stepped posts a false (t.turn a)
    step_at a low =
        let was = t.machines a low in
        let over = due_made st colour c t due a low in
        record {
          calls = rounds_pushed (c.calls a) (c.coordinator.out a) (Step stepped.colour) ∙ ap (λ (cs : List Call). cs ++ Step stepped.colour ∷ []) (quiet_calls a low over.0 over.1)
              ∙ sym (ap (λ (cs : List Call). Step stepped.colour ∷ cs) (told_calls k (t.turn a) over.1));
          held = was.held;
          reports = was.reports;
          missing = was.missing;
          come = was.come;
          behind = λ un. due_closed st colour c t due a;
          first = λ none. absurd (suc_some rounds.steps none);
          in_turn = λ since come. absurd (none_less 0 since);
          shut = λ since. absurd (none_less 0 since);
        }

    pub step_put : AreInTurn st colour stepped posts
    step_put =
        record {
          made = λ a. false;
          turn = t.turn;
          machines = step_at;
          told = t.told;
          fresh = t.fresh;
          some = t.some;
          many = t.many;
          since = zero_low rounds.counting.put_out;
          first = λ none. absurd (suc_some rounds.steps none);
          others = t.others;
          step = record {
            machines = λ a open_. absurd (both_ways (c.machine a).part.closed open_ (due_closed st colour c t due a));
            flights = λ s v flies. absurd (none_flies v (sym (due_free st colour c t due s) ∙ flies));
            news = λ p q. subst (AllByRecursion (IsOfColour colour stepped.colour)) (sym (due_ways st colour c t due p q)) tt;
          };
          closed = t.closed;
          queues = t.queues;
          between = λ p q. subst (AllByRecursion (ComesBetween st stepped.steps p q)) (sym (due_ways st colour c t due p q)) tt;
          balanced = t.balanced;
        }

  -- ---- a wave is put out

  module _ (whole : rounds.counting.waiting ≡ false) where
    abbrev waved : Rounds
    waved = with_wave rounds

    abbrev asked : Cluster
    asked = with_coordinator c (puts_wave c.coordinator)

    missing_at : (a : ℕ) → a < st.machines → slice_index_or (turned rounds.counting.waves).wave a None ≡ None
    missing_at a low = t.fresh whole a low

    wave_at : (a : ℕ) → a < st.machines → IsAt waved asked a (t.made a) IsCalled
    wave_at a low =
        let was = t.machines a low in
        let told = t.told whole a low in
        record {
          calls = rounds_pushed (c.calls a) (c.coordinator.out a) (Wave rounds.counting.put_out)
              ∙ ap (λ (cs : List Call). cs ++ Wave rounds.counting.put_out ∷ []) (was.calls ∙ ap (λ (cs : List Call). step_of (t.made a) rounds.colour ++ cs) (told_calls k (t.turn a) told) ∙ append-nil (step_of (t.made a) rounds.colour));
          held = was.held ∙ told_held k (t.turn a) told;
          reports = was.reports ∙ told_reports k (t.turn a) told;
          missing = λ waiting. missing_at a low;
          come = λ not_waiting. absurd (both_ways true not_waiting refl);
          behind = was.behind;
          first = was.first;
          in_turn = λ since come. absurd (both_ways false refl come);
          shut = λ since. tt;
        }

    pub wave_put : AreInTurn st colour waved asked
    wave_put =
        record {
          made = t.made;
          turn = λ a. IsCalled;
          machines = wave_at;
          told = λ not_waiting. absurd (both_ways true not_waiting refl);
          fresh = λ not_waiting. absurd (both_ways true not_waiting refl);
          some = λ waiting. suc_low rounds.counting.put_out;
          many = t.many;
          since = suc_both rounds.since rounds.counting.put_out t.since;
          first = t.first;
          others = t.others;
          step = record { machines = t.step.machines; flights = t.step.flights; news = t.step.news };
          closed = t.closed;
          queues = t.queues;
          between = t.between;
          balanced = t.balanced;
        }
