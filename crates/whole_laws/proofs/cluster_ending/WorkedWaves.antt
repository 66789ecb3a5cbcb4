-- The worked waves, computed by the definitions.
use Rattle.std.proofs.Common.{◌≡◌, ℕ, ◌<◌, ◌≤◌, true, false, Option, None, Some, List, [], ◌∷◌, All, AllPairs, refl, sym, subst, inr, arith}
use Rattle.std.proofs.lemmas.Bool.{both_ways}
use Rattle.std.proofs.lemmas.List.Elements.{All-cons, All-nil}
use Rattle.gl_base.specs.declared.limits.TheConstants.{MAX_ID}
use Rattle.gl_base.specs.declared.scopes.Counted.{Counted}
use Rattle.gl_base.specs.declared.scopes.Mode.{Mode}
use Rattle.graph_core.specs.DataGraph.{IsBefore, IsEdge}
use Rattle.cluster_laws.specs.cluster_core.Ranges.{all_passing, first_passing}
use Rattle.cluster_laws.specs.cluster_core.Recovering.{going_on}
use Rattle.cluster_laws.specs.cluster_core.Settings.{Chromatic, IsSetting, Locking}
use Rattle.cluster_laws.specs.cluster_model.Events.{IsTrace}
use Rattle.cluster_laws.specs.cluster_model.Leading.{HasSeenTheEnd}
use Rattle.cluster_laws.specs.cluster_model.Totals.{total_from}
use Rattle.cluster_laws.specs.cluster_model.TwoWaves.{IsIdleAnswer, ShowTheEnd, no_counts, total_received, total_sent}
use Rattle.whole_laws.specs.cluster_ending.FourWaves.{after_four_waves, after_lone_run, after_one_wave, after_three_waves, after_two_waves, early_answers, idle_answer, late_answers, lone_events, on_one_machine, started_from}

pub first_waves : after_one_wave.coordinator.rounds.counting.waves ≡ record { before = no_counts 2; wave = early_answers }
unfolding first_passing all_passing total_from
first_waves = refl

pub second_waves : after_two_waves.coordinator.rounds.counting.waves ≡ record { before = early_answers; wave = early_answers }
unfolding first_passing all_passing total_from
second_waves = refl

pub third_waves : after_three_waves.coordinator.rounds.counting.waves ≡ record { before = early_answers; wave = late_answers }
unfolding first_passing all_passing total_from
third_waves = refl

pub fourth_waves : after_four_waves.coordinator.rounds.counting.waves ≡ record { before = late_answers; wave = late_answers }
unfolding first_passing all_passing total_from
fourth_waves = refl

pub fourth_over : after_four_waves.coordinator.rounds.counting.waiting ≡ false
unfolding first_passing all_passing total_from
fourth_over = refl

-- ---- the verdicts

six_five : (n : ℕ) → n ≡ 5 → n ≡ 6 → ⊥
six_five n one other = omega arith

six_none : (n : ℕ) → n ≡ 6 → n ≡ 0 → ⊥
six_none n one other = omega arith

none_below : (j : ℕ) → j < 0 → ⊥
none_below j low = omega arith

no_place : (i j : ℕ) → i < j → j < 1 → ⊥
no_place i j rises within = omega arith

pub first_not : ShowTheEnd (record { before = no_counts 2; wave = early_answers }) → ⊥
first_not shows = six_none (total_sent early_answers) refl shows.sent

pub uneven : (wave : List (Option Counted)) → ShowTheEnd (record { before = early_answers; wave = wave }) → ⊥
uneven wave shows = six_five (total_received early_answers) refl shows.received_before

late_idle : All IsIdleAnswer late_answers
late_idle = All-cons IsIdleAnswer (idle_answer 5 4 2) (idle_answer 4 5 1 ∷ []) refl (All-cons IsIdleAnswer (idle_answer 4 5 1) [] refl (All-nil IsIdleAnswer))

pub late_shows : ShowTheEnd (record { before = late_answers; wave = late_answers })
late_shows = record { idle_before = late_idle; idle = late_idle; received_before = refl; sent = refl; received = refl }

-- ---- one vertex on one machine

pub lone_setting : IsSetting on_one_machine
lone_setting =
    let low : ℕ → Type 0 = λ id. id ≤ MAX_ID in
    record {
      graph = record {
        few = omega arith;
        few_edges = omega arith;
        ascending = λ i j rises within. absurd (no_place i j rises within);
        ids = All-cons low 1 [] (omega arith) (All-nil low);
        edges = All-nil (IsEdge 1 false);
        edges_ascending = no_edges;
      };
      owner = λ v within. within;
    }
  where
    no_edges : AllPairs IsBefore []
    no_edges i j d rises within = absurd (none_below j within)

none_flies : (v : ℕ) → None ≡ Some v → ⊥
none_flies v is = cc

none_holds : (mode : Mode) → None ≡ Some mode → ⊥
none_holds mode is = cc

no_colours : (colour : ℕ → ℕ) (colours : ℕ) → Locking ≡ Chromatic colour colours → ⊥
no_colours colour colours is = cc

none_stored : false ≡ true → ⊥
none_stored is = both_ways true (sym is) refl

pub lone_may : IsTrace (going_on on_one_machine on_one_machine.start 0) (started_from on_one_machine) lone_events after_lone_run
unfolding first_passing all_passing total_from
lone_may =
    let awake : (0 < 1) × (0 < 1) = (omega arith, omega arith) in (
      (refl, (record { machine = awake.0; runs = refl }, record { may = record { vertex = awake.0; owned = refl; due = inr refl; fresh = λ s is. none_flies 0 is; turn = awake.0 }; room = inr refl })),
      (
        (refl, (record { machine = awake.0; runs = refl }, record { vertex = awake.0; owned = refl; claim = _; behind = _; first = refl; together = λ s mode is. absurd (none_holds mode is) })),
        (
          (refl, (record { machine = awake.0; runs = refl }, record { vertex = _; flight = refl; ready = refl; not_pending = refl; task = refl; ticket = omega arith })),
          (
            (refl, ((λ due. none_stored due.stored), (λ due. no_colours due.colour due.colours due.by), record { time = refl; whole = refl })),
            (
              (refl, (awake.0, record { message = _; behind = _; first = refl })),
              (
                (refl, (record { machine = awake.0; runs = refl }, record { message = _; behind = _; first = refl })),
                (
                  (refl, (record { machine = awake.0; runs = refl }, record { message = _; behind = _; first = refl })),
                  (
                    (refl, (awake.0, record { message = _; behind = _; first = refl })),
                    (
                      (refl, ((λ due. none_stored due.stored), (λ due. no_colours due.colour due.colours due.by), record { time = refl; whole = refl })),
                      (
                        (refl, (awake.0, record { message = _; behind = _; first = refl })),
                        (
                          (refl, (record { machine = awake.0; runs = refl }, record { message = _; behind = _; first = refl })),
                          (
                            (refl, (record { machine = awake.0; runs = refl }, record { message = _; behind = _; first = refl })),
                            (
                              (refl, (awake.0, record { message = _; behind = _; first = refl })),
                              refl,
                            ),
                          ),
                        ),
                      ),
                    ),
                  ),
                ),
              ),
            ),
          ),
        ),
      ),
    )

abbrev lone_answers : List (Option Counted)
lone_answers = idle_answer 0 0 1 ∷ []

lone_waves : after_lone_run.coordinator.rounds.counting.waves ≡ record { before = lone_answers; wave = lone_answers }
unfolding first_passing all_passing total_from
lone_waves = refl

lone_idle : All IsIdleAnswer lone_answers
lone_idle = All-cons IsIdleAnswer (idle_answer 0 0 1) [] refl (All-nil IsIdleAnswer)

lone_shows : ShowTheEnd (record { before = lone_answers; wave = lone_answers })
lone_shows = record { idle_before = lone_idle; idle = lone_idle; received_before = refl; sent = refl; received = refl }

lone_over : after_lone_run.coordinator.rounds.counting.waiting ≡ false
unfolding first_passing all_passing total_from
lone_over = refl

pub lone_end : HasSeenTheEnd after_lone_run.coordinator
lone_end = record { whole = lone_over; shown = subst ShowTheEnd (sym lone_waves) lone_shows }

pub lone_begun : after_lone_run.coordinator.begun ≡ 0
unfolding first_passing all_passing total_from
lone_begun = refl
