-- The snapshot for the end, event by event.
use Rattle.std.proofs.Common.{◌≡◌, ◌≢◌, ℕ, zero, suc, ◌<◌, ◌≤◌, Bool, true, false, if◌then◌else◌, None, Option, Some, List, [], ◌∷◌, ◌++◌, sum_by, All, inl, inr, refl, sym, ◌∙◌, subst, ⊎_elim, arith}
use Rattle.std.proofs.lemmas.List.Elements.{All-cons, All-nil}
use Rattle.gl_base.specs.declared.entries.Entry.TheVariants.{Go}
use Rattle.gl_base.specs.declared.scopes.Counted.{Counted}
use Rattle.gl_base.specs.declared.scopes.Mode.{Mode}
use Rattle.gl_base.specs.declared.scopes.ScopeId.{ScopeId}
use Rattle.cluster_laws.specs.cluster_core.Ranges.{all_passing, first_passing}
use Rattle.cluster_laws.specs.cluster_core.Scopes.{is_scope, set_for}
use Rattle.cluster_laws.specs.cluster_core.Settings.{Chromatic, Locking}
use Rattle.whole_laws.specs.cluster_ending.FourWaves.{first_base, fresh_cluster, idle_answer, lone_events, started_from}
use Rattle.whole_laws.proofs.cluster_ending.WorkedWaves.{lone_setting}
use Rattle.cluster_laws.specs.cluster_model.Events.{IsTrace, entries_in_all}
use Rattle.cluster_laws.specs.cluster_model.Leading.{Coordinator, HasSeenTheEnd, HoldsAll, Snapshot, SnapshotIsDue, entries_in, updates_told}
use Rattle.cluster_laws.specs.cluster_model.Totals.{total_from}
use Rattle.cluster_laws.specs.cluster_model.TwoWaves.{IsIdleAnswer, ShowTheEnd}
use Rattle.whole_laws.specs.cluster_records.Few.{unasked_in}
use Rattle.whole_laws.specs.cluster_whole.Windows.{scope_at}
use Rattle.seq_run.proofs.EachOf.{all_is}
use Rattle.call_laws.specs.whole_calls.EndSaved.{one_quiet, one_saved, one_saves, one_with_store}
use Rattle.call_laws.specs.whole_calls.Following.{FollowJob}
use Rattle.call_laws.specs.whole_calls.Opened.{IsTraceOfCall, IsOpened}
use Rattle.call_laws.specs.whole_calls.Telling.{HasSavedTheEnd}
use Rattle.call_laws.proofs.whole_calls.WorkedPair.{trace_append}

low : 0 < 1
low = omega arith

low_low : (n : ℕ) → 0 ≤ n
low_low n = omega arith

false_true : false ≡ true → ⊥
false_true is = cc

none_some : (v : ℕ) → None ≢ Some v
none_some v is = cc

none_holds : (mode : Mode) → None ≡ Some mode → ⊥
none_holds mode is = cc

no_colours : (colour : ℕ → ℕ) (colours : ℕ) → Locking ≡ Chromatic colour colours → ⊥
no_colours colour colours is = cc

some_none : (x : Snapshot) → x ∷ [] ≡ [] → ⊥
some_none x is = cc

-- its scope was in flight and is over
abbrev never : ScopeId → Option ℕ
never s = None

abbrev after_one : ScopeId → Option ℕ
after_one = set_for (set_for never (scope_at 0 0) (Some 0)) (scope_at 0 0) None

cleared : (f : ScopeId → Option ℕ) (s : ScopeId) (u v : ℕ) → ((t : ScopeId) → f t ≢ Some v) → (t : ScopeId) → set_for (set_for f s (Some u)) s None t ≢ Some v
cleared f s u v none t = by_test (is_scope t s)
  where
    by_test : (b : Bool) → (if b then None else (if b then Some u else f t)) ≢ Some v
    by_test true is = none_some v is
    by_test false is = none t is

one_free : (v : ℕ) (t : ScopeId) → after_one t ≢ Some v
one_free v = cleared never (scope_at 0 0) 0 v (λ t. none_some v)

one_alone : (P : ℕ → Type 0) → P 0 → (a : ℕ) → a < 1 → P a
one_alone P first zero within = first
one_alone P first (suc n) within = absurd (no_other n within)
  where
    no_other : (n : ℕ) → suc n < 1 → ⊥
    no_other n is = omega arith

-- ---- the end

abbrev answers : List (Option Counted)
answers = idle_answer 0 0 1 ∷ []

idle : All IsIdleAnswer answers
idle = All-cons IsIdleAnswer (idle_answer 0 0 1) [] refl (All-nil IsIdleAnswer)

shows : ShowTheEnd (record { before = answers; wave = answers })
shows = record { idle_before = idle; idle = idle; received_before = refl; sent = refl; received = refl }

seen : (c : Coordinator) → c.rounds.counting.waiting ≡ false → c.rounds.counting.waves ≡ record { before = answers; wave = answers } → HasSeenTheEnd c
seen c whole waves = record { whole = whole; shown = subst ShowTheEnd (sym waves) shows }

quiet_seen : HasSeenTheEnd one_quiet.coordinator
unfolding first_passing all_passing total_from
quiet_seen = seen one_quiet.coordinator refl refl

saved_seen : HasSeenTheEnd one_saved.coordinator
unfolding first_passing all_passing total_from
saved_seen = seen one_saved.coordinator refl refl

no_wave : (c : Coordinator) → c.wanted ≡ false → c.rounds.counting.waves.before ≡ None ∷ [] → SnapshotIsDue one_with_store c → ⊥
no_wave c wanted before due =
    ⊎_elim
    (λ (is : c.wanted ≡ true). false_true (sym wanted ∙ is))
    (λ end. (all_is IsIdleAnswer (None ∷ []) (subst (All IsIdleAnswer) before end.0.shown.idle_before)).0)
    due.wanted

-- ---- the events

-- a lock that was held and is not
none_held : (x mode : Mode) (s : ScopeId) → (if is_scope s (scope_at 0 0) then None else (if is_scope s (scope_at 0 0) then Some x else None)) ≡ Some mode → ⊥
none_held x mode s = by_test (is_scope s (scope_at 0 0))
  where
    by_test : (b : Bool) → (if b then None else (if b then Some x else None)) ≡ Some mode → ⊥
    by_test true is = none_holds mode is
    by_test false is = none_holds mode is

runs_may : IsTrace one_with_store (started_from one_with_store) lone_events one_quiet
unfolding first_passing all_passing total_from
runs_may = (
  (refl, (record { machine = low; runs = refl }, record { may = record { vertex = low; owned = refl; due = inr refl; fresh = λ s is. none_some 0 is; turn = low }; room = inr refl })),
  (
    (refl, (record { machine = low; runs = refl }, record { vertex = low; owned = refl; claim = _; behind = _; first = refl; together = λ s mode is. absurd (none_holds mode is) })),
    (
      (refl, (record { machine = low; runs = refl }, record { vertex = _; flight = refl; ready = refl; not_pending = refl; task = refl; ticket = omega arith })),
      (
        (refl, ((λ due. no_wave _ refl refl due), (λ due. no_colours due.colour due.colours due.by), record { time = refl; whole = refl })),
        (
          (refl, (low, record { message = _; behind = _; first = refl })),
          (
            (refl, (record { machine = low; runs = refl }, record { message = _; behind = _; first = refl })),
            (
              (refl, (record { machine = low; runs = refl }, record { message = _; behind = _; first = refl })),
              (
                (refl, (low, record { message = _; behind = _; first = refl })),
                (
                  (refl, ((λ due. no_wave _ refl refl due), (λ due. no_colours due.colour due.colours due.by), record { time = refl; whole = refl })),
                  (
                    (refl, (low, record { message = _; behind = _; first = refl })),
                    (
                      (refl, (record { machine = low; runs = refl }, record { message = _; behind = _; first = refl })),
                      (
                        (refl, (record { machine = low; runs = refl }, record { message = _; behind = _; first = refl })),
                        ((refl, (low, record { message = _; behind = _; first = refl })), refl),
                      ),
                    ),
                  ),
                ),
              ),
            ),
          ),
        ),
      ),
    ),
  ),
)

saves_may : IsTrace one_with_store one_quiet one_saves one_saved
unfolding first_passing all_passing total_from
saves_may = (
  (refl, record { stored = refl; none = refl; wanted = inr (quiet_seen, inr refl) }),
  (
    (refl, (low, record { message = _; behind = _; first = refl })),
    (
      (refl, (record { machine = low; runs = refl }, record { message = _; behind = _; first = refl })),
      (
        (refl, (record { machine = low; runs = refl }, record { may = record { vertex = low; owned = refl; due = inl refl; fresh = λ s. one_free 0 s; turn = low }; room = inl refl })),
        (
          (refl, (record { machine = low; runs = refl }, record { vertex = low; owned = refl; claim = _; behind = _; first = refl; together = λ s mode is. absurd (none_held _ mode s is) })),
          (
            (refl, (record { machine = low; runs = refl }, record { vertex = 0; flight = refl; ready = refl; pending = refl })),
            (
              (refl, (record { machine = low; runs = refl }, record { begun = low; marked = one_alone _ (λ own. refl); unsent = low })),
              (
                (refl, (record { machine = low; runs = refl }, record { message = _; behind = _; first = refl })),
                (
                  (refl, (low, record { message = _; behind = _; first = refl })),
                  ((refl, (record { under = low; sections = one_alone _ (_, refl) }, record { few = omega arith; short = omega arith })), refl),
                ),
              ),
            ),
          ),
        ),
      ),
    ),
  ),
)

-- ---- all of it

opened : IsOpened one_with_store [] [] false (first_base one_with_store) (fresh_cluster one_with_store)
opened =
    record {
      ordered = record { owned = tt; counts = tt; different = tt };
      in_turn = record { valid = tt; high = 0; by_ticket = low_low 0; owners = tt };
      begins = inr (refl, refl);
      front = refl;
      numbers = record { vertices = λ v within. refl; edges = λ e within. refl };
      next = refl;
      done = λ a. refl;
    }

follows : FollowJob one_with_store [] (started_from one_with_store) (lone_events ++ one_saves)
follows = (
  tt,
  (tt, (refl, (tt, (tt, (refl, (tt, (tt, (tt, (tt, (refl, (tt, (tt, (tt, (tt, (refl, (tt, (tt, (tt, (tt, (tt, (tt, (tt, tt)))))))))))))))))))))),
)

pub is_trace : IsTraceOfCall one_with_store [] [] false (first_base one_with_store) (fresh_cluster one_with_store) (lone_events ++ one_saves) one_saved
is_trace =
    record {
      is = record { graph = lone_setting.graph; owner = lone_setting.owner };
      coloured = tt;
      opened = opened;
      trace = trace_append lone_events one_saves one_with_store (started_from one_with_store) one_quiet one_saved runs_may saves_may;
      follows = follows;
    }

pub unasked_once : unasked_in one_with_store (started_from one_with_store) (lone_events ++ one_saves) ≡ 1
unfolding first_passing all_passing total_from
unasked_once = refl

told_one : sum_by updates_told one_saved.coordinator.rounds.counting.waves.wave ≡ 1
unfolding first_passing all_passing total_from
told_one = refl

held_one : entries_in one_with_store one_saved.coordinator ≡ 1
unfolding first_passing all_passing total_from
held_one = refl

holds : HoldsAll one_with_store one_saved.coordinator
holds = told_one ∙ sym held_one

some_snapshot : one_saved.coordinator.snapshots ≡ [] → ⊥
unfolding first_passing all_passing total_from
some_snapshot is = some_none _ is

no_want : one_saved.coordinator.wanted ≡ true → ⊥
unfolding first_passing all_passing total_from
no_want is = false_true is

none_way : one_saved.coordinator.acknowledged ≡ one_saved.coordinator.begun
unfolding first_passing all_passing total_from
none_way = refl

pub ended_then : HasSavedTheEnd one_with_store one_saved.coordinator
ended_then =
    record {
      end = saved_seen;
      none = none_way;
      all = λ due. ⊎_elim no_want (λ lacks. ⊎_elim (λ not. not holds) some_snapshot lacks.1) due.wanted;
    }

pub saved_then : entries_in_all one_with_store one_saved.coordinator.snapshots ≡ Go (record { 0 = 0 }) (record { 0 = 0 }) 0 ∷ []
unfolding first_passing all_passing total_from
saved_then = refl
