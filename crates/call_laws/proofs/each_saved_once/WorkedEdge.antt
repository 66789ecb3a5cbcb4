-- The edge that is saved once, event by event.
use Rattle.std.proofs.Common.{◌≡◌, ℕ, zero, suc, ◌<◌, ◌≤◌, Bool, true, false, if◌then◌else◌, None, Option, Some, [], ◌∷◌, ◌++◌, inl, inr, refl, sym, ◌∙◌, slice_index, suc-ne-zero, arith}
use Rattle.std.proofs.lemmas.List.Elements.{All-cons, All-nil}
use Rattle.std.proofs.lemmas.List.Kept.{AllPairs-cons}
use Rattle.gl_base.specs.declared.entries.Entry.TheVariants.{Go}
use Rattle.gl_base.specs.declared.limits.TheConstants.{MAX_ID}
use Rattle.gl_base.specs.declared.scopes.Mode.{Mode}
use Rattle.gl_base.specs.declared.scopes.Mode.TheVariants.{Reader, Writer}
use Rattle.graph_core.specs.DataGraph.{DataEdge, IsBefore, IsEdge, size}
use Rattle.seq_run.specs.Examples.{edge}
use Rattle.cluster_laws.specs.cluster_core.Ranges.{all_passing, first_passing}
use Rattle.cluster_laws.specs.cluster_core.Scopes.{is_scope}
use Rattle.cluster_laws.specs.cluster_core.Settings.{IsSetting}
use Rattle.whole_laws.specs.cluster_ending.FourWaves.{first_base, fresh_cluster, started_from}
use Rattle.cluster_laws.specs.cluster_model.Clusters.{Cluster}
use Rattle.cluster_laws.specs.cluster_model.Events.{IsTrace, Section, after_event, entries_below}
use Rattle.cluster_laws.specs.cluster_model.Leading.{Come, RecordIsDue}
use Rattle.cluster_laws.specs.cluster_model.Totals.{total_from}
use Rattle.whole_laws.specs.cluster_records.Recorded.{snapshot_due}
use Rattle.whole_laws.specs.cluster_whole.Windows.{scope_at}
use Rattle.call_laws.specs.each_saved_once.EdgeSaved.{both_come, both_marked, first_marked, first_marks, one_wants, pair_saves_once, pair_with_store, second_marks, sections_go, one_wanted}
use Rattle.call_laws.specs.whole_calls.Following.{FollowJob}
use Rattle.call_laws.specs.whole_calls.Opened.{IsTraceOfCall, IsOpened}
use Rattle.call_laws.proofs.whole_calls.WorkedPair.{trace_append}

low_one : 0 < 1
low_one = omega arith

low_first : 0 < 2
low_first = omega arith

low_second : 1 < 2
low_second = omega arith

low_low : (n : ℕ) → 0 ≤ n
low_low n = omega arith

not_two : (n : ℕ) → suc (suc n) < 2 → ⊥
not_two n is = omega arith

none_flies : (v : ℕ) → None ≡ Some v → ⊥
none_flies v is = cc

none_holds : (mode : Mode) → None ≡ Some mode → ⊥
none_holds mode is = cc

-- a scope that has ended is not in flight, and holds nothing
ended : (test : Bool) (inner : Option ℕ) (c v : ℕ) → (if test then None else (if test then Some c else inner)) ≡ Some v → inner ≡ Some v
ended true inner c v is = absurd (none_flies v is)
ended false inner c v is = is

freed : (test : Bool) (inner : Option Mode) (mine mode : Mode) → (if test then None else (if test then Some mine else inner)) ≡ Some mode → inner ≡ Some mode
freed true inner mine mode is = absurd (none_holds mode is)
freed false inner mine mode is = is

two_alone : (P : ℕ → Type 0) → P 0 → P 1 → (a : ℕ) → a < 2 → P a
two_alone P one other zero low = one
two_alone P one other (suc zero) low = other
two_alone P one other (suc (suc a)) low = absurd (not_two a low)

-- ---- each vertex is marked by the machine with its number

abbrev one_sent : Cluster
one_sent = after_event pair_with_store both_marked (Section 0)

first_known : (both_marked.machine 0).part.known ≡ 1
unfolding first_passing all_passing total_from
first_known = refl

second_known : (one_sent.machine 1).part.known ≡ 1
unfolding first_passing all_passing total_from
second_known = refl

first_mark : (v : ℕ) → v < 2 → v ≡ 0 → ((both_marked.machine 0).part.datum v).mark ≡ 1
unfolding first_passing all_passing total_from
first_mark zero low own = refl
first_mark (suc v) low own = absurd (suc-ne-zero v own)

second_mark : (v : ℕ) → v < 2 → v ≡ 1 → ((one_sent.machine 1).part.datum v).mark ≡ 1
unfolding first_passing all_passing total_from
second_mark zero low own = absurd (suc-ne-zero 0 (sym own))
second_mark (suc zero) low own = refl
second_mark (suc (suc v)) low own = absurd (not_two v low)

marked_at_first : (v : ℕ) → v < size pair_with_store.graph → pair_with_store.owner v ≡ 0 → ((both_marked.machine 0).part.datum v).mark ≡ (both_marked.machine 0).part.known
marked_at_first v low own = first_mark v low own ∙ sym first_known

marked_at_second : (v : ℕ) → v < size pair_with_store.graph → pair_with_store.owner v ≡ 1 → ((one_sent.machine 1).part.datum v).mark ≡ (one_sent.machine 1).part.known
marked_at_second v low own = second_mark v low own ∙ sym second_known

-- ---- the events

wants_may : IsTrace pair_with_store (started_from pair_with_store) one_wants one_wanted
unfolding first_passing all_passing total_from
wants_may = ((refl, (record { machine = low_first; runs = refl }, record { may = record { vertex = low_first; owned = refl; due = inr refl; fresh = λ s is. none_flies 0 is; turn = low_one }; room = inr refl })), ((refl, (record { machine = low_first; runs = refl }, record { vertex = low_first; owned = refl; claim = _; behind = _; first = refl; together = λ s mode is. absurd (none_holds mode is) })), ((refl, (record { machine = low_first; runs = refl }, low_second, record { message = _; behind = _; first = refl })), ((refl, (record { machine = low_second; runs = refl }, low_first, record { message = _; behind = _; first = refl })), ((refl, (record { machine = low_second; runs = refl }, record { vertex = low_second; owned = refl; claim = _; behind = _; first = refl; together = λ s mode is. absurd (none_holds mode is) })), ((refl, (record { machine = low_second; runs = refl }, low_first, record { message = _; behind = _; first = refl })), ((refl, (record { machine = low_first; runs = refl }, low_second, record { message = _; behind = _; first = refl })), ((refl, (record { machine = low_first; runs = refl }, record { vertex = _; flight = refl; ready = refl; not_pending = refl; task = refl; ticket = omega arith })), ((refl, (record { machine = low_first; runs = refl }, low_second, record { message = _; behind = _; first = refl })), ((refl, (record { machine = low_second; runs = refl }, low_first, record { message = _; behind = _; first = refl })), ((refl, (record { machine = low_first; runs = refl }, record { message = _; behind = _; first = refl })), ((refl, (low_first, record { message = _; behind = _; first = refl })), refl))))))))))))

first_may : IsTrace pair_with_store one_wanted first_marks first_marked
unfolding first_passing all_passing total_from
first_may = ((refl, record { stored = refl; none = refl; wanted = inl refl }), ((refl, (low_first, record { message = _; behind = _; first = refl })), ((refl, (record { machine = low_first; runs = refl }, record { message = _; behind = _; first = refl })), ((refl, (record { machine = low_first; runs = refl }, record { may = record { vertex = low_first; owned = refl; due = inl refl; fresh = λ s is. none_flies 0 (ended (is_scope s (scope_at 0 0)) _ 0 0 is); turn = low_one }; room = inl refl })), ((refl, (record { machine = low_first; runs = refl }, record { vertex = low_first; owned = refl; claim = _; behind = _; first = refl; together = λ s mode is. absurd (none_holds mode (freed (is_scope s (scope_at 0 0)) _ Writer mode is)) })), ((refl, (record { machine = low_first; runs = refl }, low_second, record { message = _; behind = _; first = refl })), ((refl, (record { machine = low_second; runs = refl }, low_first, record { message = _; behind = _; first = refl })), ((refl, (record { machine = low_second; runs = refl }, record { vertex = low_second; owned = refl; claim = _; behind = _; first = refl; together = λ s mode is. absurd (none_holds mode (freed (is_scope s (scope_at 0 0)) _ Reader mode is)) })), ((refl, (record { machine = low_second; runs = refl }, low_first, record { message = _; behind = _; first = refl })), ((refl, (record { machine = low_first; runs = refl }, low_second, record { message = _; behind = _; first = refl })), ((refl, (record { machine = low_first; runs = refl }, record { vertex = _; flight = refl; ready = refl; pending = refl })), ((refl, (record { machine = low_first; runs = refl }, low_second, record { message = _; behind = _; first = refl })), ((refl, (record { machine = low_second; runs = refl }, low_first, record { message = _; behind = _; first = refl })), refl)))))))))))))

second_may : IsTrace pair_with_store first_marked second_marks both_marked
unfolding first_passing all_passing total_from
second_may = ((refl, (record { machine = low_second; runs = refl }, record { may = record { vertex = low_second; owned = refl; due = inl refl; fresh = λ s is. none_flies 1 is; turn = low_one }; room = inl refl })), ((refl, (record { machine = low_second; runs = refl }, low_first, record { message = _; behind = _; first = refl })), ((refl, (record { machine = low_first; runs = refl }, low_second, record { message = _; behind = _; first = refl })), ((refl, (record { machine = low_first; runs = refl }, record { vertex = low_first; owned = refl; claim = _; behind = _; first = refl; together = λ s mode is. absurd (none_holds mode (freed (is_scope s (scope_at 0 0)) _ Writer mode (freed (is_scope s (scope_at 0 1)) _ Writer mode is))) })), ((refl, (record { machine = low_first; runs = refl }, low_second, record { message = _; behind = _; first = refl })), ((refl, (record { machine = low_second; runs = refl }, low_first, record { message = _; behind = _; first = refl })), ((refl, (record { machine = low_second; runs = refl }, record { vertex = low_second; owned = refl; claim = _; behind = _; first = refl; together = λ s mode is. absurd (none_holds mode (freed (is_scope s (scope_at 0 0)) _ Reader mode (freed (is_scope s (scope_at 0 1)) _ Reader mode is))) })), ((refl, (record { machine = low_second; runs = refl }, record { vertex = _; flight = refl; ready = refl; pending = refl })), refl))))))))

sections_may : IsTrace pair_with_store both_marked sections_go both_come
unfolding first_passing all_passing total_from
sections_may = ((refl, (record { machine = low_first; runs = refl }, record { begun = low_one; marked = marked_at_first; unsent = low_one })), ((refl, (record { machine = low_second; runs = refl }, record { begun = low_one; marked = marked_at_second; unsent = low_one })), ((refl, (record { machine = low_first; runs = refl }, record { message = _; behind = _; first = refl })), ((refl, (low_first, record { message = _; behind = _; first = refl })), ((refl, (record { machine = low_second; runs = refl }, record { message = _; behind = _; first = refl })), ((refl, (low_second, record { message = _; behind = _; first = refl })), refl))))))

all_may : IsTrace pair_with_store (started_from pair_with_store) pair_saves_once both_come
all_may =
    trace_append one_wants (first_marks ++ (second_marks ++ sections_go)) pair_with_store (started_from pair_with_store) one_wanted both_come wants_may
    (trace_append first_marks (second_marks ++ sections_go) pair_with_store one_wanted first_marked both_come first_may
    (trace_append second_marks sections_go pair_with_store first_marked both_marked both_come second_may sections_may))

-- ---- all of it

identifier : (k : ℕ) → k < 2 → slice_index (1 ∷ 2 ∷ []) k ≡ suc k
identifier zero low = refl
identifier (suc zero) low = refl
identifier (suc (suc k)) low = absurd (not_two k low)

setting : IsSetting pair_with_store
setting =
    let low : ℕ → Type 0 = λ id. id ≤ MAX_ID in
    let joins : DataEdge → Type 0 = IsEdge 2 false in
    record {
      graph = record {
        few = omega arith;
        few_edges = omega arith;
        ascending = λ i j rises within. omega (arith, identifier i (omega arith), identifier j within);
        ids = All-cons low 1 (2 ∷ []) (omega arith) (All-cons low 2 [] (omega arith) (All-nil low));
        edges = All-cons joins (edge 0 1 1) [] (record { from = omega arith; to = omega arith; apart = λ same. omega arith; lower = λ undirected. omega arith; weight = omega arith }) (All-nil joins);
        edges_ascending = AllPairs-cons IsBefore (edge 0 1 1) [] (All-nil (IsBefore (edge 0 1 1))) (λ i j d rises within. absurd (omega arith));
      };
      owner = λ v within. within;
    }

opened : IsOpened pair_with_store [] [] false (first_base pair_with_store) (fresh_cluster pair_with_store)
opened =
    record {
      ordered = record { owned = tt; counts = tt; different = tt };
      in_turn = record { valid = tt; high = 0; by_ticket = low_low 0; owners = tt };
      begins = inr (refl, refl);
      front = refl;
      numbers = record { vertices = λ v within. refl; edges = λ e within. refl };
      next = refl;
      done = λ a. refl;
    }

follows : FollowJob pair_with_store [] (started_from pair_with_store) pair_saves_once
follows = (tt, (tt, (tt, (tt, (tt, (tt, (tt, (refl, (tt, (tt, (tt, (tt, (tt, (tt, (refl, (tt, (tt, (tt, (tt, (tt, (tt, (tt, (tt, (tt, (tt, (tt, (tt, (tt, (tt, (tt, (tt, (tt, (tt, (tt, (tt, (tt, (tt, (tt, (tt, tt)))))))))))))))))))))))))))))))))))))))

pub is_trace : IsTraceOfCall pair_with_store [] [] false (first_base pair_with_store) (fresh_cluster pair_with_store) pair_saves_once both_come
is_trace = record { is = setting; coloured = tt; opened = opened; trace = all_may; follows = follows }

pub is_due : RecordIsDue pair_with_store both_come.coordinator
unfolding first_passing all_passing total_from
is_due = record { under = low_one; sections = two_alone (λ a. (come : Come) × (both_come.coordinator.come a ≡ Some come)) (_, refl) (_, refl) }

pub saved_by_one : (((snapshot_due both_come.coordinator).sections 0).section.edges 0 ≡ Some 0) × (((snapshot_due both_come.coordinator).sections 1).section.edges 0 ≡ None)
unfolding first_passing all_passing total_from
saved_by_one = (refl, refl)

pub brings_one : entries_below 2 (snapshot_due both_come.coordinator) ≡ Go (record { 0 = 0 }) (record { 0 = 0 }) 0 ∷ []
unfolding first_passing all_passing total_from
brings_one = refl

pub one_drawn : (both_come.next ≡ 1) × (both_come.left ≡ 19)
unfolding first_passing all_passing total_from
one_drawn = (refl, refl)
