-- The worked example of a snapshot, action by action.
use Rattle.std.proofs.Common.{◌≡◌, ℕ, zero, suc, ◌<◌, ◌≤◌, Bool, true, false, [], ◌∷◌, if◌then◌else◌, nat_lt, ◌==◌, slice_index, Some, None, Option, sym, refl, ap, ◌∙◌, inl, inr, true≢false, suc-ne-zero, arith, lt-ltb, eq-eqb}
use Rattle.std.proofs.lemmas.List.Elements.{All-cons, All-nil}
use Rattle.std.proofs.lemmas.List.Kept.{AllPairs-cons}
use Rattle.std.proofs.lemmas.Bool.{and_from, cond_both}
use Rattle.gl_base.specs.declared.entries.Entry.TheVariants.{Go}
use Rattle.gl_base.specs.declared.limits.TheConstants.{INF, MAX_ID}
use Rattle.gl_base.specs.declared.scopes.Mode.{Mode}
use Rattle.gl_base.specs.declared.scopes.Mode.TheVariants.{Reader, Writer}
use Rattle.graph_core.specs.DataGraph.{DataEdge, size, IsBefore, IsEdge}
use Rattle.seq_run.specs.Examples.{edge}
use Rattle.cluster_laws.specs.cluster_core.Actions.{SendSection, MayUpdate, MayRecord, after}
use Rattle.cluster_laws.specs.cluster_core.Cuts.{cut_of}
use Rattle.cluster_laws.specs.cluster_core.Messages.{Section}
use Rattle.cluster_laws.specs.cluster_core.Ranges.{first_passing, all_passing}
use Rattle.cluster_laws.specs.cluster_core.Replays.{replay_of}
use Rattle.cluster_laws.specs.cluster_core.Runs.{IsStart, IsActionRun}
use Rattle.cluster_laws.specs.cluster_core.Scopes.{is_scope}
use Rattle.cluster_laws.specs.cluster_core.Settings.{IsSetting}
use Rattle.cluster_laws.specs.cluster_core.Snapshots.{IsUnmarked}
use Rattle.cluster_laws.proofs.cluster_numbers.Passing.{some_same, none_not_some}
use Rattle.cluster_laws.specs.cluster_cuts.Goings.{HoldCut}
use Rattle.cluster_laws.specs.cluster_cuts.TwoMachines.{two_edges, on_two_machines, at_first, scope_of, middle_update, middle_updated, middle_mark, middle_marked, last_locks, last_ready, last_update, last_updated, first_mark, all_are_marked, sections_come, sections_are_there, both_updates, one_of_middle}

pub first_update : (((middle_updated.part 1).datum 1).value ≡ 4) × ((middle_updated.part 1).edge 0 ≡ 1) × ((middle_updated.part 1).edge 1 ≡ 0)
unfolding first_passing all_passing
first_update = (refl, refl, refl)

pub pending_then : ((middle_marked.part 1).pending 2 ≡ true) × ((middle_marked.part 1).pending 1 ≡ false) × ((middle_marked.part 0).pending 0 ≡ false)
unfolding first_passing all_passing
pending_then = (refl, refl, refl)

pub known_then : ((middle_marked.part 0).known ≡ 0) × ((all_are_marked.part 0).known ≡ 1)
unfolding first_passing all_passing
known_then = (refl, refl)

pub not_now : MayUpdate (scope_of 1 2) (last_ready.part 1) last_ready.left → ⊥
unfolding first_passing all_passing
not_now may =
    let flight : Some 2 ≡ Some may.vertex = may.flight in
    let same : 2 ≡ may.vertex = some_same 2 may.vertex flight in
    let pends : (last_ready.part 1).pending 2 ≡ true = refl in
    true≢false (sym pends ∙ ap (last_ready.part 1).pending same ∙ may.not_pending)

pub second_update : (((last_updated.part 1).datum 2).value ≡ 9) × ((last_updated.part 1).edge 1 ≡ 1) × ((last_updated.part 1).log ≡ both_updates)
unfolding first_passing all_passing
second_update = (refl, refl, refl)

come_section : (a : ℕ) → a < 2 → (section : Section) × (sections_are_there.collected a ≡ Some section)
unfolding first_passing all_passing
come_section zero low = (_, refl)
come_section (suc zero) low = (_, refl)
come_section (suc (suc a)) low = absurd (omega arith)

pub record_may : MayRecord on_two_machines sections_are_there
unfolding first_passing all_passing
record_may = record { under = omega arith; sections = come_section }

pub the_cut : cut_of one_of_middle both_updates ≡ Go (record { 0 = 1 }) (record { 0 = 1 }) 0 ∷ []
the_cut = refl

pub shown : ((replay_of on_two_machines (cut_of one_of_middle both_updates)).vertex 0 ≡ 0)
    × ((replay_of on_two_machines (cut_of one_of_middle both_updates)).vertex 1 ≡ 4)
    × ((replay_of on_two_machines (cut_of one_of_middle both_updates)).vertex 2 ≡ INF)
    × ((replay_of on_two_machines (cut_of one_of_middle both_updates)).edge 0 ≡ 1)
    × ((replay_of on_two_machines (cut_of one_of_middle both_updates)).edge 1 ≡ 0)
shown = (refl, refl, refl, refl, refl)

vertex_held : (v : ℕ) → v < 3 → (section : Section) × (sections_are_there.collected (on_two_machines.owner v) ≡ Some section) × (section.vertices v ≡ Some ((replay_of on_two_machines (cut_of one_of_middle both_updates)).vertex v))
unfolding first_passing all_passing
vertex_held zero low = (_, refl, refl)
vertex_held (suc zero) low = (_, refl, refl)
vertex_held (suc (suc zero)) low = (_, refl, refl)
vertex_held (suc (suc (suc v))) low = absurd (omega arith)

edge_held : (e : ℕ) → e < 2 → (a : ℕ) × (section : Section) × (a < 2) × (sections_are_there.collected a ≡ Some section) × (section.edges e ≡ Some ((replay_of on_two_machines (cut_of one_of_middle both_updates)).edge e))
unfolding first_passing all_passing
edge_held zero low = (1, _, omega arith, refl, refl)
edge_held (suc zero) low = (1, _, omega arith, refl, refl)
edge_held (suc (suc e)) low = absurd (omega arith)

pub cut_held : HoldCut on_two_machines sections_are_there one_of_middle both_updates
unfolding first_passing all_passing
cut_held = record { vertices = vertex_held; edges = edge_held }

-- ---- each action may happen

none_flies : (v : ℕ) → None ≡ Some v → ⊥
none_flies v is = none_not_some v is

none_holds : (mode : Mode) → None ≡ Some mode → ⊥
none_holds mode is = none_not_some mode is

-- a scope that has ended is not in flight, and holds nothing
ended : (test : Bool) (inner : Option ℕ) (c v : ℕ) → (if test then None else (if test then Some c else inner)) ≡ Some v → inner ≡ Some v
ended true inner c v is = absurd (none_flies v is)
ended false inner c v is = is

freed : (test : Bool) (inner : Option Mode) (mine mode : Mode) → (if test then None else (if test then Some mine else inner)) ≡ Some mode → inner ≡ Some mode
freed true inner mine mode is = absurd (none_holds mode is)
freed false inner mine mode is = is

first_known : (all_are_marked.part 0).known ≡ 1
unfolding first_passing all_passing
first_known = refl

second_known : ((after on_two_machines all_are_marked (SendSection 0)).part 1).known ≡ 1
unfolding first_passing all_passing
second_known = refl

first_mark_is : (v : ℕ) → v < 3 → on_two_machines.owner v ≡ 0 → ((all_are_marked.part 0).datum v).mark ≡ 1
unfolding first_passing all_passing
first_mark_is zero low owned = refl
first_mark_is (suc zero) low owned = absurd (suc-ne-zero 0 owned)
first_mark_is (suc (suc zero)) low owned = absurd (suc-ne-zero 0 owned)
first_mark_is (suc (suc (suc v))) low owned = absurd (omega arith)

second_mark_is : (v : ℕ) → v < 3 → on_two_machines.owner v ≡ 1 → (((after on_two_machines all_are_marked (SendSection 0)).part 1).datum v).mark ≡ 1
unfolding first_passing all_passing
second_mark_is zero low owned = absurd (suc-ne-zero 0 (sym owned))
second_mark_is (suc zero) low owned = refl
second_mark_is (suc (suc zero)) low owned = refl
second_mark_is (suc (suc (suc v))) low owned = absurd (omega arith)

marked_at_first : (v : ℕ) → v < size on_two_machines.graph → on_two_machines.owner v ≡ 0 → ((all_are_marked.part 0).datum v).mark ≡ (all_are_marked.part 0).known
marked_at_first v low owned = first_mark_is v low owned ∙ sym first_known

marked_at_second : (v : ℕ) → v < size on_two_machines.graph → on_two_machines.owner v ≡ 1 → (((after on_two_machines all_are_marked (SendSection 0)).part 1).datum v).mark ≡ ((after on_two_machines all_are_marked (SendSection 0)).part 1).known
marked_at_second v low owned = second_mark_is v low owned ∙ sym second_known

pub middle_may : IsActionRun on_two_machines at_first middle_update middle_updated
unfolding first_passing all_passing
middle_may = (record { vertex = omega arith; owned = refl; due = inr refl; fresh = λ s is. none_flies 1 is; turn = omega arith }, (record { message = _; behind = _; first = refl }, (record { message = _; behind = _; first = refl }, (record { vertex = omega arith; owned = refl; claim = _; behind = _; first = refl; together = λ s mode is. absurd (none_holds mode is) }, (record { message = _; behind = _; first = refl }, (record { message = _; behind = _; first = refl }, (record { vertex = omega arith; owned = refl; claim = _; behind = _; first = refl; together = λ s mode is. absurd (none_holds mode is) }, (record { vertex = omega arith; owned = refl; claim = _; behind = _; first = refl; together = λ s mode is. absurd (none_holds mode is) }, (record { vertex = _; flight = refl; ready = refl; not_pending = refl; task = refl; ticket = omega arith }, (record { message = _; behind = _; first = refl }, (record { message = _; behind = _; first = refl }, refl)))))))))))

pub mark_may : IsActionRun on_two_machines middle_updated middle_mark middle_marked
unfolding first_passing all_passing
mark_may = (refl, (record { number = _; behind = _; first = refl }, (record { vertex = omega arith; owned = refl; due = inl refl; fresh = λ s is. none_flies 1 (ended (is_scope s (scope_of 1 0)) _ 1 1 is); turn = omega arith }, (record { message = _; behind = _; first = refl }, (record { message = _; behind = _; first = refl }, (record { vertex = omega arith; owned = refl; claim = _; behind = _; first = refl; together = λ s mode is. absurd (none_holds mode (freed (is_scope s (scope_of 1 0)) _ Reader mode is)) }, (record { message = _; behind = _; first = refl }, (record { message = _; behind = _; first = refl }, (record { vertex = omega arith; owned = refl; claim = _; behind = _; first = refl; together = λ s mode is. absurd (none_holds mode (freed (is_scope s (scope_of 1 0)) _ Writer mode is)) }, (record { vertex = omega arith; owned = refl; claim = _; behind = _; first = refl; together = λ s mode is. absurd (none_holds mode (freed (is_scope s (scope_of 1 0)) _ Reader mode is)) }, (record { vertex = _; flight = refl; ready = refl; pending = refl }, refl)))))))))))

pub ready_may : IsActionRun on_two_machines middle_marked last_locks last_ready
unfolding first_passing all_passing
ready_may = (record { vertex = omega arith; owned = refl; due = inl refl; fresh = λ s is. none_flies 2 (ended (is_scope s (scope_of 1 0)) _ 1 2 (ended (is_scope s (scope_of 1 1)) _ 1 2 is)); turn = omega arith }, (record { vertex = omega arith; owned = refl; claim = _; behind = _; first = refl; together = λ s mode is. absurd (none_holds mode (freed (is_scope s (scope_of 1 0)) _ Writer mode (freed (is_scope s (scope_of 1 1)) _ Writer mode is))) }, (record { vertex = omega arith; owned = refl; claim = _; behind = _; first = refl; together = λ s mode is. absurd (none_holds mode (freed (is_scope s (scope_of 1 0)) _ Reader mode (freed (is_scope s (scope_of 1 1)) _ Reader mode is))) }, refl)))

pub last_may : IsActionRun on_two_machines last_ready last_update last_updated
unfolding first_passing all_passing
last_may = (record { vertex = _; flight = refl; ready = refl; pending = refl }, (record { vertex = omega arith; owned = refl; due = inr refl; fresh = λ s is. none_flies 2 (ended (is_scope s (scope_of 1 0)) _ 1 2 (ended (is_scope s (scope_of 1 1)) _ 1 2 (ended (is_scope s (scope_of 1 2)) _ 2 2 is))); turn = omega arith }, (record { vertex = omega arith; owned = refl; claim = _; behind = _; first = refl; together = λ s mode is. absurd (none_holds mode (freed (is_scope s (scope_of 1 0)) _ Writer mode (freed (is_scope s (scope_of 1 1)) _ Writer mode (freed (is_scope s (scope_of 1 2)) _ Reader mode is)))) }, (record { vertex = omega arith; owned = refl; claim = _; behind = _; first = refl; together = λ s mode is. absurd (none_holds mode (freed (is_scope s (scope_of 1 0)) _ Reader mode (freed (is_scope s (scope_of 1 1)) _ Reader mode (freed (is_scope s (scope_of 1 2)) _ Writer mode is)))) }, (record { vertex = _; flight = refl; ready = refl; not_pending = refl; task = refl; ticket = omega arith }, refl)))))

pub first_may : IsActionRun on_two_machines last_updated first_mark all_are_marked
unfolding first_passing all_passing
first_may = (record { message = _; behind = _; first = refl }, (record { message = _; behind = _; first = refl }, (record { vertex = omega arith; owned = refl; due = inl refl; fresh = λ s is. none_flies 0 is; turn = omega arith }, (record { vertex = omega arith; owned = refl; claim = _; behind = _; first = refl; together = λ s mode is. absurd (none_holds mode (freed (is_scope s (scope_of 1 0)) _ Reader mode (freed (is_scope s (scope_of 1 1)) _ Reader mode is))) }, (record { message = _; behind = _; first = refl }, (record { message = _; behind = _; first = refl }, (record { vertex = omega arith; owned = refl; claim = _; behind = _; first = refl; together = λ s mode is. absurd (none_holds mode (freed (is_scope s (scope_of 1 0)) _ Writer mode (freed (is_scope s (scope_of 1 1)) _ Writer mode (freed (is_scope s (scope_of 1 2)) _ Reader mode (freed (is_scope s (scope_of 1 3)) _ Reader mode is))))) }, (record { message = _; behind = _; first = refl }, (record { message = _; behind = _; first = refl }, (record { vertex = _; flight = refl; ready = refl; pending = refl }, (record { message = _; behind = _; first = refl }, (record { message = _; behind = _; first = refl }, (record { number = _; behind = _; first = refl }, refl)))))))))))))

pub sections_may : IsActionRun on_two_machines all_are_marked sections_come sections_are_there
unfolding first_passing all_passing
sections_may = (record { begun = omega arith; marked = marked_at_first; unsent = omega arith }, (record { begun = omega arith; marked = marked_at_second; unsent = omega arith }, (record { section = _; behind = _; first = refl }, (record { section = _; behind = _; first = refl }, refl))))

-- ---- the setting and the start

identifier : (k : ℕ) → k < 3 → slice_index two_edges.ids k ≡ suc k
identifier zero low = refl
identifier (suc zero) low = refl
identifier (suc (suc zero)) low = refl
identifier (suc (suc (suc k))) low = absurd (omega arith)

pub setting : IsSetting on_two_machines
setting =
    let low : ℕ → Type 0 = λ id. id ≤ MAX_ID in
    let joins : DataEdge → Type 0 = IsEdge 3 false in
    record {
      graph = record {
        few = omega arith;
        few_edges = omega arith;
        ascending = λ i j rises within. omega (arith, identifier i (omega arith), identifier j within);
        ids = All-cons low 1 (2 ∷ 3 ∷ []) (omega arith) (All-cons low 2 (3 ∷ []) (omega arith) (All-cons low 3 [] (omega arith) (All-nil low)));
        edges = All-cons joins (edge 0 1 4) (edge 1 2 5 ∷ []) (record { from = omega arith; to = omega arith; apart = λ same. omega arith; lower = λ undirected. omega arith; weight = omega arith })
            (All-cons joins (edge 1 2 5) [] (record { from = omega arith; to = omega arith; apart = λ same. omega arith; lower = λ undirected. omega arith; weight = omega arith }) (All-nil joins));
        edges_ascending =
            AllPairs-cons IsBefore (edge 0 1 4) (edge 1 2 5 ∷ []) (All-cons (IsBefore (edge 0 1 4)) (edge 1 2 5) [] (inl (omega arith)) (All-nil (IsBefore (edge 0 1 4))))
            (AllPairs-cons IsBefore (edge 1 2 5) [] (All-nil (IsBefore (edge 1 2 5))) (λ i j d rises within. absurd (omega arith)));
      };
      owner = λ v within. cond_both (v == 0) 0 1 (λ a. a < 2) (λ here. omega arith) (λ there. omega arith);
    }

pub starts : IsStart on_two_machines at_first
starts =
    record {
      vertices = λ v a within part. refl;
      edges = λ e a within at. refl;
      tasks = λ u within. and_from (on_two_machines.owner u == on_two_machines.owner u) (nat_lt u 3) (eq-eqb (on_two_machines.owner u) (on_two_machines.owner u) refl) (lt-ltb u 3 within);
      logs = λ a. refl;
      flying = λ a. refl;
      flights = λ a s. refl;
      stands = λ a s. refl;
      ready = λ a s. refl;
      holders = λ a x s. refl;
      queues = λ a x. refl;
      outboxes = λ a q. refl;
      links = λ p q. refl;
    }

pub none_marked : IsUnmarked on_two_machines at_first
none_marked =
    record {
      begun = refl;
      acknowledged = refl;
      known = λ a. refl;
      sent = λ a. refl;
      pending = λ a u. refl;
      orders = λ a. refl;
      reports = λ a. refl;
      collected = λ a. refl;
    }
