-- Edges, ends and machines that are gone through one after another.
use Rattle.std.proofs.Common.{◌≡◌, ℕ, zero, suc, ◌+◌, ◌<◌, ◌≤◌, ◌==◌, ◌&&◌, ◌||◌, pred, Bool, true, false, if◌then◌else◌, List, [], ◌∷◌, length, get_or, drop, refl, sym, ap, ◌∙◌, subst, arith}
use Rattle.std.proofs.lemmas.List.{drop_more, drop_all}
use Rattle.gl_base.specs.declared.numbers.MachineNo.{MachineNo}
use Rattle.gl_base.specs.declared.numbers.Vertex.{Vertex}
use Rattle.gl_base.specs.declared.scopes.ScopeId.{ScopeId}
use Rattle.local_graph.specs.declared.sides.Side.{Side}
use Rattle.wire.specs.wire_msgs.Views as told
use Rattle.wire.specs.outboxes.Outboxes.{OutboxesView}
use Rattle.partition.specs.declared.machine_numbers.keeping.Numbers.{Numbers}
use Rattle.partition.specs.machine_numbers.Views.{TasksView, flag_there, is_in_update}
use Rattle.machine_core.specs.declared.machine_updates.reserving.Prepared.{Prepared}
use Rattle.machine_core.specs.machine_updates.Committing.{posted}
use Rattle.machine_core.proofs.machine_updates.TellLemmas.{can_step}
use Rattle.snapshot_machines.specs.marking.Keeping.{SnapView}
use Rattle.snapshot_machines.specs.marking.Inner.Marks.{CanTell, DoneView, after_told, edges_left, ends_left, is_end_left, is_unmarked, pending_here, place_at, with_edges, edge_here}
use Rattle.snapshot_machines.proofs.marking.PendLemmas.{IsPending, pending_all, pending_more}

-- ---- edges that are saved

one_edge : (n : Numbers) (k : ℕ) (x : Side) (rest : List Side) (w : SnapView) → with_edges (edges_left n k rest) (with_edges (edges_left n k (x ∷ [])) w) ≡ with_edges (edges_left n k (x ∷ rest)) w
one_edge n k x rest w = by (is_unmarked n k x.other.0)
  where
    by : (b : Bool)
        → with_edges (edges_left n k rest) (with_edges (if b then (x.edge, edge_here n x.edge.0) ∷ [] else []) w) ≡ with_edges (if b then (x.edge, edge_here n x.edge.0) ∷ edges_left n k rest else edges_left n k rest) w
    by true = refl
    by false = refl

pub saved_step : (n : Numbers) (k : ℕ) (sides : List Side) (i : ℕ) (d : Side) (now new goal : SnapView) → i < length sides → new ≡ with_edges (edges_left n k (get_or sides i d ∷ [])) now
    → with_edges (edges_left n k (drop i sides)) now ≡ goal → with_edges (edges_left n k (drop (i + 1) sides)) new ≡ goal
saved_step n k sides i d now new goal inside is so_far =
    ap (with_edges (edges_left n k (drop (i + 1) sides))) is
    ∙ one_edge n k (get_or sides i d) (drop (i + 1) sides) now
    ∙ ap (λ (ss : List Side). with_edges (edges_left n k ss) now) (sym (drop_more sides i d inside))
    ∙ so_far

room_left : (n : Numbers) (k : ℕ) (x : Side) (w : SnapView) → w.room.edges ≤ (with_edges (edges_left n k (x ∷ [])) w).room.edges + 1
room_left n k x w = by (is_unmarked n k x.other.0)
  where
    less : (j : ℕ) → j ≤ pred j + 1
    less zero = omega arith
    less (suc j) = omega arith

    by : (b : Bool) → w.room.edges ≤ (with_edges (if b then (x.edge, edge_here n x.edge.0) ∷ [] else []) w).room.edges + 1
    by true = less w.room.edges
    by false = omega arith

pub room_step : (n : Numbers) (k : ℕ) (sides : List Side) (i : ℕ) (d : Side) (now new : SnapView) → new ≡ with_edges (edges_left n k (get_or sides i d ∷ [])) now
    → length sides ≤ i + now.room.edges → length sides ≤ i + 1 + new.room.edges
room_step n k sides i d now new is so_far =
    let left = room_left n k (get_or sides i d) now in
    let room : new.room.edges ≡ (with_edges (edges_left n k (get_or sides i d ∷ [])) now).room.edges = ap (λ (w : SnapView). w.room.edges) is in
    omega (arith, left, room, so_far)

pub saved_all : (n : Numbers) (k : ℕ) (sides : List Side) (i : ℕ) (now goal : SnapView) → length sides ≤ i → with_edges (edges_left n k (drop i sides)) now ≡ goal → now ≡ goal
saved_all n k sides i now goal past so_far = sym (ap (λ (ss : List Side). with_edges (edges_left n k ss) now) (drop_all i sides past)) ∙ so_far

-- ---- ends that are listed

pub ends_more : (n : Numbers) (k q : ℕ) (sides : List Side) (i : ℕ) (d : Side) → i < length sides
    → ends_left n k q (drop i sides) ≡ (if is_end_left n k q (get_or sides i d) then (get_or sides i d).other ∷ ends_left n k q (drop (i + 1) sides) else ends_left n k q (drop (i + 1) sides))
ends_more n k q sides i d inside = ap (ends_left n k q) (drop_more sides i d inside)

pub ends_none : (n : Numbers) (k q : ℕ) (sides : List Side) (i : ℕ) → length sides ≤ i → ends_left n k q (drop i sides) ≡ []
ends_none n k q sides i past = ap (ends_left n k q) (drop_all i sides past)

-- ---- ends that become pending

-- of the tasks the pending ones alone have changed, and the ends that are left are still to become so
pub record IsPendingEnds (old now : Numbers) (k : ℕ) (all left : List Side) : Type 0 where
  pub pending : IsPending old.local (is_in_update (ends_left old k old.local.me.0 all)) (is_in_update (ends_left old k old.local.me.0 left)) old.tasks now.tasks
  pub rest : now ≡ record old { tasks = now.tasks }

named_end : (n : Numbers) (k q : ℕ) (x : Side) (rest : List Side) (u : ℕ) → is_in_update (ends_left n k q (x ∷ rest)) u ≡ ((is_end_left n k q x && x.other.0 == u) || is_in_update (ends_left n k q rest) u)
named_end n k q x rest u = by (is_end_left n k q x)
  where
    by : (b : Bool) → is_in_update (if b then x.other ∷ ends_left n k q rest else ends_left n k q rest) u ≡ ((b && x.other.0 == u) || is_in_update (ends_left n k q rest) u)
    by true = refl
    by false = refl

pub pend_step : (old now new : Numbers) (k i : ℕ) (all : List Side) (d side : Side) → i < length all → side ≡ get_or all i d → IsPendingEnds old now k all (drop i all)
    → ((u : ℕ) → pending_here new u ≡ ((is_end_left now k now.local.me.0 side && side.other.0 == u) || pending_here now u))
    → new ≡ record now { tasks = record now.tasks { pending = new.tasks.pending; asked = new.tasks.asked } } → IsPendingEnds old new k all (drop (i + 1) all)
pend_step old now new k i all d side inside is so_far each rest =
    let q = old.local.me.0 in
    let tasks : new.tasks ≡ record now.tasks { pending = new.tasks.pending; asked = new.tasks.asked } = ap (λ (n : Numbers). n.tasks) rest in
    let whole : new ≡ record old { tasks = new.tasks } =
    rest ∙ ap (λ (n : Numbers). record n { tasks = record now.tasks { pending = new.tasks.pending; asked = new.tasks.asked } }) so_far.rest ∙ ap (λ (t : TasksView). record old { tasks = t }) (sym tasks) in
    record {
      pending =
          pending_more old.local (is_in_update (ends_left old k q all)) (is_in_update (ends_left old k q (drop i all))) (is_in_update (ends_left old k q (drop (i + 1) all)))
          (λ u. is_end_left old k q side && side.other.0 == u) old.tasks now.tasks new.tasks so_far.pending
          (λ u.
          ap (λ (ss : List Side). is_in_update (ends_left old k q ss) u) (drop_more all i d inside) ∙ named_end old k q (get_or all i d) (drop (i + 1) all) u
          ∙ ap (λ (x : Side). (is_end_left old k q x && x.other.0 == u) || is_in_update (ends_left old k q (drop (i + 1) all)) u) (sym is))
          (λ u.
          ap (λ (n : Numbers). flag_there new.tasks.pending (place_at n.local u)) (sym whole) ∙ each u
          ∙ ap (λ (n : Numbers). (is_end_left n k n.local.me.0 side && side.other.0 == u) || flag_there now.tasks.pending (place_at n.local u)) so_far.rest)
          tasks;
      rest = whole;
    }

pub pend_all : (old now : Numbers) (k i : ℕ) (all : List Side) → length all ≤ i → IsPendingEnds old now k all (drop i all)
    → (u : ℕ) → pending_here now u ≡ (is_in_update (ends_left old k old.local.me.0 all) u || pending_here old u)
pend_all old now k i all past so_far u =
    ap (λ (n : Numbers). flag_there now.tasks.pending (place_at n.local u)) so_far.rest
    ∙ pending_all old.local (is_in_update (ends_left old k old.local.me.0 all)) (is_in_update (ends_left old k old.local.me.0 (drop i all))) old.tasks now.tasks so_far.pending
    (λ x. ap (λ (ss : List Side). is_in_update (ends_left old k old.local.me.0 ss) x) (drop_all i all past)) u

pub pend_rest : (old now : Numbers) (k : ℕ) (all left : List Side) → IsPendingEnds old now k all left → now ≡ record old { tasks = record old.tasks { pending = now.tasks.pending; asked = now.tasks.asked } }
pend_rest old now k all left so_far = so_far.rest ∙ ap (λ (t : TasksView). record old { tasks = t }) so_far.pending.rest

-- ---- machines that are told

-- the machines that are left are still to be told
pub record IsTellingMarks (old now : OutboxesView) (done : MachineNo → DoneView) (s : ScopeId) (v : Vertex) (many : ℕ) (all left : List Prepared) : Type 0 where
  pub can : CanTell now s v many left
  pub same : after_told done left now ≡ after_told done all old

pub telling_on : (old now next : OutboxesView) (done : MachineNo → DoneView) (s : ScopeId) (v : Vertex) (many : ℕ) (all left : List Prepared) (x : Prepared) (rest : List Prepared) (said : DoneView)
    → IsTellingMarks old now done s v many all left → left ≡ x ∷ rest → said ≡ done x.to → next ≡ posted x.to (told.Done said) now → IsTellingMarks old next done s v many all rest
telling_on old now next done s v many all left x rest said telling left_is said_is next_is =
    let can : CanTell now s v many (x ∷ rest) = subst (CanTell now s v many) left_is telling.can in
    let is : next ≡ posted x.to (told.Done (done x.to)) now = next_is ∙ ap (λ (d : DoneView). posted x.to (told.Done d) now) said_is in
    record {
      can = subst (λ (out : OutboxesView). CanTell out s v many rest) (sym next_is) (can_step now s v many x rest (told.Done said) can);
      same = ap (after_told done rest) is ∙ ap (λ (ps : List Prepared). after_told done ps now) (sym left_is) ∙ telling.same;
    }
