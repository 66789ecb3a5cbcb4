-- The numbers of a machine as a vertex is marked, and the calls of a snapshot update from its guard to what it leaves.
use Rattle.std.proofs.Common.{◌≡◌, ℕ, ◌+◌, ◌<◌, ◌≤◌, ◌==◌, ◌&&◌, ◌||◌, not, Bool, true, false, if◌then◌else◌, Option, Some, None, List, [], ◌∷◌, length, refl, sym, ap, ◌∙◌, subst, inl, inr}
use Rattle.std.specs.Prelude.{is_some, nat_lt, slice_set}
use Rattle.std.proofs.lemmas.Bool.{cases_eq, eq-eqb, ne_eqb}
use Rattle.gl_base.specs.declared.numbers.MachineNo.{MachineNo}
use Rattle.gl_base.specs.declared.numbers.Vertex.{Vertex}
use Rattle.gl_base.specs.declared.numbers.EdgeNo.{EdgeNo}
use Rattle.gl_base.specs.declared.scopes.Datum.{Datum}
use Rattle.gl_base.specs.declared.scopes.ScopeId.{ScopeId}
use Rattle.update_api.specs.declared.links.Link.{Link}
use Rattle.task_sets.proofs.vertex_queue.Queueing.{flag_within}
use Rattle.local_graph.specs.declared.sides.Side.{Side}
use Rattle.local_graph.proofs.PlaceLemmas.{at_written}
use Rattle.cluster_laws.specs.cluster_core.Effects.{part_seeded}
use Rattle.partition.specs.declared.machine_numbers.keeping.Numbers.{Numbers}
use Rattle.partition.specs.machine_numbers.Views.{AreTasksOf, LocalView, TasksView, flag_there, is_flagged, ghost_datum, is_in_update, own_datum, own_or_ghost}
use Rattle.machine_core.specs.declared.machine_parts.cores.Core.{Core}
use Rattle.machine_core.specs.machine_parts.Order.{IsOrderly}
use Rattle.machine_core.specs.machine_parts.Parts.{number_of as number_in}
use Rattle.machine_core.specs.machine_parts.Settings.{SameSettings}
use Rattle.coordinator.specs.snap_update.Snaps.{IsSameButRoom, with_edge}
use Rattle.snapshot_machines.specs.marking.Keeping.{SnapView, part_of, with_snaps}
use Rattle.snapshot_machines.specs.marking.Marking.{HasEachRow, HasMarked, HasOnlyMadeRoom, HasSavedMore, MayMark, marked}
use Rattle.snapshot_machines.specs.marking.Seeding.{AreMarkedBelow, HasSeeded}
use Rattle.snapshot_machines.specs.marking.Inner.Marks.{CanBeMarked, CanMarkNumber, HasMarkedHere, HasMarkedNumber, HasUnplanned, IsRowIn, datum_here, ends_left, is_end_left, is_own, links_at, marked_alone, pending_here, place_at, sides_at, with_edges, with_mark}

-- ---- flags

-- the flag at the place of v is taken
pub ended_at : (l : LocalView) (old new : TasksView) (v k : ℕ) → AreTasksOf l old → place_at l v ≡ Some k → flag_there old.pending (place_at l v) ≡ true → new.pending ≡ slice_set old.pending k false
    → (u : ℕ) → flag_there new.pending (place_at l u) ≡ (flag_there old.pending (place_at l u) && not (u == v))
ended_at l old new v k are at up is u =
    let inside : k < length old.pending = flag_within old.pending k (sym (ap (flag_there old.pending) at) ∙ up) in
    ap (λ (flags : List Bool). flag_there flags (place_at l u)) is ∙ at_written l.places old.pending v k false false are.apart at inside u ∙ by (u == v) (flag_there old.pending (place_at l u))
  where
    by : (b c : Bool) → (if b then false else c) ≡ (c && not b)
    by true true = refl
    by true false = refl
    by false true = refl
    by false false = refl

-- ---- numbers

-- the tasks don't tell who has a mark
pub ends_tasks : (n : Numbers) (t : TasksView) (k q : ℕ) (sides : List Side) → ends_left (record n { tasks = t }) k q sides ≡ ends_left n k q sides
ends_tasks n t k q [] = refl
ends_tasks n t k q (s ∷ sides) = ap (λ (vs : List Vertex). if is_end_left n k q s then s.other ∷ vs else vs) (ends_tasks n t k q sides)

module _ (old pended : Numbers) (t : TasksView) (l : LocalView) (v : Vertex) (k : ℕ) (d : Datum) (can : CanMarkNumber old v) (ended : (u : ℕ) → flag_there t.pending (place_at old.local u) ≡ (pending_here old u && not (u == v.0)))
    (admitted : (place : ℕ) → place_at old.local v.0 ≡ Some place → t.admitted ≡ slice_set old.tasks.admitted place false) (plans : (place : ℕ) → place_at old.local v.0 ≡ Some place → HasUnplanned old.tasks t place)
    (tasks : AreTasksOf old.local t)
    (flags : t ≡ record old.tasks { pending = t.pending; admitted = t.admitted; planned = t.planned; plans = t.plans })
    (each : (u : ℕ) → pending_here pended u ≡ (is_in_update (ends_left old k old.local.me.0 (sides_at old.local v.0)) u || flag_there t.pending (place_at old.local u)))
    (rest : pended ≡ record old { tasks = record t { pending = pended.tasks.pending; asked = pended.tasks.asked } }) (is : d ≡ with_mark k (datum_here old v.0))
    (datum : (x : ℕ) → own_datum l x ≡ (if x == v.0 then Some d else own_datum pended.local x)) (kept : l ≡ record pended.local { kept = l.kept }) where
  local_same : pended.local ≡ old.local
  local_same = ap (λ (n : Numbers). n.local) rest

  own_now : (x : ℕ) → own_datum l x ≡ (if x == v.0 then Some (with_mark k (datum_here old v.0)) else own_datum old.local x)
  own_now x = datum x ∙ (λ i. if x == v.0 then Some (is i) else own_datum (local_same i) x)

  datum_now : (u : ℕ) → own_or_ghost (own_datum l u) (ghost_datum pended.ghosts u) ≡ (if u == v.0 then with_mark k (datum_here old v.0) else datum_here old u)
  datum_now u =
      ap (λ (o : Option Datum). own_or_ghost o (ghost_datum pended.ghosts u)) (own_now u)
      ∙ ap (λ (n : Numbers). own_or_ghost (if u == v.0 then Some (with_mark k (datum_here old v.0)) else own_datum old.local u) (ghost_datum n.ghosts u)) rest
      ∙ by (u == v.0)
    where
      by : (b : Bool)
          → own_or_ghost (if b then Some (with_mark k (datum_here old v.0)) else own_datum old.local u) (ghost_datum old.ghosts u) ≡ (if b then with_mark k (datum_here old v.0) else own_or_ghost (own_datum old.local u) (ghost_datum old.ghosts u))
      by true = refl
      by false = refl

  place_now : (u : ℕ) → place_at l u ≡ place_at old.local u
  place_now u = ap (λ (m : LocalView). place_at m u) kept ∙ ap (λ (m : LocalView). place_at m u) local_same

  is_own_now : (x : ℕ) → is_own l x ≡ is_own old.local x
  is_own_now x = ap is_some (own_now x) ∙ elim (cases_eq x v.0) [
    | inl here ↦
        ap (λ (b : Bool). is_some (if b then Some (with_mark k (datum_here old v.0)) else own_datum old.local x)) (eq-eqb x v.0 here) ∙ sym (ap (is_own old.local) here ∙ can.own)
    | inr off ↦ ap (λ (b : Bool). is_some (if b then Some (with_mark k (datum_here old v.0)) else own_datum old.local x)) (ne_eqb x v.0 off)
  ]

  tasks_now : pended.tasks ≡ record t { pending = pended.tasks.pending; asked = pended.tasks.asked }
  tasks_now = ap (λ (n : Numbers). n.tasks) rest

  pub number_marked : HasMarkedNumber old (record pended { local = l }) v k
  number_marked =
      record {
        datum = datum_now;
        pending = λ u.
            ap (flag_there pended.tasks.pending) (place_now u) ∙ ap (λ (m : LocalView). flag_there pended.tasks.pending (place_at m u)) (sym local_same) ∙ each u
            ∙ ap (λ (b : Bool). is_in_update (ends_left old k old.local.me.0 (sides_at old.local v.0)) u || b) (ended u);
        admitted = λ place at. ap (λ (s : TasksView). s.admitted) tasks_now ∙ admitted place at;
        plans = λ place at.
            let one = plans place at in
            record {
              plans = ap (λ (s : TasksView). s.plans + (if is_flagged old.tasks.planned place then 1 else 0)) tasks_now ∙ one.plans;
              planned = ap (λ (s : TasksView). s.planned) tasks_now ∙ one.planned;
              admitted = ap (λ (s : TasksView). s.admitted) tasks_now ∙ one.admitted;
            };
        own = is_own_now;
        tasks = record {
          apart = λ x y j at there. tasks.apart x y j (sym (place_now x) ∙ at) (sym (place_now y) ∙ there);
          own = λ x j at. is_own_now x ∙ tasks.own x j (sym (place_now x) ∙ at) ∙ ap (λ (s : TasksView). nat_lt j (length s.task)) (sym tasks_now);
        };
        flags = tasks_now ∙ ap (λ (s : TasksView). record s { pending = pended.tasks.pending; asked = pended.tasks.asked }) flags
            ∙ (λ i. record old.tasks { pending = pended.tasks.pending; asked = pended.tasks.asked; admitted = (sym tasks_now i).admitted; planned = (sym tasks_now i).planned; plans = (sym tasks_now i).plans });
        local = kept ∙ ap (λ (m : LocalView). record m { kept = l.kept }) local_same;
        rest = ap (λ (n : Numbers). record n { local = l }) rest ∙ ap (λ (s : TasksView). record old { local = l; tasks = s }) (sym tasks_now);
      }

-- ---- what is saved

pub saved_more : (edges : List (EdgeNo × ℕ)) (old new : SnapView) → HasSavedMore old new → HasSavedMore old (with_edges edges new)
saved_more [] old new more = more
saved_more (pair ∷ edges) old new more =
    saved_more edges old (with_edge pair.0 pair.1 new) (ap (λ (w : SnapView). record w { edges = (with_edge pair.0 pair.1 new).edges; room = (with_edge pair.0 pair.1 new).room }) more)

-- ---- the scope

abbrev pub may_mark : (m : Core) (s : ScopeId) (v : Vertex) → CanBeMarked m s v → MayMark s (part_of m)
may_mark m s v can = record { vertex = v.0; flight = ap number_in can.flight; ready = can.ready; pending = can.pending }

-- the row of an own vertex
pub row_of : (l : LocalView) (v : ℕ) → IsRowIn (links_at l v) (length (sides_at l v)) → (links : List Link) × (links_at l v ≡ Some links)
row_of l v row = by (links_at l v) refl row
  where
    by : (o : Option (List Link)) → links_at l v ≡ o → IsRowIn o (length (sides_at l v)) → (links : List Link) × (links_at l v ≡ Some links)
    by None at row = absurd row
    by (Some links) at row = (links, at)

-- a machine, the same with room, the same behind the snapshot update, and behind what becomes pending then
module _ (m roomy mid new : Core) (w wide now : SnapView) (s : ScopeId) (v : Vertex) where
  pub has_marked : IsOrderly m → CanBeMarked m s v → part_of roomy ≡ part_of m → SameSettings m roomy → roomy.numbers.local ≡ m.numbers.local → IsSameButRoom w wide → HasMarkedHere roomy wide mid now s v → SameSettings roomy mid
      → mid.numbers.local.me ≡ roomy.numbers.local.me → HasSeeded mid new now.known → HasMarked m w new now s
  has_marked order can part settings local same marked_here settings_mid me seeded =
      let home : s.home ≡ m.numbers.local.me = (order.flights.given s v can.flight).0 ∙ order.flights.home in
      record {
        may = may_mark m s v can;
        home = home;
        after = λ st setting is.
            let here = settings st is in
            let before : with_snaps wide (part_of roomy) ≡ with_snaps w (part_of m) = (λ i. with_snaps (same i) (part i)) in
            seeded st now (settings_mid st here) refl
            ∙ ap (part_seeded st mid.numbers.local.me.0) (marked_here.after st setting here)
            ∙ (λ i. part_seeded st (me i).0 (marked_alone st roomy.numbers.local.me.0 s v.0 (before i)))
            ∙ ap (λ (a : MachineNo). marked st a.0 s v.0 (with_snaps w (part_of m))) (ap (λ (l : LocalView). l.me) local ∙ sym home);
      }

-- ---- a machine with room

module _ (old new : Core) (room : HasOnlyMadeRoom old new) (s : ScopeId) (v : Vertex) where
  pub can_roomy : CanBeMarked old s v → CanBeMarked new s v
  can_roomy can = subst (λ (m : Core). CanBeMarked m s v) (sym room.rest) (record { flight = can.flight; ready = can.ready; pending = can.pending })

  pub row_roomy : IsRowIn (links_at old.numbers.local v.0) (length (sides_at old.numbers.local v.0)) → IsRowIn (links_at new.numbers.local v.0) (length (sides_at new.numbers.local v.0))
  row_roomy row = subst (λ (m : Core). IsRowIn (links_at m.numbers.local v.0) (length (sides_at m.numbers.local v.0))) (sym room.rest) row

  pub base_roomy : (w wide : SnapView) → IsSameButRoom w wide → old.terms.base ≤ w.known → new.terms.base ≤ wide.known
  base_roomy w wide same low = subst (λ (m : Core). m.terms.base ≤ wide.known) (sym room.rest) (subst (λ (x : SnapView). old.terms.base ≤ x.known) (sym same) low)

  pub below_roomy : (k place : ℕ) → AreMarkedBelow old.numbers k place → AreMarkedBelow new.numbers k place
  below_roomy k place below = subst (λ (m : Core). AreMarkedBelow m.numbers k place) (sym room.rest) below

-- ---- what stays

pub saved_room : (w wide now : SnapView) → IsSameButRoom w wide → HasSavedMore wide now → HasSavedMore w now
saved_room w wide now same more = more ∙ ap (λ (x : SnapView). record x { vertices = now.vertices; edges = now.edges; room = now.room }) same

pub saved_none : (w wide : SnapView) → IsSameButRoom w wide → HasSavedMore w wide
saved_none w wide same = same ∙ (λ i. record w { vertices = (sym same i).vertices; edges = (sym same i).edges; room = wide.room })

pub core_kept : (m new : Core) → new.terms ≡ m.terms → new.by_place ≡ m.by_place → new ≡ record m { numbers = new.numbers; pipe = new.pipe; locks = new.locks; out = new.out; spare = new.spare }
core_kept m new terms places = λ i. record new { terms = terms i; by_place = places i }

pub local_end : (m roomy mid new : Core) → roomy.numbers.local ≡ m.numbers.local → mid.numbers.local ≡ record roomy.numbers.local { kept = mid.numbers.local.kept } → new.numbers.local ≡ mid.numbers.local
    → new.numbers.local ≡ record m.numbers.local { kept = new.numbers.local.kept }
local_end m roomy mid new room marked_local seed =
    seed ∙ marked_local ∙ ap (λ (l : LocalView). record l { kept = mid.numbers.local.kept }) room ∙ ap (λ (l : LocalView). record m.numbers.local { kept = l.kept }) (sym seed)

pub rows_end : (old new : LocalView) → new ≡ record old { kept = new.kept } → ((x : ℕ) → is_own new x ≡ is_own old x) → HasEachRow old → HasEachRow new
rows_end old new is own rows v mine =
    subst (λ (l : LocalView). IsRowIn (links_at l v) (length (sides_at l v))) (sym is) (rows v (sym (own v) ∙ mine))
