-- An admission as a whole, and one for which there is no memory.
use Rattle.std.proofs.Common.{◌≡◌, ℕ, zero, suc, ◌+◌, ◌<◌, Bool, true, false, if◌then◌else◌, Option, None, Some, List, [], ◌∷◌, length, add-zero, arith, get_or, slice_get, slice_set, refl, sym, ap, ◌∙◌, subst, inl, inr}
use Rattle.std.proofs.lemmas.Bool.{cases_eq, eq-eqb, ne_eqb}
use Rattle.std.proofs.lemmas.List.{get_or-set_other, length-set}
use Rattle.std.proofs.lemmas.Option.{slice_get_read}
use Rattle.std.specs.declared.alloc.Global.{Global}
use Rattle.std.specs.declared.vec.Vec.{Vec}
use Rattle.gl_base.specs.declared.numbers.Vertex.{Vertex}
use Rattle.gl_base.specs.declared.scopes.ScopeId.{ScopeId}
use Rattle.cluster_laws.specs.cluster_core.Effects.{admitted_by, in_flight, next_scope, sets_out}
use Rattle.cluster_laws.specs.cluster_core.Settings.{Engine}
use Rattle.local_graph.specs.Locals.{LocalView, place_at}
use Rattle.scope_locks.specs.scope_pipe.Pipes.{PipeView, HasAdmitted, flight_at, flight_count, is_ready, next_id}
use Rattle.task_sets.specs.task_sched.Tasks.{TasksView, IsNextPick, is_flagged}
use Rattle.task_sets.specs.declared.task_sched.task_sets.Pick.{Pick}
use Rattle.partition.specs.machine_numbers.Views.{flag_there}
use Rattle.machine_core.specs.declared.machine_parts.cores.Core.{Core}
use Rattle.machine_core.specs.machine_parts.Parts.{part_of, parts_at, is_own, machine_numbers}
use Rattle.machine_core.specs.machine_parts.Order.{IsOrderly, KnowsPlaces, nobody}
use Rattle.machine_core.specs.machine_parts.Rooms.{HasOnlyMadeRoom}
use Rattle.machine_core.specs.machine_parts.Settings.{IsPartOf}
use Rattle.machine_core.proofs.machine_parts.RoomLemmas.{part_room, orderly_room}
use Rattle.machine_core.specs.machine_scopes.Admitting.{AreFreeUnplanned, CanAdmitPick, HasAdmittedPick, HaveSamePlans, with_pick}
use Rattle.machine_core.specs.machine_scopes.Asking.{IsNewAt}
use Rattle.machine_core.specs.machine_scopes.Inner.Picking.{CanTake, IsPutBack, IsUnplanned}
use Rattle.machine_core.specs.machine_scopes.Inner.Setting.{HasSetOut}
use Rattle.machine_core.proofs.machine_scopes.ComeLemmas.{new_room}
use Rattle.machine_core.proofs.machine_scopes.FlownLemmas.{admitted_is, numbers_picked, orderly_flown, outside_stays, part_flown, pending_stays, scope_is_new, scope_waits, task_stays, window_stays}
use Rattle.machine_core.proofs.machine_scopes.PickLemmas.{may_pick, pick_kind, pick_own, pick_room}

-- ---- what stays of places

pub places_keep : (m new : Core) → KnowsPlaces m → new.numbers.local ≡ m.numbers.local → new.by_place ≡ m.by_place → length new.numbers.tasks.task ≡ length m.numbers.tasks.task → length new.numbers.tasks.admitted ≡ length m.numbers.tasks.admitted → KnowsPlaces new
places_keep m new knows local by_place tasks flags = record {
  vertices = record {
    many = ap (λ (vs : Vec Vertex Global). length vs.items) by_place ∙ knows.vertices.many ∙ sym tasks;
    place = λ k v at. ap (λ (l : LocalView). place_at l v.0) local ∙ knows.vertices.place k v (sym (ap (λ (vs : Vec Vertex Global). slice_get vs.items k) by_place) ∙ at);
  };
  flags = flags ∙ knows.flags ∙ sym tasks;
}

-- ---- the admission

module _ (m : Core) (pick : Pick) (v : Vertex) (tasks : TasksView) (now : Core) (pipe : PipeView) (is : IsOrderly m) (knows : KnowsPlaces m) (can : CanTake m.numbers.tasks pick) (at : slice_get m.by_place.items pick.vertex.0 ≡ Some v)
    (picked : tasks ≡ with_pick m.numbers.tasks pick) (room : HasOnlyMadeRoom (record m { numbers = record m.numbers { tasks = tasks } }) now)
    (is_new : flight_at now.pipe (next_id now.pipe) ≡ None) (has : HasAdmitted now.pipe pipe v) (rest : pipe ≡ record now.pipe { serial = pipe.serial; waiting = pipe.waiting }) where
  pipe_same : now.pipe ≡ m.pipe
  pipe_same = ap (λ (n : Core). n.pipe) room.rest

  new_here : flight_at m.pipe (next_id m.pipe) ≡ None
  new_here = subst (λ (p : PipeView). flight_at p (next_id p) ≡ None) pipe_same is_new

  has_here : HasAdmitted m.pipe pipe v
  has_here = subst (λ (p : PipeView). HasAdmitted p pipe v) pipe_same has

  rest_here : pipe ≡ record m.pipe { serial = pipe.serial; waiting = pipe.waiting }
  rest_here = subst (λ (p : PipeView). pipe ≡ record p { serial = pipe.serial; waiting = pipe.waiting }) pipe_same rest

  abbrev base : Core
  base = record m { numbers = record m.numbers { tasks = with_pick m.numbers.tasks pick }; pipe = pipe }

  abbrev flown : Core
  flown = record now { pipe = pipe }

  room_flown : HasOnlyMadeRoom base flown
  room_flown = record {
    log = room.log;
    locks = room.locks;
    out = room.out;
    rest = ap (λ (n : Core). record n { pipe = pipe }) room.rest
        ∙ ap (λ (ts : TasksView). record m { numbers = record m.numbers { tasks = ts; log = now.numbers.log }; locks = now.locks; out = now.out; spare = now.spare; pipe = pipe }) picked;
  }

  pub admit_orderly : IsOrderly flown
  admit_orderly = orderly_room nobody base flown room_flown (orderly_flown m pick v pipe is knows can at new_here has_here rest_here)

  pub admit_new : (s : ScopeId) → s ≡ next_id m.pipe → IsNewAt flown s v
  admit_new s same = subst (λ (t : ScopeId). IsNewAt flown t v) (sym same) (new_room base flown (next_id m.pipe) v room_flown (scope_is_new m pick v pipe is knows can at new_here has_here rest_here))

  pub admit_waits : (s : ScopeId) → s ≡ next_id m.pipe → is_ready flown.pipe s ≡ false
  admit_waits s same = ap (is_ready pipe) same ∙ scope_waits m pick v pipe is knows can at new_here has_here rest_here

  pub admit_own : is_own flown.numbers.local v.0 ≡ true
  admit_own = ap (λ (n : Core). is_own n.numbers.local v.0) room.rest ∙ pick_own m pick v is knows can at

  pub admit_done : (new : Core) (s : ScopeId) → s ≡ next_id m.pipe → IsNextPick m.numbers.tasks (Some pick) → flight_count m.pipe < m.terms.pipeline → now.numbers ≡ record m.numbers { tasks = tasks } → new.numbers ≡ now.numbers
      → HasSetOut flown new s v → HasAdmittedPick m new
  admit_done new s same next few now_numbers new_numbers out = record {
    can = record { pick = pick; next = next; vertex = v; place = at; may = may_pick m pick v is knows can at few; kind = pick_kind m pick v is knows can at; room = pick_room m pick v is knows can at };
    numbers = new_numbers ∙ now_numbers ∙ ap (λ (ts : TasksView). record m.numbers { tasks = ts }) picked;
    admitted = λ st part.
        let a = m.numbers.local.me.0 in
        let setting : IsPartOf st flown = subst (λ (n : Core). IsPartOf st (record n { pipe = pipe })) (sym room.rest)
        (record {
          local = part.local;
          machines = room.out.machines ∙ part.machines;
          engine = part.engine;
          pipeline = part.pipeline;
          base = part.base;
          window = ap (λ (ts : TasksView). ts.window) picked ∙ window_stays m.numbers.tasks pick ∙ part.window;
        }) in
        let after : part_of flown ≡ in_flight a v.0 (part_of m) = part_room base flown room_flown ∙ part_flown m pick v pipe is knows can at new_here has_here rest_here in
        let scope : s ≡ next_scope a (part_of m) = same ∙ (λ i. record { home = is.flights.home i; serial = m.pipe.serial }) in
        let machines = part.local.parts v.0 (pick_own m pick v is knows can at) in
        out st setting
        ∙ (λ i. sets_out st (room.rest i).numbers.local.me.0 s v.0 (machine_numbers (parts_at (room.rest i).numbers.local v.0)) (after i))
        ∙ (λ i. sets_out st a (scope i) v.0 (machines i) (in_flight a v.0 (part_of m)))
        ∙ sym (ap (λ (e : Engine). admitted_by e st a v.0 (part_of m)) part.engine);
  }

-- ---- no memory

-- the same vertices are tasks, pending and admitted
pub record HaveSameFlags (old new : TasksView) : Type 0 where
  pub many : length new.task ≡ length old.task
  pub flags : length new.admitted ≡ length old.admitted
  pub task : (u : ℕ) → is_flagged new.task u ≡ is_flagged old.task u
  pub pending : (u : ℕ) → is_flagged new.pending u ≡ is_flagged old.pending u
  pub admitted : (u : ℕ) → is_flagged new.admitted u ≡ is_flagged old.admitted u
  pub outside : new.outside ≡ old.outside

pub flags_back : (t tasks new : TasksView) (pick : Pick) → CanTake t pick → tasks ≡ with_pick t pick → IsPutBack tasks new pick.vertex.0 → HaveSameFlags t new
flags_back t tasks new pick can picked back =
    let k = pick.vertex.0 in
    let admitted : tasks.admitted ≡ slice_set t.admitted k true = ap (λ (ts : TasksView). ts.admitted) picked ∙ admitted_is t pick in
    record {
      many = back.many ∙ ap (λ (ts : TasksView). length ts.task) picked ∙ ap length (task_stays t pick);
      flags = back.flags ∙ ap length admitted ∙ length-set t.admitted k true;
      task = λ u. back.task u ∙ ap (λ (ts : TasksView). is_flagged ts.task u) picked ∙ ap (λ (fs : List Bool). is_flagged fs u) (task_stays t pick);
      pending = λ u. back.pending u ∙ ap (λ (ts : TasksView). is_flagged ts.pending u) picked ∙ ap (λ (fs : List Bool). is_flagged fs u) (pending_stays t pick);
      admitted = λ u. back.admitted u ∙ elim (cases_eq u k) [
        | inl same ↦ ap (λ (b : Bool). if b then false else is_flagged tasks.admitted u) (eq-eqb u k same) ∙ sym can.free ∙ sym (ap (is_flagged t.admitted) same)
        | inr other ↦
            ap (λ (b : Bool). if b then false else is_flagged tasks.admitted u) (ne_eqb u k other) ∙ ap (λ (fs : List Bool). is_flagged fs u) admitted ∙ get_or-set_other t.admitted k u true false other
      ];
      outside = back.outside ∙ ap (λ (ts : TasksView). ts.outside) picked ∙ outside_stays t pick;
    }

cleared : (flags : List Bool) (k : ℕ) → is_flagged (slice_set flags k false) k ≡ false
cleared [] k = refl
cleared (f ∷ flags) zero = refl
cleared (f ∷ flags) (suc k) = cleared flags k

planned_of : (t : TasksView) (v : Vertex) (b : Bool) (u : ℕ) → (u ≡ v.0 → ⊥) → is_flagged (with_pick t (record { vertex = v; snapshot = b })).planned u ≡ is_flagged t.planned u
planned_of t v true u other = refl
planned_of t v false u other = get_or-set_other t.planned v.0 u true false other

plans_of : (t new : TasksView) (v : Vertex) (b : Bool) → is_flagged t.planned v.0 ≡ false
    → new.plans + (if b then (if is_flagged (with_pick t (record { vertex = v; snapshot = b })).planned v.0 then 1 else 0) else 1) ≡ (with_pick t (record { vertex = v; snapshot = b })).plans → new.plans ≡ t.plans
plans_of t new v true clear back = sym (ap (λ (f : Bool). new.plans + (if f then 1 else 0)) clear ∙ add-zero new.plans) ∙ back
plans_of t new v false clear back = omega (arith, back)

pub plans_back : (t tasks new : TasksView) (pick : Pick) → CanTake t pick → tasks ≡ with_pick t pick → IsPutBack tasks new pick.vertex.0 → IsUnplanned tasks new pick → AreFreeUnplanned t → HaveSamePlans t new
plans_back t tasks new pick can picked back plans free =
    let k = pick.vertex.0 in
    let clear : is_flagged t.planned k ≡ false = free k can.free in
    let whole : IsUnplanned (with_pick t pick) new pick = subst (λ (ts : TasksView). IsUnplanned ts new pick) picked plans in
    record {
      admitted = (flags_back t tasks new pick can picked back).admitted;
      planned = λ u. elim (cases_eq u k) [
        | inl same ↦
            ap (is_flagged new.planned) same ∙ ap (λ (fs : List Bool). is_flagged fs k) whole.planned ∙ cleared (with_pick t pick).planned k
            ∙ sym (ap (is_flagged t.planned) same ∙ clear)
        | inr other ↦
            ap (λ (fs : List Bool). is_flagged fs u) whole.planned ∙ get_or-set_other (with_pick t pick).planned k u false false other
            ∙ planned_of t pick.vertex pick.snapshot u other
      ];
      plans = plans_of t new pick.vertex pick.snapshot clear whole.plans;
    }

there_same : (one other : List Bool) → ((u : ℕ) → is_flagged one u ≡ is_flagged other u) → (o : Option ℕ) → flag_there one o ≡ flag_there other o
there_same one other same None = refl
there_same one other same (Some k) = same k

module _ (m : Core) (tasks new : TasksView) (now : Core) (is : IsOrderly m) (room : HasOnlyMadeRoom (record m { numbers = record m.numbers { tasks = tasks } }) now) (same : HaveSameFlags m.numbers.tasks new) where
  abbrev back : Core
  back = record m { numbers = record m.numbers { tasks = new } }

  abbrev last : Core
  last = record now { numbers = record now.numbers { tasks = new } }

  room_back : HasOnlyMadeRoom back last
  room_back = record { log = room.log; locks = room.locks; out = room.out; rest = ap (λ (n : Core). record n { numbers = record n.numbers { tasks = new } }) room.rest }

  orderly_back : IsOrderly back
  orderly_back =
      let set : (u : ℕ) → flag_there new.admitted (place_at m.numbers.local u) ≡ flag_there m.numbers.tasks.admitted (place_at m.numbers.local u) = λ u. there_same new.admitted m.numbers.tasks.admitted same.admitted (place_at m.numbers.local u) in
      record {
        graph = is.graph;
        numbers = numbers_picked m.numbers new m.terms.base same.many same.outside is.numbers;
        entered = is.entered;
        locks = is.locks;
        flights = record {
          home = is.flights.home;
          given = is.flights.given;
          own = is.flights.own;
          single = is.flights.single;
          admitted = λ s c flies. set c.0 ∙ is.flights.admitted s c flies;
          flies = λ v own admitted. is.flights.flies v own (sym (set v.0) ∙ admitted);
          rows = is.flights.rows;
        };
        width = is.width;
      }

  pub refused_orderly : IsOrderly last
  refused_orderly = orderly_room nobody back last room_back orderly_back

  pub refused_part : part_of last ≡ part_of m
  refused_part = part_room back last room_back ∙ (λ i.
      record (part_of m) {
        task = λ u. there_same new.task m.numbers.tasks.task same.task (place_at m.numbers.local u) i;
        pending = λ u. there_same new.pending m.numbers.tasks.pending same.pending (place_at m.numbers.local u) i;
      })

pub can_admit : (m : Core) (pick : Pick) (v : Vertex) → IsOrderly m → KnowsPlaces m → CanTake m.numbers.tasks pick → slice_get m.by_place.items pick.vertex.0 ≡ Some v → IsNextPick m.numbers.tasks (Some pick) → flight_count m.pipe < m.terms.pipeline → CanAdmitPick m
can_admit m pick v is knows can at next few = record { pick = pick; next = next; vertex = v; place = at; may = may_pick m pick v is knows can at few; kind = pick_kind m pick v is knows can at; room = pick_room m pick v is knows can at }

-- the vertex that was read at the place of the pick
pub picked_at : (m : Core) (pick : Pick) (v : Vertex) → KnowsPlaces m → CanTake m.numbers.tasks pick → v ≡ get_or m.by_place.items pick.vertex.0 v → slice_get m.by_place.items pick.vertex.0 ≡ Some v
picked_at m pick v knows can read = slice_get_read m.by_place.items (length m.by_place.items) pick.vertex.0 v refl (subst (λ (k : ℕ). pick.vertex.0 < k) (sym knows.vertices.many) can.within) read

pub few_flights : (m : Core) (n : ℕ) → n ≡ flight_count m.pipe → n < m.terms.pipeline → flight_count m.pipe < m.terms.pipeline
few_flights m n is few = subst (λ (k : ℕ). k < m.terms.pipeline) is few
