-- A machine that has admitted a scope of a vertex that its tasks picked.
use Rattle.std.proofs.Common.{◌≡◌, ℕ, ◌<◌, ◌≤◌, Bool, true, false, Option, None, Some, is_some, List, length, get_or, slice_get, slice_set, nat_lt, refl, sym, ap, ◌∙◌, subst, ◌⊎◌, ⊎_elim, arith, inl, inr, true≢false}
use Rattle.std.specs.Option.{option_map}
use Rattle.std.proofs.lemmas.Bool.{cases_eq}
use Rattle.std.proofs.lemmas.List.{get_or-set_same, get_or-set_other}
use Rattle.std.proofs.lemmas.Option.{same_Some}
use Rattle.gl_base.specs.declared.numbers.MachineNo.{MachineNo}
use Rattle.gl_base.specs.declared.numbers.Vertex.{Vertex}
use Rattle.gl_base.specs.declared.scopes.ScopeId.{ScopeId}
use Rattle.gl_base.specs.scope_lists.Found.{by_scope}
use Rattle.gl_base.specs.scope_lists.Scopes.{is_scope}
use Rattle.gl_base.proofs.scope_lists.SameScope.{one_or_two, set_for-here, set_for-there}
use Rattle.cluster_laws.specs.cluster_core.Effects.{in_flight, next_scope}
use Rattle.local_graph.specs.Locals.{LocalView, place_at}
use Rattle.scope_locks.specs.scope_pipe.Entered.{EnteredView}
use Rattle.scope_locks.specs.scope_pipe.Pipes.{PipeView, Flies, HasAdmitted, either, entered_at, flight_at, flight_scope, is_ready, next_id}
use Rattle.scope_locks.specs.declared.scope_pipe.flights.Flight.{Flight}
use Rattle.scope_locks.specs.vertex_locks.Tables.{holder_at, queue_at}
use Rattle.task_sets.specs.task_sched.Tasks.{TasksView}
use Rattle.task_sets.specs.declared.task_sched.task_sets.Pick.{Pick}
use Rattle.partition.specs.declared.machine_numbers.keeping.Numbers.{Numbers}
use Rattle.partition.specs.machine_numbers.Views.{AreTasksOf, flag_there}
use Rattle.machine_core.specs.declared.machine_parts.cores.Core.{Core}
use Rattle.machine_core.specs.machine_parts.Parts.{part_of, is_own, admitted_here}
use Rattle.machine_core.specs.machine_parts.Order.{AreNumbersInOrder, AreFlightsInOrder, IsReadyAt, IsOrderly, KnowsPlaces, nobody}
use Rattle.machine_core.specs.machine_scopes.Admitting.{with_pick}
use Rattle.machine_core.specs.machine_scopes.Asking.{IsNewAt}
use Rattle.machine_core.specs.machine_scopes.Inner.Picking.{CanTake}
use Rattle.machine_core.proofs.machine_scopes.EffectLemmas.{flown_part}
use Rattle.machine_core.proofs.machine_scopes.KeepLemmas.{come_keeps}
use Rattle.machine_core.proofs.machine_scopes.MoveLemmas.{stands_keep}
use Rattle.machine_core.proofs.machine_scopes.PickLemmas.{flag_set, own_place, pick_place, pick_own, pick_free}

-- ---- the tasks, once the pick is admitted

pub task_stays : (t : TasksView) (pick : Pick) → (with_pick t pick).task ≡ t.task
task_stays t pick = by pick.snapshot
  where
    by : (b : Bool) → (with_pick t (record { vertex = pick.vertex; snapshot = b })).task ≡ t.task
    by true = refl
    by false = refl

pub pending_stays : (t : TasksView) (pick : Pick) → (with_pick t pick).pending ≡ t.pending
pending_stays t pick = by pick.snapshot
  where
    by : (b : Bool) → (with_pick t (record { vertex = pick.vertex; snapshot = b })).pending ≡ t.pending
    by true = refl
    by false = refl

pub outside_stays : (t : TasksView) (pick : Pick) → (with_pick t pick).outside ≡ t.outside
outside_stays t pick = by pick.snapshot
  where
    by : (b : Bool) → (with_pick t (record { vertex = pick.vertex; snapshot = b })).outside ≡ t.outside
    by true = refl
    by false = refl

pub window_stays : (t : TasksView) (pick : Pick) → (with_pick t pick).window ≡ t.window
window_stays t pick = by pick.snapshot
  where
    by : (b : Bool) → (with_pick t (record { vertex = pick.vertex; snapshot = b })).window ≡ t.window
    by true = refl
    by false = refl

pub admitted_is : (t : TasksView) (pick : Pick) → (with_pick t pick).admitted ≡ slice_set t.admitted pick.vertex.0 true
admitted_is t pick = by pick.snapshot
  where
    by : (b : Bool) → (with_pick t (record { vertex = pick.vertex; snapshot = b })).admitted ≡ slice_set t.admitted pick.vertex.0 true
    by true = refl
    by false = refl

-- tasks of the same vertices
pub tasks_same : (l : LocalView) (old new : TasksView) → length new.task ≡ length old.task → AreTasksOf l old → AreTasksOf l new
tasks_same l old new many are = record { apart = are.apart; own = λ x k at. are.own x k at ∙ ap (nat_lt k) (sym many) }

pub numbers_picked : (n : Numbers) (new : TasksView) (base : ℕ) → length new.task ≡ length n.tasks.task → new.outside ≡ n.tasks.outside → AreNumbersInOrder n base → AreNumbersInOrder (record n { tasks = new }) base
numbers_picked n new base many outside are = record {
  tasks = tasks_same n.local n.tasks new many are.tasks;
  sides = are.sides;
  ghosts = are.ghosts;
  marks = are.marks;
  outside = subst (λ (k : ℕ). k ≤ length n.log.items) (sym outside) are.outside;
}

-- ---- scopes in flight

-- a ready scope is in flight
pub ready_flies : (p : PipeView) (s : ScopeId) → is_ready p s ≡ true → is_some (flight_at p s) ≡ true
ready_flies p s = by (by_scope flight_scope p.waiting s) (by_scope flight_scope p.ready s)
  where
    by : (o q : Option Flight) → is_some q ≡ true → is_some (option_map (λ (f : Flight). f.centre) (either o q)) ≡ true
    by (Some f) q some = refl
    by None (Some f) some = refl
    by None None some = some

module _ (m : Core) (pick : Pick) (v : Vertex) (pipe : PipeView) (is : IsOrderly m) (knows : KnowsPlaces m) (can : CanTake m.numbers.tasks pick) (at : slice_get m.by_place.items pick.vertex.0 ≡ Some v) (is_new : flight_at m.pipe (next_id m.pipe) ≡ None)
    (has : HasAdmitted m.pipe pipe v) (rest : pipe ≡ record m.pipe { serial = pipe.serial; waiting = pipe.waiting }) where
  abbrev s : ScopeId
  s = next_id m.pipe

  abbrev tasks : TasksView
  tasks = with_pick m.numbers.tasks pick

  abbrev n : Numbers
  n = record m.numbers { tasks = tasks }

  home : pipe.home ≡ m.pipe.home
  home = ap (λ (p : PipeView). p.home) rest

  come : (t : ScopeId) → entered_at pipe t ≡ entered_at m.pipe t
  come t = ap (λ (p : PipeView). entered_at p t) rest

  here : flight_at pipe s ≡ Some v
  here = has.flight s ∙ set_for-here (flight_at m.pipe) s (Some v)

  there : (t : ScopeId) → is_scope t s ≡ false → flight_at pipe t ≡ flight_at m.pipe t
  there t other = has.flight t ∙ set_for-there (flight_at m.pipe) s t (Some v) other

  -- what was in flight is another one
  flew : (t : ScopeId) (c : Vertex) → flight_at m.pipe t ≡ Some c → is_scope t s ≡ false
  flew t c flies = ⊎_elim
      (λ (same : t ≡ s). absurd (true≢false (sym (ap is_some flies) ∙ ap is_some (ap (flight_at m.pipe) same ∙ is_new))))
      (λ (other : is_scope t s ≡ false). other)
      (one_or_two t s)

  -- what is in flight is this scope, or it was
  flies_or : (t : ScopeId) (c : Vertex) → flight_at pipe t ≡ Some c → ((t ≡ s) × (v ≡ c)) ⊎ (flight_at m.pipe t ≡ Some c)
  flies_or t c flies = ⊎_elim
      (λ (same : t ≡ s). inl (same, same_Some v c (sym here ∙ ap (flight_at pipe) (sym same) ∙ flies)))
      (λ (other : is_scope t s ≡ false). inr (sym (there t other) ∙ flies))
      (one_or_two t s)

  -- the new scope has not come and holds no lock
  pub not_come : entered_at m.pipe s ≡ None
  not_come = by (entered_at m.pipe s) refl
    where
      by : (o : Option EnteredView) → entered_at m.pipe s ≡ o → o ≡ None
      by None is_none = refl
      by (Some e) came = absurd (true≢false (sym (ap is_some ((is.entered s e came).flight refl)) ∙ ap is_some is_new))

  pub not_held : (x : ℕ) → is_some (holder_at m.locks x s) ≡ true → ⊥
  not_held x held = let below = is.locks.admitted s x refl held in omega arith

  -- ---- who is admitted

  flag : (u : ℕ) → admitted_here n u ≡ flag_there (slice_set m.numbers.tasks.admitted pick.vertex.0 true) (place_at m.numbers.local u)
  flag u = ap (λ (flags : List Bool). flag_there flags (place_at m.numbers.local u)) (admitted_is m.numbers.tasks pick)

  -- those that were are
  still_admitted : (u : ℕ) → is_own m.numbers.local u ≡ true → admitted_here m.numbers u ≡ true → admitted_here n u ≡ true
  still_admitted u own set =
      let place = own_place m.numbers.local u own in
      let flags = m.numbers.tasks.admitted in
      flag u ∙ ap (flag_there (slice_set flags pick.vertex.0 true)) place.1 ∙ flag_set flags pick.vertex.0 place.0 (sym (ap (flag_there flags) place.1) ∙ set)

  now_admitted : admitted_here n v.0 ≡ true
  now_admitted =
      let flags = m.numbers.tasks.admitted in
      let inside : pick.vertex.0 < length flags = subst (λ (k : ℕ). pick.vertex.0 < k) (sym knows.flags) can.within in
      flag v.0 ∙ ap (flag_there (slice_set flags pick.vertex.0 true)) (pick_place m pick v is knows can at) ∙ get_or-set_same flags pick.vertex.0 true false inside

  -- who is admitted was, or is the vertex of the new scope
  admitted_or : (u : ℕ) → is_own m.numbers.local u ≡ true → admitted_here n u ≡ true → (u ≡ v.0) ⊎ (admitted_here m.numbers u ≡ true)
  admitted_or u own set =
      let place = own_place m.numbers.local u own in
      let flags = m.numbers.tasks.admitted in
      elim (cases_eq place.0 pick.vertex.0) [
        | inl same ↦ inl (is.numbers.tasks.apart u v.0 pick.vertex.0 (place.1 ∙ ap (λ (k : ℕ). Some k) same) (pick_place m pick v is knows can at))
        | inr other ↦ inr
            (ap (flag_there flags) place.1 ∙ sym (get_or-set_other flags pick.vertex.0 place.0 true false other)
            ∙ sym (ap (flag_there (slice_set flags pick.vertex.0 true)) place.1) ∙ sym (flag u) ∙ set)
      ]

  -- ---- the machine in order

  pub flights_flown : AreFlightsInOrder n pipe
  flights_flown = record {
    home = home ∙ is.flights.home;
    given = λ t c flies. elim (flies_or t c flies) [
      | inl new ↦ (ap (λ (u : ScopeId). u.home) new.0 ∙ sym home, subst (λ (k : ℕ). t.serial < k) (sym has.serial) (let same = ap (λ (u : ScopeId). u.serial) new.0 in omega arith))
      | inr old ↦ let was = is.flights.given t c old in (was.0 ∙ sym home, subst (λ (k : ℕ). t.serial < k) (sym has.serial) (let less = was.1 in omega arith))
    ];
    own = λ t c flies. elim (flies_or t c flies) [
      | inl new ↦ subst (λ (u : Vertex). is_own m.numbers.local u.0 ≡ true) new.1 (pick_own m pick v is knows can at)
      | inr old ↦ is.flights.own t c old
    ];
    single = λ t u c one other. elim (flies_or t c one) [
      | inl new ↦ elim (flies_or u c other) [
        | inl also ↦ new.0 ∙ sym also.0
        | inr old ↦ absurd (true≢false (sym (is.flights.admitted u v (old ∙ ap (λ (w : Vertex). Some w) (sym new.1))) ∙ pick_free m pick v is knows can at))
      ]
      | inr old ↦ elim (flies_or u c other) [
        | inl new ↦ absurd (true≢false (sym (is.flights.admitted t v (old ∙ ap (λ (w : Vertex). Some w) (sym new.1))) ∙ pick_free m pick v is knows can at))
        | inr also ↦ is.flights.single t u c old also
      ]
    ];
    admitted = λ t c flies. elim (flies_or t c flies) [
      | inl new ↦ subst (λ (u : Vertex). admitted_here n u.0 ≡ true) new.1 now_admitted
      | inr old ↦ still_admitted c.0 (is.flights.own t c old) (is.flights.admitted t c old)
    ];
    flies = λ u own set. elim (admitted_or u.0 own set) [
      | inl same ↦ record { scope = s; centre = here ∙ (λ i. Some (record { 0 = sym same i })) }
      | inr old ↦ let was : Flies m.pipe u = is.flights.flies u own old in record { scope = was.scope; centre = there was.scope (flew was.scope u was.centre) ∙ was.centre }
    ];
    rows = λ u own out.
        let was : IsReadyAt m.pipe u = is.flights.rows u own out in
        record { scope = was.scope; centre = there was.scope (flew was.scope u was.centre) ∙ was.centre; ready = has.ready was.scope ∙ was.ready };
  }

  pub orderly_flown : IsOrderly (record m { numbers = n; pipe = pipe })
  orderly_flown = record {
    graph = is.graph;
    numbers = numbers_picked m.numbers tasks m.terms.base (ap length (task_stays m.numbers.tasks pick)) (outside_stays m.numbers.tasks pick) is.numbers;
    entered = λ t f came.
        let before = sym (come t) ∙ came in
        let right = is.entered t f before in
        let other : is_scope t s ≡ false = ⊎_elim
        (λ (same : t ≡ s). absurd (true≢false (sym (ap is_some (ap (entered_at m.pipe) (sym same) ∙ before)) ∙ ap is_some not_come)))
        (λ (apart : is_scope t s ≡ false). apart)
        (one_or_two t s) in
        come_keeps m.numbers.local m.pipe pipe (length m.out.machines) false false t f home (there t other) (has.ready t) (λ waits. waits) right;
    locks = record {
      owned = is.locks.owned;
      queues = λ x k d low. stands_keep m.pipe pipe nobody nobody x (get_or (queue_at m.locks x) k d) (come (get_or (queue_at m.locks x) k d).scope) refl (is.locks.queues x k d low);
      holds = λ t f j z came within. is.locks.holds t f j z (sym (come t) ∙ came) within;
      only = λ t c x flies holds. elim (flies_or t c flies) [
        | inl new ↦ absurd (not_held x (ap (λ (u : ScopeId). is_some (holder_at m.locks x u)) (sym new.0) ∙ holds))
        | inr old ↦ is.locks.only t c x old holds
      ];
      ready = λ takes t c x flies readied one.
          let was = sym (has.ready t) ∙ readied in
          elim (flies_or t c flies) [
            | inl new ↦ absurd (true≢false (sym (ready_flies m.pipe t was) ∙ ap is_some (ap (flight_at m.pipe) new.0 ∙ is_new)))
            | inr old ↦ is.locks.ready takes t c x old was one
          ];
      admitted = λ t x at_home holds. subst (λ (k : ℕ). t.serial < k) (sym has.serial) (let less = is.locks.admitted t x (at_home ∙ ap (λ (a : MachineNo). a.0) home) holds in omega arith);
    };
    flights = flights_flown;
    width = ap (λ (p : PipeView). p.width) rest ∙ is.width;
  }

  pub scope_is_new : IsNewAt (record m { numbers = n; pipe = pipe }) s v
  scope_is_new = record {
    come_not = come s ∙ not_come;
    holds_not = λ x. by (holder_at m.locks x s) (not_held x);
    flight = inr here;
    placed = ap is_some (pick_place m pick v is knows can at);
  }
    where
      by : {X : Type 0} (o : Option X) → (is_some o ≡ true → ⊥) → o ≡ None
      by None nothing = refl
      by (Some x) nothing = absurd (nothing refl)

  -- it isn't ready, since it was not in flight
  pub scope_waits : is_ready pipe s ≡ false
  scope_waits = has.ready s ∙ not_yet (is_ready m.pipe s) refl
    where
      not_yet : (b : Bool) → is_ready m.pipe s ≡ b → b ≡ false
      not_yet true readied = absurd (true≢false (sym (ready_flies m.pipe s readied) ∙ ap is_some is_new))
      not_yet false waits = refl

  -- as the cluster sees it
  pub part_flown : part_of (record m { numbers = n; pipe = pipe }) ≡ in_flight m.numbers.local.me.0 v.0 (part_of m)
  part_flown =
      let a = m.numbers.local.me.0 in
      let picked : part_of (record m { numbers = n }) ≡ part_of m = λ i.
      record (part_of m) {
        task = λ u. flag_there (task_stays m.numbers.tasks pick i) (place_at m.numbers.local u);
        pending = λ u. flag_there (pending_stays m.numbers.tasks pick i) (place_at m.numbers.local u);
      } in
      let scope : next_id m.pipe ≡ next_scope a (part_of m) = λ i. record { home = is.flights.home i; serial = m.pipe.serial } in
      flown_part (record m { numbers = n }) pipe v a has rest scope ∙ ap (in_flight a v.0) picked
