-- What the tasks pick, and when a scope may be admitted.
use Rattle.std.proofs.Common.{◌≡◌, ◌⊎◌, ℕ, zero, suc, ◌<◌, ◌==◌, Bool, true, false, not, Option, None, Some, is_some, IfSome, List, [], ◌∷◌, length, slice_get, slice_set, refl, sym, ap, ◌∙◌, subst, ⊎_elim, arith, inl, inr, true≢false}
use Rattle.std.specs.List.{list_any}
use Rattle.std.proofs.lemmas.Bool.{cases_Bool, cases_eq, lt-ltb, and_parts, and_from}
use Rattle.std.proofs.lemmas.List.{get_or-set_same, get_or-set_other}
use Rattle.std.proofs.lemmas.Option.{same_Some}
use Rattle.gl_base.specs.declared.numbers.Vertex.{Vertex}
use Rattle.cluster_laws.specs.cluster_core.Actions.{IsItsTurn}
use Rattle.cluster_laws.specs.cluster_core.Settings.{Engine}
use Rattle.local_graph.specs.Locals.{LocalView, got_at, is_own, place_at}
use Rattle.scope_locks.specs.scope_pipe.Pipes.{Flies, flight_at, flight_count}
use Rattle.task_sets.specs.task_sched.Tasks.{TasksView, is_flagged, is_free, is_open, IsPicked, IsNextPick}
use Rattle.task_sets.specs.declared.task_sched.task_sets.Pick.{Pick}
use Rattle.partition.specs.machine_numbers.Views.{flag_there, task_here}
use Rattle.machine_core.specs.declared.machine_parts.cores.Core.{Core}
use Rattle.machine_core.specs.machine_parts.Parts.{part_of, admitted_here, pending_here, number_of}
use Rattle.machine_core.specs.machine_parts.Order.{IsOrderly, KnowsPlaces}
use Rattle.machine_core.specs.machine_scopes.Admitting.{MayAdmitNone, MayAdmitVertex}
use Rattle.machine_core.specs.machine_scopes.Inner.Picking.{CanTake, StandInLine}
use Rattle.machine_core.proofs.machine_scopes.HeldLemmas.{one_of, own_in, own_from_setting}
use Rattle.machine_core.proofs.machine_scopes.LawLemmas.{some_number}

-- ---- flags

-- a flag that is set stands in the list
pub flag_inside : (flags : List Bool) (u : ℕ) → is_flagged flags u ≡ true → u < length flags
flag_inside [] u set = absurd (true≢false (sym set))
flag_inside (f ∷ flags) zero set = omega arith
flag_inside (f ∷ flags) (suc u) set = omega (arith, flag_inside flags u set)

-- a flag that is set anew
pub flag_set : (flags : List Bool) (v u : ℕ) → is_flagged flags u ≡ true → is_flagged (slice_set flags v true) u ≡ true
flag_set flags v u set = elim (cases_eq u v) [
  | inl same ↦ ap (is_flagged (slice_set flags v true)) same ∙ get_or-set_same flags v true false (subst (λ (k : ℕ). k < length flags) same (flag_inside flags u set))
  | inr other ↦ get_or-set_other flags v u true false other ∙ set
]

pub free_parts : (flags admitted : List Bool) (u : ℕ) → is_free flags admitted u ≡ true → (is_flagged flags u ≡ true) × (is_flagged admitted u ≡ false)
free_parts flags admitted u free =
    let both = and_parts (is_flagged flags u) (not (is_flagged admitted u)) free in
    (both.0, clear (is_flagged admitted u) both.1)
  where
    clear : (b : Bool) → not b ≡ true → b ≡ false
    clear true is = sym is
    clear false is = refl

pub free_from : (flags admitted : List Bool) (u : ℕ) → is_flagged flags u ≡ true → is_flagged admitted u ≡ false → is_free flags admitted u ≡ true
free_from flags admitted u set clear = and_from (is_flagged flags u) (not (is_flagged admitted u)) set (ap not clear)

-- ---- what is picked

none_first : (asked : List Vertex) (v : Vertex) → asked ≡ [] → slice_get asked 0 ≡ Some v → ⊥
none_first asked v none first = true≢false (sym (ap is_some first) ∙ ap is_some (ap (λ (vs : List Vertex). slice_get vs 0) none))

-- where the pick of a pending vertex is
pending_within : (t : TasksView) (looked : Option Pick) (v : Vertex) → IsNextPick t looked → IfSome looked (λ pick. pick.vertex.0 < length t.task) → slice_get t.asked 0 ≡ Some v → v.0 < length t.task
pending_within t None v next low first = absurd (none_first t.asked v next.0 first)
pending_within t (Some pick) v next low first = by pick.snapshot next
  where
    by : (b : Bool) → IsPicked t b pick.vertex → v.0 < length t.task
    by true is = subst (λ (w : Vertex). w.0 < length t.task) (same_Some pick.vertex v (sym is ∙ first)) low
    by false is = absurd (none_first t.asked v is.0 first)

pub can_take : (t : TasksView) (looked : Option Pick) (pick : Pick) → IsNextPick t looked → IfSome looked (λ pick. pick.vertex.0 < length t.task) → StandInLine t → IsNextPick t (Some pick) → CanTake t pick
can_take t looked pick seen low line next = by pick.snapshot next
  where
    by : (b : Bool) → IsPicked t b pick.vertex → CanTake t (record { vertex = pick.vertex; snapshot = b })
    by true first =
        let v = pick.vertex in
        let parts = free_parts t.pending t.admitted v.0 (sym (line v.0) ∙ one_of t.asked 0 v first) in
        record { within = pending_within t looked v seen low first; free = parts.1; due = inl parts.0; kind = parts.0; room = inl parts.0 }
    by false is =
        let v = pick.vertex in
        let parts = free_parts t.task t.admitted v.0 is.2 in
        let not_free : is_free t.pending t.admitted v.0 ≡ false = sym (line v.0) ∙ ap (λ (vs : List Vertex). list_any (λ (w : Vertex). w.0 == v.0) vs) is.0 in
        record {
          within = flag_inside t.task v.0 parts.0;
          free = parts.1;
          due = inr parts.0;
          room = inr is.1;
          kind = ⊎_elim
              (λ (set : is_flagged t.pending v.0 ≡ true). absurd (true≢false (sym (free_from t.pending t.admitted v.0 set parts.1) ∙ not_free)))
              (λ (clear : is_flagged t.pending v.0 ≡ false). clear)
              (cases_Bool (is_flagged t.pending v.0));
        }

-- ---- when a scope may be admitted

some_place : (o : Option ℕ) → is_some o ≡ true → (k : ℕ) × (o ≡ Some k)
some_place None is = absurd (true≢false (sym is))
some_place (Some k) is = (k, refl)

-- an own vertex has a place
pub own_place : (l : LocalView) (v : ℕ) → is_own l v ≡ true → (k : ℕ) × (place_at l v ≡ Some k)
own_place l v own = by (place_at l v) own
  where
    by : (o : Option ℕ) → is_some (got_at l.kept o) ≡ true → (k : ℕ) × (o ≡ Some k)
    by None is = absurd (true≢false (sym is))
    by (Some k) is = (k, refl)

pub none_may : (m : Core) → IsOrderly m → StandInLine m.numbers.tasks → IsNextPick m.numbers.tasks None → MayAdmitNone m
none_may m is line next st part v room may =
    let n = m.numbers in
    let t = n.tasks in
    let own = own_from_setting st n.local v part.local may.vertex may.owned in
    let place = own_place n.local v own in
    let k = place.0 in
    let at : (flags : List Bool) → flag_there flags (place_at n.local v) ≡ is_flagged flags k = λ flags. ap (flag_there flags) place.1 in
    let free : is_flagged t.admitted k ≡ false = ⊎_elim
    (λ (set : is_flagged t.admitted k ≡ true).
    let flown : Flies m.pipe (record { 0 = v }) = is.flights.flies (record { 0 = v }) own (at t.admitted ∙ set) in
    absurd (may.fresh flown.scope (ap number_of flown.centre)))
    (λ (clear : is_flagged t.admitted k ≡ false). clear)
    (cases_Bool (is_flagged t.admitted k)) in
    let asks : pending_here n v ≡ true → ⊥ = λ pending.
    true≢false (sym (free_from t.pending t.admitted k (sym (at t.pending) ∙ pending) free) ∙ sym (line k) ∙ ap (λ (vs : List Vertex). list_any (λ (w : Vertex). w.0 == k) vs) next.0) in
    ⊎_elim asks
    (λ (task : task_here n v ≡ true).
    ⊎_elim asks
    (λ (opened : is_open t ≡ true). true≢false (sym (free_from t.task t.admitted k (sym (at t.task) ∙ task) free) ∙ next.1 opened k))
    room)
    may.due

module _ (m : Core) (pick : Pick) (v : Vertex) (is : IsOrderly m) (knows : KnowsPlaces m) (can : CanTake m.numbers.tasks pick) (at : slice_get m.by_place.items pick.vertex.0 ≡ Some v) where
  pub pick_place : place_at m.numbers.local v.0 ≡ Some pick.vertex.0
  pick_place = knows.vertices.place pick.vertex.0 v at

  pub pick_own : is_own m.numbers.local v.0 ≡ true
  pick_own = is.numbers.tasks.own v.0 pick.vertex.0 pick_place ∙ lt-ltb pick.vertex.0 (length m.numbers.tasks.task) can.within

  pub pick_free : admitted_here m.numbers v.0 ≡ false
  pick_free = ap (flag_there m.numbers.tasks.admitted) pick_place ∙ can.free

  pub may_pick : flight_count m.pipe < m.terms.pipeline → MayAdmitVertex m v.0
  may_pick few st part =
      let own = own_in st m.numbers.local v.0 part.local pick_own in
      record {
        vertex = own.0;
        owned = own.1;
        due = ⊎_elim
            (λ (set : is_flagged m.numbers.tasks.pending pick.vertex.0 ≡ true). inl (ap (flag_there m.numbers.tasks.pending) pick_place ∙ set))
            (λ (set : is_flagged m.numbers.tasks.task pick.vertex.0 ≡ true). inr (ap (flag_there m.numbers.tasks.task) pick_place ∙ set))
            can.due;
        fresh = λ s flies. true≢false (sym (is.flights.admitted s v (some_number (flight_at m.pipe s) v.0 flies)) ∙ pick_free);
        turn = subst (λ (engine : Engine). IsItsTurn engine st.pipeline v.0 (part_of m)) (sym part.engine) (subst (λ (k : ℕ). flight_count m.pipe < k) part.pipeline few);
      }

  pub pick_kind : pending_here m.numbers v.0 ≡ pick.snapshot
  pick_kind = ap (flag_there m.numbers.tasks.pending) pick_place ∙ can.kind

  pub pick_room : (pending_here m.numbers v.0 ≡ true) ⊎ (is_open m.numbers.tasks ≡ true)
  pick_room = ⊎_elim
      (λ (set : is_flagged m.numbers.tasks.pending pick.vertex.0 ≡ true). inl (ap (flag_there m.numbers.tasks.pending) pick_place ∙ set))
      (λ (opened : is_open m.numbers.tasks ≡ true). inr opened)
      can.room
