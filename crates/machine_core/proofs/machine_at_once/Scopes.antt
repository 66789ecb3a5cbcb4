-- What a machine looks at is the guard of an update at once, for every setting of which it is a part.
use Rattle.std.proofs.Common.{◌≡◌, ◌≢◌, ℕ, zero, suc, ◌+◌, ◌<◌, ◌≤◌, ◌==◌, ◌&&◌, Bool, true, false, Option, None, Some, is_some, List, [], ◌∷◌, length, get_or, slice_get, refl, sym, ap, ◌∙◌, subst, ⊎_elim, arith, inl, inr, All, true≢false}
use Rattle.std.specs.Option.{option_map}
use Rattle.std.proofs.lemmas.Bool.{cases_Bool, cases_eq, cases_lt, eq-eqb, and_from, both_ways, false_from_ne_true}
use Rattle.std.proofs.lemmas.List.{length-map}
use Rattle.std.proofs.lemmas.Option.{same_Some, slice_get-map, slice_get_within, slice_get-get_or}
use Rattle.gl_base.specs.declared.numbers.MachineNo.{MachineNo}
use Rattle.gl_base.specs.declared.numbers.Vertex.{Vertex}
use Rattle.gl_base.specs.declared.scopes.ScopeId.{ScopeId}
use Rattle.graph_core.specs.DataGraph.{size}
use Rattle.cluster_laws.specs.cluster_core.Actions.{IsItsTurn}
use Rattle.cluster_laws.specs.cluster_core.Effects.{next_scope}
use Rattle.cluster_laws.specs.cluster_core.Ranges.{all_passing}
use Rattle.cluster_laws.specs.cluster_core.Scopes.{takes_part, machines_from}
use Rattle.cluster_laws.specs.cluster_core.Settings.{Engine, Setting, IsSetting, is_in_scope}
use Rattle.cluster_laws.proofs.cluster_core.Nearness.{next_machine, no_machine, owner_takes_part, part_low, scope_within, scoped_itself}
use Rattle.cluster_laws.specs.interior_scopes.AtOnce.{HasNoClaim, IsInterior, IsUnseen}
use Rattle.cluster_laws.proofs.interior_scopes.Walking.{machines_alone}
use Rattle.partition.specs.local_parts.Parts.{IsLocalOf}
use Rattle.gl_base.specs.scope_lists.Found.{by_scope}
use Rattle.scope_locks.specs.scope_pipe.Pipes.{PipeView, either, entered_at, flight_at, flight_count, flight_scope, is_ready}
use Rattle.scope_locks.specs.declared.scope_pipe.flights.Flight.{Flight}
use Rattle.task_sets.specs.task_sched.Tasks.{is_flagged, IsNextPick, IsPicked}
use Rattle.task_sets.specs.declared.task_sched.task_sets.Pick.{Pick}
use Rattle.scope_locks.specs.vertex_locks.Locks.{IsFreeLock}
use Rattle.scope_locks.specs.vertex_locks.Tables.{holder_at, queue_at}
use Rattle.partition.specs.machine_numbers.Views.{flag_there}
use Rattle.machine_core.specs.declared.machine_parts.cores.Core.{Core}
use Rattle.machine_core.specs.machine_parts.Order.{IsOrderly, KnowsPlaces}
use Rattle.machine_core.specs.machine_parts.Parts.{LocalView, is_own, parts_at, part_at, place_at, machine_numbers, number_of, stand_at, part_of}
use Rattle.machine_core.specs.machine_scopes.Inner.Picking.{CanTake, StandInLine}
use Rattle.machine_core.proofs.machine_scopes.AdmitLemmas.{picked_at}
use Rattle.machine_core.proofs.machine_scopes.HeldLemmas.{own_in, one_of}
use Rattle.machine_core.proofs.machine_scopes.LawLemmas.{part_is, some_number}
use Rattle.machine_core.proofs.machine_scopes.PickLemmas.{can_take, free_parts, may_pick, none_may, pick_own, pick_place, pick_room}
use Rattle.machine_core.proofs.machine_updates.LeaveLemmas.{none_or}
use Rattle.machine_core.specs.declared.machine_at_once.finding.Found.{Found}
use Rattle.machine_core.specs.machine_at_once.Picks.{CanNotUpdatePick, CanUpdatePick, HasNoneAtOnce, MayAdmitNone, MayUpdateHere, MayNotUpdateHere, PicksNext}
use Rattle.machine_core.specs.machine_at_once.Inner.Finding.{IsFoundPick, IsFreeScope}

-- ---- the vertices of a scope

-- what passes stands among those that pass
passes_in : (test : ℕ → Bool) (k many x : ℕ) → k ≤ x → x < k + many → test x ≡ true → (i : ℕ) × (slice_get (all_passing test k many) i ≡ Some x)
unfolding all_passing
passes_in test k zero x low high is = absurd (omega arith)
passes_in test k (suc many) x low high is =
    ⊎_elim
    (λ (at : k ≡ x).
    let here : test k ≡ true = ap test at ∙ is in
    (0, rw here (ap Some at)))
    (λ (off : k ≢ x).
    let later = passes_in test (suc k) many x (omega arith) (omega arith) is in
    ⊎_elim
    (λ (yes : test k ≡ true). (suc later.0, rw yes later.1))
    (λ (no : test k ≡ false). (later.0, rw no later.1))
    (cases_Bool (test k)))
    (cases_eq k x)

-- an own vertex of the scope stands in the machine's list
stands : (st : Setting) → IsSetting st → (l : LocalView) (v x : ℕ) → IsLocalOf st l → v < size st.graph → is_in_scope st v x ≡ true → st.owner x ≡ l.me.0 → (i : ℕ) × (slice_get (part_at l v) i ≡ Some (record { 0 = x }))
stands st setting l v x is within scoped owned =
    let test : ℕ → Bool = λ y. is_in_scope st v y && st.owner y == l.me.0 in
    let there = passes_in test 0 (size st.graph) x (omega arith) (let low = scope_within st setting v x within scoped in omega arith) (and_from (is_in_scope st v x) (st.owner x == l.me.0) scoped (eq-eqb (st.owner x) l.me.0 owned)) in
    let number : option_map (λ (y : Vertex). y.0) (slice_get (part_at l v) there.0) ≡ Some x =
    sym (slice_get-map (λ (y : Vertex). y.0) (part_at l v) there.0) ∙ ap (λ (ns : List ℕ). slice_get ns there.0) (is.part v within) ∙ there.1 in
    (there.0, some_number (slice_get (part_at l v) there.0) x number)

-- what holds of all holds of one that stands there
all_at : (P : Vertex → Type 0) (part : List Vertex) (i : ℕ) (x : Vertex) → All P part → slice_get part i ≡ Some x → P x
all_at P part i x all at =
    let low = slice_get_within part i x at in
    subst P (same_Some (get_or part i x) x (sym (slice_get-get_or part i x low) ∙ at)) (all i x low)

-- where one machine takes part alone, who takes part is that one
alone_is : (st : Setting) → IsSetting st → (v : ℕ) (machines : List ℕ) → machines_from st v 0 ≡ machines → length machines ≡ 1 → (n : ℕ) × ((b : ℕ) → takes_part st v b ≡ true → b ≡ n)
alone_is st setting v [] is one = absurd (omega arith)
alone_is st setting v (n ∷ m ∷ rest) is one = absurd (omega arith)
alone_is st setting v (n ∷ []) is one = (n, only)
  where
    only : (b : ℕ) → takes_part st v b ≡ true → b ≡ n
    only b takes =
        let next = next_machine st v 0 n [] is in
        let high = part_low st setting v b takes in
        ⊎_elim
        (λ (below : b < n). absurd (both_ways (takes_part st v b) (next.2 b (omega arith) below) takes))
        (λ (above : n ≤ b). ⊎_elim
        (λ (past : n < b). absurd (both_ways (takes_part st v b) (no_machine st v (suc n) (sym next.3) b (omega arith) high) takes))
        (λ (same : b ≤ n). let at : b ≡ n = omega arith in at)
        (cases_lt n b))
        (cases_lt b n)

-- where the machine takes part alone in the scope of an own vertex, all its vertices are the machine's
pub interior_alone : (st : Setting) → IsSetting st → (l : LocalView) → IsLocalOf st l → (v : ℕ) → is_own l v ≡ true → length (parts_at l v) ≡ 1 → IsInterior st l.me.0 v
interior_alone st setting l local v mine one x scoped =
    let own = own_in st l v local mine in
    let alone = alone_is st setting v (machine_numbers (parts_at l v)) (sym (local.parts v mine)) (length-map (parts_at l v) (λ (a : MachineNo). a.0) ∙ one) in
    let takes : takes_part st v l.me.0 ≡ true = subst (λ (b : ℕ). takes_part st v b ≡ true) own.1 (owner_takes_part st setting v v own.0 (scoped_itself st setting v)) in
    alone.1 (st.owner x) (owner_takes_part st setting v x own.0 scoped) ∙ sym (alone.1 l.me.0 takes)

-- and the other way round
pub alone_where : (st : Setting) → IsSetting st → (l : LocalView) → IsLocalOf st l → (v : ℕ) → is_own l v ≡ true → IsInterior st l.me.0 v → length (parts_at l v) ≡ 1
alone_where st setting l local v mine interior =
    let own = own_in st l v local mine in
    sym (length-map (parts_at l v) (λ (a : MachineNo). a.0)) ∙ ap length (local.parts v mine ∙ machines_alone st setting l.me.0 v own.0 interior)

-- ---- the next scope of the machine

ready_flies : (p : PipeView) (s : ScopeId) → is_ready p s ≡ true → is_some (flight_at p s) ≡ true
ready_flies p s = by (by_scope flight_scope p.waiting s) (by_scope flight_scope p.ready s)
  where
    by : (o q : Option Flight) → is_some q ≡ true → is_some (option_map (λ (f : Flight). f.centre) (either o q)) ≡ true
    by (Some f) q some = refl
    by None (Some f) some = refl
    by None None some = some

next_unseen : (m : Core) → IsOrderly m → IsUnseen (part_of m) (next_scope m.numbers.local.me.0 (part_of m))
next_unseen m is =
    let s : ScopeId = next_scope m.numbers.local.me.0 (part_of m) in
    let home : s.home.0 ≡ m.pipe.home.0 = sym (ap (λ (a : MachineNo). a.0) is.flights.home) in
    let flown : flight_at m.pipe s ≡ None = none_or (flight_at m.pipe s) (λ c flies. let low = (is.flights.given s c flies).1 in absurd (omega arith)) in
    let come : entered_at m.pipe s ≡ None = none_or (entered_at m.pipe s) (λ e comes. true≢false (sym (ap is_some ((is.entered s e comes).flight home)) ∙ ap is_some flown)) in
    record {
      flight = ap number_of flown;
      stand = ap stand_at come;
      ready = false_from_ne_true (is_ready m.pipe s) (λ ready. true≢false (sym (ready_flies m.pipe s ready) ∙ ap is_some flown));
      holder = λ x. none_or (holder_at m.locks x s) (λ mode holds. let low = is.locks.admitted s x home (ap is_some holds) in absurd (omega arith));
    }

-- ---- it may

module _ (m : Core) (f : Found) (is : IsOrderly m) (found : IsFoundPick m f) where
  abbrev v : ℕ
  v = f.vertex.0

  task : flag_there m.numbers.tasks.task (place_at m.numbers.local v) ≡ true
  task = ap (flag_there m.numbers.tasks.task) found.waits.at ∙ (free_parts m.numbers.tasks.task m.numbers.tasks.admitted f.place.0 found.waits.free).0

  not_admitted : flag_there m.numbers.tasks.admitted (place_at m.numbers.local v) ≡ false
  not_admitted = ap (flag_there m.numbers.tasks.admitted) found.waits.at ∙ (free_parts m.numbers.tasks.task m.numbers.tasks.admitted f.place.0 found.waits.free).1

  pub may_here : MayUpdateHere m f.vertex
  may_here st setting part =
      let l = m.numbers.local in
      let own = own_in st l v part.local found.waits.own in
      let interior : IsInterior st l.me.0 v = interior_alone st setting l part.local v found.waits.own found.scope.alone in
      record {
        admit = record {
          vertex = own.0;
          owned = own.1;
          due = inr task;
          fresh = λ s flies. true≢false (sym (is.flights.admitted s f.vertex (some_number (flight_at m.pipe s) v flies)) ∙ not_admitted);
          turn = subst (λ (engine : Engine). IsItsTurn engine st.pipeline v (part_of m)) (sym part.engine) (subst (λ (k : ℕ). flight_count m.pipe < k) part.pipeline found.few);
        };
        task = task;
        not_pending = ap (flag_there m.numbers.tasks.pending) found.waits.at ∙ found.waits.quiet;
        is_new = next_unseen m is;
        interior = interior;
        unclaimed = λ locking x scoped.
            let there = stands st setting l v x part.local own.0 scoped (interior x scoped) in
            let free : IsFreeLock (holder_at m.locks x) (queue_at m.locks x) = all_at (λ (y : Vertex). IsFreeLock (holder_at m.locks y.0) (queue_at m.locks y.0)) (part_at l v) there.0 (record { 0 = x }) found.scope.free there.1 in
            record { holder = free.unheld; queue = free.none_waits };
        ticket = omega arith;
      }

pub can_update : (m : Core) (f : Found) → IsOrderly m → IsFoundPick m f → CanUpdatePick m
can_update m f is found = record { vertex = f.vertex; picked = found.picked; opened = found.waits.opened; may = may_here m f is found }

-- ---- it may not

pub claimed_not : (m : Core) (v : Vertex) → (IsFreeScope m v → ⊥) → is_own m.numbers.local v.0 ≡ true → MayNotUpdateHere m v
claimed_not m v not mine st setting part may =
    let l = m.numbers.local in
    let own = own_in st l v.0 part.local mine in
    not (record {
      alone = alone_where st setting l part.local v.0 mine may.interior;
      free = λ k d low.
          let x = get_or (part_at l v.0) k d in
          let scoped = part_is st l v.0 x.0 part.local own.0 (one_of (part_at l v.0) k x (slice_get-get_or (part_at l v.0) k d low)) in
          let none : HasNoClaim (part_of m) x.0 = may.unclaimed part.engine x.0 scoped.0 in
          record { unheld = none.holder; none_waits = none.queue };
    })

pub pending_not : (m : Core) (v : Vertex) (k : ℕ) → place_at m.numbers.local v.0 ≡ Some k → is_flagged m.numbers.tasks.pending k ≡ true → MayNotUpdateHere m v
pending_not m v k at pending st setting part may = true≢false (sym pending ∙ sym (ap (flag_there m.numbers.tasks.pending) at) ∙ may.not_pending)

pub full_not : (m : Core) (v : Vertex) → m.terms.pipeline ≤ flight_count m.pipe → MayNotUpdateHere m v
full_not m v full st setting part may =
    let turn : flight_count m.pipe < st.pipeline = subst (λ (engine : Engine). IsItsTurn engine st.pipeline v.0 (part_of m)) part.engine may.admit.turn in
    let width = part.pipeline in
    absurd (omega (arith, turn, width))

-- ---- none is admitted

pub full_none : (m : Core) → m.terms.pipeline ≤ flight_count m.pipe → MayAdmitNone m
full_none m full st part v room may =
    let turn : flight_count m.pipe < st.pipeline = subst (λ (engine : Engine). IsItsTurn engine st.pipeline v (part_of m)) part.engine may.turn in
    let width = part.pipeline in
    absurd (omega (arith, turn, width))

pub picks_none : (m : Core) → IsOrderly m → StandInLine m.numbers.tasks → IsNextPick m.numbers.tasks None → HasNoneAtOnce m
picks_none m is line next = inl (none_may m is line next)

-- ---- the pick

module _ (m : Core) (pick : Pick) (v : Vertex) (is : IsOrderly m) (knows : KnowsPlaces m) (next : IsNextPick m.numbers.tasks (Some pick)) (within : pick.vertex.0 < length m.numbers.tasks.task) (line : StandInLine m.numbers.tasks)
    (read : v ≡ get_or m.by_place.items pick.vertex.0 v) where
  can : CanTake m.numbers.tasks pick
  can = can_take m.numbers.tasks (Some pick) pick next within line next

  at : slice_get m.by_place.items pick.vertex.0 ≡ Some v
  at = picked_at m pick v knows can read

  pub own_pick : is_own m.numbers.local v.0 ≡ true
  own_pick = pick_own m pick v is knows can at

  picks : PicksNext m v
  picks = record { pick = pick; next = next; place = at }

  pub snapshot_not : pick.snapshot ≡ true → CanNotUpdatePick m
  snapshot_not snapshot = inr (v, picks, pending_not m v pick.vertex.0 (pick_place m pick v is knows can at) (can.kind ∙ snapshot))

  pub crowded_not : m.terms.pipeline ≤ flight_count m.pipe → CanNotUpdatePick m
  crowded_not full = inr (v, picks, full_not m v full)

  pub held_not : (IsFreeScope m v → ⊥) → CanNotUpdatePick m
  held_not not = inr (v, picks, claimed_not m v not own_pick)

  -- where it may not be updated at once, one is admitted or none
  refused : MayNotUpdateHere m v → HasNoneAtOnce m
  refused not = ⊎_elim
      (λ (few : flight_count m.pipe < m.terms.pipeline). inr (v, may_pick m pick v is knows can at few, not, pick_room m pick v is knows can at))
      (λ (full : m.terms.pipeline ≤ flight_count m.pipe). inl (full_none m full))
      (cases_lt (flight_count m.pipe) m.terms.pipeline)

  pub snapshot_refused : pick.snapshot ≡ true → HasNoneAtOnce m
  snapshot_refused snapshot = refused (pending_not m v pick.vertex.0 (pick_place m pick v is knows can at) (can.kind ∙ snapshot))

  pub crowded_refused : m.terms.pipeline ≤ flight_count m.pipe → HasNoneAtOnce m
  crowded_refused full = inl (full_none m full)

  pub held_refused : (IsFreeScope m v → ⊥) → HasNoneAtOnce m
  held_refused not = refused (claimed_not m v not own_pick)

  pub found_pick : pick.snapshot ≡ false → flight_count m.pipe < m.terms.pipeline → IsFreeScope m v → IsFoundPick m (record { place = pick.vertex; vertex = v })
  found_pick update few scope =
      let task : IsPicked m.numbers.tasks false pick.vertex = subst (λ (b : Bool). IsPicked m.numbers.tasks b pick.vertex) update next in
      record {
        picked = picks;
        waits = record {
          at = pick_place m pick v is knows can at;
          own = own_pick;
          within = within;
          among = subst (λ (k : ℕ). pick.vertex.0 < k) (sym knows.flags) within;
          free = task.2;
          quiet = can.kind ∙ update;
          opened = task.1;
        };
        few = few;
        scope = scope;
      }
