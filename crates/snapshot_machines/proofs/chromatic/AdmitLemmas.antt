-- Who is admitted in a step, and when a machine's share of it is done.
use Rattle.std.proofs.Common.{◌≡◌, ◌≢◌, ◌⊎◌, ℕ, ◌+◌, ◌<◌, ◌==◌, ◌&&◌, ◌||◌, not, Bool, true, false, true≢false, Option, None, Some, is_some, List, [], ◌∷◌, length, set, get_or, refl, sym, ap, ◌∙◌, subst, arith, inl, inr}
use Rattle.std.specs.Prelude.{IfNone, IfSome, is_none, slice_get}
use Rattle.std.specs.Option.{option_map}
use Rattle.std.proofs.Math.Bool.{or-true}
use Rattle.std.proofs.lemmas.Bool.{and_from, and_parts, cases_eq, eq-eqb, eqb-true, false_from_ne_true, ltb-true, ne_eqb, or_cases}
use Rattle.std.proofs.lemmas.List.{get_or-set_other, get_or-set_same}
use Rattle.std.proofs.lemmas.Option.{slice_get-get_or, slice_get_within}
use Rattle.gl_base.specs.declared.numbers.Vertex.{Vertex}
use Rattle.gl_base.specs.declared.scopes.ScopeId.{ScopeId}
use Rattle.graph_core.specs.DataGraph.{size}
use Rattle.cluster_laws.specs.cluster_core.Actions.{IsItsTurn, MayAdmit}
use Rattle.cluster_laws.specs.cluster_core.Effects.{admitted_by}
use Rattle.cluster_laws.specs.cluster_core.Ranges.{first_passing}
use Rattle.cluster_laws.specs.cluster_core.Scopes.{is_found}
use Rattle.cluster_laws.specs.cluster_core.Settings.{Engine}
use Rattle.cluster_laws.proofs.cluster_core.Basics.{first_passing-some}
use Rattle.cluster_laws.specs.cluster_model.Machines.{Machine}
use Rattle.cluster_laws.specs.cluster_model.Working.{has_room, is_done, is_offered}
use Rattle.partition.proofs.local_parts.FoundLemmas.{found_first}
use Rattle.partition.specs.machine_numbers.Views.{flag_there, is_flagged, place_at}
use Rattle.machine_core.specs.machine_parts.Parts.{admitted_here, flight_at, is_own, number_of, pending_here, task_here}
use Rattle.machine_core.specs.machine_scopes.Admitting.{with_pick}
use Rattle.machine_core.proofs.machine_scopes.HeldLemmas.{own_from_setting}
use Rattle.machine_core.proofs.machine_scopes.PickLemmas.{own_place}
use Rattle.scope_locks.specs.declared.scope_pipe.flights.Flight.{Flight}
use Rattle.scope_locks.specs.scope_pipe.Pipes.{either, flight_count, flight_scope}
use Rattle.gl_base.specs.scope_lists.Found.{by_scope}
use Rattle.machine_core.specs.step_scopes.Admitting.{HasAdmittedInStep, IsAdmittedThere, in_flight_ready}
use Rattle.task_sets.specs.task_sched.Tasks.{TasksView, is_open}
use Rattle.task_sets.specs.declared.task_sched.task_sets.Pick.{Pick}
use Rattle.machine_core.specs.color_parts.Enlisting.{is_such, is_free_such}
use Rattle.machine_core.specs.declared.color_parts.enlisting.Which.{Which}
use Rattle.machine_core.specs.declared.color_parts.enlisting.Which.TheVariants.{Pending, Tasks}
use Rattle.machine_core.specs.color_parts.Parts.{HasColour, LinesView, is_in_line}
use Rattle.snapshot_machines.specs.chromatic.Admitting.{CanAdmitByColour, HasAdmittedByColour, MayAdmitNoneByColour, MayAdmitNonePending}
use Rattle.snapshot_machines.specs.chromatic.Machines.{ColorSnapView, IsColorSnapPart, IsOrderly, KnowsPlaces, Part, Setting, SnapMachineView, part_of, part_of_steps, with_locking, with_snaps}
use Rattle.snapshot_machines.specs.chromatic.Steps.{HasShareDone}
use Rattle.snapshot_machines.specs.chromatic.Inner.Keeping.{AreBothInLine, AreJustInLine, IsWithoutLocks, seen_in_steps}
use Rattle.snapshot_machines.specs.chromatic.Inner.Picking.{IsDueInStep, IsNoneDueInStep, WaitsNonePending}
use Rattle.snapshot_machines.proofs.chromatic.FreeLemmas.{flown_free}
use Rattle.snapshot_machines.proofs.chromatic.KeepLemmas.{own_low}
use Rattle.snapshot_machines.proofs.chromatic.LineLemmas.{due_from, due_parts}

some_is : (a b : ℕ) → Some a ≡ Some b → a ≡ b
some_is a b e = cc

some_vertex : (a b : Vertex) → Some a ≡ Some b → a ≡ b
some_vertex a b e = cc

none_some : (v : Vertex) → None ≡ Some v → ⊥
none_some v e = cc

-- ---- who is due, from the lines

module _ {P : Type 0} (x : ColorSnapView P) (lines asked : LinesView) (are : AreBothInLine x.core.numbers.tasks lines asked) (same : x.colours ≡ lines.colours) where
  -- who has a colour stands at a place
  within : (k : ℕ) → slice_get lines.colours k ≡ Some x.colour → k < length x.core.numbers.tasks.task
  within k at = let low = slice_get_within lines.colours k x.colour at in let many = are.many in omega (arith, low, many)

  pub first_pending : (v : Vertex) → is_in_line asked v.0 ≡ true → HasColour asked v.0 x.colour → IsDueInStep x (record { vertex = v; snapshot = true })
  first_pending v stands colour =
      let here : slice_get lines.colours v.0 ≡ Some x.colour = ap (λ (cs : List ℕ). slice_get cs v.0) (sym are.colours) ∙ colour in
      let low = within v.0 here in
      let parts = due_parts Pending x.core.numbers.tasks v.0 (sym (are.pending v.0 low) ∙ stands) in
      record { can = record { within = low; free = parts.1; due = inl parts.0; kind = parts.0; room = inl parts.0 }; colour = ap (λ (cs : List ℕ). slice_get cs v.0) same ∙ here; behind = λ is_so. absurd (true≢false is_so) }

  none_asked : ((u : ℕ) → HasColour asked u x.colour → is_in_line asked u ≡ false) → (k : ℕ) → k < length x.core.numbers.tasks.task → slice_get x.colours k ≡ Some x.colour → is_free_such Pending x.core.numbers.tasks k ≡ false
  none_asked none k low at = sym (are.pending k low) ∙ none k (ap (λ (cs : List ℕ). slice_get cs k) (are.colours ∙ sym same) ∙ at)

  pub first_task : (v : Vertex) → ((u : ℕ) → HasColour asked u x.colour → is_in_line asked u ≡ false) → is_open x.core.numbers.tasks ≡ true → is_in_line lines v.0 ≡ true → HasColour lines v.0 x.colour → IsDueInStep x (record { vertex = v; snapshot = false })
  first_task v none room stands colour =
      let low = within v.0 colour in
      let here : slice_get x.colours v.0 ≡ Some x.colour = ap (λ (cs : List ℕ). slice_get cs v.0) same ∙ colour in
      let parts = due_parts Tasks x.core.numbers.tasks v.0 (sym (are.tasks v.0 low) ∙ stands) in
      let not_pending : is_flagged x.core.numbers.tasks.pending v.0 ≡ false =
      false_from_ne_true (is_flagged x.core.numbers.tasks.pending v.0) (λ flag. true≢false (sym (due_from Pending x.core.numbers.tasks v.0 flag parts.1) ∙ none_asked none v.0 low here)) in
      record { can = record { within = low; free = parts.1; due = inr parts.0; kind = not_pending; room = inr room }; colour = here; behind = λ is_so. none_asked none }

  pub none_without_room : ((u : ℕ) → HasColour asked u x.colour → is_in_line asked u ≡ false) → is_open x.core.numbers.tasks ≡ false → IsNoneDueInStep x
  none_without_room none room = record { pending = none_asked none; tasks = λ is_so. absurd (true≢false (sym is_so ∙ room)) }

  pub none_in_either : ((u : ℕ) → HasColour asked u x.colour → is_in_line asked u ≡ false) → ((u : ℕ) → HasColour lines u x.colour → is_in_line lines u ≡ false) → IsNoneDueInStep x
  none_in_either none neither =
      record { pending = none_asked none; tasks = λ room k low at. sym (are.tasks k low) ∙ neither k (ap (λ (cs : List ℕ). slice_get cs k) (sym same) ∙ at) }

-- ---- where the step is closed

pub share_closed : {P : Type 0} (x : ColorSnapView P) → x.closed ≡ true → HasShareDone x true
share_closed x closed st m is part room =
    ap (λ (e : Engine). is_done e st x.core.numbers.local.me.0 m) is.engine.chromatic
    ∙ ap (λ (b : Bool). b || (m.part.flying == 0 && is_none (first_passing (is_offered st is.engine.colour x.core.numbers.local.me.0 m) 0 (size st.graph)))) (ap (λ (p : Part). p.closed) part ∙ closed)

-- ---- who is due, in the law

module _ {P : Type 0} (x : ColorSnapView P) (orderly : IsOrderly x.core) (places : KnowsPlaces x.core) where
  abbrev t : TasksView
  t = x.core.numbers.tasks

  -- nobody has a scope in flight who isn't admitted
  unflown : (v k : ℕ) → place_at x.core.numbers.local v ≡ Some k → is_flagged t.admitted k ≡ false → (s : ScopeId) → (part_of_steps x).flight s ≢ Some v
  unflown v k at clear s flies =
      let c = centre (flight_at x.core.pipe s) flies in
      let here : admitted_here x.core.numbers c.0.0 ≡ true = orderly.flights.admitted s c.0 c.1 in
      true≢false (sym here ∙ ap (flag_there t.admitted) (ap (place_at x.core.numbers.local) c.2 ∙ at) ∙ clear)
    where
      centre : (o : Option Vertex) → number_of o ≡ Some v → (c : Vertex) × (o ≡ Some c) × (c.0 ≡ v)
      centre None is = absurd (none_number is)
        where
          none_number : None ≡ Some v → ⊥
          none_number e = cc
      centre (Some c) is = (c, refl, some_is c.0 v is)

  -- who has none in flight isn't admitted
  clear_where : (v : Vertex) (k : ℕ) → is_own x.core.numbers.local v.0 ≡ true → place_at x.core.numbers.local v.0 ≡ Some k → ((s : ScopeId) → flight_at x.core.pipe s ≢ Some v) → is_flagged t.admitted k ≡ false
  clear_where v k own at none =
      false_from_ne_true (is_flagged t.admitted k) (λ flag. let flies = orderly.flights.flies v own (ap (flag_there t.admitted) at ∙ flag) in none flies.scope flies.centre)

  module _ (st : Setting) (is : IsColorSnapPart st x) where
    -- where an own vertex stands, and its colour
    at_home : (v : ℕ) → v < size st.graph → st.owner v ≡ x.core.numbers.local.me.0
        → (k : ℕ) × (place_at x.core.numbers.local v ≡ Some k) × (k < length t.task) × (slice_get x.colours k ≡ Some (is.engine.colour v)) × (is_own x.core.numbers.local v ≡ true)
    at_home v low mine =
        let own : is_own x.core.numbers.local v ≡ true = own_from_setting (with_locking st) x.core.numbers.local v is.part.local low mine in
        let at = own_place x.core.numbers.local v own in
        let inside : at.0 < length t.task = ltb-true at.0 (length t.task) (sym (orderly.numbers.tasks.own v at.0 at.1) ∙ own) in
        let long = places.vertices.many in
        let w = get_or x.core.by_place.items at.0 (record { 0 = 0 }) in
        let stands : slice_get x.core.by_place.items at.0 ≡ Some w = slice_get-get_or x.core.by_place.items at.0 (record { 0 = 0 }) (omega (arith, inside, long)) in
        let same : w.0 ≡ v = orderly.numbers.tasks.apart w.0 v at.0 (places.vertices.place at.0 w stands) at.1 in
        (at.0, at.1, inside, is.engine.here at.0 w stands ∙ ap (λ (u : ℕ). Some (is.engine.colour u)) same, own)

    -- nobody who is pending is offered where none waits
    none_pending_offered : WaitsNonePending x → (v k : ℕ) → place_at x.core.numbers.local v ≡ Some k → k < length t.task → slice_get x.colours k ≡ Some x.colour → is_flagged t.admitted k ≡ false → pending_here x.core.numbers v ≡ true → ⊥
    none_pending_offered none v k at low colour clear pending = true≢false (sym (due_from Pending t k (sym (ap (flag_there t.pending) at) ∙ pending) clear) ∙ none k low colour)

    -- nobody who is due is offered where none is
    none_offered : IsNoneDueInStep x → (v k : ℕ) → place_at x.core.numbers.local v ≡ Some k → k < length t.task → slice_get x.colours k ≡ Some x.colour → is_flagged t.admitted k ≡ false
        → (pending_here x.core.numbers v ≡ true) ⊎ ((task_here x.core.numbers v ≡ true) × (is_open t ≡ true)) → ⊥
    none_offered none v k at low colour clear due = elim due [
      | inl pending ↦ none_pending_offered none.pending v k at low colour clear pending
      | inr both ↦ true≢false (sym (due_from Tasks t k (sym (ap (flag_there t.task) at) ∙ both.0) clear) ∙ none.tasks both.1 k low colour)
    ]

    turn_of : (v : ℕ) → IsItsTurn st.engine st.pipeline v (part_of_steps x) → (is.engine.colour v ≡ x.colour) × (x.closed ≡ false)
    turn_of v turn = subst (λ (e : Engine). IsItsTurn e st.pipeline v (part_of_steps x)) is.engine.chromatic turn

    may_not_admit : IsNoneDueInStep x → (v : ℕ) → (pending_here x.core.numbers v ≡ true) ⊎ (is_open t ≡ true) → MayAdmit st x.core.numbers.local.me.0 v (part_of_steps x) → ⊥
    may_not_admit none v room may =
        let at = at_home v may.vertex may.owned in
        let clear = clear_where (record { 0 = v }) at.0 at.4 at.1 (λ s flies. may.fresh s (ap number_of flies)) in
        none_offered none v at.0 at.1 at.2 (at.3 ∙ ap Some (turn_of v may.turn).0) clear
        (elim may.due [
          | inl pending ↦ inl pending
          | inr task ↦ elim room [ inl pending ↦ inl pending | inr is_so ↦ inr (task, is_so) ]
        ])

    may_not_admit_pending : WaitsNonePending x → (v : ℕ) → pending_here x.core.numbers v ≡ true → MayAdmit st x.core.numbers.local.me.0 v (part_of_steps x) → ⊥
    may_not_admit_pending none v pending may =
        let at = at_home v may.vertex may.owned in
        let clear = clear_where (record { 0 = v }) at.0 at.4 at.1 (λ s flies. may.fresh s (ap number_of flies)) in
        none_pending_offered none v at.0 at.1 at.2 (at.3 ∙ ap Some (turn_of v may.turn).0) clear pending

    -- who is due may be admitted
    due_colour : (pick : Pick) → IsDueInStep x pick → (v : Vertex) → slice_get x.core.by_place.items pick.vertex.0 ≡ Some v → is.engine.colour v.0 ≡ x.colour
    due_colour pick due v at = some_is (is.engine.colour v.0) x.colour (sym (is.engine.here pick.vertex.0 v at) ∙ due.colour)

    pub may_admit : x.closed ≡ false → (pick : Pick) → IsDueInStep x pick → (v : Vertex) → slice_get x.core.by_place.items pick.vertex.0 ≡ Some v → MayAdmit st x.core.numbers.local.me.0 v.0 (part_of_steps x)
    may_admit goes_on pick due v at =
        let here = places.vertices.place pick.vertex.0 v at in
        let low = own_low (with_locking st) x.core v.0 pick.vertex.0 orderly is.part here due.can.within in
        record {
          vertex = low.1;
          owned = eqb-true (st.owner v.0) x.core.numbers.local.me.0 low.2;
          due = elim due.can.due [ inl flag ↦ inl (ap (flag_there t.pending) here ∙ flag) | inr flag ↦ inr (ap (flag_there t.task) here ∙ flag) ];
          fresh = unflown v.0 pick.vertex.0 here due.can.free;
          turn = subst (λ (e : Engine). IsItsTurn e st.pipeline v.0 (part_of_steps x)) (sym is.engine.chromatic) (due_colour pick due v at, goes_on);
        }

    -- ---- the machine's share of the step

    module _ (m : Machine) (part : m.part ≡ part_of_steps x) (room : has_room st m ≡ is_open t) where
      abbrev offered : ℕ → Bool
      offered = is_offered st is.engine.colour x.core.numbers.local.me.0 m

      abbrev share : Bool
      share = m.part.closed || (m.part.flying == 0 && is_none (first_passing offered 0 (size st.graph)))

      share_is : is_done st.engine st x.core.numbers.local.me.0 m ≡ share
      share_is = ap (λ (e : Engine). is_done e st x.core.numbers.local.me.0 m) is.engine.chromatic

      share_open : x.closed ≡ false → share ≡ (m.part.flying == 0 && is_none (first_passing offered 0 (size st.graph)))
      share_open closed = ap (λ (b : Bool). b || (m.part.flying == 0 && is_none (first_passing offered 0 (size st.graph)))) (ap (λ (p : Part). p.closed) part ∙ closed)

      undone_flying : x.closed ≡ false → 0 < flight_count x.core.pipe → is_done st.engine st x.core.numbers.local.me.0 m ≡ false
      undone_flying closed some =
          let count : m.part.flying ≡ flight_count x.core.pipe = ap (λ (p : Part). p.flying) part in
          let none : (m.part.flying == 0) ≡ false = ne_eqb m.part.flying 0 (λ same. omega (arith, some, count, same)) in
          share_is ∙ share_open closed ∙ ap (λ (b : Bool). b && is_none (first_passing offered 0 (size st.graph))) none

      still : x.closed ≡ false → flight_count x.core.pipe ≡ 0 → is_done st.engine st x.core.numbers.local.me.0 m ≡ is_none (first_passing offered 0 (size st.graph))
      still closed none =
          share_is ∙ share_open closed
          ∙ ap (λ (b : Bool). b && is_none (first_passing offered 0 (size st.graph))) (eq-eqb m.part.flying 0 (ap (λ (p : Part). p.flying) part ∙ none))

      -- what is offered, as the machine has it
      offered_is : (v : ℕ) → offered v ≡ ((st.owner v == x.core.numbers.local.me.0 && is.engine.colour v == x.colour) && (pending_here x.core.numbers v || (task_here x.core.numbers v && is_open t)))
      offered_is v = (λ i. (st.owner v == x.core.numbers.local.me.0 && is.engine.colour v == (part i).colour) && ((part i).pending v || ((part i).task v && room i)))

      undone_due : x.closed ≡ false → flight_count x.core.pipe ≡ 0 → (pick : Pick) → IsDueInStep x pick → is_done st.engine st x.core.numbers.local.me.0 m ≡ false
      undone_due closed none pick due =
          let long = places.vertices.many in
          let inside = due.can.within in
          let v = get_or x.core.by_place.items pick.vertex.0 (record { 0 = 0 }) in
          let at : slice_get x.core.by_place.items pick.vertex.0 ≡ Some v = slice_get-get_or x.core.by_place.items pick.vertex.0 (record { 0 = 0 }) (omega (arith, inside, long)) in
          let here = places.vertices.place pick.vertex.0 v at in
          let low = own_low (with_locking st) x.core v.0 pick.vertex.0 orderly is.part here inside in
          let below = low.1 in
          let waits : (pending_here x.core.numbers v.0 || (task_here x.core.numbers v.0 && is_open t)) ≡ true =
          elim due.can.room [
            | inl flag ↦ ap (λ (b : Bool). b || (task_here x.core.numbers v.0 && is_open t)) (ap (flag_there t.pending) here ∙ flag)
            | inr is_so ↦
                elim due.can.due [
                  | inl flag ↦ ap (λ (b : Bool). b || (task_here x.core.numbers v.0 && is_open t)) (ap (flag_there t.pending) here ∙ flag)
                  | inr flag ↦ ap (λ (b : Bool). pending_here x.core.numbers v.0 || b) (and_from (task_here x.core.numbers v.0) (is_open t) (ap (flag_there t.task) here ∙ flag) is_so) ∙ or-true (pending_here x.core.numbers v.0)
                ]
          ] in
          let is_one : offered v.0 ≡ true =
          offered_is v.0
          ∙ and_from (st.owner v.0 == x.core.numbers.local.me.0 && is.engine.colour v.0 == x.colour) (pending_here x.core.numbers v.0 || (task_here x.core.numbers v.0 && is_open t))
          (and_from (st.owner v.0 == x.core.numbers.local.me.0) (is.engine.colour v.0 == x.colour) low.2 (eq-eqb (is.engine.colour v.0) x.colour (due_colour pick due v at))) waits in
          still closed none ∙ some_found (first_passing offered 0 (size st.graph)) (found_first offered 0 (size st.graph) v.0 (omega arith) (omega (arith, below)) is_one)
        where
          some_found : (o : Option ℕ) → is_found o ≡ true → is_none o ≡ false
          some_found None found = sym found
          some_found (Some u) found = refl

      done_none : x.closed ≡ false → flight_count x.core.pipe ≡ 0 → IsNoneDueInStep x → is_done st.engine st x.core.numbers.local.me.0 m ≡ true
      done_none closed none nobody =
          still closed none ∙ ap is_none (none_passing offered (size st.graph) (λ v low. false_from_ne_true (offered v) (λ is_one. not_offered v low (sym (offered_is v) ∙ is_one))))
        where
          none_passing : (test : ℕ → Bool) (n : ℕ) → ((v : ℕ) → v < n → test v ≡ false) → first_passing test 0 n ≡ None
          none_passing test n fails = by (first_passing test 0 n) refl
            where
              by : (o : Option ℕ) → first_passing test 0 n ≡ o → first_passing test 0 n ≡ None
              by None at = at
              by (Some v) at = absurd (passes v at)
                where
                  passes : (v : ℕ) → first_passing test 0 n ≡ Some v → ⊥
                  passes v at = let some = first_passing-some test 0 n v at in let low = some.1 in true≢false (sym some.2 ∙ fails v (omega (arith, low)))

          quiet : (s : ScopeId) (v : Vertex) → flight_at x.core.pipe s ≢ Some v
          quiet s v flies =
              none_some v (sym (empty x.core.pipe.waiting x.core.pipe.ready none) ∙ flies)
            where
              empty : (waiting ready : List Flight) → length waiting + length ready ≡ 0 → option_map (λ (f : Flight). f.centre) (either (by_scope flight_scope waiting s) (by_scope flight_scope ready s)) ≡ None
              empty [] [] zero_is = refl
              empty [] (f ∷ ready) zero_is = absurd (omega (arith, zero_is))
              empty (f ∷ waiting) ready zero_is = absurd (omega (arith, zero_is))

          not_offered : (v : ℕ) → v < size st.graph → ((st.owner v == x.core.numbers.local.me.0 && is.engine.colour v == x.colour) && (pending_here x.core.numbers v || (task_here x.core.numbers v && is_open t))) ≡ true → ⊥
          not_offered v low is_one =
              let all = and_parts (st.owner v == x.core.numbers.local.me.0 && is.engine.colour v == x.colour) (pending_here x.core.numbers v || (task_here x.core.numbers v && is_open t)) is_one in
              let both = and_parts (st.owner v == x.core.numbers.local.me.0) (is.engine.colour v == x.colour) all.0 in
              let at = at_home v low (eqb-true (st.owner v) x.core.numbers.local.me.0 both.0) in
              let clear = clear_where (record { 0 = v }) at.0 at.4 at.1 (λ s. quiet s (record { 0 = v })) in
              none_offered nobody v at.0 at.1 at.2 (at.3 ∙ ap Some (eqb-true (is.engine.colour v) x.colour both.1)) clear
              (elim (or_cases (pending_here x.core.numbers v) (task_here x.core.numbers v && is_open t) all.1) [
                | inl pending ↦ inl pending
                | inr task ↦ inr (and_parts (task_here x.core.numbers v) (is_open t) task)
              ])

  -- ---- what is answered

  pub admits_none : IsNoneDueInStep x → MayAdmitNoneByColour x
  admits_none none st is v room may = may_not_admit st is none v room may

  pub admits_none_pending : WaitsNonePending x → MayAdmitNonePending x
  admits_none_pending none st is v pending may = may_not_admit_pending st is none v pending may

  pub admits_none_closed : x.closed ≡ true → MayAdmitNoneByColour x
  admits_none_closed closed st is v room may = true≢false (sym closed ∙ (turn_of st is v may.turn).1)

  pub can_admit : x.closed ≡ false → (pick : Pick) → IsDueInStep x pick → CanAdmitByColour x
  can_admit goes_on pick due =
      let long = places.vertices.many in
      let inside = due.can.within in
      let v = get_or x.core.by_place.items pick.vertex.0 (record { 0 = 0 }) in
      let at : slice_get x.core.by_place.items pick.vertex.0 ≡ Some v = slice_get-get_or x.core.by_place.items pick.vertex.0 (record { 0 = 0 }) (omega (arith, inside, long)) in
      let here = places.vertices.place pick.vertex.0 v at in
      record {
        pick = pick;
        vertex = v;
        place = at;
        may = λ st is. may_admit st is goes_on pick due v at;
        kind = ap (flag_there t.pending) here ∙ due.can.kind;
        room = elim due.can.room [ inl flag ↦ inl (ap (flag_there t.pending) here ∙ flag) | inr is_so ↦ inr is_so ];
      }

  pub share_flying : x.closed ≡ false → 0 < flight_count x.core.pipe → HasShareDone x false
  share_flying closed some st m is part room = undone_flying st is m part room closed some

  share_due : x.closed ≡ false → flight_count x.core.pipe ≡ 0 → (pick : Pick) → IsDueInStep x pick → HasShareDone x false
  share_due closed none pick due st m is part room = undone_due st is m part room closed none pick due

  share_none : x.closed ≡ false → flight_count x.core.pipe ≡ 0 → IsNoneDueInStep x → HasShareDone x true
  share_none closed none nobody st m is part room = done_none st is m part room closed none nobody

  pub share_looked : (o : Option Pick) (b : Bool) → is_some o ≡ not b → IfSome o (λ pick. IsDueInStep x pick) → IfNone o (IsNoneDueInStep x) → x.closed ≡ false → flight_count x.core.pipe ≡ 0 → HasShareDone x b
  share_looked None true is due nobody closed none = share_none closed none nobody
  share_looked None false is due nobody closed none = absurd (true≢false (sym is))
  share_looked (Some pick) true is due nobody closed none = absurd (true≢false is)
  share_looked (Some pick) false is due nobody closed none = share_due closed none pick due

-- ---- the admission

-- the pick is admitted, and nothing else has changed of the flags
pub taken_flags : (t u : TasksView) (place : Vertex) (snapshot : Bool) → IsAdmittedThere t u place snapshot → (u.admitted ≡ set t.admitted place.0 true) × (u.task ≡ t.task) × (u.pending ≡ t.pending)
taken_flags t u place snapshot is =
    (ap (λ (y : TasksView). y.admitted) is.tasks ∙ admitted_by_pick snapshot, ap (λ (y : TasksView). y.task) is.tasks ∙ task_by_pick snapshot, ap (λ (y : TasksView). y.pending) is.tasks ∙ pending_by_pick snapshot)
  where
    admitted_by_pick : (b : Bool) → (with_pick t (record { vertex = place; snapshot = b })).admitted ≡ set t.admitted place.0 true
    admitted_by_pick true = refl
    admitted_by_pick false = refl

    task_by_pick : (b : Bool) → (with_pick t (record { vertex = place; snapshot = b })).task ≡ t.task
    task_by_pick true = refl
    task_by_pick false = refl

    pending_by_pick : (b : Bool) → (with_pick t (record { vertex = place; snapshot = b })).pending ≡ t.pending
    pending_by_pick true = refl
    pending_by_pick false = refl

pub taken_in_line : (which : Which) (t u : TasksView) (p : ℕ) (old new : LinesView) → p < length t.admitted → u.admitted ≡ set t.admitted p true → length u.task ≡ length t.task → ((k : ℕ) → is_such which u k ≡ is_such which t k) → AreJustInLine which t old
    → ((k : ℕ) → is_in_line new k ≡ (not (k == p) && is_in_line old k)) → AreJustInLine which u new
taken_in_line which t u p old new inside flags many flag was is k low =
    is k ∙ elim (cases_eq k p) [
      | inl same ↦
          let gone : is_flagged u.admitted k ≡ true = ap (λ (fs : List Bool). is_flagged fs k) flags ∙ ap (λ (j : ℕ). is_flagged (set t.admitted p true) j) same ∙ get_or-set_same t.admitted p true false inside in
          ap (λ (b : Bool). not b && is_in_line old k) (eq-eqb k p same) ∙ sym (ap (λ (b : Bool). is_such which u k && not b) gone ∙ and_false (is_such which u k))
      | inr other ↦
          let kept : is_flagged u.admitted k ≡ is_flagged t.admitted k = ap (λ (fs : List Bool). is_flagged fs k) flags ∙ get_or-set_other t.admitted p k true false other in
          ap (λ (b : Bool). not b && is_in_line old k) (ne_eqb k p other) ∙ was k (subst (λ (n : ℕ). k < n) many low)
          ∙ ap (λ (b : Bool). b && not (is_flagged t.admitted k)) (sym (flag k)) ∙ ap (λ (b : Bool). is_such which u k && not b) (sym kept)
    ]
  where
    and_false : (b : Bool) → (b && false) ≡ false
    and_false true = refl
    and_false false = refl

module _ {P : Type 0} (x : ColorSnapView P) (m : SnapMachineView P) (pick : Pick) (places : KnowsPlaces x.core) (due : IsDueInStep x pick) (has : HasAdmittedInStep x.core m.core pick.vertex pick.snapshot) where
  pub taken_both : (lines asked new_lines new_asked : LinesView) → AreBothInLine x.core.numbers.tasks lines asked → new_lines.colours ≡ lines.colours → new_asked.colours ≡ asked.colours
      → ((k : ℕ) → is_in_line new_lines k ≡ (not (k == pick.vertex.0) && is_in_line lines k)) → ((k : ℕ) → is_in_line new_asked k ≡ (not (k == pick.vertex.0) && is_in_line asked k)) → AreBothInLine m.core.numbers.tasks new_lines new_asked
  taken_both lines asked new_lines new_asked are colours asked_colours left left_asked =
      let flags = taken_flags x.core.numbers.tasks m.core.numbers.tasks pick.vertex pick.snapshot has.tasks in
      let many : length m.core.numbers.tasks.task ≡ length x.core.numbers.tasks.task = ap length flags.1 in
      let long = places.flags in
      let low = due.can.within in
      let inside : pick.vertex.0 < length x.core.numbers.tasks.admitted = omega (arith, low, long) in
      record {
        many = ap length colours ∙ are.many ∙ sym many;
        colours = asked_colours ∙ are.colours ∙ sym colours;
        tasks = taken_in_line Tasks x.core.numbers.tasks m.core.numbers.tasks pick.vertex.0 lines new_lines inside flags.0 many (λ k. ap (λ (fs : List Bool). is_flagged fs k) flags.1) are.tasks left;
        pending = taken_in_line Pending x.core.numbers.tasks m.core.numbers.tasks pick.vertex.0 asked new_asked inside flags.0 many (λ k. ap (λ (fs : List Bool). is_flagged fs k) flags.2) are.pending left_asked;
      }

  pub taken_without_locks : IsWithoutLocks (part_of x.core) → IsWithoutLocks (part_of m.core)
  taken_without_locks is = subst IsWithoutLocks (sym has.part) (flown_free x.core.numbers.local.me.0 has.vertex.0 (part_of x.core) is)

  pub admitted_by_colour : (colours : List ℕ) → IsOrderly x.core → x.closed ≡ false → m.kept ≡ x.kept → HasAdmittedByColour x (seen_in_steps m colours x.colour x.closed)
  unfolding can_admit
  admitted_by_colour colours orderly goes_on kept =
      let can = can_admit x orderly places goes_on pick due in
      let same : has.vertex ≡ can.vertex = some_vertex has.vertex can.vertex (sym has.due.at ∙ can.place) in
      record {
        can = can;
        behind = λ is_so. admits_none_pending x orderly places (due.behind is_so);
        numbers = has.numbers;
        tasks = has.tasks;
        admitted = λ st is.
            (λ i. record (with_snaps (kept i) (has.part i)) { colour = x.colour; closed = x.closed })
            ∙ ap (λ (v : Vertex). in_flight_ready x.core.numbers.local.me.0 v.0 (part_of_steps x)) same
            ∙ sym (ap (λ (e : Engine). admitted_by e st x.core.numbers.local.me.0 can.vertex.0 (part_of_steps x)) is.engine.chromatic);
      }
