-- An update at once in a step: who may be updated, and who stands in line behind it.
use Rattle.std.proofs.Common.{◌≡◌, ℕ, ◌<◌, ◌==◌, ◌&&◌, ◌||◌, not, Bool, true, false, true≢false, Option, None, Some, is_some, List, length, get_or, set, refl, sym, ap, ◌∙◌, subst, arith, inl, inr}
use Rattle.std.specs.Prelude.{slice_get}
use Rattle.std.specs.List.{list_any}
use Rattle.std.specs.Option.{option_map}
use Rattle.std.proofs.lemmas.Bool.{and_parts, false_from_ne_true, lt-ltb}
use Rattle.std.proofs.lemmas.List.{get_or-set_other, get_or-set_same}
use Rattle.gl_base.specs.declared.entries.Entry.TheVariants.{Go}
use Rattle.gl_base.specs.declared.numbers.Vertex.{Vertex}
use Rattle.gl_base.specs.declared.scopes.ScopeId.{ScopeId}
use Rattle.seq_run.specs.States.{wakes}
use Rattle.update_api.specs.Updates.{Update}
use Rattle.cluster_laws.specs.cluster_core.Effects.{next_scope}
use Rattle.cluster_laws.specs.cluster_core.Parts.{lent}
use Rattle.cluster_laws.specs.cluster_core.Settings.{IsSetting, is_near}
use Rattle.cluster_laws.proofs.cluster_numbers.EdgeEnds.{wakes_near}
use Rattle.local_graph.specs.declared.sides.Side.{Side}
use Rattle.partition.specs.machine_numbers.Views.{datum_here, flag_there, is_flagged, place_at}
use Rattle.machine_core.specs.declared.machine_at_once.finding.Found.{Found}
use Rattle.machine_core.specs.declared.machine_parts.cores.Core.{Core}
use Rattle.machine_core.specs.machine_parts.Parts.{flight_at, is_own, is_ready, number_of, parts_at, pending_here, sides_at}
use Rattle.machine_core.proofs.machine_at_once.Scopes.{alone_where, interior_alone}
use Rattle.machine_core.proofs.machine_scopes.AdmitLemmas.{picked_at}
use Rattle.machine_core.proofs.machine_scopes.PickLemmas.{free_from, free_parts}
use Rattle.machine_core.proofs.machine_updates.LeaveLemmas.{none_or}
use Rattle.machine_core.specs.color_parts.Enlisting.{HasEnlisted, ends_of, is_such, is_free_such}
use Rattle.machine_core.specs.declared.color_parts.enlisting.Which.TheVariants.{Pending, Tasks}
use Rattle.machine_core.specs.color_parts.Parts.{LinesView, TasksView, is_in_line}
use Rattle.snapshot_machines.specs.saving.Updates.{HasUpdatedFound}
use Rattle.gl_base.specs.scope_lists.Found.{by_scope}
use Rattle.scope_locks.specs.scope_pipe.Pipes.{PipeView, either, flight_scope}
use Rattle.scope_locks.specs.declared.scope_pipe.flights.Flight.{Flight}
use Rattle.task_sets.specs.task_sched.Tasks.{is_open}
use Rattle.task_sets.specs.declared.task_sched.task_sets.Pick.{Pick}
use Rattle.snapshot_machines.specs.chromatic.Admitting.{CanAdmitByColour}
use Rattle.snapshot_machines.specs.chromatic.AtOnce.{CanUpdateByColour, HasLoggedAtOnce, HasNoneByColour, HasRunAtOnce, HasUpdatedByColour, MayUpdateByColour, at_once, entry_at_once}
use Rattle.snapshot_machines.specs.chromatic.Machines.{ColorSnapView, IsOrderly, IsPartOf, KnowsPlaces, Part, Setting, SnapMachineView, part_of, with_locking, with_snaps}
use Rattle.snapshot_machines.specs.chromatic.Inner.Keeping.{AreBothInLine, IsWithoutLocks, seen_in_steps}
use Rattle.snapshot_machines.specs.chromatic.Inner.Picking.{IsDueInStep, IsFoundInStep, IsNoneDueInStep, WaitsAt}
use Rattle.snapshot_machines.proofs.chromatic.AdmitLemmas.{admits_none, admits_none_closed, may_admit, taken_in_line}
use Rattle.snapshot_machines.proofs.chromatic.KeepLemmas.{stand_apart}
use Rattle.snapshot_machines.proofs.chromatic.LineLemmas.{HasLeft, StandApart, near_in_line}
use Rattle.snapshot_machines.proofs.chromatic.PartLemmas.{locking_setting, snaps_logged}
use Rattle.snapshot_machines.proofs.chromatic.TurnLemmas.{end_among}

-- ---- the next scope

ready_flies : (p : PipeView) (s : ScopeId) → is_ready p s ≡ true → is_some (flight_at p s) ≡ true
ready_flies p s = by (by_scope flight_scope p.waiting s) (by_scope flight_scope p.ready s)
  where
    by : (o q : Option Flight) → is_some q ≡ true → is_some (option_map (λ (f : Flight). f.centre) (either o q)) ≡ true
    by (Some f) q some = refl
    by None (Some f) some = refl
    by None None some = some

unflown : (m : Core) → IsOrderly m → flight_at m.pipe (next_scope m.numbers.local.me.0 (part_of m)) ≡ None
unflown m is =
    let s : ScopeId = next_scope m.numbers.local.me.0 (part_of m) in
    none_or (flight_at m.pipe s) (λ c flies. let low = (is.flights.given s c flies).1 in absurd (omega arith))

unready : (m : Core) → IsOrderly m → is_ready m.pipe (next_scope m.numbers.local.me.0 (part_of m)) ≡ false
unready m is =
    let s : ScopeId = next_scope m.numbers.local.me.0 (part_of m) in
    false_from_ne_true (is_ready m.pipe s) (λ ready. true≢false (sym (ready_flies m.pipe s ready) ∙ ap is_some (unflown m is)))

-- ---- the vertex that would be admitted next

-- it stands at its place
pub at_place : {P : Type 0} (x : ColorSnapView P) (places : KnowsPlaces x.core) (pick : Pick) → IsDueInStep x pick → (m : Core) → m ≡ x.core → (v : Vertex) → v ≡ get_or m.by_place.items pick.vertex.0 v → slice_get x.core.by_place.items pick.vertex.0 ≡ Some v
at_place x places pick due m parts v read = picked_at x.core pick v places due.can (subst (λ (n : Core). v ≡ get_or n.by_place.items pick.vertex.0 v) parts read)

module _ {P : Type 0} (x : ColorSnapView P) (orderly : IsOrderly x.core) (places : KnowsPlaces x.core) where
  abbrev t : TasksView
  t = x.core.numbers.tasks

  pub none_closed : x.closed ≡ true → HasNoneByColour x
  none_closed closed = inl (admits_none_closed x orderly places closed)

  pub none_due : IsNoneDueInStep x → HasNoneByColour x
  none_due none = inl (admits_none x orderly places none)

  module _ (goes_on : x.closed ≡ false) (pick : Pick) (due : IsDueInStep x pick) (v : Vertex) (at : slice_get x.core.by_place.items pick.vertex.0 ≡ Some v) where
    here : place_at x.core.numbers.local v.0 ≡ Some pick.vertex.0
    here = places.vertices.place pick.vertex.0 v at

    pub own_due : is_own x.core.numbers.local v.0 ≡ true
    own_due = orderly.numbers.tasks.own v.0 pick.vertex.0 here ∙ lt-ltb pick.vertex.0 (length t.task) due.can.within

    pending_is : pending_here x.core.numbers v.0 ≡ pick.snapshot
    pending_is = ap (flag_there t.pending) here ∙ due.can.kind

    abbrev can : CanAdmitByColour x
    can =
        record {
          pick = pick;
          vertex = v;
          place = at;
          may = λ st is. may_admit x orderly places st is goes_on pick due v at;
          kind = pending_is;
          room = elim due.can.room [ inl flag ↦ inl (ap (flag_there t.pending) here ∙ flag) | inr is_so ↦ inr is_so ];
        }

    pub none_pending : pick.snapshot ≡ true → HasNoneByColour x
    none_pending snapshot = inr (can, λ st setting is may. true≢false (sym (pending_is ∙ snapshot) ∙ may.not_pending))

    pub none_shared : (length (parts_at x.core.numbers.local v.0) ≡ 1 → ⊥) → HasNoneByColour x
    none_shared shared = inr (can, λ st setting is may. shared (alone_where (with_locking st) (locking_setting st setting) x.core.numbers.local is.part.local v.0 own_due may.interior))

    module _ (update : pick.snapshot ≡ false) (alone : length (parts_at x.core.numbers.local v.0) ≡ 1) (free : IsWithoutLocks (part_of x.core)) where
      quiet : is_flagged t.pending pick.vertex.0 ≡ false
      quiet = due.can.kind ∙ update

      flagged : is_flagged t.task pick.vertex.0 ≡ true
      flagged = elim due.can.due [ inl pending ↦ absurd (true≢false (sym pending ∙ quiet)) | inr task ↦ task ]

      opened : is_open t ≡ true
      opened = elim due.can.room [ inl pending ↦ absurd (true≢false (sym pending ∙ quiet)) | inr is_so ↦ is_so ]

      waits : WaitsAt x.core.numbers pick.vertex v
      waits =
          record {
            at = here;
            own = own_due;
            within = due.can.within;
            among = subst (λ (k : ℕ). pick.vertex.0 < k) (sym places.flags) due.can.within;
            free = free_from t.task t.admitted pick.vertex.0 flagged due.can.free;
            quiet = quiet;
            opened = opened;
          }

      may : MayUpdateByColour x v
      may st setting is =
          record {
            admit = may_admit x orderly places st is goes_on pick due v at;
            task = ap (flag_there t.task) here ∙ flagged;
            not_pending = pending_is ∙ update;
            is_new = record {
              flight = ap number_of (unflown x.core orderly);
              stand = free.stand (next_scope x.core.numbers.local.me.0 (part_of x.core));
              ready = unready x.core orderly;
              holder = λ u. free.holder u (next_scope x.core.numbers.local.me.0 (part_of x.core));
            };
            interior = interior_alone (with_locking st) (locking_setting st setting) x.core.numbers.local is.part.local v.0 own_due alone;
            unclaimed = λ locking u scoped. record { holder = free.holder u; queue = free.queue u };
            ticket = omega arith;
          }

      pub found_due : IsFoundInStep x (record { place = pick.vertex; vertex = v })
      found_due = record { waits = waits; may = may }

pub can_update : {P : Type 0} (x : ColorSnapView P) (f : Found) → IsFoundInStep x f → CanUpdateByColour x
can_update x f found = record { vertex = f.vertex; opened = found.waits.opened; may = found.may }

-- ---- the machine's part

pub updated_found : {P : Type 0} (x : ColorSnapView P) (m : SnapMachineView P) (colours : List ℕ) (program : Update) (f : Found) (ticket : ℕ) → IsFoundInStep x f → HasUpdatedFound program x.core m.core f.vertex ticket
    → HasLoggedAtOnce x.core x.kept m.kept f.vertex ticket → HasUpdatedByColour program x (seen_in_steps m colours x.colour x.closed) f.vertex ticket
updated_found x m colours program f ticket found made logged =
    let kept = snaps_logged (Go x.core.numbers.local.me f.vertex ticket) (datum_here x.core.numbers f.vertex.0).mark x.kept m.kept (part_of m.core) logged in
    record {
      opened = found.waits.opened;
      may = found.may;
      after = λ st setting is runs.
          ap (λ (p : Part). record p { colour = x.colour; closed = x.closed }) kept
          ∙ ap (λ (p : Part). record (with_snaps x.kept p) { colour = x.colour; closed = x.closed }) (made (with_locking st) (locking_setting st setting) is.part runs);
    }

-- ---- who stands in line behind it

module _ (m new : Core) (f : Found) (orderly : IsOrderly m) (orderly_now : IsOrderly new) (places : KnowsPlaces m) (places_now : KnowsPlaces new) (same_places : new.by_place ≡ m.by_place)
    (place : (u : ℕ) → place_at new.numbers.local u ≡ place_at m.numbers.local u) (waits : WaitsAt m.numbers f.place f.vertex) (run : HasRunAtOnce m.numbers.tasks new.numbers.tasks) (program : Update) (st : Setting) (ticket : ℕ) (setting : IsSetting st)
    (here : IsPartOf st m) (runs : st.program ≡ program) (made : HasUpdatedFound program m new f.vertex ticket) where
  abbrev v : ℕ
  v = f.vertex.0

  part_now : part_of new ≡ at_once st m.numbers.local.me.0 v (entry_at_once m.numbers.local.me.0 v ticket) (part_of m)
  part_now = made st setting here runs

  pub found_without_locks : IsWithoutLocks (part_of m) → IsWithoutLocks (part_of new)
  found_without_locks is = subst IsWithoutLocks (sym part_now) (record { holder = is.holder; queue = is.queue; stand = is.stand; ready = is.ready })

  as_many : length new.numbers.tasks.task ≡ length m.numbers.tasks.task
  as_many = sym places_now.vertices.many ∙ ap (λ vs. length vs.items) same_places ∙ places.vertices.many

  -- as if the vertex had been admitted first
  abbrev between : TasksView
  between = record m.numbers.tasks { admitted = set m.numbers.tasks.admitted f.place.0 true }

  left : HasLeft new.numbers.local between new.numbers.tasks f.vertex
  left =
      record {
        place = f.place.0;
        at = place v ∙ waits.at;
        was = get_or-set_same m.numbers.tasks.admitted f.place.0 true false waits.among;
        many = as_many;
        clear = ap (λ (y : TasksView). is_flagged y.admitted f.place.0) run.rest ∙ (free_parts m.numbers.tasks.task m.numbers.tasks.admitted f.place.0 waits.free).1;
        others = λ k off. ap (λ (y : TasksView). is_flagged y.admitted k) run.rest ∙ sym (get_or-set_other m.numbers.tasks.admitted f.place.0 k true false off);
      }

  abbrev woken : ℕ → Bool
  woken u = st.owner u == m.numbers.local.me.0 && wakes st.graph st.program (lent (part_of m)) v u

  task_flag : (k : ℕ) (u : Vertex) → place_at new.numbers.local u.0 ≡ Some k → is_such Tasks new.numbers.tasks k ≡ (woken u.0 || (is_such Tasks between k && not (u.0 == v)))
  task_flag k u at =
      sym (ap (flag_there new.numbers.tasks.task) at) ∙ ap (λ (p : Part). p.task u.0) part_now
      ∙ ap (λ (b : Bool). woken u.0 || (b && not (u.0 == v))) (ap (flag_there m.numbers.tasks.task) (sym (place u.0) ∙ at))

  pub found_in_line : (lines left_lines new_lines asked : LinesView) → ((u : ℕ) → is_near st v u ≡ true → list_any (λ (s : Side). s.other.0 == u) (sides_at m.numbers.local v) ≡ true) → sides_at new.numbers.local v ≡ sides_at m.numbers.local v
      → AreBothInLine m.numbers.tasks lines asked → left_lines.colours ≡ lines.colours → ((k : ℕ) → is_in_line left_lines k ≡ (not (k == f.place.0) && is_in_line lines k)) → new_lines.colours ≡ left_lines.colours
      → HasEnlisted Tasks new.numbers left_lines new_lines (ends_of (sides_at new.numbers.local v)) (length (sides_at new.numbers.local v)) → AreBothInLine new.numbers.tasks new_lines asked
  found_in_line lines left_lines new_lines asked sided sides are left_colours gone colours enlisted =
      record {
        many = ap length (colours ∙ left_colours) ∙ are.many ∙ sym as_many;
        colours = are.colours ∙ sym (colours ∙ left_colours);
        tasks =
            near_in_line Tasks new.numbers between f.vertex left_lines new_lines (ends_of (sides_at new.numbers.local v)) (length (sides_at new.numbers.local v)) woken
            (subst (StandApart new.numbers.local) as_many (stand_apart new orderly_now places_now)) left
            (λ u is_so.
            let near = wakes_near st setting (lent (part_of m)) v u (and_parts (st.owner u == m.numbers.local.me.0) (wakes st.graph st.program (lent (part_of m)) v u) is_so).1 in
            end_among (sides_at new.numbers.local v) u (subst (λ (ss : List Side). list_any (λ (s : Side). s.other.0 == u) ss ≡ true) (sym sides) (sided u near)))
            (taken_in_line Tasks m.numbers.tasks between f.place.0 lines left_lines waits.among refl refl (λ k. refl) are.tasks gone) enlisted task_flag;
        pending = λ k low. are.pending k (subst (λ (n : ℕ). k < n) as_many low) ∙ ap (λ (y : TasksView). is_free_such Pending y k) (sym run.rest);
      }
