-- Where no scope is in flight, a vertex is a task or pending exactly where the tasks say that there is work.
use Rattle.std.proofs.Common.{◌≡◌, ◌⊎◌, ℕ, zero, suc, ◌+◌, ◌<◌, Bool, true, false, not, Option, None, Some, is_some, List, [], ◌∷◌, length, slice_get, refl, sym, ap, ◌∙◌, subst, arith, inl, inr, true≢false}
use Rattle.std.specs.Prelude.{◌==◌, IfSome, MatchOption}
use Rattle.std.specs.List.{list_any}
use Rattle.std.proofs.lemmas.Bool.{lt-ltb, and_from, and_parts, eq-eqb}
use Rattle.std.proofs.lemmas.Map.Keys.{any_passes_from_place}
use Rattle.gl_base.specs.declared.numbers.Vertex.{Vertex}
use Rattle.partition.specs.machine_numbers.Views.{flag_there, task_here}
use Rattle.machine_core.specs.declared.machine_parts.cores.Core.{Core}
use Rattle.machine_core.specs.machine_parts.Order.{IsOrderly, KnowsPlaces}
use Rattle.machine_core.specs.machine_parts.Parts.{flight_at, flight_count, is_own, pending_here, place_at, PipeView}
use Rattle.scope_locks.specs.scope_pipe.Pipes.{Flies}
use Rattle.task_sets.specs.task_sched.Tasks.{TasksView, IsNextPick, IsPicked, is_flagged, is_free}
use Rattle.task_sets.specs.declared.task_sched.task_sets.Pick.{Pick}
use Rattle.machine_core.specs.machine_rest.Inner.Looking.{HasNoWork, HasWork}

-- ---- what the tasks pick

flag_inside : (flags : List Bool) (u : ℕ) → is_flagged flags u ≡ true → u < length flags
flag_inside [] u set = absurd (true≢false (sym set))
flag_inside (f ∷ flags) zero set = omega arith
flag_inside (f ∷ flags) (suc u) set = omega (arith, flag_inside flags u set)

first_free : (t : TasksView) (v : Vertex) → ((u : ℕ) → list_any (λ w. w.0 == u) t.asked ≡ is_free t.pending t.admitted u) → slice_get t.asked 0 ≡ Some v → is_flagged t.pending v.0 ≡ true
first_free t v line first =
    (and_parts (is_flagged t.pending v.0) (not (is_flagged t.admitted v.0)) (sym (line v.0) ∙ any_passes_from_place (λ (w : Vertex). w.0 == v.0) t.asked 0 v first (eq-eqb v.0 v.0 refl))).0

pub pick_is_work : (t : TasksView) (o : Option Pick) → IsNextPick t o → IfSome o (λ pick. pick.vertex.0 < length t.task) → ((u : ℕ) → list_any (λ w. w.0 == u) t.asked ≡ is_free t.pending t.admitted u) → is_some o ≡ true → HasWork t
pick_is_work t None next low line some = absurd (true≢false (sym some))
pick_is_work t (Some pick) next low line some = by pick.snapshot next
  where
    by : (b : Bool) → IsPicked t b pick.vertex → HasWork t
    by true picked = record { place = pick.vertex.0; inside = low; flag = inr (first_free t pick.vertex line picked) }
    by false picked =
        record {
          place = pick.vertex.0;
          inside = low;
          flag = inl (and_parts (is_flagged t.task pick.vertex.0) (not (is_flagged t.admitted pick.vertex.0)) picked.2).0;
        }

pub task_is_work : (t : TasksView) (o : Option Vertex) → MatchOption o ((u : ℕ) → is_flagged t.task u ≡ false) (λ v. is_flagged t.task v.0 ≡ true) → is_some o ≡ true → HasWork t
task_is_work t None is some = absurd (true≢false (sym some))
task_is_work t (Some v) is some = record { place = v.0; inside = flag_inside t.task v.0 is; flag = inl is }

pub nothing_picked : (t : TasksView) (o : Option Pick) (task : Option Vertex) → IsNextPick t o → ((u : ℕ) → list_any (λ w. w.0 == u) t.asked ≡ is_free t.pending t.admitted u)
    → MatchOption task ((u : ℕ) → is_flagged t.task u ≡ false) (λ v. is_flagged t.task v.0 ≡ true) → is_some o ≡ false → is_some task ≡ false → HasNoWork t
nothing_picked t (Some pick) task next line tasks none no_task = absurd (true≢false none)
nothing_picked t None (Some v) next line tasks none no_task = absurd (true≢false no_task)
nothing_picked t None None next line tasks none no_task =
    record { task = tasks; pending = λ u. sym (line u) ∙ ap (λ (vs : List Vertex). list_any (λ (w : Vertex). w.0 == u) vs) next.0 }

-- ---- work

-- an own vertex that is a task or pending
pub record IsAtWork (m : Core) : Type 0 where
  pub vertex : ℕ
  pub own : is_own m.numbers.local vertex ≡ true
  pub flag : (task_here m.numbers vertex ≡ true) ⊎ (pending_here m.numbers vertex ≡ true)

vertex_there : (vertices : List Vertex) (k : ℕ) → k < length vertices → (v : Vertex) × (slice_get vertices k ≡ Some v)
vertex_there [] k low = absurd (omega (arith, low))
vertex_there (v ∷ vertices) zero low = (v, refl)
vertex_there (v ∷ vertices) (suc k) low = vertex_there vertices k (omega (arith, low))

module _ (m : Core) (orderly : IsOrderly m) (places : KnowsPlaces m) where
  pub at_work : HasWork m.numbers.tasks → IsAtWork m
  at_work work =
      let there = vertex_there m.by_place.items work.place (omega (arith, work.inside, places.vertices.many)) in
      let v : ℕ = there.0.0 in
      let at : place_at m.numbers.local v ≡ Some work.place = places.vertices.place work.place there.0 there.1 in
      record {
        vertex = v;
        own = orderly.numbers.tasks.own v work.place at ∙ lt-ltb work.place (length m.numbers.tasks.task) work.inside;
        flag = by v at work.flag;
      }
    where
      by : (v : ℕ) → place_at m.numbers.local v ≡ Some work.place → (is_flagged m.numbers.tasks.task work.place ≡ true) ⊎ (is_flagged m.numbers.tasks.pending work.place ≡ true)
          → (task_here m.numbers v ≡ true) ⊎ (pending_here m.numbers v ≡ true)
      by v at (inl task) = inl (ap (flag_there m.numbers.tasks.task) at ∙ task)
      by v at (inr pending) = inr (ap (flag_there m.numbers.tasks.pending) at ∙ pending)

-- ---- no work

none_flies : (p : PipeView) → flight_count p ≡ 0 → (v : Vertex) → Flies p v → ⊥
none_flies p none v flies = by p.waiting p.ready none flies.centre
  where
    by : (waiting ready : List _) → length waiting + length ready ≡ 0 → flight_at (record p { waiting = waiting; ready = ready }) flies.scope ≡ Some v → ⊥
    by [] [] is flight = true≢false (sym (ap is_some flight))
    by [] (f ∷ ready) is flight = absurd (omega (arith, is))
    by (f ∷ waiting) ready is flight = absurd (omega (arith, is))

module _ (m : Core) (orderly : IsOrderly m) (places : KnowsPlaces m) (flights : flight_count m.pipe ≡ 0) (none : HasNoWork m.numbers.tasks) where
  pub no_task : (u : ℕ) → task_here m.numbers u ≡ false
  no_task u = by (place_at m.numbers.local u)
    where
      by : (o : Option ℕ) → flag_there m.numbers.tasks.task o ≡ false
      by None = refl
      by (Some k) = none.task k

  not_admitted : (u k : ℕ) → place_at m.numbers.local u ≡ Some k → is_flagged m.numbers.tasks.admitted k ≡ true → ⊥
  not_admitted u k at admitted =
      let low : k < length m.numbers.tasks.task = subst (λ (n : ℕ). k < n) places.flags (flag_inside m.numbers.tasks.admitted k admitted) in
      let own : is_own m.numbers.local u ≡ true = orderly.numbers.tasks.own u k at ∙ lt-ltb k (length m.numbers.tasks.task) low in
      none_flies m.pipe flights (record { 0 = u }) (orderly.flights.flies (record { 0 = u }) own (ap (flag_there m.numbers.tasks.admitted) at ∙ admitted))

  pub no_pending : (u : ℕ) → pending_here m.numbers u ≡ false
  no_pending u = by (place_at m.numbers.local u) refl
    where
      clear : (k : ℕ) (pending admitted : Bool) → is_flagged m.numbers.tasks.pending k ≡ pending → is_flagged m.numbers.tasks.admitted k ≡ admitted → (admitted ≡ true → ⊥) → pending ≡ false
      clear k false admitted is at not_it = refl
      clear k true true is at not_it = absurd (not_it refl)
      clear k true false is at not_it =
          let free : is_free m.numbers.tasks.pending m.numbers.tasks.admitted k ≡ true = and_from (is_flagged m.numbers.tasks.pending k) (not (is_flagged m.numbers.tasks.admitted k)) is (ap not at) in
          absurd (true≢false (sym free ∙ none.pending k))

      by : (o : Option ℕ) → place_at m.numbers.local u ≡ o → flag_there m.numbers.tasks.pending o ≡ false
      by None at = refl
      by (Some k) at = clear k (is_flagged m.numbers.tasks.pending k) (is_flagged m.numbers.tasks.admitted k) refl refl (not_admitted u k at)
