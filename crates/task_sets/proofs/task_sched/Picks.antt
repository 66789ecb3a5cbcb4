-- What is picked, and that it is one of the vertices.
use Rattle.std.proofs.Common.{◌≡◌, ℕ, ◌<◌, ◌==◌, Bool, true, false, Option, Some, None, IfSome, MatchOption, List, [], ◌∷◌, length, slice_get, refl, sym, ◌∙◌, ap, arith, eq-eqb}
use Rattle.std.specs.List.{list_any}
use Rattle.std.proofs.lemmas.Option.{none-some, same_Some}
use Rattle.gl_base.specs.declared.numbers.Vertex.{Vertex}
use Rattle.task_sets.proofs.vertex_queue.Queueing.{flag_within}
use Rattle.task_sets.proofs.vertex_queue.LineLemmas.{nobody}
use Rattle.task_sets.specs.task_sched.Tasks.{TasksView, is_flagged, is_free, is_open, IsNextPick}
use Rattle.task_sets.specs.task_sched.Inner.Picking.{IsFreeTask, pick_of}
use Rattle.task_sets.specs.task_sched.Inner.Stages.{StagesView, is_staged}
use Rattle.task_sets.specs.task_sched.Inner.Kept.{AreTasksKept}
use Rattle.task_sets.proofs.task_sched.Keeping.{free_has}

-- the first of the stages, where the window has room
pub staged_first : (t : TasksView) (s : StagesView) (o : Option Vertex) → ((u : ℕ) → is_staged s u ≡ is_free t.task t.admitted u) → is_open t ≡ true →
    MatchOption o ((u : ℕ) → is_staged s u ≡ false) (λ v. is_staged s v.0 ≡ true) → IsFreeTask t o
staged_first t s None kept room none = λ _ u. sym (kept u) ∙ none u
staged_first t s (Some v) kept room is = (room, sym (kept v.0) ∙ is)

pub next_pick : (t : TasksView) (first task : Option Vertex) → first ≡ slice_get t.asked 0 → IsFreeTask t task → IsNextPick t (pick_of first task)
next_pick t (Some v) task is free = sym is
next_pick t None (Some v) is free = (nobody t.asked None is refl, free.0, free.1)
next_pick t None None is free = (nobody t.asked None is refl, free)

pub pick_within : (t p a q : List Bool) (s : StagesView) (among : List Bool) (count plans outside : ℕ) (window : Option ℕ) (asked : List Vertex) (first task : Option Vertex) → AreTasksKept count t p a q s among plans outside window →
    IfSome first (λ v. is_flagged among v.0 ≡ true) → IsFreeTask (record { task = t; pending = p; admitted = a; planned = q; asked = asked; plans = plans; outside = outside; window = window }) task →
    IfSome (pick_of first task) (λ pick. pick.vertex.0 < length t)
pick_within t p a q s among count plans outside window asked (Some v) task is up free =
    let there = flag_within among v.0 up in
    let long = is.line in
    let many = is.tasks in omega (arith, there, long, many)
pick_within t p a q s among count plans outside window asked None (Some v) is up free = flag_within t v.0 (free_has t a v.0 free.1).0
pick_within t p a q s among count plans outside window asked None None is up free = tt

-- the first in line stands in it
pub first_listed : (line : List Vertex) (v : Vertex) → slice_get line 0 ≡ Some v → list_any (λ w. w.0 == v.0) line ≡ true
first_listed [] v is = absurd (none-some v is)
first_listed (w ∷ line) v is = rw (eq-eqb w.0 v.0 (ap (λ (x : Vertex). x.0) (same_Some w v is))) refl
