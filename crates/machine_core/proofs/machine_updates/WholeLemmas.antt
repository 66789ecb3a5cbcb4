-- The machine after a commit as one equation of its lists.
use Rattle.std.proofs.Common.{◌≡◌, ℕ, ◌+◌, ◌-◌, ◌<◌, true, false, true≢false, Option, Some, None, is_some, List, length, map, refl, sym, ap, ◌∙◌, arith}
use Rattle.std.specs.Prelude.{slice_set}
use Rattle.std.specs.List.{range_with_len}
use Rattle.std.proofs.lemmas.List.{get_or_default, same_lists}
use Rattle.std.proofs.lemmas.List.FromFn.{get_or-map-range_with_len, length-map-range_with_len}
use Rattle.gl_base.specs.declared.entries.Entry.{Entry}
use Rattle.scope_locks.specs.scope_pipe.Pipes.{without_flight}
use Rattle.local_graph.specs.declared.works.Outcome.{Outcome}
use Rattle.local_graph.specs.Locals.{LocalView, got_at, is_own, place_at, set_where, written}
use Rattle.partition.specs.declared.machine_numbers.keeping.Numbers.{Numbers}
use Rattle.partition.specs.machine_numbers.Views.{edge_here, sides_at}
use Rattle.partition.specs.machine_numbers.Steps.{HasRun, HasUpdated, HasWritten, made_of}
use Rattle.machine_core.specs.declared.machine_parts.cores.Core.{Core}
use Rattle.machine_core.specs.machine_parts.Parts.{part_at}
use Rattle.machine_core.specs.declared.machine_updates.reserving.Prepared.{Prepared}
use Rattle.machine_core.specs.machine_updates.Committing.{local_left, task_set_left, machine_left, with_log_of, after_told, done_told, released_all}

-- all numbers of edges are told by their look-ups
numbers_are : (old new : Numbers) (o : Outcome) (entry : Entry) → length new.local.numbers ≡ length old.local.numbers → HasUpdated old new (made_of o) entry
    → new.local.numbers ≡ map (written (sides_at old.local o.work.vertex.0) o.edges.items (edge_here old)) (range_with_len 0 (length old.local.numbers))
numbers_are old new o entry many is =
    let f = written (sides_at old.local o.work.vertex.0) o.edges.items (edge_here old) in
    let n = length old.local.numbers in
    let long = length-map-range_with_len f 0 n in
    same_lists new.local.numbers (map f (range_with_len 0 n)) (many ∙ sym long)
    (λ k d inside.
    let low : k < n = omega arith in
    get_or_default new.local.numbers k d 0 inside ∙ (is.edge k ∙ sym (get_or-map-range_with_len f 0 n k k d low (omega arith))))

local_is : (old new : Numbers) (o : Outcome) (entry : Entry) → length new.local.numbers ≡ length old.local.numbers → HasUpdated old new (made_of o) entry → HasWritten old new o
    → new.local ≡ record old.local { kept = new.local.kept; rows = new.local.rows; numbers = new.local.numbers } → new.local ≡ local_left old o
local_is old new o entry many is wrote rest =
    let numbers = numbers_are old new o entry many is in
    rest ∙ (λ i. record old.local { kept = wrote.kept i; rows = wrote.rows i; numbers = numbers i })

-- the place of an own vertex
place_there : (l : LocalView) (v : ℕ) (p : Option ℕ) → place_at l v ≡ p → is_own l v ≡ true → (k : ℕ) × (place_at l v ≡ Some k)
place_there l v None at own = absurd (true≢false (sym own ∙ ap (λ q. is_some (got_at l.kept q)) at))
place_there l v (Some k) at own = (k, at)

tasks_are : (old new : Numbers) (o : Outcome) (k : ℕ) → place_at old.local o.work.vertex.0 ≡ Some k → HasRun old.tasks new.tasks k → HasWritten old new o → new.tasks ≡ task_set_left old o
tasks_are old new o k at run wrote =
    let plans : new.tasks.plans ≡ old.tasks.plans - 1 = let p = run.plans in omega arith in
    let admitted : slice_set old.tasks.admitted k false ≡ set_where old.tasks.admitted (place_at old.local o.work.vertex.0) false = sym (ap (λ p. set_where old.tasks.admitted p false) at) in
    let planned : slice_set old.tasks.planned k false ≡ set_where old.tasks.planned (place_at old.local o.work.vertex.0) false = sym (ap (λ p. set_where old.tasks.planned p false) at) in
    run.rest ∙ (λ i. record old.tasks { task = wrote.task i; admitted = admitted i; planned = planned i; plans = plans i; outside = old.tasks.outside + 1 })

pub whole_is : (old new : Core) (o : Outcome) (ps : List Prepared) (entry : Entry) → is_own old.numbers.local o.work.vertex.0 ≡ true
    → new ≡ record old { numbers = new.numbers; pipe = new.pipe; locks = new.locks; out = new.out }
    → length new.numbers.local.numbers ≡ length old.numbers.local.numbers → HasUpdated old.numbers new.numbers (made_of o) entry → HasWritten old.numbers new.numbers o
    → new.numbers.local ≡ record old.numbers.local { kept = new.numbers.local.kept; rows = new.numbers.local.rows; numbers = new.numbers.local.numbers } → new.numbers.ghosts ≡ old.numbers.ghosts
    → ((k : ℕ) → place_at old.numbers.local o.work.vertex.0 ≡ Some k → HasRun old.numbers.tasks new.numbers.tasks k)
    → new.pipe ≡ record old.pipe { waiting = without_flight o.work.scope old.pipe.waiting; ready = without_flight o.work.scope old.pipe.ready }
    → new.locks ≡ released_all o.work.scope (part_at old.numbers.local o.work.vertex.0) old.locks
    → new.out ≡ after_told (done_told old.numbers o) ps old.out
    → new ≡ with_log_of new (machine_left old o ps)
whole_is old new o ps entry own rest many updated wrote local ghosts run pipe locks out =
    let there = place_there old.numbers.local o.work.vertex.0 (place_at old.numbers.local o.work.vertex.0) refl own in
    let l = local_is old.numbers new.numbers o entry many updated wrote local in
    let t = tasks_are old.numbers new.numbers o there.0 there.1 (run there.0 there.1) wrote in
    rest ∙ (λ i. record old { numbers = record { local = l i; ghosts = ghosts i; tasks = t i; log = new.numbers.log }; pipe = pipe i; locks = locks i; out = out i })
