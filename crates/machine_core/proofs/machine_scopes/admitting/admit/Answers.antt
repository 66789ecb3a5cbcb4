use Rattle.std.proofs.Common.{◌∙◌, ap, length, refl}
use Rattle.task_sets.specs.task_sched.Tasks.{TasksView}
use Rattle.machine_core.specs.declared.machine_parts.cores.Core.{Core}
use Rattle.partition.specs.declared.machine_numbers.keeping.Numbers.{Numbers}
use Rattle.machine_core.proofs.machine_scopes.AdmitLemmas.{admit_done, admit_new, admit_orderly, admit_own, admit_waits, can_admit, few_flights, flags_back, picked_at, places_keep, plans_back, refused_orderly, refused_part}
use Rattle.machine_core.proofs.machine_scopes.FlownLemmas.{admitted_is, outside_stays, task_stays}
use Rattle.machine_core.proofs.machine_scopes.PickLemmas.{none_may, pick_own}
use Rattle.machine_core.proofs.machine_scopes.StartLemmas.{can_with_pipe}
use Rattle.scope_locks.specs.scope_pipe.Pipes.{PipeView, come}
use Rattle.std.proofs.lemmas.List.{length-set}
use Rattle.machine_core.proofs.machine_scopes.admitting.admit.Goals as goal

pub returns-in_default-clause-not_now : goal.returns-in_default-clause-not_now
returns-in_default-clause-not_now c = λ refused. none_may c.args.core.now c.requires.orderly c.take_pick.ensures.line (c.in_default.ensures).next

pub prepare-requires-clause-own : goal.prepare-requires-clause-own
prepare-requires-clause-own c =
    let m = c.args.core.now in
    let pick = c.in-Some.pick in
    let v = c.index-v.result.now in
    let can = (c.in-Some.ensures).can in
    pick_own m pick v c.requires.orderly c.requires.places can (picked_at m pick v c.requires.places can c.index-v.ensures)

pub set_out-requires-clause-orderly : goal.set_out-requires-clause-orderly
set_out-requires-clause-orderly c =
    let m = c.args.core.now in
    let pick = c.in-Some.pick in
    let v = c.index-v.result.now in
    let can = (c.in-Some.ensures).can in
    admit_orderly m pick v c.take_pick.new.tasks c.prepare.new.core c.admit_now.new.self c.requires.orderly c.requires.places can (picked_at m pick v c.requires.places can c.index-v.ensures)
    (c.in-Some.ensures).taken c.prepare.ensures.same c.admit_now.ensures.is_new c.admit_now.ensures.admitted c.admit_now.ensures.rest

pub set_out-requires-clause-is_new : goal.set_out-requires-clause-is_new
set_out-requires-clause-is_new c =
    let m = c.args.core.now in
    let pick = c.in-Some.pick in
    let v = c.index-v.result.now in
    let can = (c.in-Some.ensures).can in
    admit_new m pick v c.take_pick.new.tasks c.prepare.new.core c.admit_now.new.self c.requires.orderly c.requires.places can (picked_at m pick v c.requires.places can c.index-v.ensures)
    (c.in-Some.ensures).taken c.prepare.ensures.same c.admit_now.ensures.is_new c.admit_now.ensures.admitted c.admit_now.ensures.rest c.next_id-scope.result c.next_id-scope.ensures

pub set_out-requires-clause-waits : goal.set_out-requires-clause-waits
set_out-requires-clause-waits c =
    let m = c.args.core.now in
    let pick = c.in-Some.pick in
    let v = c.index-v.result.now in
    let can = (c.in-Some.ensures).can in
    admit_waits m pick v c.take_pick.new.tasks c.prepare.new.core c.admit_now.new.self c.requires.orderly c.requires.places can (picked_at m pick v c.requires.places can c.index-v.ensures)
    (c.in-Some.ensures).taken c.prepare.ensures.same c.admit_now.ensures.is_new c.admit_now.ensures.admitted c.admit_now.ensures.rest c.next_id-scope.result c.next_id-scope.ensures

pub set_out-requires-clause-own : goal.set_out-requires-clause-own
set_out-requires-clause-own c =
    let m = c.args.core.now in
    let pick = c.in-Some.pick in
    let v = c.index-v.result.now in
    let can = (c.in-Some.ensures).can in
    admit_own m pick v c.take_pick.new.tasks c.prepare.new.core c.admit_now.new.self c.requires.orderly c.requires.places can (picked_at m pick v c.requires.places can c.index-v.ensures)
    (c.in-Some.ensures).taken c.prepare.ensures.same c.admit_now.ensures.is_new c.admit_now.ensures.admitted c.admit_now.ensures.rest

pub set_out-requires-clause-can : goal.set_out-requires-clause-can
set_out-requires-clause-can c =
    can_with_pipe c.prepare.new.core c.admit_now.new.self c.next_id-scope.result c.index-v.result.now c.in-Ok.start (ap (λ (p : PipeView). come p) c.admit_now.ensures.rest) (c.in-Ok.ensures).can

pub returns-in-Ok-clause-places : goal.returns-in-Ok-clause-places
returns-in-Ok-clause-places c =
    let m = c.args.core.now in
    let t = m.numbers.tasks in
    let pick = c.in-Some.pick in
    let numbers = ap (λ (n : Core). n.numbers) c.set_out.ensures.rest ∙ ap (λ (n : Core). n.numbers) c.prepare.ensures.rest in
    let tasks = ap (λ (n : Numbers). n.tasks) numbers ∙ (c.in-Some.ensures).taken in
    places_keep m c.set_out.new.core c.requires.places (ap (λ (n : Numbers). n.local) numbers) (ap (λ (n : Core). n.by_place) c.set_out.ensures.rest ∙ ap (λ (n : Core). n.by_place) c.prepare.ensures.rest)
    (ap (λ (ts : TasksView). length ts.task) tasks ∙ ap length (task_stays t pick))
    (ap (λ (ts : TasksView). length ts.admitted) tasks ∙ ap length (admitted_is t pick) ∙ length-set t.admitted pick.vertex.0 _)

pub returns-in-Ok-clause-admitted : goal.returns-in-Ok-clause-admitted
returns-in-Ok-clause-admitted c =
    let m = c.args.core.now in
    let pick = c.in-Some.pick in
    let v = c.index-v.result.now in
    let can = (c.in-Some.ensures).can in
    admit_done m pick v c.take_pick.new.tasks c.prepare.new.core c.admit_now.new.self c.requires.orderly c.requires.places can (picked_at m pick v c.requires.places can c.index-v.ensures)
    (c.in-Some.ensures).taken c.prepare.ensures.same c.admit_now.ensures.is_new c.admit_now.ensures.admitted c.admit_now.ensures.rest c.set_out.new.core c.next_id-scope.result c.next_id-scope.ensures
    (c.in-Some.ensures).next (few_flights m c.flight_count.result c.flight_count.ensures c.if-flight_count-core.false)
    (ap (λ (n : Core). n.numbers) c.prepare.ensures.rest) (ap (λ (n : Core). n.numbers) c.set_out.ensures.rest) c.set_out.ensures.set_out

pub returns-in-Err-clause-orderly : goal.returns-in-Err-clause-orderly
returns-in-Err-clause-orderly c =
    let m = c.args.core.now in
    let now = c.prepare.new.core in
    let picked = ap (λ (n : Core). n.numbers.tasks) c.prepare.ensures.rest ∙ (c.in-Some.ensures).taken in
    refused_orderly m c.take_pick.new.tasks c.put_back.new.tasks now c.requires.orderly c.prepare.ensures.same
    (flags_back m.numbers.tasks now.numbers.tasks c.put_back.new.tasks c.in-Some.pick (c.in-Some.ensures).can picked c.put_back.ensures.back)

pub returns-in-Err-clause-no_memory : goal.returns-in-Err-clause-no_memory
returns-in-Err-clause-no_memory c =
    let m = c.args.core.now in
    let pick = c.in-Some.pick in
    let v = c.index-v.result.now in
    let can = (c.in-Some.ensures).can in
    λ refused. can_admit m pick v c.requires.orderly c.requires.places can (picked_at m pick v c.requires.places can c.index-v.ensures) (c.in-Some.ensures).next
    (few_flights m c.flight_count.result c.flight_count.ensures c.if-flight_count-core.false)

pub returns-in-Err-clause-unchanged : goal.returns-in-Err-clause-unchanged
returns-in-Err-clause-unchanged c =
    let m = c.args.core.now in
    let now = c.prepare.new.core in
    let picked = ap (λ (n : Core). n.numbers.tasks) c.prepare.ensures.rest ∙ (c.in-Some.ensures).taken in
    refused_part m c.take_pick.new.tasks c.put_back.new.tasks now c.requires.orderly c.prepare.ensures.same
    (flags_back m.numbers.tasks now.numbers.tasks c.put_back.new.tasks c.in-Some.pick (c.in-Some.ensures).can picked c.put_back.ensures.back)

pub returns-in-Ok-clause-outside : goal.returns-in-Ok-clause-outside
returns-in-Ok-clause-outside c =
    let numbers = ap (λ (n : Core). n.numbers) c.set_out.ensures.rest ∙ ap (λ (n : Core). n.numbers) c.prepare.ensures.rest in
    ap (λ (n : Numbers). n.tasks.outside) numbers ∙ ap (λ (ts : TasksView). ts.outside) (c.in-Some.ensures).taken ∙ outside_stays c.args.core.now.numbers.tasks c.in-Some.pick

pub returns-in-Err-clause-outside : goal.returns-in-Err-clause-outside
returns-in-Err-clause-outside c =
    c.put_back.ensures.back.outside ∙ ap (λ (n : Core). n.numbers.tasks.outside) c.prepare.ensures.rest ∙ ap (λ (ts : TasksView). ts.outside) (c.in-Some.ensures).taken ∙ outside_stays c.args.core.now.numbers.tasks c.in-Some.pick

pub returns-in-Err-clause-plans : goal.returns-in-Err-clause-plans
returns-in-Err-clause-plans c =
    let m = c.args.core.now in
    let now = c.prepare.new.core in
    let picked = ap (λ (n : Core). n.numbers.tasks) c.prepare.ensures.rest ∙ (c.in-Some.ensures).taken in
    plans_back m.numbers.tasks now.numbers.tasks c.put_back.new.tasks c.in-Some.pick (c.in-Some.ensures).can picked c.put_back.ensures.back c.put_back.ensures.plans

pub returns-then-flight_count-core-clause-orderly : goal.returns-then-flight_count-core-clause-orderly
returns-then-flight_count-core-clause-orderly c = c.requires.orderly

pub returns-then-flight_count-core-clause-places : goal.returns-then-flight_count-core-clause-places
returns-then-flight_count-core-clause-places c = c.requires.places

pub returns-then-flight_count-core-clause-settings : goal.returns-then-flight_count-core-clause-settings
returns-then-flight_count-core-clause-settings c = λ st part. part

pub returns-then-flight_count-core-clause-scope : goal.returns-then-flight_count-core-clause-scope
returns-then-flight_count-core-clause-scope c = tt

pub returns-then-flight_count-core-clause-admitted : goal.returns-then-flight_count-core-clause-admitted
returns-then-flight_count-core-clause-admitted c = tt

pub returns-then-flight_count-core-clause-unchanged : goal.returns-then-flight_count-core-clause-unchanged
returns-then-flight_count-core-clause-unchanged c = refl

pub returns-then-flight_count-core-clause-local : goal.returns-then-flight_count-core-clause-local
returns-then-flight_count-core-clause-local c = refl

pub returns-then-flight_count-core-clause-outside : goal.returns-then-flight_count-core-clause-outside
returns-then-flight_count-core-clause-outside c = refl

pub returns-then-flight_count-core-clause-terms : goal.returns-then-flight_count-core-clause-terms
returns-then-flight_count-core-clause-terms c = refl

pub returns-in-Ok-clause-orderly : goal.returns-in-Ok-clause-orderly
returns-in-Ok-clause-orderly c = c.set_out.ensures.orderly

pub returns-in-Ok-clause-local : goal.returns-in-Ok-clause-local
returns-in-Ok-clause-local c = ap (λ (n : Core). n.numbers.local) c.set_out.ensures.rest ∙ ap (λ (n : Core). n.numbers.local) c.prepare.ensures.rest

pub returns-in-Ok-clause-terms : goal.returns-in-Ok-clause-terms
returns-in-Ok-clause-terms c = ap (λ (n : Core). n.terms) c.set_out.ensures.rest ∙ ap (λ (n : Core). n.terms) c.prepare.ensures.rest

pub returns-in-Err-clause-local : goal.returns-in-Err-clause-local
returns-in-Err-clause-local c = ap (λ (n : Core). n.numbers.local) c.prepare.ensures.rest

pub returns-in-Err-clause-terms : goal.returns-in-Err-clause-terms
returns-in-Err-clause-terms c = ap (λ (n : Core). n.terms) c.prepare.ensures.rest

pub returns-in-Err-clause-scope : goal.returns-in-Err-clause-scope
returns-in-Err-clause-scope c = tt

pub returns-in-Err-clause-admitted : goal.returns-in-Err-clause-admitted
returns-in-Err-clause-admitted c = tt
