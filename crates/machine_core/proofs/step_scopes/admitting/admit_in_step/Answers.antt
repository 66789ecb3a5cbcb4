use Rattle.std.proofs.Common.{refl, subst}
use Rattle.scope_locks.specs.scope_pipe.Pipes.{HasReadied, next_id}
use Rattle.task_sets.specs.declared.task_sched.task_sets.Pick.{Pick}
use Rattle.machine_core.proofs.machine_scopes.AdmitLemmas.{picked_at}
use Rattle.machine_core.proofs.step_scopes.StepLemmas.{due_there, step_admitted, step_orderly, step_part}
use Rattle.machine_core.proofs.step_scopes.admitting.admit_in_step.Goals as goal

pub returns-clause-orderly : goal.returns-clause-orderly
returns-clause-orderly c =
    let m = c.args.core.now in
    let pick : Pick = record { vertex = c.args.place; snapshot = c.args.snapshot } in
    let v = c.index-v.result.now in
    let admitted = c.admit_now-scope in
    let readied : HasReadied admitted.new.self c.ready.new.self (next_id m.pipe) = subst (HasReadied admitted.new.self c.ready.new.self) admitted.ensures.scope c.ready.ensures.ready in
    step_orderly m pick v c.requires.orderly c.requires.places c.requires.can (picked_at m pick v c.requires.places c.requires.can c.index-v.ensures)
    admitted.new.self c.ready.new.self c.take.new.tasks admitted.ensures.is_new admitted.ensures.admitted admitted.ensures.rest readied c.ready.ensures.rest c.take.ensures.tasks c.requires.locks

pub returns-clause-admitted : goal.returns-clause-admitted
returns-clause-admitted c =
    let m = c.args.core.now in
    let pick : Pick = record { vertex = c.args.place; snapshot = c.args.snapshot } in
    let v = c.index-v.result.now in
    let admitted = c.admit_now-scope in
    let readied : HasReadied admitted.new.self c.ready.new.self (next_id m.pipe) = subst (HasReadied admitted.new.self c.ready.new.self) admitted.ensures.scope c.ready.ensures.ready in
    let there = picked_at m pick v c.requires.places c.requires.can c.index-v.ensures in
    record {
      vertex = v;
      due = due_there m pick v c.requires.orderly c.requires.places c.requires.can there;
      numbers = refl;
      tasks = c.take.ensures;
      part = step_part m pick v c.requires.orderly c.requires.places c.requires.can there
          admitted.new.self c.ready.new.self c.take.new.tasks admitted.ensures.is_new admitted.ensures.admitted admitted.ensures.rest readied c.ready.ensures.rest c.take.ensures.tasks;
      admitted = step_admitted m pick v c.requires.orderly c.requires.places c.requires.can there
          admitted.new.self c.ready.new.self c.take.new.tasks admitted.ensures.is_new admitted.ensures.admitted admitted.ensures.rest readied c.ready.ensures.rest c.take.ensures.tasks;
    }
