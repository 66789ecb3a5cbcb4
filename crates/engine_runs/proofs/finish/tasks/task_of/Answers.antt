-- A task is a vertex that the machine owns.
use Rattle.std.proofs.Common.{◌∙◌, ap, sym}
use Rattle.engine_runs.proofs.finish.MachineLemmas.{owner_is, tasks_are}
use Rattle.machine_core.proofs.ReadLemmas.{task_own, task_there}
use Rattle.machine_core.specs.machine_parts.Parts.{is_own, task_here}
use Rattle.machine_core.specs.declared.machine_parts.cores.Core.{Core}
use Rattle.engine_runs.proofs.finish.tasks.task_of.Goals as goal

pub returns-clause-some : goal.returns-clause-some
returns-clause-some g c = λ st a m setting is.
    let core_is = c.core_of-core.ensures.parts in
    tasks_are g.P.Program.meaning c.args.member.now st a m is c.index.result.now.0 ∙ ap (λ (k : Core). task_here k.numbers c.index.result.now.0) (sym core_is)
    ∙ task_there c.core_of-core.result.now c.in_ok-place.place.0 c.index.result.now c.core_of-core.ensures.places c.in_ok-place.ensures c.index.ensures

pub returns-clause-own : goal.returns-clause-own
returns-clause-own g c = λ st a m setting is.
    let core_is = c.core_of-core.ensures.parts in
    owner_is g.P.Program.meaning c.args.member.now st a m is c.index.result.now.0 (ap (λ (k : Core). is_own k.numbers.local c.index.result.now.0) (sym core_is)
    ∙ task_own c.core_of-core.result.now c.in_ok-place.place.0 c.index.result.now c.core_of-core.ensures.places c.in_ok-place.ensures c.index.ensures
    c.core_of-core.ensures.orderly)
