-- The lists are those of the run.
use Rattle.std.proofs.Common.{All, [], inr, refl, rules, subst, sym, ◌++◌}
use Rattle.engine_runs.proofs.finish.EndLemmas.{ended}
use Rattle.engine_runs.specs.answers.Unstored.{HasRestartsFirst, IsUnstoredRun}
use Rattle.engine_runs.specs.Calls.{shared_of}
use Rattle.engine_runs.specs.finish.Gathered.{IsAnyMachineOf, gathered_lists}
use Rattle.engine_runs.specs.declared.answers.runs.StoredRun.{StoredRun}
use Rattle.engine_runs.proofs.Ended.{trace_so, gathers, run_alone, run_so}
use Rattle.engine_runs.specs.Runs.{HasTraceOf, IsEntryOf, IsRunSo, lists_of}
use Rattle.engine_runs.proofs.running.gathered.Goals as goal

pub returns-in-Ok-clause-run : goal.returns-in-Ok-clause-run
returns-in-Ok-clause-run g c = λ program header start added st o runs at takes.
    let meaning = g.P.Program.meaning in
    let graph = c.args.graph.now in
    let call = c.args.call in
    let lists = c.in-Ok.lists in
    subst (IsRunSo c.args.call.saves_end st c.args.failures.now o start added) (sym c.run_of.ensures)
    (run_so meaning graph program call header start added st o c.args.end runs at c.args.failures.now c.requires.failures c.requires.running lists
    (c.in-Ok.ensures.gathered call.lost.items st o at.known.was.events at.known.was.cluster at.now (gathers meaning graph program call header start added st o c.args.end runs at))
    (ended (IsAnyMachineOf meaning) at.paused header start (start ++ added) call.lost.items call.restarts.stored.items call.restarts.front.items call.order.items st o at.known (gathered_lists call.lost.items lists)) takes)

pub returns-in-Ok-clause-alone : goal.returns-in-Ok-clause-alone
returns-in-Ok-clause-alone g c = λ program header st o runs at resumed gives again.
    let meaning = g.P.Program.meaning in
    let graph = c.args.graph.now in
    let call = c.args.call in
    let lists = c.in-Ok.lists in
    subst (IsUnstoredRun (shared_of st c.args.failures.now) st.machines o.first.left) (sym c.run_of.ensures)
    (run_alone meaning graph program call header [] [] st o c.args.end runs at c.args.failures.now c.requires.failures c.requires.running lists
    (c.in-Ok.ensures.gathered call.lost.items st o at.known.was.events at.known.was.cluster at.now (gathers meaning graph program call header [] [] st o c.args.end runs at))
    (ended (IsAnyMachineOf meaning) at.paused header [] [] call.lost.items call.restarts.stored.items call.restarts.front.items call.order.items st o at.known (gathered_lists call.lost.items lists))
    refl refl resumed gives (subst (λ (r : StoredRun). HasRestartsFirst r.order.items) c.run_of.ensures again))

pub returns-in-Ok-clause-trace : goal.returns-in-Ok-clause-trace
returns-in-Ok-clause-trace g c = λ program header start added st o runs at.
    let meaning = g.P.Program.meaning in
    let graph = c.args.graph.now in
    let call = c.args.call in
    subst (λ (r : StoredRun). HasTraceOf c.args.failures.now st o at.known.was.events at.known.was.cluster (lists_of r)) (sym c.run_of.ensures)
    (trace_so meaning graph program call header start added st o c.args.end runs at c.args.failures.now c.requires.failures c.in-Ok.lists
    (c.in-Ok.ensures.gathered call.lost.items st o at.known.was.events at.known.was.cluster at.now (gathers meaning graph program call header start added st o c.args.end runs at)))

pub returns-in-Ok-clause-entries : goal.returns-in-Ok-clause-entries
returns-in-Ok-clause-entries g c = subst (λ (r : StoredRun). All (IsEntryOf c.args.graph.now) r.order.items) (sym c.run_of.ensures) c.in-Ok.ensures.entries

pub returns-in-Err-OtherGraph-clause-other : goal.returns-in-Err-OtherGraph-clause-other
returns-in-Err-OtherGraph-clause-other g c =
    inr (
      refl,
      λ program header start added st o runs at.
          c.in-Err-OtherGraph.ensures.other (search rules) c.args.call.lost.items st o at.known.was.events at.known.was.cluster at.now (gathers g.P.Program.meaning c.args.graph.now program c.args.call header start added st o c.args.end runs at),
    )
