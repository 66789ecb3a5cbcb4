-- The run from its beginning to its end, by whatever owners the placement gives.
use Rattle.std.proofs.Common.{Err, ap, length, refl, subst, sym, ◌∙◌, ◌≡◌}
use Rattle.std.proofs.lemmas.Result.{err_from_is_err_and}
use Rattle.graph_core.specs.DataGraph.{IsDataGraph}
use Rattle.store.specs.declared.snap_journal.faults.JournalFault.TheVariants.{BadStore}
use Rattle.engine_runs.proofs.Refusing.{fault_in, same_fault}
use Rattle.engine_runs.proofs.OnThreads.{keeps_ended}
use Rattle.engine_runs.proofs.placement_is_unique.Placements.{placed_once}
use Rattle.engine_runs.proofs.Runs.{all_finish, by_earlier, err_so, err_then, keeps_owner, never_full_of, never_other, never_spent, never_stopped, not_by_fault, not_gathered, ok_then, only_begun, only_gathered, only_stopped, run_by, short_first, runs_owner, stopped}
use Rattle.engine_runs.specs.Calls.{EndsBy, snapshots_in}
use Rattle.engine_runs.specs.Runs.{IsFinishedOrNoMemory, lists_of}
use Rattle.engine_runs.proofs.running.run_stored.Goals as goal

pub returns-in-Err-clause-same : goal.returns-in-Err-clause-same
returns-in-Err-clause-same g c = g.met.D.Disk.same_trans _ _ _ c.in_ok-call.ensures.same c.in-Err.ensures.same

pub returns-in-Ok-clause-same : goal.returns-in-Ok-clause-same
returns-in-Ok-clause-same g c = g.met.D.Disk.same_trans _ _ _ c.in_ok-call.ensures.same c.in-Ok.ensures.same

pub returns-in-Err-clause-refused : goal.returns-in-Err-clause-refused
returns-in-Err-clause-refused g c =
    let graph = c.args.input.now.graph.now in
    let there = c.in_ok-call.ensures.setting in
    let sound : IsDataGraph graph = subst IsDataGraph there.1.placed.graph there.1.setting.is.graph in
    stopped _ _ _ _ _ _ _
    (λ told. keeps_owner g.P.Program.meaning g.D.Disk.past graph (g.P.Program.meaning c.args.program) c.args.input.now.cut.now c.args.input.now.plan c.args.input.now.failures.now c.args.journal.now c.begin.new.journal c.play_to_end.new.journal c.in_ok-call.call c.in-Err.ensures.keeps.later c.args.resumed
    sound c.in_ok-call.ensures.places (placed_once graph c.args.input.now.cut.now c.args.input.now.plan.run.machines c.requires.plan.machines) (c.in_ok-call.ensures.begun told)
    (c.in-Err.ensures.keeps.same.failures ∙ c.in_ok-call.ensures.failures) (c.in-Err.ensures.header ∙ c.in_ok-call.ensures.header) (c.in-Err.ensures.keeps.keeps told))
    c.in-Err.ensures.refused

pub returns-in-Ok-clause-run : goal.returns-in-Ok-clause-run
returns-in-Ok-clause-run g c = λ told.
    let graph = c.args.input.now.graph.now in
    let there = c.in_ok-call.ensures.setting in
    let sound : IsDataGraph graph = subst IsDataGraph there.1.placed.graph there.1.setting.is.graph in
    let counted : length (snapshots_in g.D.Disk.past c.args.journal.now) ≡ c.args.journal.now.count = sym (c.in_ok-call.ensures.knew told c.requires.well).snapshots in
    ok_then c.gathered.result _ _
    (λ run is. runs_owner g.P.Program.meaning g.D.Disk.past graph (g.P.Program.meaning c.args.program) c.args.input.now.cut.now c.args.input.now.plan c.args.input.now.failures.now c.args.journal.now c.begin.new.journal c.play_to_end.new.journal c.in_ok-call.call c.in-Ok.ended.0 c.args.resumed
    sound c.in_ok-call.ensures.places (placed_once graph c.args.input.now.cut.now c.args.input.now.plan.run.machines c.requires.plan.machines) (c.in_ok-call.ensures.begun told)
    (c.in-Ok.ensures.call.failures ∙ c.in_ok-call.ensures.failures) (c.in-Ok.ensures.header ∙ c.in_ok-call.ensures.header)
    c.in-Ok.ended.1 run c.args.journal.now.count (c.in-Ok.ensures.ends told) c.in-Ok.ensures.call.places counted (c.in-Ok.ensures.call.saves ∙ c.in_ok-call.ensures.saves) is)
    c.gathered.ensures.run

pub returns-in-Ok-clause-engine : goal.returns-in-Ok-clause-engine
returns-in-Ok-clause-engine g c = λ told.
    let graph = c.args.input.now.graph.now in
    let there = c.in_ok-call.ensures.setting in
    let sound : IsDataGraph graph = subst IsDataGraph there.1.placed.graph there.1.setting.is.graph in
    ok_then c.gathered.result _ _
    (λ run is. run_by g.P.Program.meaning g.D.Disk.past graph (g.P.Program.meaning c.args.program) c.args.input.now.cut.now c.args.input.now.plan c.args.input.now.failures.now c.args.journal.now c.begin.new.journal c.play_to_end.new.journal c.in_ok-call.call c.in-Ok.ended.0 c.args.resumed
    sound c.in_ok-call.ensures.places (placed_once graph c.args.input.now.cut.now c.args.input.now.plan.run.machines c.requires.plan.machines) (c.in_ok-call.ensures.begun told)
    (c.in-Ok.ensures.call.failures ∙ c.in_ok-call.ensures.failures) (c.in-Ok.ensures.header ∙ c.in_ok-call.ensures.header)
    c.in-Ok.ended.1 (lists_of run) (c.in-Ok.ensures.ends told) c.in-Ok.ensures.call.places is)
    c.gathered.ensures.trace

pub returns-in-Ok-clause-placed : goal.returns-in-Ok-clause-placed
returns-in-Ok-clause-placed g c = ok_then c.gathered.result _ _ (λ run is. (_, c.in_ok-call.ensures.places.placement)) c.gathered.ensures.end

pub returns-in-Ok-clause-by : goal.returns-in-Ok-clause-by
returns-in-Ok-clause-by g c =
    ok_then c.gathered.result _ _
    (λ run is. subst (EndsBy c.play_to_end.new.journal (g.D.Disk.faults c.args.journal.now.disk) (g.D.Disk.faults c.play_to_end.new.journal.disk)) (sym is)
    (by_earlier c.play_to_end.new.journal (g.D.Disk.faults c.args.journal.now.disk) (g.D.Disk.faults c.begin.new.journal.disk) (g.D.Disk.faults c.play_to_end.new.journal.disk) c.in-Ok.ended.1 c.in_ok-call.ensures.later c.in-Ok.ensures.by))
    c.gathered.ensures.end

pub returns-in-Ok-clause-refused : goal.returns-in-Ok-clause-refused
returns-in-Ok-clause-refused g c =
    let graph = c.args.input.now.graph.now in
    let there = c.in_ok-call.ensures.setting in
    let sound : IsDataGraph graph = subst IsDataGraph there.1.placed.graph there.1.setting.is.graph in
    err_then c.gathered.result _ _
    (λ why other. not_gathered _ _ _ _ _ _ _ _ why
    (λ told. keeps_owner g.P.Program.meaning g.D.Disk.past graph (g.P.Program.meaning c.args.program) c.args.input.now.cut.now c.args.input.now.plan c.args.input.now.failures.now c.args.journal.now c.begin.new.journal c.play_to_end.new.journal c.in_ok-call.call c.in-Ok.ended.0 c.args.resumed
    sound c.in_ok-call.ensures.places (placed_once graph c.args.input.now.cut.now c.args.input.now.plan.run.machines c.requires.plan.machines) (c.in_ok-call.ensures.begun told)
    (c.in-Ok.ensures.call.failures ∙ c.in_ok-call.ensures.failures) (c.in-Ok.ensures.header ∙ c.in_ok-call.ensures.header) (keeps_ended g.P.Program.meaning g.D.Disk.past graph (g.P.Program.meaning c.args.program) c.in_ok-call.call c.in-Ok.ended.0 c.begin.new.journal c.play_to_end.new.journal c.in-Ok.ended.1 (c.in-Ok.ensures.ends told)))
    other)
    c.gathered.ensures.other

pub returns-in_err-call-clause-good : goal.returns-in_err-call-clause-good
returns-in_err-call-clause-good g c = λ told owner placement good short bad is.
    let exit = err_from_is_err_and c.from_residual.result c.from_residual.ensures.1 in
    c.in_err-call.ensures.good told short bad (ap Err (fault_in c.from_residual.result exit.0 c.in_err-call.field-0.0 (BadStore bad) exit.1 exit.2 is))

pub returns-in-Err-clause-good : goal.returns-in-Err-clause-good
returns-in-Err-clause-good g c = λ told owner placement good short bad is.
    let graph = c.args.input.now.graph.now in
    let there = c.in_ok-call.ensures.setting in
    let sound : IsDataGraph graph = subst IsDataGraph there.1.placed.graph there.1.setting.is.graph in
    never_stopped g.P.Program.meaning g.D.Disk.past graph (g.P.Program.meaning c.args.program) c.args.input.now.cut.now c.args.input.now.plan c.args.input.now.failures.now c.args.journal.now c.begin.new.journal c.play_to_end.new.journal c.in_ok-call.call c.in-Err.ensures.keeps.later c.args.resumed
    sound c.in_ok-call.ensures.places (placed_once graph c.args.input.now.cut.now c.args.input.now.plan.run.machines c.requires.plan.machines) (c.in_ok-call.ensures.begun told)
    (c.in-Err.ensures.keeps.same.failures ∙ c.in_ok-call.ensures.failures) (c.in-Err.ensures.header ∙ c.in_ok-call.ensures.header)
    c.requires.plan.budget c.requires.few c.requires.places c.in_ok-call.ensures.failures c.in_ok-call.ensures.long short owner placement good
    _ (c.in-Err.ensures.good told) bad (ap Err (same_fault c.in-Err.why (BadStore bad) is))

pub returns-in-Ok-clause-good : goal.returns-in-Ok-clause-good
returns-in-Ok-clause-good g c = λ told owner placement good short bad is.
    let graph = c.args.input.now.graph.now in
    let there = c.in_ok-call.ensures.setting in
    let sound : IsDataGraph graph = subst IsDataGraph there.1.placed.graph there.1.setting.is.graph in
    err_so c.gathered.result _ (BadStore bad) c.gathered.ensures.other is
    (λ other. never_other g.P.Program.meaning g.D.Disk.past graph (g.P.Program.meaning c.args.program) c.args.input.now.cut.now c.args.input.now.plan c.args.input.now.failures.now c.args.journal.now c.begin.new.journal c.play_to_end.new.journal c.in_ok-call.call c.in-Ok.ended.0 c.args.resumed
    sound c.in_ok-call.ensures.places (placed_once graph c.args.input.now.cut.now c.args.input.now.plan.run.machines c.requires.plan.machines) (c.in_ok-call.ensures.begun told)
    (c.in-Ok.ensures.call.failures ∙ c.in_ok-call.ensures.failures) (c.in-Ok.ensures.header ∙ c.in_ok-call.ensures.header)
    c.requires.plan.budget c.requires.few c.requires.places c.in_ok-call.ensures.failures c.in_ok-call.ensures.long short owner placement good
    c.in-Ok.ended.1 (c.in-Ok.ensures.ends told) c.in-Ok.ensures.call.places (BadStore bad) _ other bad refl)

pub returns-in-Ok-clause-enough : goal.returns-in-Ok-clause-enough
returns-in-Ok-clause-enough g c = λ told.
    let graph = c.args.input.now.graph.now in
    let there = c.in_ok-call.ensures.setting in
    let sound : IsDataGraph graph = subst IsDataGraph there.1.placed.graph there.1.setting.is.graph in
    ok_then c.gathered.result _ _
    (λ run is owner placement good bound steps enough left spent. never_spent g.P.Program.meaning g.D.Disk.past graph (g.P.Program.meaning c.args.program) c.args.input.now.cut.now c.args.input.now.plan c.args.input.now.failures.now c.args.journal.now c.begin.new.journal c.play_to_end.new.journal c.in_ok-call.call c.in-Ok.ended.0 c.args.resumed
    sound c.in_ok-call.ensures.places (placed_once graph c.args.input.now.cut.now c.args.input.now.plan.run.machines c.requires.plan.machines) (c.in_ok-call.ensures.begun told)
    (c.in-Ok.ensures.call.failures ∙ c.in_ok-call.ensures.failures) (c.in-Ok.ensures.header ∙ c.in_ok-call.ensures.header)
    c.in-Ok.ensures.call.places owner placement good c.in-Ok.ended.1 (c.in-Ok.ensures.ends told)
    bound steps enough left (sym is ∙ spent))
    c.gathered.ensures.end

pub returns-in-Ok-clause-roomy : goal.returns-in-Ok-clause-roomy
returns-in-Ok-clause-roomy g c = λ told.
    let graph = c.args.input.now.graph.now in
    let there = c.in_ok-call.ensures.setting in
    let sound : IsDataGraph graph = subst IsDataGraph there.1.placed.graph there.1.setting.is.graph in
    ok_then c.gathered.result _ _
    (λ run is owner placement good room stored long full. never_full_of g.P.Program.meaning g.D.Disk.past graph (g.P.Program.meaning c.args.program) c.args.input.now.cut.now c.args.input.now.plan c.args.input.now.failures.now c.args.journal.now c.begin.new.journal c.play_to_end.new.journal c.in_ok-call.call c.in-Ok.ended.0 c.args.resumed
    sound c.in_ok-call.ensures.places (placed_once graph c.args.input.now.cut.now c.args.input.now.plan.run.machines c.requires.plan.machines) (c.in_ok-call.ensures.begun told)
    (c.in-Ok.ensures.call.failures ∙ c.in_ok-call.ensures.failures) (c.in-Ok.ensures.header ∙ c.in_ok-call.ensures.header)
    c.in-Ok.ensures.call.places owner placement good c.in-Ok.ended.1 (c.in-Ok.ensures.ends told)
    room (c.in_ok-call.ensures.knew told c.requires.well).snapshots (c.in_ok-call.ensures.knew told c.requires.well).bytes
    (c.in-Ok.ensures.call.stopped ∙ c.in_ok-call.ensures.can.running) _ _ c.in-Ok.ensures.by stored long (sym is ∙ full))
    c.gathered.ensures.end

-- ---- it finishes

pub returns-in_err-call-clause-complete : goal.returns-in_err-call-clause-complete
returns-in_err-call-clause-complete g c = λ told owner placement good bound steps enough room none.
    let exit = err_from_is_err_and c.from_residual.result c.from_residual.ensures.1 in
    subst IsFinishedOrNoMemory (sym exit.1)
    (exit.2 ∙ only_begun _ _ _ c.in_err-call.field-0.0 c.requires.well c.in_err-call.ensures.refused none
    (λ bad is. c.in_err-call.ensures.good told (short_first _ _ _ room.short) bad (ap Err is)))

pub returns-in-Err-clause-complete : goal.returns-in-Err-clause-complete
returns-in-Err-clause-complete g c = λ told owner placement good bound steps enough room none.
    let graph = c.args.input.now.graph.now in
    let there = c.in_ok-call.ensures.setting in
    let sound : IsDataGraph graph = subst IsDataGraph there.1.placed.graph there.1.setting.is.graph in
    only_stopped c.in-Err.why c.in-Err.ensures.refused
    (λ bad is. never_stopped g.P.Program.meaning g.D.Disk.past graph (g.P.Program.meaning c.args.program) c.args.input.now.cut.now c.args.input.now.plan c.args.input.now.failures.now c.args.journal.now c.begin.new.journal c.play_to_end.new.journal c.in_ok-call.call c.in-Err.ensures.keeps.later c.args.resumed
    sound c.in_ok-call.ensures.places (placed_once graph c.args.input.now.cut.now c.args.input.now.plan.run.machines c.requires.plan.machines) (c.in_ok-call.ensures.begun told)
    (c.in-Err.ensures.keeps.same.failures ∙ c.in_ok-call.ensures.failures) (c.in-Err.ensures.header ∙ c.in_ok-call.ensures.header)
    c.requires.plan.budget c.requires.few c.requires.places c.in_ok-call.ensures.failures c.in_ok-call.ensures.long (short_first _ _ _ room.short) owner placement good
    _ (c.in-Err.ensures.good told) bad (ap Err is))

pub returns-in-Ok-clause-complete : goal.returns-in-Ok-clause-complete
returns-in-Ok-clause-complete g c = λ told owner placement good bound steps enough room none.
    let graph = c.args.input.now.graph.now in
    let there = c.in_ok-call.ensures.setting in
    let sound : IsDataGraph graph = subst IsDataGraph there.1.placed.graph there.1.setting.is.graph in
    all_finish c.gathered.result
    (ok_then c.gathered.result _ _ (λ run spent. spent owner placement good bound steps enough) (returns-in-Ok-clause-enough g c told))
    (ok_then c.gathered.result _ _ (λ run full. full owner placement good room) (returns-in-Ok-clause-roomy g c told))
    (ok_then c.gathered.result _ _ (λ run by. not_by_fault c.play_to_end.new.journal _ _ run.end none by) (returns-in-Ok-clause-by g c))
    (err_then c.gathered.result _ _
    (λ why other. only_gathered why _ _ other
    (never_other g.P.Program.meaning g.D.Disk.past graph (g.P.Program.meaning c.args.program) c.args.input.now.cut.now c.args.input.now.plan c.args.input.now.failures.now c.args.journal.now c.begin.new.journal c.play_to_end.new.journal c.in_ok-call.call c.in-Ok.ended.0 c.args.resumed
    sound c.in_ok-call.ensures.places (placed_once graph c.args.input.now.cut.now c.args.input.now.plan.run.machines c.requires.plan.machines) (c.in_ok-call.ensures.begun told)
    (c.in-Ok.ensures.call.failures ∙ c.in_ok-call.ensures.failures) (c.in-Ok.ensures.header ∙ c.in_ok-call.ensures.header)
    c.requires.plan.budget c.requires.few c.requires.places c.in_ok-call.ensures.failures c.in_ok-call.ensures.long (short_first _ _ _ room.short) owner placement good
    c.in-Ok.ended.1 (c.in-Ok.ensures.ends told) c.in-Ok.ensures.call.places why _ other))
    c.gathered.ensures.other)

pub returns-in-Ok-clause-knows : goal.returns-in-Ok-clause-knows
returns-in-Ok-clause-knows g c = λ told. ok_then c.gathered.result _ _ (λ run is. c.length-long.ensures.knows told) c.gathered.ensures.end
