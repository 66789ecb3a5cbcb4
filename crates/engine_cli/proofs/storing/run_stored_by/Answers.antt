use Rattle.std.proofs.Common.{IsTrue, ℕ, ◌+◌, ◌^◌, ◌≤◌, Err, sym, ap, ◌∙◌, subst}
use Rattle.job_io.specs.job_config.Views.{job_view}
use Rattle.recovery.specs.Journals.{records_size, snapshots_in}
use Rattle.store.specs.declared.snap_journal.faults.JournalFault.{JournalFault}
use Rattle.engine_cli.proofs.StoredBy.{IfErr-is, IfOk-both, IfOk-map, IfOk-two, fault-by, full-by, run-from, why-not-stored}
use Rattle.engine_cli.proofs.storing.run_stored_by.Goals as goal

pub returns-clause-run : goal.returns-clause-run
returns-clause-run g c told =
    let job = job_view c.args.input.now.job in
    let bodies = snapshots_in g.D.Disk.past c.args.journal.now in
    let old = g.D.Disk.past c.args.journal.now.disk in
    let after = c.run_stored.new.journal in
    let new = g.D.Disk.past after.disk in
    let knew = c.run_stored.ensures.knew told in
    let says = IfOk-both c.run_stored.result _ _
    (IfOk-both c.run_stored.result _ _ (IfOk-both c.run_stored.result _ _ (c.run_stored.ensures.run told) c.run_stored.ensures.placed) (c.run_stored.ensures.engine told))
    (IfOk-both c.run_stored.result _ _ (c.run_stored.ensures.enough told) (c.run_stored.ensures.roomy told)) in
    IfOk-two c.run_stored.result _ _ _
    (λ run said ends.
    run-from job c.args.input.now.graph c.args.input.now.cut (g.P.Program.meaning c.args.program) bodies old new c.plan_of.result c.deref.result.now c.args.journal.now.header after.header
    c.run_stored.ensures.header c.plan_of.ensures c.deref.ensures.value c.args.resumed c.args.journal.now.count c.args.journal.now.length run knew.snapshots knew.bytes said.0.0.0 said.0.0.1 said.0.1 said.1.0 said.1.1
    (full-by g.D.Disk.past after _ _ ends.1 run.end ends.0))
    says (IfOk-both c.run_stored.result _ _ c.run_stored.ensures.by (c.run_stored.ensures.knows told))

pub returns-clause-fault : goal.returns-clause-fault
returns-clause-fault g c =
    IfOk-map c.run_stored.result _ _ (λ run by. fault-by c.run_stored.new.journal _ _ run.end by) c.run_stored.ensures.by

pub returns-clause-refused : goal.returns-clause-refused
returns-clause-refused g c =
    let job = job_view c.args.input.now.job in
    let bodies = snapshots_in g.D.Disk.past c.args.journal.now in
    let old = g.D.Disk.past c.args.journal.now.disk in
    let new = g.D.Disk.past c.run_stored.new.journal.disk in
    let short : IsTrue g.D.Disk.observable → 65 + records_size bodies ≤ 2 ^ 30 → c.args.journal.now.length ≤ 2 ^ 30 = λ told few. subst (λ (l : ℕ). l ≤ 2 ^ 30) (sym (c.run_stored.ensures.knew told).bytes) few in
    IfErr-is c.run_stored.result _ _
    (λ fault is refused.
    why-not-stored job c.args.input.now.graph c.args.input.now.cut (g.P.Program.meaning c.args.program) bodies old new c.plan_of.result c.deref.result.now c.args.journal.now.header c.run_stored.new.journal.header
    c.run_stored.ensures.header c.plan_of.ensures c.deref.ensures.value _ _ _ fault refused
    (λ why same told owner placed good few. c.run_stored.ensures.good told owner placed good (short told few) why (is ∙ ap (λ (f : JournalFault). Err f) same)))
    c.run_stored.ensures.refused
