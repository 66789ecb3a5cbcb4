use Rattle.std.proofs.Common.{IsTrue, ◌∙◌, ◌≡◌, subst}
use Rattle.job_io.specs.job_config.Views.{job_view}
use Rattle.job_io.specs.job_stores.JobHeaders.{header_for}
use Rattle.recovery.specs.Journals.{snapshots_in}
use Rattle.store.specs.store_format.Stores.{DecodesTo}
use Rattle.store.specs.declared.store_format.header.Header.{Header}
use Rattle.engine_cli.proofs.StoredBy.{IfErr-map, IfOk-two}
use Rattle.engine_cli.proofs.StoreRuns.{not-on-disk, run-of-header, runs-on-store, why-of-header}
use Rattle.engine_cli.proofs.storing.run_on_disk.Goals as goal

pub returns-in-Ok-clause-run : goal.returns-in-Ok-clause-run
returns-in-Ok-clause-run g c told =
    let job = job_view c.args.input.now.job in
    let graph = c.args.input.now.graph in
    let cut = c.args.input.now.cut in
    let old = g.D.Disk.past c.args.disk in
    let bodies = snapshots_in g.D.Disk.past c.in-Ok.journal in
    let same : c.in-Ok.journal.header ≡ header_for job.fields graph = c.in-Ok.ensures.header.0 ∙ c.header_of-header.ensures.header in
    let stands : DecodesTo (header_for job.fields graph) bodies old.now.seen = subst (λ (h : Header). DecodesTo h bodies old.now.seen) c.header_of-header.ensures.header (c.in-Ok.ensures.stands told) in
    rw c.into_disk.ensures
    (IfOk-two c.run_on_journal.result _ _ _
    (λ run fresh from.
    runs-on-store job graph cut old (g.D.Disk.past c.in-Ok.journal.disk) (g.D.Disk.past c.run_on_journal.new.journal.disk) bodies (g.met.D.Disk.reads_an_image c.args.disk told) stands (c.in-Ok.ensures.any_moment told)
    c.args.resumed run c.requires.graph c.requires.start c.requires.edges_fit fresh (run-of-header job graph cut _ c.in-Ok.journal.header (header_for job.fields graph) c.args.resumed bodies _ _ run same from))
    (c.run_on_journal.ensures.fresh told) (c.run_on_journal.ensures.run told))

pub returns-in-Ok-clause-refused : goal.returns-in-Ok-clause-refused
returns-in-Ok-clause-refused g c =
    let job = job_view c.args.input.now.job in
    let graph = c.args.input.now.graph in
    let cut = c.args.input.now.cut in
    let old = g.D.Disk.past c.args.disk in
    let bodies = snapshots_in g.D.Disk.past c.in-Ok.journal in
    let T : Type 0 = IsTrue g.D.Disk.observable in
    let same : c.in-Ok.journal.header ≡ header_for job.fields graph = c.in-Ok.ensures.header.0 ∙ c.header_of-header.ensures.header in
    let stands : T → DecodesTo (header_for job.fields graph) bodies old.now.seen =
    λ told. subst (λ (h : Header). DecodesTo h bodies old.now.seen) c.header_of-header.ensures.header (c.in-Ok.ensures.stands told) in
    rw c.into_disk.ensures
    (IfErr-map c.run_on_journal.result _ _
    (λ why refused.
    not-on-disk T c.args.resumed job graph cut old (g.D.Disk.past c.in-Ok.journal.disk) (g.D.Disk.past c.run_on_journal.new.journal.disk) bodies (g.D.Disk.faults c.args.disk) (g.D.Disk.faults c.in-Ok.journal.disk) _ why
    c.requires.numbers.machines.0 (λ told. g.met.D.Disk.reads_an_image c.args.disk told) stands (λ told. c.in-Ok.ensures.any_moment told) c.in-Ok.ensures.later
    (why-of-header T c.args.resumed job graph cut _ c.in-Ok.journal.header (header_for job.fields graph) bodies _ _ _ _ why same refused))
    c.run_on_journal.ensures.refused)

pub returns-in-Ok-clause-same : goal.returns-in-Ok-clause-same
returns-in-Ok-clause-same g c = rw c.into_disk.ensures (g.met.D.Disk.same_trans _ _ _ c.in-Ok.ensures.same c.run_on_journal.ensures.same)
