use Rattle.std.proofs.Common.{sym, ap, subst}
use Rattle.std.specs.Prelude.{IfOk}
use Rattle.std.proofs.lemmas.Result.{IfErr-weaker}
use Rattle.gl_outside.specs.Disk.{DiskPast}
use Rattle.store.specs.snap_journal.Inner.Found.{IsFound}
use Rattle.store.proofs.snap_journal.AppendLemmas.{not_synced, synced_once, synced_rests, synced_seen}
use Rattle.store.proofs.snap_journal.SurveyLemmas.{why_through, if_ok_always}
use Rattle.store.proofs.snap_journal.opening.synced_and_read.Goals as goal

pub returns-in_err-sync-clause-any_moment : goal.returns-in_err-sync-clause-any_moment
returns-in_err-sync-clause-any_moment g c = λ told. not_synced _ _ (c.in_err-sync.ensures.past told)

pub returns-clause-any_moment : goal.returns-clause-any_moment
returns-clause-any_moment g c = λ told.
    synced_once (g.D.Disk.past c.args.disk.now) (g.D.Disk.past c.sync.new.self) (g.D.Disk.past c.survey.new.disk) (c.in_ok-sync.ensures.past told) (c.survey.ensures.past told) (g.met.D.Disk.reads_an_image c.args.disk.now told)

pub returns-clause-bytes : goal.returns-clause-bytes
returns-clause-bytes g c = λ told.
    synced_seen (g.D.Disk.past c.args.disk.now) (g.D.Disk.past c.sync.new.self) (g.D.Disk.past c.survey.new.disk) (c.in_ok-sync.ensures.past told) (c.survey.ensures.past told)

pub returns-clause-synced : goal.returns-clause-synced
returns-clause-synced g c = λ told.
    if_ok_always c.survey.result _ (λ found. synced_rests (g.D.Disk.past c.args.disk.now) (g.D.Disk.past c.sync.new.self) (g.D.Disk.past c.survey.new.disk) (c.in_ok-sync.ensures.past told) (c.survey.ensures.past told))

pub returns-clause-found : goal.returns-clause-found
returns-clause-found g c = λ told.
    let P : DiskPast → Type 0 = λ p. IfOk c.survey.result (λ found. IsFound c.args.header.now p.now.seen found.count found.gate) in
    subst P (sym (c.survey.ensures.past told)) (c.survey.ensures.found told)

pub returns-clause-fault : goal.returns-clause-fault
returns-clause-fault g c =
    IfErr-weaker c.survey.result _ _ (λ fault why. why_through _ c.args.header.now (g.D.Disk.past c.args.disk.now).now.seen (g.D.Disk.past c.sync.new.self).now.seen _ _ _ fault
    (λ told. ap (λ (p : DiskPast). p.now.seen) (c.in_ok-sync.ensures.past told)) c.in_ok-sync.ensures.counts.later why) c.survey.ensures.fault

pub returns-clause-same : goal.returns-clause-same
returns-clause-same g c = g.met.D.Disk.same_trans _ _ _ c.in_ok-sync.ensures.same c.survey.ensures.same
