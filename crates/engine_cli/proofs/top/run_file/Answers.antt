use Rattle.std.proofs.Common.{◌≡◌, ℕ, List, subst}
use Rattle.engine_cli.specs.Notes.{WritesNote}
use Rattle.engine_cli.specs.JobRuns.{lists_of_call}
use Rattle.engine_cli.specs.StatusMeanings.{moment}
use Rattle.engine_cli.proofs.RunsSay.{run-retold}
use Rattle.engine_cli.proofs.top.run_file.Goals.{in-Done, in_default}
use Rattle.engine_cli.proofs.top.run_file.Goals as goal

pub returns-clause-run : goal.returns-clause-run
returns-clause-run g c =
    let before = moment (g.F.Files.state c.args.files.now) (g.K.Sink.faults c.args.out.now) (g.K.Sink.held c.args.out.now) in
    let now = moment (g.F.Files.state c.run_job-ended.new.files) (g.K.Sink.faults c.run_job-ended.new.out) (g.K.Sink.held c.run_job-ended.new.out) in
    let ended = c.run_job-ended.result in
    let lists = lists_of_call ended.ended in
    let tells : List ℕ → Type 0 = λ told. ended.report.items ≡ told in
    elim c.match-status.branch [
      | in-Done w ↦
          let retells : List ℕ → Type 0 = λ told. WritesNote told (g.N.Sink.held c.args.note.now) (g.N.Sink.held w.tell_report-status.new.note) (g.N.Sink.faults c.args.note.now) (g.N.Sink.faults w.tell_report-status.new.note) in
          rw (w.status-is, w.note-is, w.tell_report-status.ensures.status)
          (rw w.in-Done.is at (run-retold g.F.Files.disks_observable c.args.asked.now.verb c.args.asked.now.file.now c.args.asked.now.is_reported before now tells retells lists ended.ended.status
          (λ done told is. subst retells is (rw w.deref.ensures.value at w.tell_report-status.ensures.note)) c.run_job-ended.ensures.run))
      | in_default w ↦
          let retells : List ℕ → Type 0 = λ told. WritesNote told (g.N.Sink.held c.args.note.now) (g.N.Sink.held w.refuse-status.new.note) (g.N.Sink.faults c.args.note.now) (g.N.Sink.faults w.refuse-status.new.note) in
          rw (w.status-is, w.note-is, w.refuse-status.ensures.status)
          (run-retold g.F.Files.disks_observable c.args.asked.now.verb c.args.asked.now.file.now c.args.asked.now.is_reported before now tells retells lists ended.ended.status
          (λ is. absurd (w.in_default.not-Done is)) c.run_job-ended.ensures.run)
    ]

pub returns-clause-note : goal.returns-clause-note
returns-clause-note g c = elim c.match-status.branch [
  | in-Done w ↦ rw (w.status-is, w.note-is, w.tell_report-status.ensures.status) (λ refused. absurd refused)
  | in_default w ↦ rw (w.status-is, w.note-is) (λ refused. w.refuse-status.ensures.note)
]
