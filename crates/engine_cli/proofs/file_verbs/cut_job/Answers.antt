use Rattle.std.proofs.Common.{◌≡◌, Some, sym, ap, ◌∙◌}
use Rattle.std.proofs.Common.{List, ℕ}
use Rattle.engine_cli.proofs.CutMade.{cut-done, cut-failed, cut-unread}
use Rattle.engine_cli.proofs.file_verbs.cut_job.Goals as goal

pub returns-in-Err-clause-cut : goal.returns-in-Err-clause-cut
returns-in-Err-clause-cut g c =
    rw c.into.ensures (cut-unread (g.F.Files.state c.args.files.now) (g.F.Files.state c.read_input.new.files) c.args.file.now c.in-Err.why c.in-Err.ensures.answer c.in-Err.ensures.read)

pub returns-in-Ok-write_cut-clause-cut : goal.returns-in-Ok-write_cut-clause-cut
returns-in-Ok-write_cut-clause-cut g c =
    let made = c.in-Ok-write_cut.ensures in
    let named : c.in-Ok.input.job.atoms_at ≡ Some c.as_str.result.now = c.in-Some.is ∙ ap (λ (n : List ℕ). Some n) (sym c.as_str.ensures) in
    cut-done (g.F.Files.state c.args.files.now) (g.F.Files.state c.read_input.new.files) (g.F.Files.state c.write_cut.new.files) c.args.file.now c.in-Ok.input c.as_str.result.now
    c.in-Ok.ensures.answer c.in-Ok.ensures.read named made.wrote made.written made.fronts

pub returns-clause-cut : goal.returns-clause-cut
returns-clause-cut g c =
    let made = c.in-Err-write_cut.ensures in
    let named : c.in-Ok.input.job.atoms_at ≡ Some c.as_str.result.now = c.in-Some.is ∙ ap (λ (n : List ℕ). Some n) (sym c.as_str.ensures) in
    rw c.into-in-Err-write_cut.ensures
    (cut-failed (g.F.Files.state c.args.files.now) (g.F.Files.state c.read_input.new.files) (g.F.Files.state c.write_cut.new.files) c.args.file.now c.in-Ok.input c.as_str.result.now
    c.in-Ok.ensures.answer c.in-Ok.ensures.read named made.wrote c.in-Err-write_cut.why made.fault made.fronts)
