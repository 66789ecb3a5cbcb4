use Rattle.std.proofs.Common.{◌≡◌, Some, sym, ap, ◌∙◌}
use Rattle.std.proofs.Common.{List, ℕ}
use Rattle.engine_cli.proofs.StoreMade.{init-done, init-failed, init-unread}
use Rattle.engine_cli.proofs.file_verbs.init_job.Goals as goal

pub returns-in-Err-clause-init : goal.returns-in-Err-clause-init
returns-in-Err-clause-init g c =
    rw c.into.ensures (init-unread g.F.Files.disks_observable (g.F.Files.state c.args.files.now) (g.F.Files.state c.read_input.new.files) c.args.file.now c.in-Err.why c.in-Err.ensures.answer c.in-Err.ensures.read)

pub returns-in-Ok-make_store-clause-init : goal.returns-in-Ok-make_store-clause-init
returns-in-Ok-make_store-clause-init g c =
    let made = c.in-Ok-make_store.ensures in
    let named : c.in-Ok.input.job.store ≡ Some c.as_str.result.now = c.in-Some.is ∙ ap (λ (n : List ℕ). Some n) (sym c.as_str.ensures) in
    init-done g.F.Files.disks_observable (g.F.Files.state c.args.files.now) (g.F.Files.state c.read_input.new.files) (g.F.Files.state c.make_store.new.files) c.args.file.now c.in-Ok.input c.as_str.result.now
    c.in-Ok.ensures.answer c.in-Ok.ensures.read named made.used made.kept c.header_of.result c.header_of.ensures.header made.made

pub returns-clause-init : goal.returns-clause-init
returns-clause-init g c =
    let made = c.in-Err-make_store.ensures in
    let named : c.in-Ok.input.job.store ≡ Some c.as_str.result.now = c.in-Some.is ∙ ap (λ (n : List ℕ). Some n) (sym c.as_str.ensures) in
    rw c.into-in-Err-make_store.ensures
    (init-failed g.F.Files.disks_observable (g.F.Files.state c.args.files.now) (g.F.Files.state c.read_input.new.files) (g.F.Files.state c.make_store.new.files) c.args.file.now c.in-Ok.input c.as_str.result.now
    c.in-Ok.ensures.answer c.in-Ok.ensures.read named made.used made.kept c.in-Err-make_store.why made.fault)
