-- The course goes on, and what is known of it goes on with it.
use Rattle.std.proofs.Common.{◌∙◌, ap}
use Rattle.engine_runs.specs.Calls.{IsAnyMachineOf}
use Rattle.engine_runs.proofs.stores.Keeping.{passes_known}
use Rattle.engine_runs.proofs.unstored.steps.go_on.Goals as goal

pub returns-clause-known : goal.returns-clause-known
returns-clause-known g c = λ header start bodies st o known.
    passes_known (IsAnyMachineOf g.P.Program.meaning) c.args.call.now.trace c.drive_unsaved.new.trace header start bodies _ _ _ _ st o
    (record {
      start = c.drive_unsaved.ensures.same.start ∙ ap (λ (v : _). v.start) c.remember.ensures;
      failures = c.drive_unsaved.ensures.same.failures ∙ ap (λ (v : _). v.failures) c.remember.ensures;
      done = c.drive_unsaved.ensures.same.done ∙ ap (λ (v : _). v.done) c.remember.ensures;
      since = c.drive_unsaved.ensures.same.since ∙ ap (λ (v : _). v.since) c.remember.ensures;
    })
    c.drive_unsaved.ensures.since known
