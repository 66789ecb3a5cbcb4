-- The failures before the place are in their ranges.
use Rattle.std.proofs.Common.{◌∙◌, sym}
use Rattle.job_io.proofs.job_config.Lists.{faulty_here, faulty_next}
use Rattle.job_io.proofs.job_config.failures.first_out_of_range.Goals as goal

pub returns-then-is_out_of_range : goal.returns-then-is_out_of_range
returns-then-is_out_of_range c =
    sym (faulty_here c.args.machines c.loop-place.place c.args.failures.now _ c.loop-place-test.true (sym c.is_out_of_range.ensures ∙ c.if-is_out_of_range.true))
    ∙ c.loop-place.invariant

pub loop-place-preserved : goal.loop-place-preserved
loop-place-preserved c =
    sym (faulty_next c.args.machines c.loop-place.place c.args.failures.now _ c.loop-place-test.true (sym c.is_out_of_range.ensures ∙ c.if-is_out_of_range.false))
    ∙ c.loop-place.invariant
