use Rattle.std.proofs.Common.{◌≡◌, [], drop, take}
use Rattle.job_io.specs.job_config.Failures.{first_faulty}
use Rattle.job_io.proofs.job_config.failures.first_out_of_range.Given as goal

abbrev pub invariant-loop-place : goal.invariant-loop-place
invariant-loop-place l =
    first_faulty l.machines (take l.place l.failures) (drop l.place l.failures) ≡ first_faulty l.machines [] l.failures
