use Rattle.std.proofs.Common.{◌≡◌, [], drop, map}
use Rattle.serde_json.specs.View.{view}
use Rattle.job_io.proofs.job_config.Lists.{gathered}
use Rattle.job_io.proofs.job_config.failures.read_each.Given as goal

abbrev pub invariant-loop-value : goal.invariant-loop-value
invariant-loop-value l =
    gathered l.failures.items (map view (drop l.value-index l.values)) ≡ gathered [] (map view l.values)
