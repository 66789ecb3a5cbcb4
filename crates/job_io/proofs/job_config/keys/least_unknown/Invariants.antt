use Rattle.std.proofs.Common.{◌≡◌, map, string_bytes}
use Rattle.std.specs.List.{find}
use Rattle.serde_json.specs.View.{members_view}
use Rattle.job_io.specs.job_config.Failures.{keys_in}
use Rattle.job_io.specs.job_config.Keys.{is_unknown, least_unknown}
use Rattle.job_io.proofs.job_config.keys.least_unknown.Given as goal

abbrev pub invariant-loop-name : goal.invariant-loop-name
invariant-loop-name l =
    find is_unknown (map (λ s. string_bytes s) l.name-iterator) ≡ least_unknown (keys_in (members_view l.members.entries))
