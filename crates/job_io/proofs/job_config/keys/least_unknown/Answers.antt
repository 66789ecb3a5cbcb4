-- The keys ascend, so that the first that is unknown is the least.
use Rattle.std.proofs.Common.{◌≡◌, ◌∙◌, ap, filter, map, rules, string_bytes, sym}
use Rattle.std.specs.List.{find}
use Rattle.job_io.specs.job_config.Keys.{is_unknown, least_key}
use Rattle.job_io.proofs.job_config.Least.{first_is_least}
use Rattle.job_io.proofs.job_config.Lists.{names-keys}
use Rattle.job_io.proofs.job_config.keys.least_unknown.Goals as goal

pub loop-name-init : goal.loop-name-init
loop-name-init c =
    let same : c.into_iter-name-iterator.result ≡ c.keys-name-items.result = search rules in
    ap (λ ks. find is_unknown (map string_bytes ks)) (same ∙ c.keys-name-items.ensures.rest)
    ∙ first_is_least _ c.keys-name-items.ensures.ordered
    ∙ ap (λ ks. least_key (filter is_unknown ks)) (sym (names-keys c.args.members.now.entries))
