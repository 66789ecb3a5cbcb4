-- The order that the attempt began with has the store's restarts first.
use Rattle.std.proofs.Common.{◌∙◌, sym}
use Rattle.cluster_scenarios.proofs.RestartLemmas.{begins_with}
use Rattle.cluster_scenarios.proofs.restarts.missing_of.Goals as goal

pub missing_restarts-requires : goal.missing_restarts-requires
missing_restarts-requires c =
    begins_with _ _ c.in_ok-front.front.items c.deref-2.result.now (c.deref-3.ensures.value ∙ sym (c.in_ok-front.ensures.items ∙ c.deref.ensures.value))
    (c.deref-4.ensures.value ∙ c.in_ok-extend_from_slice.ensures.items)
