-- The attempt begins with its store, or without one.
use Rattle.std.proofs.Common.{◌∙◌, ap, length, subst}
use Rattle.std.specs.Prelude.{option_map}
use Rattle.coordinator.specs.coord_core.Inner.Seen.{IsFirstSaving}
use Rattle.coordinator.specs.coord_core.Saving.{SavingView}
use Rattle.coordinator.specs.coord_core.Stores.{store_view}
use Rattle.coordinator.proofs.coord_core.LeadLemmas.{first_come, first_with, if_ok}
use Rattle.coordinator.proofs.coord_core.leading.Coordinator.new.Goals as goal

pub first-requires-clause-come : goal.first-requires-clause-come
first-requires-clause-come c = ap (λ (s : SavingView). length s.come) c.in_ok-saving.ensures ∙ first_come c.args.machines (option_map store_view c.args.store)

pub returns : goal.returns
returns c =
    if_ok c.first.result (λ view first. first_with c.args.machines view c.args.engine (option_map store_view c.args.store)
    (subst (λ (s : SavingView). IsFirstSaving c.args.machines c.args.engine s view) c.in_ok-saving.ensures first)) c.first.ensures
