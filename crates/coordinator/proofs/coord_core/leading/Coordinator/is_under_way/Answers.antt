-- Where one is under way snapshots are taken.
use Rattle.std.proofs.Common.{◌≡◌, subst, true}
use Rattle.coordinator.specs.coord_core.Coordinators.{CoordinatorView}
use Rattle.coordinator.proofs.coord_core.KeptLemmas.{taken_where_under}
use Rattle.coordinator.proofs.coord_core.leading.Coordinator.is_under_way.Goals as goal

pub returns-clause-taken : goal.returns-clause-taken
returns-clause-taken c = λ yes.
    subst (λ (view : CoordinatorView). view.saving.stored ≡ true) c.self.view_is
    (taken_where_under c.self.inside.saving c.self.invariant.2 c.is_settled.result c.is_settled.ensures yes)
