-- The cluster goes on as the law's.
use Rattle.std.proofs.Common.{◌<◌, ◌∙◌, ap, length, subst, sym}
use Rattle.std.specs.Prelude.{option_map}
use Rattle.cluster_laws.specs.cluster_core.Recovering.{going_on}
use Rattle.cluster_laws.specs.cluster_model.Events.{recovers}
use Rattle.coordinator.specs.coord_core.Stores.{store_view}
use Rattle.cluster_step.specs.clusters.Clusters.{StartsSaving}
use Rattle.cluster_step.proofs.clusters.Cutting.{began_setting}
use Rattle.cluster_step.proofs.clusters.clusters.SnapCluster.recover.Goals as goal

pub first_parts-requires-clause-many : goal.first_parts-requires-clause-many
first_parts-requires-clause-many g c =
    subst (λ n. n < 65535) (sym (c.requires.many ∙ ap (λ p. length p.machines.items) (sym c.self.view_is) ∙ c.self.invariant.3.many)) c.self.invariant.3.small

pub returns-clause-machines : goal.returns-clause-machines
returns-clause-machines g c = ap length c.in_ok-parts.ensures.machines ∙ c.requires.many

pub invariant_of-self : goal.invariant_of-self
invariant_of-self g c =
    let again = c.requires.again in
    let starts = subst (λ p. StartsSaving g.M.SavingMachine.represents c.args.machines.items c.args.engine (option_map store_view c.args.store) p.next p.left again.0 again.1 again.2) (sym c.self.view_is) again.3 in (
      going_on again.0 again.1.numbers again.1.number,
      recovers again.0 again.1 again.2,
      began_setting again.0 again.3.setting again.1,
      c.in_ok-parts.ensures.began again.0 again.1 again.2 starts,
    )

pub returns-clause-recovered : goal.returns-clause-recovered
returns-clause-recovered g c = λ st own base goes.
    c.in_ok-parts.ensures.began st base own
    (subst (λ p. StartsSaving g.M.SavingMachine.represents c.args.machines.items c.args.engine (option_map store_view c.args.store) p.next p.left st base own) (sym c.self.view_is) goes.starts)

pub returns-clause-runs : goal.returns-clause-runs
returns-clause-runs g c =
    let again = c.requires.again in
    let starts = subst (λ p. StartsSaving g.M.SavingMachine.represents c.args.machines.items c.args.engine (option_map store_view c.args.store) p.next p.left again.0 again.1 again.2) (sym c.self.view_is) again.3 in
    sym (c.in_ok-parts.ensures.began again.0 again.1 again.2 starts).stopped
