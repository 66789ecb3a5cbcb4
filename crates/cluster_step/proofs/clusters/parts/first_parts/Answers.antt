-- The parts begin as the law's cluster.
use Rattle.std.proofs.Common.{◌≡◌, ℕ, suc, ◌+◌, ◌∙◌, add-one, ap, length, refl, rules, subst}
use Rattle.std.specs.Prelude.{option_map}
use Rattle.cluster_step.proofs.clusters.LinkLemmas.{have_links}
use Rattle.coordinator.specs.coord_core.Calls.{IsFirstWith}
use Rattle.coordinator.specs.coord_core.Stores.{store_view}
use Rattle.cluster_step.specs.clusters.Clusters.{HaveLinks}
use Rattle.cluster_step.proofs.clusters.Cutting.{all_false, begun_first, so_many}
use Rattle.cluster_step.proofs.clusters.parts.first_parts.Goals as goal

pub returns-clause-began : goal.returns-clause-began
returns-clause-began g c =
    let many : c.len-many.result + 1 ≡ suc (length c.args.machines.items) = add-one c.len-many.result ∙ ap suc (search rules) in
    let have : HaveLinks c.in_ok-links.links (suc (length c.args.machines.items)) =
    have_links c.in_ok-links.links (c.len-many.result + 1) (suc (length c.args.machines.items)) many c.in_ok-links.ensures.rows c.in_ok-links.ensures.columns in
    let leads : IsFirstWith (length c.args.machines.items) c.args.engine (option_map store_view c.args.store) c.in_ok-coordinator.coordinator =
    subst (λ (n : ℕ). IsFirstWith n c.args.engine (option_map store_view c.args.store) c.in_ok-coordinator.coordinator) (search rules) c.in_ok-coordinator.ensures in
    let same : c.len-many.result ≡ length c.args.machines.items = search rules in
    λ st base before start.
    begun_first g.M.SavingMachine.represents _ c.args.engine (option_map store_view c.args.store) c.args.next c.args.left have c.in_ok-links.ensures.none c.requires.few c.requires.many leads
    (all_false c.in_ok-failed.failed c.len-many.result c.in_ok-failed.ensures) (so_many c.in_ok-failed.failed c.len-many.result c.in_ok-failed.ensures ∙ same) refl refl refl st base before start
