use Rattle.std.proofs.Common.{◌<◌, All, ap, ◌∙◌, subst, sym, List, ℕ}
use Rattle.gl_base.specs.declared.entries.Entry.{Entry}
use Rattle.gl_base.specs.declared.numbers.MachineNo.{MachineNo}
use Rattle.job_io.specs.job_config.Views.{job_view}
use Rattle.full_cluster.specs.Owners.{owner_in}
use Rattle.full_cluster.specs.declared.admitting.FullTerms.{FullTerms}
use Rattle.full_runs.specs.FullEnds.{RunsFullyTo}
use Rattle.placement.specs.declared.plans.runs.RunPlan.{RunPlan}
use Rattle.placement.specs.plans.Plays.{CountsByMachine}
use Rattle.prog_match.specs.Pairs.{update_of_pairs}
use Rattle.engine_cli.specs.Ends.{left_at}
use Rattle.engine_cli.proofs.PairEnds.{owners-low, pairs-entries, pairs-run, runs-here}
use Rattle.engine_cli.proofs.pairing.run_pairs.Given as given
use Rattle.engine_cli.proofs.pairing.run_pairs.Goals as goal

-- the owners are the job's machines
pub run_full-requires : goal.run_full-requires
run_full-requires g c =
    let job = c.args.job.now in
    let owner = c.in_ok-owner.owner.items in
    let low : All (λ (m : MachineNo). m.0 < c.plan_of.result.machines) owner =
    owners-low c.args.graph.now c.args.cut.now c.plan_of.result c.in_ok-placed.placed owner c.in_ok-placed.ensures c.in_ok-owner.ensures.count c.in_ok-owner.ensures.each in
    let by_job : All (λ (m : MachineNo). m.0 < job.machines) owner = subst (λ (plan : RunPlan). All (λ (m : MachineNo). m.0 < plan.machines) owner) c.plan_of.ensures low in
    let by_terms : All (λ (m : MachineNo). m.0 < c.terms_of-terms.result.machines) owner = subst (λ (n : ℕ). All (λ (m : MachineNo). m.0 < n) owner) (sym (ap (λ (terms : FullTerms). terms.machines) c.terms_of-terms.ensures)) by_job in
    record { low = subst (λ (list : List MachineNo). All (λ (m : MachineNo). m.0 < c.terms_of-terms.result.machines) list) (sym (c.in-Some.ensures.owners ∙ c.deref.ensures.value)) by_terms }

-- the run, on the graph itself
runs : (g : given.Over) (c : goal.After-drop-placed-3 g) → let end = c.in_ok-order.field-0 in
    RunsFullyTo c.args.graph.now update_of_pairs (owner_in c.in_ok-owner.owner.items) c.args.job.now.budget end.order.items end.values.items end.edges.items (left_at c.end_of.result)
runs g c =
    let end = c.in_ok-order.field-0 in
    runs-here update_of_pairs c.in-Some.division.graph.now c.args.graph.now c.in-Some.division.owner.now c.in_ok-owner.owner.items c.args.job.now.budget end.order.items end.values.items end.edges.items end.left c.end_of.result
    c.in-Some.ensures.graph (c.in-Some.ensures.owners ∙ c.deref.ensures.value) c.end_of.ensures.left c.in_ok-order.ensures

pub returns-clause-run : goal.returns-clause-run
returns-clause-run g c =
    let end = c.in_ok-order.field-0 in
    let counts = subst (λ (order : List Entry). CountsByMachine c.args.job.now.machines order c.in_ok-done.done.items) c.deref-2.ensures.value c.in_ok-done.ensures in
    pairs-run (job_view c.args.job.now) c.args.graph.now c.args.cut.now c.requires.graph c.requires.pairs c.requires.failures c.plan_of.result (ap (λ (plan : RunPlan). plan.machines) c.plan_of.ensures)
    c.in_ok-placed.placed c.in_ok-placed.ensures c.in_ok-owner.owner.items c.in_ok-owner.ensures.each _ end.edges.items (runs g c) c.end_of.ensures.alone counts c.new-2.ensures.items c.new-3.ensures.items c.new-4.ensures.items

pub returns-clause-printable : goal.returns-clause-printable
returns-clause-printable g c =
    let end = c.in_ok-order.field-0 in
    let is = runs g c in
    record {
      numbers = is.play.values_are.count;
      entries = pairs-entries c.args.graph.now c.requires.graph (owner_in c.in_ok-owner.owner.items) c.args.job.now.budget end.order.items end.values.items end.edges.items (left_at c.end_of.result) is;
    }
