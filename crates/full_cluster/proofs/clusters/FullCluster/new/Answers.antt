-- A cluster begins.
use Rattle.std.proofs.Common.{◌∙◌, ℕ, List, refl, sym, subst, arith}
use Rattle.graph_core.specs.DataGraph.{DataGraph, size}
use Rattle.seq_run.specs.Runs.{AreNumbers}
use Rattle.cluster_laws.specs.cluster_core.Settings.{Setting}
use Rattle.full_scope.specs.FullStates.{full_start}
use Rattle.full_scope.specs.FullUpdates.{FullUpdate}
use Rattle.full_cluster.specs.FullStarts.{divided_setting, world_at_start}
use Rattle.full_cluster.proofs.StartLemmas.{cluster_at_start, is_divided}
use Rattle.full_cluster.proofs.clusters.FullCluster.new.Goals as goal

pub returns-clause-starts : goal.returns-clause-starts
returns-clause-starts g c = λ st fits.
    let p : FullUpdate = g.P.FullProgram.meaning c.args.program.now in
    let many = fits.terms_are.machines in
    let numbers : AreNumbers (size st.graph) (full_start st.graph p).vertex c.in_ok-values.values.items =
    subst (λ (one : DataGraph). AreNumbers (size one) (full_start one p).vertex c.in_ok-values.values.items) (sym fits.divided.graph) c.in_ok-values.ensures in
    let lent : AreNumbers (size st.graph) (full_start st.graph p).vertex c.deref.result.now =
    subst (λ (values : List ℕ). AreNumbers (size st.graph) (full_start st.graph p).vertex values) (sym c.deref.ensures.value) numbers in
    cluster_at_start st p c.in_ok-machines.machines.items c.in_ok-links.links.items c.args.budget (c.in_ok-machines.ensures.count ∙ sym many) (c.in_ok-links.ensures.count ∙ sym many)
    (c.in_ok-machines.ensures.seats st (full_start st.graph p) fits.divided many lent (λ e. refl)) (c.in_ok-links.ensures.none st many) (omega (arith, c.ranges.budget.fits))

pub returns-clause-cluster : goal.returns-clause-cluster
returns-clause-cluster g c =
    let p : FullUpdate = g.P.FullProgram.meaning c.args.program.now in
    let st : Setting = divided_setting c.args.division.now c.args.terms in
    let fits = is_divided c.args.division.now c.args.terms c.requires.low in
    record { setting = st; world = world_at_start st p c.args.budget; fits = fits; is = returns-clause-starts g c st fits }
