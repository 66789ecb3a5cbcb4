-- A cluster of a program is one of the division.
use Rattle.std.proofs.Common.{◌≡◌, ℕ, ◌+◌, ◌<◌, ◌≤◌, [], length, ap, subst, sym, arith}
use Rattle.std.specs.Prelude.{Err, IfOk, Ok, Result}
use Rattle.graph_core.specs.DataGraph.{DataGraph, size}
use Rattle.cluster_laws.specs.cluster_core.Settings.{Setting}
use Rattle.full_scope.specs.FullUpdates.{FullUpdate}
use Rattle.full_cluster.specs.declared.admitting.FullTerms.{FullTerms}
use Rattle.full_cluster.specs.declared.clusters.FullCluster.{FullCluster}
use Rattle.full_cluster.specs.declared.divisions.Division.{Division}
use Rattle.full_cluster.specs.declared.machines.FullMachine.{FullMachine}
use Rattle.full_cluster.specs.FullClusters.{IsClusterFor, IsClusterOf, IsFullSeat, IsSettingOf}
use Rattle.full_cluster.specs.FullStarts.{world_at_start}
use Rattle.full_runs.specs.declared.so_far.SoFar.{SoFar}
use Rattle.full_runs.specs.Inner.Driving.{IsAllGivenIn, IsClusterOn, IsGivenFor}

pub cluster_on : (division : Division) (terms : FullTerms) (p : FullUpdate) (c : FullCluster) → IsClusterFor division terms p c → IsClusterOn division c
cluster_on division terms p c has = (terms, record { setting = has.setting; program = p; world = has.world; fits = has.fits; is = has.is })

-- a machine of the cluster has a lock for each vertex
pub locks_low : (division : Division) (c : FullCluster) (on : IsClusterOn division c) (a x : ℕ) (m : FullMachine) → IsFullSeat on.1.setting a m (on.1.world.part a) → x < size division.graph.now → x < length m.locks.locks.items
locks_low division c on a x m seat low =
    let long : length m.locks.locks.items ≡ size division.graph.now = subst (λ (g : DataGraph). length m.locks.locks.items ≡ size g) on.1.fits.divided.graph seat.is.lock_count in
    subst (λ (n : ℕ). x < n) (sym long) low

-- once nothing given is on its way
pub given_for : (division : Division) (terms : FullTerms) (p : FullUpdate) (c : FullCluster) → IsClusterFor division terms p c → IsAllGivenIn terms.machines c → IsGivenFor division terms.machines p c
given_for division terms p c has given =
    record {
      setting = has.setting;
      world = has.world;
      divided = has.fits.divided;
      many = has.fits.terms_are.machines;
      is = has.is;
      given = given has.setting p has.world has.is has.fits.terms_are.machines;
    }

-- a cluster that begins has as many tickets as its budget
pub begins_with : (division : Division) (terms : FullTerms) (p : FullUpdate) (c : FullCluster) (budget : ℕ) → IsClusterFor division terms p c → ((st : Setting) → IsSettingOf st division terms → IsClusterOf st p (world_at_start st p budget) c) → c.next + c.left ≡ budget
begins_with division terms p c budget has starts =
    let is = starts has.setting has.fits in
    let drawn = is.drawn in
    let tickets = is.tickets in
    omega (arith, drawn, tickets)

-- ---- how many updates were made

pub few_none : {E : Type 0} (budget : ℕ) (r : Result SoFar E) → IfOk r (λ run. run.order.items ≡ []) → IfOk r (λ run. length run.order.items ≤ budget)
few_none budget (Ok run) none = let many = ap length none in omega (arith, many)
few_none budget (Err e) none = none

pub few_drawn : {E : Type 0} (budget next : ℕ) (r : Result SoFar E) → next ≤ budget → IfOk r (λ run. length run.order.items ≡ next) → IfOk r (λ run. length run.order.items ≤ budget)
few_drawn budget next (Ok run) low drawn = omega (arith, low, drawn)
few_drawn budget next (Err e) low drawn = drawn
