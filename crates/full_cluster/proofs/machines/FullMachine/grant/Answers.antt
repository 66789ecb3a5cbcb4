use Rattle.std.proofs.Common.{◌≡◌, ◌∙◌, ◌<◌, Option, Some, refl, sym, subst, arith}
use Rattle.std.proofs.lemmas.Result.{on_ok_weaker}
use Rattle.graph_core.specs.DataGraph.{DataGraph, size}
use Rattle.full_laws.specs.FullActions.{MayGrantFull}
use Rattle.full_laws.specs.FullParts.{FullStand}
use Rattle.full_cluster.specs.declared.machines.ScopeStand.{ScopeStand}
use Rattle.full_cluster.specs.FullMachines.{IsMachineOf, IsStandOf, StandsAs, stood_up}
use Rattle.full_cluster.specs.ScopeMaps.{value_of}
use Rattle.full_cluster.specs.WholeLocks.{IsNextOf}
use Rattle.full_cluster.proofs.GrantLemmas.{granted_is, stand_taken}
use Rattle.full_cluster.proofs.MachineLemmas.{lists_again}
use Rattle.full_cluster.proofs.machines.FullMachine.grant.Goals as goal

pub returns-in_default-clause-not_now : goal.returns-in_default-clause-not_now
returns-in_default-clause-not_now c = λ st part divided is ask now may.
    c.in_default.ensures.none part.holds part.queue is.locks refl may.scope (record { behind = may.behind; first = may.first; free = may.free })

pub returns-clause-granted : goal.returns-clause-granted
returns-clause-granted c = λ st part divided is ask.
    let m = c.args.self.now in
    let x = c.args.x.0 in
    let s = c.in-Some.scope in
    let stand : ScopeStand = c.in-Some-take.stand in
    let next : IsNextOf (part.holds x) (part.queue x) s = c.in-Some.ensures.some part.holds part.queue is.locks in
    let asked = ask s next in
    let standing : FullStand = asked.0 in
    let stands : IsStandOf st m.me.0 stand standing =
    subst (λ (o : Option ScopeStand). StandsAs st m.me.0 o (Some standing)) (sym c.in-Some-take.ensures.value)
    (subst (λ (o : Option FullStand). StandsAs st m.me.0 (value_of m.stands.entries.items s) o) asked.1 (is.stands s)) in
    let high = c.if-x-n.false in
    let many = c.n.ensures.count in
    let low_there : x < size c.args.division.now.graph.now = omega (arith, high, many) in
    let low : x < size st.graph = subst (λ (g : DataGraph). x < size g) (sym divided.graph) low_there in
    let owned : st.owner x ≡ m.me.0 = (λ k. divided.owners k x) ∙ sym c.owner_of.ensures ∙ c.if-owner_of-self.false in
    let may : MayGrantFull st m.me.0 x part = record { vertex = low; owned = owned; scope = s; behind = next.behind; first = next.first; free = next.free } in
    let up : IsMachineOf st (record m { stands = c.take.new.self }) (stood_up s part) = record {
      numbers = lists_again st m.me.0 m.kept.numbers.items m.kept.edges.items m.kept.tasks.items part (stood_up s part) refl refl is.numbers;
      locks = is.locks;
      lock_count = is.lock_count;
      log = is.log;
      serial = is.serial;
      flying = is.flying;
      flights = is.flights;
      flights_once = is.flights_once;
      stands = stand_taken st m.me.0 (value_of m.stands.entries.items) (value_of c.take.new.self.entries.items) part.stand s is.stands c.take.ensures.values;
      stands_once = c.take.ensures.once;
      ready = is.ready;
      ready_once = is.ready_once;
      out = is.out;
    } in
    on_ok_weaker c.grant_to.result
    (λ (done : IsMachineOf st c.grant_to.new.self _). (may, subst (IsMachineOf st c.grant_to.new.self) (sym (granted_is st m.me.0 x part s next.behind standing next.first asked.1)) done))
    (c.grant_to.ensures.granted st part standing next low owned up stands asked.2)
