use Rattle.std.proofs.Common.{◌≡◌, ◌∙◌, ℕ, Option, Some, None, map, refl, slice_get, sym, ap, subst}
use Rattle.std.specs.Option.{option_map}
use Rattle.std.proofs.lemmas.Option.{slice_get-map}
use Rattle.gl_base.specs.declared.numbers.MachineNo.{MachineNo}
use Rattle.gl_base.specs.declared.numbers.Vertex.{Vertex}
use Rattle.full_laws.specs.FullEffects.{seeks_full}
use Rattle.full_laws.specs.FullParts.{FullPart}
use Rattle.full_cluster.specs.FullMachines.{IsMachineOf, stood_up}
use Rattle.full_cluster.specs.FullQueues.{seen_in}
use Rattle.full_cluster.specs.ScopeMaps.{value_of}
use Rattle.full_cluster.proofs.MachineLemmas.{lists_again, stand_put}
use Rattle.full_cluster.proofs.machines.FullMachine.go_on.Goals as goal

pub returns-in-Some-clause-went : goal.returns-in-Some-clause-went
returns-in-Some-clause-went c = λ st part k from is.
    let m = c.args.self.now in
    let s = c.args.scope in
    let stand = c.args.stand in
    let y : Vertex = c.in-Some.y in
    let at : slice_get (map (λ (x : Vertex). x.0) stand.part.items) stand.place ≡ Some y.0 = slice_get-map (λ (x : Vertex). x.0) stand.part.items stand.place ∙ ap (option_map (λ (x : Vertex). x.0)) (sym c.next.ensures ∙ c.in-Some.is) in
    let rest = map (λ (b : MachineNo). b.0) stand.rest.items in
    let after : FullPart = seeks_full m.me.0 s stand.centre.0 rest (seen_in stand.seen.items) (Some y.0) part in
    subst (λ (o : Option ℕ). IsMachineOf st (record m { locks = c.wait.new.self; stands = c.put.new.self }) (seeks_full m.me.0 s stand.centre.0 rest (seen_in stand.seen.items) o part)) (sym (from.next ∙ at))
    (record {
      numbers = lists_again st m.me.0 m.kept.numbers.items m.kept.edges.items m.kept.tasks.items (stood_up s part) after refl refl is.numbers;
      locks = c.wait.ensures.waits part.holds part.queue is.locks;
      lock_count = c.wait.ensures.count ∙ is.lock_count;
      log = is.log;
      serial = is.serial;
      flying = is.flying;
      flights = is.flights;
      flights_once = is.flights_once;
      stands = stand_put st m.me.0 (value_of m.stands.entries.items) (value_of c.put.new.self.entries.items) part.stand s stand
          (record { centre = stand.centre.0; lock = y.0; rest = rest; seen = seen_in stand.seen.items }) is.stands c.put.ensures.values
          (record { centre = refl; order = from.order; lock = at; rest = refl; seen = refl });
      stands_once = c.put.ensures.once;
      ready = is.ready;
      ready_once = is.ready_once;
      out = is.out;
    })

pub returns-in-None-clause-went : goal.returns-in-None-clause-went
returns-in-None-clause-went c = λ st part k from is.
    let m = c.args.self.now in
    let s = c.args.scope in
    let stand = c.args.stand in
    let none : slice_get (map (λ (x : Vertex). x.0) stand.part.items) stand.place ≡ None = slice_get-map (λ (x : Vertex). x.0) stand.part.items stand.place ∙ ap (option_map (λ (x : Vertex). x.0)) (sym c.next.ensures ∙ c.in-None.is) in
    subst (λ (o : Option ℕ). IsMachineOf st c.leave.new.self (seeks_full m.me.0 s stand.centre.0 (map (λ (b : MachineNo). b.0) stand.rest.items) (seen_in stand.seen.items) o part)) (sym (from.next ∙ none))
    (c.leave.ensures.left st (stood_up s part) is)
