use Rattle.std.proofs.Common.{◌∙◌, map, sym}
use Rattle.std.proofs.lemmas.Result.{IfOk-weaker}
use Rattle.gl_base.specs.declared.numbers.MachineNo.{MachineNo}
use Rattle.full_cluster.specs.Owners.{owner_in}
use Rattle.full_cluster.specs.Inner.Ways.{has_own_of, passing}
use Rattle.full_cluster.proofs.PassingLemmas.{all_below}
use Rattle.full_cluster.proofs.WayRules.{machines_are}
use Rattle.full_cluster.proofs.divisions.Division.machine_order.Goals as goal

pub returns-clause-order : goal.returns-clause-order
returns-clause-order c = λ st given many.
    let v = c.args.v.0 in
    IfOk-weaker c.machines_of.result _ _
    (λ list is. machines_are st v (map (λ (m : MachineNo). m.0) list.items) (is ∙ (λ k. passing (has_own_of (sym given.graph k) (sym given.owners k) v) 0 (sym many k))))
    c.machines_of.ensures

pub returns-clause-within : goal.returns-clause-within
returns-clause-within c =
    let d = c.args.self.now in
    IfOk-weaker c.machines_of.result _ _ (λ list is. all_below (λ (m : MachineNo). m.0) (has_own_of d.graph.now (owner_in d.owner.now) c.args.v.0) c.args.machines list.items is) c.machines_of.ensures
