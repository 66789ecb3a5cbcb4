-- What is found may be updated at once, and where nothing is none may.
use Rattle.std.proofs.Common.{◌≡◌, true, length, sym, ap, ◌∙◌, subst}
use Rattle.machine_core.specs.declared.machine_parts.cores.Core.{Core}
use Rattle.machine_core.specs.machine_parts.Parts.{is_own, parts_at}
use Rattle.snapshot_machines.specs.chromatic.Machines.{ColorSnapView}
use Rattle.snapshot_machines.specs.chromatic.Inner.Keeping.{seen_in_steps}
use Rattle.snapshot_machines.specs.chromatic.Inner.Picking.{IsDueInStep, IsNoneDueInStep}
use Rattle.snapshot_machines.proofs.chromatic.AtOnceLemmas.{at_place, found_due, none_due, none_pending, none_shared, own_due}
use Rattle.snapshot_machines.proofs.chromatic.machines.ColorSnapMachine.find_at_once.Goals as goal

pub returns-in_err-pick-clause-none : goal.returns-in_err-pick-clause-none
returns-in_err-pick-clause-none g c =
    let m = c.self.inside in
    let x = seen_in_steps m.machine m.lines.colours m.colour m.closed in
    let none = subst (λ (y : ColorSnapView g.row.P.Denot). IsNoneDueInStep y) (sym c.self.view_is) c.in_err-pick.ensures.none in
    rw c.from_residual.ensures (rw (← c.self.view_is) (none_due x c.core-core.ensures.orderly c.core-core.ensures.places none))

pub returns-then-pick-clause-none : goal.returns-then-pick-clause-none
returns-then-pick-clause-none g c =
    let m = c.self.inside in
    let x = seen_in_steps m.machine m.lines.colours m.colour m.closed in
    let core = c.core-core.ensures in
    let pick = c.in_ok-pick.pick in
    let due = subst (λ (y : ColorSnapView g.row.P.Denot). IsDueInStep y pick) (sym c.self.view_is) c.in_ok-pick.ensures.some in
    let v = c.index-vertex.result.now in
    let at = at_place x core.places pick due c.core-core.result.now core.parts v c.index-vertex.ensures in
    rw (← c.self.view_is) (none_pending x core.orderly core.places c.if-self.false pick due v at c.if-pick.true)

pub parts-requires : goal.parts-requires
parts-requires g c =
    let m = c.self.inside in
    let x = seen_in_steps m.machine m.lines.colours m.colour m.closed in
    let core = c.core-core.ensures in
    let pick = c.in_ok-pick.pick in
    let due = subst (λ (y : ColorSnapView g.row.P.Denot). IsDueInStep y pick) (sym c.self.view_is) c.in_ok-pick.ensures.some in
    let v = c.index-vertex.result.now in
    let at = at_place x core.places pick due c.core-core.result.now core.parts v c.index-vertex.ensures in
    subst (λ (n : Core). is_own n.numbers.local v.0 ≡ true) (sym core.parts) (own_due x core.orderly core.places c.if-self.false pick due v at)

pub returns-then-parts-ne1-clause-none : goal.returns-then-parts-ne1-clause-none
returns-then-parts-ne1-clause-none g c =
    let m = c.self.inside in
    let x = seen_in_steps m.machine m.lines.colours m.colour m.closed in
    let core = c.core-core.ensures in
    let pick = c.in_ok-pick.pick in
    let due = subst (λ (y : ColorSnapView g.row.P.Denot). IsDueInStep y pick) (sym c.self.view_is) c.in_ok-pick.ensures.some in
    let v = c.index-vertex.result.now in
    let at = at_place x core.places pick due c.core-core.result.now core.parts v c.index-vertex.ensures in
    let parts = ap length (c.parts.ensures ∙ ap (λ (n : Core). parts_at n.numbers.local v.0) core.parts) in
    rw (← c.self.view_is) (none_shared x core.orderly core.places c.if-self.false pick due v at (λ one. c.if-parts-ne1.true (parts ∙ one)))

pub returns-clause-found : goal.returns-clause-found
returns-clause-found g c =
    let m = c.self.inside in
    let x = seen_in_steps m.machine m.lines.colours m.colour m.closed in
    let core = c.core-core.ensures in
    let pick = c.in_ok-pick.pick in
    let due = subst (λ (y : ColorSnapView g.row.P.Denot). IsDueInStep y pick) (sym c.self.view_is) c.in_ok-pick.ensures.some in
    let v = c.index-vertex.result.now in
    let at = at_place x core.places pick due c.core-core.result.now core.parts v c.index-vertex.ensures in
    let parts = ap length (c.parts.ensures ∙ ap (λ (n : Core). parts_at n.numbers.local v.0) core.parts) in
    rw (← c.self.view_is) (found_due x core.orderly core.places c.if-self.false pick due v at c.if-pick.false (sym parts ∙ c.if-parts-ne1.false) c.self.invariant.free)

pub returns-then-self-clause-order : goal.returns-then-self-clause-order
returns-then-self-clause-order g c =
    let core = c.core-core.ensures in
    rw (← c.self.view_is) (record { orderly = core.orderly; places = core.places; rows = core.rows; outside = core.outside })

pub returns-in_err-pick-clause-order : goal.returns-in_err-pick-clause-order
returns-in_err-pick-clause-order g c =
    let core = c.core-core.ensures in
    rw (← c.self.view_is) (record { orderly = core.orderly; places = core.places; rows = core.rows; outside = core.outside })

pub returns-then-pick-clause-order : goal.returns-then-pick-clause-order
returns-then-pick-clause-order g c =
    let core = c.core-core.ensures in
    rw (← c.self.view_is) (record { orderly = core.orderly; places = core.places; rows = core.rows; outside = core.outside })

pub returns-then-parts-ne1-clause-order : goal.returns-then-parts-ne1-clause-order
returns-then-parts-ne1-clause-order g c =
    let core = c.core-core.ensures in
    rw (← c.self.view_is) (record { orderly = core.orderly; places = core.places; rows = core.rows; outside = core.outside })

pub returns-clause-order : goal.returns-clause-order
returns-clause-order g c =
    let core = c.core-core.ensures in
    rw (← c.self.view_is) (record { orderly = core.orderly; places = core.places; rows = core.rows; outside = core.outside })
