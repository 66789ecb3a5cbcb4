-- The vertex that was found is updated, at its place.
use Rattle.std.proofs.Common.{subst, sym}
use Rattle.gl_base.specs.declared.numbers.Vertex.{Vertex}
use Rattle.snapshot_machines.specs.saving.Updates.{WaitsAt}
use Rattle.snapshot_machines.specs.chromatic.AtOnce.{MayUpdateByColour}
use Rattle.snapshot_machines.specs.chromatic.Eager.{FindsInStep}
use Rattle.snapshot_machines.specs.chromatic.Machines.{ColorSnapView}
use Rattle.snapshot_machines.specs.chromatic.Inner.Keeping.{seen_in_steps}
use Rattle.snapshot_machines.proofs.chromatic.machines.ColorSnapMachine.update_now.Goals as goal

pub place_of-place-requires : goal.place_of-place-requires
place_of-place-requires g c =
    let finds = subst (λ (y : ColorSnapView g.row.P.Denot). FindsInStep y c.args.v) (sym c.self.view_is) c.requires in
    (finds.0.place, subst (λ (w : Vertex). WaitsAt c.self.inside.machine.core.numbers finds.0.place w) finds.1 finds.2.waits)

pub update_found-requires : goal.update_found-requires
update_found-requires g c =
    let m = c.self.inside in
    let x = seen_in_steps m.machine m.lines.colours m.colour m.closed in
    let finds = subst (λ (y : ColorSnapView g.row.P.Denot). FindsInStep y c.args.v) (sym c.self.view_is) c.requires in
    rw (← c.self.view_is) (record { waits = c.place_of-place.ensures; may = subst (λ (w : Vertex). MayUpdateByColour x w) finds.1 finds.2.may })
