-- The update at once is the law's, and whom it wakes stands in line.
use Rattle.std.proofs.Common.{ap, length, refl, sym, subst, ℕ, ◌∙◌}
use Rattle.partition.specs.machine_numbers.Views.{LocalView, TasksView}
use Rattle.machine_core.specs.declared.machine_parts.cores.Core.{Core}
use Rattle.machine_core.specs.machine_parts.Parts.{place_at, sides_at}
use Rattle.machine_core.specs.color_parts.Enlisting.{HasEnlisted, ends_of}
use Rattle.machine_core.specs.declared.color_parts.enlisting.Which.TheVariants.{Tasks}
use Rattle.snapshot_machines.specs.chromatic.Machines.{ColorSnapView, with_locking}
use Rattle.snapshot_machines.specs.chromatic.Inner.Keeping.{AreBothInLine, IsWithoutLocks, seen_in_steps}
use Rattle.snapshot_machines.specs.chromatic.Inner.Picking.{IsFoundInStep}
use Rattle.snapshot_machines.proofs.chromatic.AtOnceLemmas.{found_in_line, found_without_locks, updated_found}
use Rattle.snapshot_machines.proofs.chromatic.KeepLemmas.{kept_on, same_step}
use Rattle.snapshot_machines.proofs.chromatic.PartLemmas.{locking_setting}
use Rattle.snapshot_machines.proofs.chromatic.SideLemmas.{sided}
use Rattle.snapshot_machines.proofs.chromatic.machines.ColorSnapMachine.update_found.Goals as goal

pub invariant_of-self-in-Err : goal.invariant_of-self-in-Err
invariant_of-self-in-Err g c =
    let m = c.self.inside in
    let is = c.self.invariant in
    let e = c.in-Err.ensures in
    let x = seen_in_steps m.machine m.lines.colours m.colour m.closed in
    kept_on g.P.Program.meaning x (seen_in_steps c.update_found.new.self m.lines.colours m.colour m.closed) m.lines m.asked m.lines m.asked is
    (same_step x c.update_found.new.self m.lines.colours e.settings e.places (ap (λ (l : LocalView). l.me) e.local) e.program refl).same e.terms
    (subst IsWithoutLocks (sym e.unchanged) is.free)
    (subst (λ (t : TasksView). AreBothInLine t m.lines m.asked) (sym e.tasks) is.in_line)

pub returns-in-Err-clause-step : goal.returns-in-Err-clause-step
returns-in-Err-clause-step g c =
    let m = c.self.inside in
    let e = c.in-Err.ensures in
    rw (← c.self.view_is) (same_step (seen_in_steps m.machine m.lines.colours m.colour m.closed) c.update_found.new.self m.lines.colours e.settings e.places (ap (λ (l : LocalView). l.me) e.local) e.program refl)

pub update_found-requires : goal.update_found-requires
update_found-requires g c =
    let found = subst (λ (y : ColorSnapView g.row.P.Denot). IsFoundInStep y c.args.found) (sym c.self.view_is) c.requires in
    found.waits

pub invariant_of-self : goal.invariant_of-self
invariant_of-self g c =
    let m = c.self.inside in
    let is = c.self.invariant in
    let e = c.in-Ok.ensures in
    let before = c.update_found.ensures.order in
    let after = c.core-after.ensures in
    let x = seen_in_steps m.machine m.lines.colours m.colour m.closed in
    let f = c.args.found in
    let found = subst (λ (y : ColorSnapView g.row.P.Denot). IsFoundInStep y f) (sym c.self.view_is) c.requires in
    let here = is.setting.part.part in
    let setting = locking_setting is.st is.setting.is in
    let lines = c.enlist_near.new.lines in
    let enlisted =
    subst (λ (n : Core). HasEnlisted Tasks n.numbers c.remove.new.self lines (ends_of (sides_at n.numbers.local f.vertex.0)) (length (sides_at n.numbers.local f.vertex.0))) after.parts c.enlist_near.ensures.enlisted in
    let near = sided (with_locking is.st) m.machine.core m.machine.kept f.vertex setting here before.rows found.waits.own in
    let place = λ (u : ℕ). ap (λ (l : LocalView). place_at l u) e.local in
    let sides = ap (λ (l : LocalView). sides_at l f.vertex.0) e.local in
    kept_on g.P.Program.meaning x (seen_in_steps c.update_found.new.self lines.colours m.colour m.closed) m.lines m.asked lines m.asked is
    (same_step x c.update_found.new.self lines.colours e.settings e.places (ap (λ (l : LocalView). l.me) e.local) e.program (c.enlist_near.ensures.colours ∙ c.remove.ensures.colours)).same e.terms
    (found_without_locks m.machine.core c.update_found.new.self.core f before.orderly after.orderly before.places after.places e.places place found.waits e.run (g.P.Program.meaning m.machine.program) (with_locking is.st) c.args.ticket setting here
    is.setting.program e.updated is.free)
    (found_in_line m.machine.core c.update_found.new.self.core f before.orderly after.orderly before.places after.places e.places place found.waits e.run (g.P.Program.meaning m.machine.program) (with_locking is.st) c.args.ticket setting here
    is.setting.program e.updated m.lines c.remove.new.self lines m.asked near sides is.in_line c.remove.ensures.colours c.remove.ensures.waits c.enlist_near.ensures.colours enlisted)

pub returns-in-Ok-clause-updated : goal.returns-in-Ok-clause-updated
returns-in-Ok-clause-updated g c =
    let m = c.self.inside in
    let x = seen_in_steps m.machine m.lines.colours m.colour m.closed in
    let f = c.args.found in
    let found = subst (λ (y : ColorSnapView g.row.P.Denot). IsFoundInStep y f) (sym c.self.view_is) c.requires in
    let e = c.in-Ok.ensures in
    rw (← c.self.view_is) (updated_found x c.update_found.new.self c.enlist_near.new.lines.colours (g.P.Program.meaning m.machine.program) f c.args.ticket found e.updated e.logged)

pub returns-in-Ok-clause-step : goal.returns-in-Ok-clause-step
returns-in-Ok-clause-step g c =
    let m = c.self.inside in
    let e = c.in-Ok.ensures in
    rw (← c.self.view_is)
    (same_step (seen_in_steps m.machine m.lines.colours m.colour m.closed) c.update_found.new.self c.enlist_near.new.lines.colours e.settings e.places (ap (λ (l : LocalView). l.me) e.local) e.program
    (c.enlist_near.ensures.colours ∙ c.remove.ensures.colours))

pub returns-in-Ok-clause-run : goal.returns-in-Ok-clause-run
returns-in-Ok-clause-run g c = rw (← c.self.view_is) c.in-Ok.ensures.run

pub returns-in-Ok-clause-logged : goal.returns-in-Ok-clause-logged
returns-in-Ok-clause-logged g c = rw (← c.self.view_is) c.in-Ok.ensures.logged

pub returns-in-Ok-clause-local : goal.returns-in-Ok-clause-local
returns-in-Ok-clause-local g c = rw (← c.self.view_is) c.in-Ok.ensures.local

pub returns-in-Ok-clause-unchanged : goal.returns-in-Ok-clause-unchanged
returns-in-Ok-clause-unchanged g c = tt

pub returns-in-Ok-clause-same : goal.returns-in-Ok-clause-same
returns-in-Ok-clause-same g c = tt

pub returns-in-Ok-clause-tasks : goal.returns-in-Ok-clause-tasks
returns-in-Ok-clause-tasks g c = tt

pub returns-in-Err-clause-updated : goal.returns-in-Err-clause-updated
returns-in-Err-clause-updated g c = tt

pub returns-in-Err-clause-run : goal.returns-in-Err-clause-run
returns-in-Err-clause-run g c = tt

pub returns-in-Err-clause-logged : goal.returns-in-Err-clause-logged
returns-in-Err-clause-logged g c = tt

pub returns-in-Err-clause-same : goal.returns-in-Err-clause-same
returns-in-Err-clause-same g c = rw (← c.self.view_is) c.in-Err.ensures.same

pub returns-in-Err-clause-tasks : goal.returns-in-Err-clause-tasks
returns-in-Err-clause-tasks g c = rw (← c.self.view_is) c.in-Err.ensures.tasks

pub returns-in-Err-clause-local : goal.returns-in-Err-clause-local
returns-in-Err-clause-local g c = rw (← c.self.view_is) c.in-Err.ensures.local

pub returns-in-Ok-clause-order : goal.returns-in-Ok-clause-order
returns-in-Ok-clause-order g c = rw (← c.self.view_is) c.update_found.ensures.order

pub returns-in-Err-clause-order : goal.returns-in-Err-clause-order
returns-in-Err-clause-order g c = rw (← c.self.view_is) c.update_found.ensures.order
