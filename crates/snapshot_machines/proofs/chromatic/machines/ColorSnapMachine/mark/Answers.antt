-- The snapshot update is the law's, and who becomes pending by it stands in line.
use Rattle.std.proofs.Common.{ap, length, refl, sym, subst, ◌≡◌, ◌⊎◌, ◌<◌, true, Some, ℕ}
use Rattle.partition.specs.machine_numbers.Views.{LocalView}
use Rattle.machine_core.specs.declared.machine_parts.cores.Core.{Core}
use Rattle.machine_core.specs.machine_parts.Parts.{flight_at, place_at, sides_at}
use Rattle.machine_core.specs.color_parts.Enlisting.{HasEnlisted, ends_of, is_free_such}
use Rattle.machine_core.specs.color_parts.Parts.{is_in_line}
use Rattle.machine_core.specs.declared.color_parts.enlisting.Which.TheVariants.{Pending, Tasks}
use Rattle.snapshot_machines.specs.chromatic.Machines.{with_locking}
use Rattle.snapshot_machines.specs.chromatic.Inner.Keeping.{AreBothInLine, HasFirstInLine, IsWithoutLocks, seen_in_steps}
use Rattle.snapshot_machines.proofs.chromatic.KeepLemmas.{kept_on, same_step}
use Rattle.snapshot_machines.proofs.chromatic.PartLemmas.{locking_setting, marked_by_colour}
use Rattle.snapshot_machines.proofs.chromatic.SideLemmas.{sided}
use Rattle.snapshot_machines.proofs.chromatic.TurnLemmas.{marked_in_line, marked_without_locks}
use Rattle.snapshot_machines.proofs.chromatic.machines.ColorSnapMachine.mark.Goals as goal

pub invariant_of-self-in-Err : goal.invariant_of-self-in-Err
invariant_of-self-in-Err g c =
    let m = c.self.inside in
    let is = c.self.invariant in
    let e = c.in-Err.ensures in
    let x = seen_in_steps m.machine m.lines.colours m.colour m.closed in
    kept_on g.P.Program.meaning x (seen_in_steps c.mark.new.self m.lines.colours m.colour m.closed) m.lines m.asked m.lines m.asked is
    (same_step x c.mark.new.self m.lines.colours e.settings e.places (ap (λ (l : LocalView). l.me) e.local) e.program refl).same e.terms
    (subst IsWithoutLocks (sym e.part) is.free)
    (subst (λ (n : Core). AreBothInLine n.numbers.tasks m.lines m.asked) (sym e.unchanged.rest) is.in_line)

pub returns-in-Err-clause-step : goal.returns-in-Err-clause-step
returns-in-Err-clause-step g c =
    let m = c.self.inside in
    let e = c.in-Err.ensures in
    rw (← c.self.view_is) (same_step (seen_in_steps m.machine m.lines.colours m.colour m.closed) c.mark.new.self m.lines.colours e.settings e.places (ap (λ (l : LocalView). l.me) e.local) e.program refl)

pub invariant_of-self : goal.invariant_of-self
invariant_of-self g c =
    let m = c.self.inside in
    let is = c.self.invariant in
    let e = c.in-Ok.ensures in
    let before = c.core-before.ensures in
    let after = c.core-after.ensures in
    let x = seen_in_steps m.machine m.lines.colours m.colour m.closed in
    let v = c.in-Some.centre in
    let s = c.args.scope in
    let here = is.setting.part.part in
    let setting = locking_setting is.st is.setting.is in
    let flies = subst (λ (n : Core). flight_at n.pipe s ≡ Some v) before.parts c.in-Some.ensures.some in
    let free =
    subst (λ (n : Core). (k : ℕ) → is_in_line c.enlist.new.lines k ≡ true → (is_in_line m.lines k ≡ true) ⊎ ((place_at n.numbers.local v.0 ≡ Some k) × (is_free_such Tasks n.numbers.tasks k ≡ true))) after.parts c.enlist.ensures.free in
    let there =
    subst (λ (n : Core). (k : ℕ) → place_at n.numbers.local v.0 ≡ Some k → k < length n.numbers.tasks.task → is_free_such Tasks n.numbers.tasks k ≡ true → is_in_line c.enlist.new.lines k ≡ true) after.parts c.enlist.ensures.there in
    let enlisted =
    subst (λ (n : Core). HasEnlisted Pending n.numbers m.asked c.enlist_near.new.lines (ends_of (sides_at n.numbers.local v.0)) (length (sides_at n.numbers.local v.0))) after.parts c.enlist_near.ensures.enlisted in
    let first = subst (λ (n : Core). HasFirstInLine n.numbers.tasks c.enlist_near.new.lines c.enlist_first.new.asked) after.parts c.enlist_first.ensures in
    let near = sided (with_locking is.st) m.machine.core m.machine.kept v setting here before.rows (before.orderly.flights.own s v flies) in
    let place = λ (u : ℕ). ap (λ (l : LocalView). place_at l u) e.local in
    let sides = ap (λ (l : LocalView). sides_at l v.0) e.local in
    kept_on g.P.Program.meaning x (seen_in_steps c.mark.new.self c.enlist.new.lines.colours m.colour m.closed) m.lines m.asked c.enlist.new.lines c.enlist_first.new.asked is
    (same_step x c.mark.new.self c.enlist.new.lines.colours e.settings e.places (ap (λ (l : LocalView). l.me) e.local) e.program c.enlist.ensures.colours).same e.terms
    (marked_without_locks m.machine.core c.mark.new.self.core s v before.orderly after.orderly before.places after.places e.places place flies (with_locking is.st) m.machine.kept c.mark.new.self.kept setting here e.marked e.plans near sides is.free)
    (marked_in_line m.machine.core c.mark.new.self.core s v before.orderly after.orderly before.places after.places e.places place flies (with_locking is.st) m.machine.kept c.mark.new.self.kept setting here e.marked e.plans near sides m.lines m.asked
    c.enlist.new.lines c.enlist_near.new.lines c.enlist_first.new.asked is.in_line c.enlist.ensures.colours c.enlist.ensures.kept free there c.enlist_near.ensures.colours enlisted first)

pub returns-in-Ok-clause-marked : goal.returns-in-Ok-clause-marked
returns-in-Ok-clause-marked g c =
    let m = c.self.inside in
    rw (← c.self.view_is) (marked_by_colour (seen_in_steps m.machine m.lines.colours m.colour m.closed) c.mark.new.self c.enlist.new.lines.colours c.args.scope c.in-Ok.ensures.marked)

pub returns-in-Ok-clause-plans : goal.returns-in-Ok-clause-plans
returns-in-Ok-clause-plans g c = rw (← c.self.view_is) c.in-Ok.ensures.plans

pub returns-in-Ok-clause-step : goal.returns-in-Ok-clause-step
returns-in-Ok-clause-step g c =
    let m = c.self.inside in
    let e = c.in-Ok.ensures in
    rw (← c.self.view_is)
    (same_step (seen_in_steps m.machine m.lines.colours m.colour m.closed) c.mark.new.self c.enlist.new.lines.colours e.settings e.places (ap (λ (l : LocalView). l.me) e.local) e.program c.enlist.ensures.colours)

pub returns-in-Ok-clause-saved : goal.returns-in-Ok-clause-saved
returns-in-Ok-clause-saved g c = rw (← c.self.view_is) c.in-Ok.ensures.saved

pub returns-in-Ok-clause-once : goal.returns-in-Ok-clause-once
returns-in-Ok-clause-once g c = rw (← c.self.view_is) c.in-Ok.ensures.once

pub returns-in-Ok-clause-local : goal.returns-in-Ok-clause-local
returns-in-Ok-clause-local g c = rw (← c.self.view_is) c.in-Ok.ensures.local

pub returns-in-Ok-clause-unchanged : goal.returns-in-Ok-clause-unchanged
returns-in-Ok-clause-unchanged g c = tt

pub returns-in-Ok-clause-part : goal.returns-in-Ok-clause-part
returns-in-Ok-clause-part g c = tt

pub returns-in-Ok-clause-same : goal.returns-in-Ok-clause-same
returns-in-Ok-clause-same g c = tt

pub returns-in-Err-clause-marked : goal.returns-in-Err-clause-marked
returns-in-Err-clause-marked g c = tt

pub returns-in-Err-clause-once : goal.returns-in-Err-clause-once
returns-in-Err-clause-once g c = tt

pub returns-in-Err-clause-plans : goal.returns-in-Err-clause-plans
returns-in-Err-clause-plans g c = tt

pub returns-in-Err-clause-saved : goal.returns-in-Err-clause-saved
returns-in-Err-clause-saved g c = rw (← c.self.view_is) c.in-Err.ensures.saved

pub returns-in-Err-clause-unchanged : goal.returns-in-Err-clause-unchanged
returns-in-Err-clause-unchanged g c = rw (← c.self.view_is) c.in-Err.ensures.unchanged

pub returns-in-Err-clause-same : goal.returns-in-Err-clause-same
returns-in-Err-clause-same g c = rw (← c.self.view_is) c.in-Err.ensures.same

pub returns-in-Err-clause-local : goal.returns-in-Err-clause-local
returns-in-Err-clause-local g c = rw (← c.self.view_is) c.in-Err.ensures.local

pub returns-in_default-clause-marked : goal.returns-in_default-clause-marked
returns-in_default-clause-marked g c = tt

pub returns-in_default-clause-once : goal.returns-in_default-clause-once
returns-in_default-clause-once g c = tt

pub returns-in_default-clause-plans : goal.returns-in_default-clause-plans
returns-in_default-clause-plans g c = tt
