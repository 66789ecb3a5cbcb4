-- The admission is the law's, and who is admitted leaves the lines.
use Rattle.std.proofs.Common.{ap, sym, subst}
use Rattle.partition.specs.declared.machine_numbers.keeping.Numbers.{Numbers}
use Rattle.machine_core.specs.declared.machine_parts.cores.Core.{Core}
use Rattle.snapshot_machines.specs.chromatic.Machines.{ColorSnapView}
use Rattle.snapshot_machines.specs.chromatic.Inner.Keeping.{seen_in_steps}
use Rattle.snapshot_machines.specs.chromatic.Inner.Picking.{IsDueInStep, IsNoneDueInStep}
use Rattle.snapshot_machines.proofs.chromatic.AdmitLemmas.{admits_none, can_admit, admitted_by_colour, taken_both, taken_without_locks}
use Rattle.snapshot_machines.proofs.chromatic.KeepLemmas.{kept_on, same_step}
use Rattle.snapshot_machines.specs.saving.Machines.{IsBetweenCalls}
use Rattle.snapshot_machines.proofs.chromatic.machines.ColorSnapMachine.admit.Goals as goal

pub invariant_of-self : goal.invariant_of-self
invariant_of-self g c =
    let m = c.self.inside in
    let is = c.self.invariant in
    let e = c.in-Ok.ensures in
    let x = seen_in_steps m.machine m.lines.colours m.colour m.closed in
    let due = subst (λ (y : ColorSnapView g.row.P.Denot). IsDueInStep y c.in-Some.pick) (sym c.self.view_is) c.in-Some.ensures.some in
    let places = c.admit_in_step.ensures.order.places in
    let lines = c.remove.new.self in
    let asked = c.remove-in-Ok.new.self in
    kept_on g.P.Program.meaning x (seen_in_steps c.admit_in_step.new.self lines.colours m.colour m.closed) m.lines m.asked lines asked is
    (same_step x c.admit_in_step.new.self lines.colours e.settings (ap (λ (n : Core). n.by_place) e.rest) (ap (λ (n : Numbers). n.local.me) e.admitted.numbers) e.program c.remove.ensures.colours).same (ap (λ (n : Core). n.terms) e.rest)
    (taken_without_locks x c.admit_in_step.new.self c.in-Some.pick places due e.admitted is.free)
    (taken_both x c.admit_in_step.new.self c.in-Some.pick places due e.admitted m.lines m.asked lines asked is.in_line c.remove.ensures.colours c.remove-in-Ok.ensures.colours c.remove.ensures.waits c.remove-in-Ok.ensures.waits)

pub returns-in-Ok-clause-admitted : goal.returns-in-Ok-clause-admitted
returns-in-Ok-clause-admitted g c =
    let m = c.self.inside in
    let e = c.in-Ok.ensures in
    let x = seen_in_steps m.machine m.lines.colours m.colour m.closed in
    let due = subst (λ (y : ColorSnapView g.row.P.Denot). IsDueInStep y c.in-Some.pick) (sym c.self.view_is) c.in-Some.ensures.some in
    let before = c.admit_in_step.ensures.order in
    rw (← c.self.view_is) (admitted_by_colour x c.admit_in_step.new.self c.in-Some.pick before.places due e.admitted c.remove.new.self.colours before.orderly c.if-self.false e.kept)

pub returns-in_default-clause-not_now : goal.returns-in_default-clause-not_now
returns-in_default-clause-not_now g c =
    let m = c.self.inside in
    let none = subst (λ (y : ColorSnapView g.row.P.Denot). IsNoneDueInStep y) (sym c.self.view_is) c.in_default.ensures.none in
    let before = subst (λ (y : ColorSnapView g.row.P.Denot). IsBetweenCalls y.core y.kept) (sym c.self.view_is) c.in_default.ensures.order in
    rw (← c.self.view_is) (λ is. admits_none (seen_in_steps m.machine m.lines.colours m.colour m.closed) before.orderly before.places none)

pub returns-in-Err-clause-no_memory : goal.returns-in-Err-clause-no_memory
returns-in-Err-clause-no_memory g c =
    let m = c.self.inside in
    let due = subst (λ (y : ColorSnapView g.row.P.Denot). IsDueInStep y c.in-Some.pick) (sym c.self.view_is) c.in-Some.ensures.some in
    let before = c.admit_in_step.ensures.order in
    rw (← c.self.view_is) (λ is. can_admit (seen_in_steps m.machine m.lines.colours m.colour m.closed) before.orderly before.places c.if-self.false c.in-Some.pick due)
