-- The snapshot has begun as the law says, and who is seeded stands in line.
use Rattle.std.proofs.Common.{ap, refl, subst}
use Rattle.machine_core.specs.declared.machine_parts.cores.Core.{Core}
use Rattle.snapshot_machines.specs.chromatic.Machines.{Part, with_locking}
use Rattle.snapshot_machines.specs.chromatic.Inner.Keeping.{HasFirstInLine, seen_in_steps}
use Rattle.snapshot_machines.proofs.chromatic.BeginLemmas.{begun_in_line, begun_without_locks}
use Rattle.snapshot_machines.proofs.chromatic.KeepLemmas.{kept_on, same_step}
use Rattle.snapshot_machines.proofs.chromatic.machines.ColorSnapMachine.begin.Goals as goal

pub invariant_of-self : goal.invariant_of-self
invariant_of-self g c =
    let m = c.self.inside in
    let is = c.self.invariant in
    let e = c.begin.ensures in
    let first = subst (λ (n : Core). HasFirstInLine n.numbers.tasks m.asked c.enlist_first.new.asked) c.core.ensures.parts c.enlist_first.ensures in
    let order = c.begin.ensures.order in
    let x = seen_in_steps m.machine m.lines.colours m.colour m.closed in
    let here = is.setting.part.part in
    kept_on g.P.Program.meaning x (seen_in_steps c.begin.new.self m.lines.colours m.colour m.closed) m.lines m.asked m.lines c.enlist_first.new.asked is
    (same_step x c.begin.new.self m.lines.colours e.settings (ap (λ (n : Core). n.by_place) e.rest) (ap (λ (n : Core). n.numbers.local.me) e.rest) e.program refl).same
    (ap (λ (n : Core). n.terms) e.rest)
    (begun_without_locks m.machine.core c.begin.new.self.core m.machine.kept c.begin.new.self.kept c.args.number (with_locking is.st) order.orderly order.places here e.begun e.rest is.free)
    (begun_in_line m.machine.core c.begin.new.self.core m.machine.kept c.begin.new.self.kept c.args.number (with_locking is.st) order.orderly order.places here e.begun e.rest m.lines m.asked c.enlist_first.new.asked is.in_line first)

pub returns-clause-begun : goal.returns-clause-begun
returns-clause-begun g c =
    rw (← c.self.view_is) (λ st is. ap (λ (p : Part). record p { colour = c.self.inside.colour; closed = c.self.inside.closed }) (c.begin.ensures.begun (with_locking st) is.part))
