-- A vertex was pending, or the first unmarked one becomes so, or there is none.
use Rattle.std.proofs.Common.{ap, refl}
use Rattle.machine_core.specs.declared.machine_parts.cores.Core.{Core}
use Rattle.snapshot_machines.specs.marking.Seeding.{HasOtherPending}
use Rattle.snapshot_machines.proofs.marking.SeedLemmas.{none_pended, one_pended, pending_already, with_tasks}
use Rattle.snapshot_machines.proofs.marking.seeding.seed.Goals as goal

pub returns-then-has_pending-clause-seeded : goal.returns-then-has_pending-clause-seeded
returns-then-has_pending-clause-seeded c = pending_already c.args.core.now c.args.known (c.has_pending.ensures.some c.if-has_pending.true) c.requires.orderly c.requires.places

pub returns-in-Some-clause-seeded : goal.returns-in-Some-clause-seeded
returns-in-Some-clause-seeded c =
    let old : Core = c.args.core.now in
    let new : Core = with_tasks old c.pend_one.new.tasks in
    let rest : HasOtherPending old new = ap (with_tasks old) c.pend_one.ensures.rest in
    one_pended old new c.args.known c.first_unmarked.result c.in-Some.v rest (c.has_pending.ensures.none c.if-has_pending.false) c.first_unmarked.ensures.below c.first_unmarked.ensures.first
    c.in-Some.ensures.some.0 c.pend_one.ensures.each

pub returns-in_default-clause-seeded : goal.returns-in_default-clause-seeded
returns-in_default-clause-seeded c =
    none_pended c.args.core.now c.args.known c.first_unmarked.result (c.has_pending.ensures.none c.if-has_pending.false) c.first_unmarked.ensures.below c.first_unmarked.ensures.first
    (c.in_default.ensures.none refl)
