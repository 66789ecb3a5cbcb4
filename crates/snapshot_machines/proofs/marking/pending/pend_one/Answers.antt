use Rattle.std.proofs.Common.{sym, ◌∙◌}
use Rattle.partition.proofs.machine_numbers.WakeLemmas.{own_inside}
use Rattle.snapshot_machines.proofs.marking.PendLemmas.{pended_at}
use Rattle.snapshot_machines.proofs.marking.pending.pend_one.Goals as goal

pub pend_place-requires : goal.pend_place-requires
pend_place-requires c = own_inside c.args.local.now c.args.tasks.now c.args.v.0 c.in-Some.place c.requires.tasks c.requires.own (sym c.place.ensures ∙ c.in-Some.is)

pub returns-clause-each : goal.returns-clause-each
returns-clause-each c =
    let at = sym c.place.ensures ∙ c.in-Some.is in
    pended_at c.args.local.now c.args.tasks.now c.pend_place.new.tasks c.args.v.0 c.in-Some.place c.requires.tasks at c.pend_place.ensures.set c.pend_place.ensures.is_pending
