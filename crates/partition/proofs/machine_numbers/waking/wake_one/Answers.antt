use Rattle.std.proofs.Common.{sym, ◌∙◌}
use Rattle.partition.proofs.machine_numbers.WakeLemmas.{own_inside, woken_at}
use Rattle.partition.proofs.machine_numbers.waking.wake_one.Goals as goal

pub wake_place-requires : goal.wake_place-requires
wake_place-requires c = own_inside c.args.local.now c.args.tasks.now c.args.v.0 c.in-Some.place c.requires.tasks c.requires.own (sym c.place.ensures ∙ c.in-Some.is)

pub returns-clause-each : goal.returns-clause-each
returns-clause-each c =
    let at = sym c.place.ensures ∙ c.in-Some.is in
    woken_at c.args.local.now c.args.tasks.now c.wake_place.new.tasks c.args.v.0 c.in-Some.place c.requires.tasks at
    (own_inside c.args.local.now c.args.tasks.now c.args.v.0 c.in-Some.place c.requires.tasks c.requires.own at) c.wake_place.ensures
