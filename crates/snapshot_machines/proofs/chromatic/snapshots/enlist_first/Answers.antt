use Rattle.snapshot_machines.proofs.chromatic.FirstLemmas.{first_in_line, none_in_line}
use Rattle.snapshot_machines.proofs.chromatic.snapshots.enlist_first.Goals as goal

pub returns-in-Some : goal.returns-in-Some
returns-in-Some c =
    let e = c.in-Some.ensures in
    first_in_line c.args.tasks.now c.args.asked.now c.enlist_at.new.lines c.in-Some.pick.vertex c.in-Some.pick.snapshot e.pick e.within e.asked c.enlist_at.ensures.in_line c.enlist_at.ensures.colours

pub returns-in_default : goal.returns-in_default
returns-in_default c = let e = c.in_default.ensures in none_in_line c.args.tasks.now c.args.asked.now e.pick.0 e.asked
