use Rattle.snapshot_machines.proofs.chromatic.FreshLemmas.{fresh_kept}
use Rattle.snapshot_machines.proofs.chromatic.machines.ColorSnapMachine.new.Goals as goal

pub invariant_of-result : goal.invariant_of-result
invariant_of-result g c =
    let lines = c.in_ok-lines in
    let asked = c.in_ok-asked in
    fresh_kept g.P.Program.meaning c.args.machine c.args.colours.now lines.lines asked.asked c.requires.fresh c.requires.setting.0 c.requires.setting.1 lines.ensures.colours asked.ensures.colours lines.ensures.all asked.ensures.none
