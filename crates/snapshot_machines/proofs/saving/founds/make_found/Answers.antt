-- The update is the law's, and leaves the machine in order.
use Rattle.std.proofs.Common.{refl}
use Rattle.machine_core.proofs.machine_at_once.Machines.{back_marks, back_orderly, back_part, back_places, back_settled, can_be_made, made_marks, rows_kept}
use Rattle.snapshot_machines.proofs.saving.FoundLemmas.{found_orderly, found_places, found_settled, found_updated}
use Rattle.snapshot_machines.proofs.saving.founds.make_found.Goals as goal

pub make-requires-clause-can : goal.make-requires-clause-can
make-requires-clause-can g c = can_be_made c.args.core.now c.args.found.vertex c.requires.orderly c.requires.waits.own

pub make-requires-clause-row : goal.make-requires-clause-row
make-requires-clause-row g c = c.requires.rows c.args.found.vertex.0 c.requires.waits.own

pub returns-in-Ok-clause-updated : goal.returns-in-Ok-clause-updated
returns-in-Ok-clause-updated g c = found_updated (g.P.Program.meaning c.args.program.now) c.args.core.now c.make.new.numbers c.args.found.vertex c.args.ticket c.requires.orderly c.requires.waits.own c.in-Ok.ensures.made c.pass.new.self c.pass.ensures

pub returns-in-Ok-clause-orderly : goal.returns-in-Ok-clause-orderly
returns-in-Ok-clause-orderly g c = found_orderly (g.P.Program.meaning c.args.program.now) c.args.core.now c.make.new.numbers c.args.found.vertex c.args.ticket c.requires.orderly c.requires.waits.own c.in-Ok.ensures.made c.pass.new.self c.pass.ensures

pub returns-in-Ok-clause-settings : goal.returns-in-Ok-clause-settings
returns-in-Ok-clause-settings g c = found_settled (g.P.Program.meaning c.args.program.now) c.args.core.now c.make.new.numbers c.args.found.vertex c.args.ticket c.requires.orderly c.requires.waits.own c.in-Ok.ensures.made c.pass.new.self c.pass.ensures

pub returns-in-Ok-clause-places : goal.returns-in-Ok-clause-places
returns-in-Ok-clause-places g c = found_places (g.P.Program.meaning c.args.program.now) c.args.core.now c.make.new.numbers c.args.found.vertex c.args.ticket c.requires.orderly c.requires.waits.own c.in-Ok.ensures.made c.pass.new.self c.pass.ensures c.requires.places

pub returns-in-Ok-clause-rows : goal.returns-in-Ok-clause-rows
returns-in-Ok-clause-rows g c = rows_kept c.args.core.now.numbers.local c.make.new.numbers.local c.in-Ok.ensures.made.graph c.requires.rows

pub returns-in-Ok-clause-marks : goal.returns-in-Ok-clause-marks
returns-in-Ok-clause-marks g c = made_marks (g.P.Program.meaning c.args.program.now) c.args.core.now.numbers c.make.new.numbers c.args.found.vertex _ c.in-Ok.ensures.made

pub returns-in-Err-clause-unchanged : goal.returns-in-Err-clause-unchanged
returns-in-Err-clause-unchanged g c = back_part c.args.core.now c.make.new.numbers c.in-Err.ensures.same

pub returns-in-Err-clause-orderly : goal.returns-in-Err-clause-orderly
returns-in-Err-clause-orderly g c = back_orderly c.args.core.now c.make.new.numbers c.in-Err.ensures.same c.requires.orderly

pub returns-in-Err-clause-settings : goal.returns-in-Err-clause-settings
returns-in-Err-clause-settings g c = back_settled c.args.core.now c.make.new.numbers c.in-Err.ensures.same c.requires.orderly

pub returns-in-Err-clause-places : goal.returns-in-Err-clause-places
returns-in-Err-clause-places g c = back_places c.args.core.now c.make.new.numbers c.in-Err.ensures.same c.requires.orderly c.requires.places

pub returns-in-Err-clause-rows : goal.returns-in-Err-clause-rows
returns-in-Err-clause-rows g c = rows_kept c.args.core.now.numbers.local c.make.new.numbers.local c.in-Err.ensures.same.graph c.requires.rows

pub returns-in-Err-clause-marks : goal.returns-in-Err-clause-marks
returns-in-Err-clause-marks g c = back_marks c.args.core.now.numbers c.make.new.numbers c.in-Err.ensures.same

pub returns-then-not-has_serial-clause-updated : goal.returns-then-not-has_serial-clause-updated
returns-then-not-has_serial-clause-updated g c = tt

pub returns-then-not-has_serial-clause-run : goal.returns-then-not-has_serial-clause-run
returns-then-not-has_serial-clause-run g c = tt

pub returns-then-not-has_serial-clause-unchanged : goal.returns-then-not-has_serial-clause-unchanged
returns-then-not-has_serial-clause-unchanged g c = refl

pub returns-then-not-has_serial-clause-tasks : goal.returns-then-not-has_serial-clause-tasks
returns-then-not-has_serial-clause-tasks g c = refl

pub returns-then-not-has_serial-clause-rows : goal.returns-then-not-has_serial-clause-rows
returns-then-not-has_serial-clause-rows g c = c.requires.rows

pub returns-then-not-has_serial-clause-own : goal.returns-then-not-has_serial-clause-own
returns-then-not-has_serial-clause-own g c = λ x. refl

pub returns-then-not-has_serial-clause-marks : goal.returns-then-not-has_serial-clause-marks
returns-then-not-has_serial-clause-marks g c = λ x. refl

pub returns-then-not-has_serial-clause-local : goal.returns-then-not-has_serial-clause-local
returns-then-not-has_serial-clause-local g c = refl

pub returns-then-not-has_serial-clause-orderly : goal.returns-then-not-has_serial-clause-orderly
returns-then-not-has_serial-clause-orderly g c = c.requires.orderly

pub returns-then-not-has_serial-clause-places : goal.returns-then-not-has_serial-clause-places
returns-then-not-has_serial-clause-places g c = c.requires.places

pub returns-then-not-has_serial-clause-settings : goal.returns-then-not-has_serial-clause-settings
returns-then-not-has_serial-clause-settings g c = λ st part. part

pub returns-then-not-has_serial-clause-rest : goal.returns-then-not-has_serial-clause-rest
returns-then-not-has_serial-clause-rest g c = refl
