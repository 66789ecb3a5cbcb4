-- The update is the law's, and leaves the machine in order.
use Rattle.std.proofs.Common.{refl}
use Rattle.machine_core.proofs.machine_at_once.Machines.{back_marks, back_orderly, back_part, back_places, back_settled, can_be_made, gone_orderly, gone_pipe, gone_places, gone_settled, gone_updated, made_marks, rows_kept}
use Rattle.machine_core.proofs.machine_at_once.Scopes.{can_update}
use Rattle.machine_core.proofs.machine_at_once.updating.update_at_once.Goals as goal

pub make-requires-clause-can : goal.make-requires-clause-can
make-requires-clause-can g c = can_be_made c.args.core.now c.in-Some.found.vertex c.requires.orderly c.in-Some.ensures.found.waits.own

pub make-requires-clause-row : goal.make-requires-clause-row
make-requires-clause-row g c = c.requires.rows c.in-Some.found.vertex.0 c.in-Some.ensures.found.waits.own

pub returns-in-Ok-clause-updated : goal.returns-in-Ok-clause-updated
returns-in-Ok-clause-updated g c =
    gone_updated (g.P.Program.meaning c.args.program.now) c.args.core.now c.make.new.numbers c.in-Some.found c.args.ticket c.requires.orderly c.in-Some.ensures.found c.in-Ok.ensures.made c.pass.new.self c.pass.ensures

pub returns-in-Ok-clause-orderly : goal.returns-in-Ok-clause-orderly
returns-in-Ok-clause-orderly g c =
    gone_orderly (g.P.Program.meaning c.args.program.now) c.args.core.now c.make.new.numbers c.in-Some.found c.args.ticket c.requires.orderly c.in-Some.ensures.found c.in-Ok.ensures.made c.pass.new.self c.pass.ensures

pub returns-in-Ok-clause-settings : goal.returns-in-Ok-clause-settings
returns-in-Ok-clause-settings g c =
    gone_settled (g.P.Program.meaning c.args.program.now) c.args.core.now c.make.new.numbers c.in-Some.found c.args.ticket c.requires.orderly c.in-Some.ensures.found c.in-Ok.ensures.made c.pass.new.self c.pass.ensures

pub returns-in-Ok-clause-places : goal.returns-in-Ok-clause-places
returns-in-Ok-clause-places g c =
    gone_places (g.P.Program.meaning c.args.program.now) c.args.core.now c.make.new.numbers c.in-Some.found c.args.ticket c.requires.orderly c.in-Some.ensures.found c.in-Ok.ensures.made c.pass.new.self c.pass.ensures c.requires.places

pub returns-in-Ok-clause-rows : goal.returns-in-Ok-clause-rows
returns-in-Ok-clause-rows g c = rows_kept c.args.core.now.numbers.local c.make.new.numbers.local c.in-Ok.ensures.made.graph c.requires.rows

pub returns-in-Ok-clause-links : goal.returns-in-Ok-clause-links
returns-in-Ok-clause-links g c = c.in-Ok.ensures.made.graph.links

pub returns-in-Ok-clause-pipe : goal.returns-in-Ok-clause-pipe
returns-in-Ok-clause-pipe g c =
    gone_pipe (g.P.Program.meaning c.args.program.now) c.args.core.now c.make.new.numbers c.in-Some.found c.args.ticket c.requires.orderly c.in-Some.ensures.found c.in-Ok.ensures.made c.pass.new.self c.pass.ensures

pub returns-in-Err-clause-no_memory : goal.returns-in-Err-clause-no_memory
returns-in-Err-clause-no_memory g c = λ refused. can_update c.args.core.now c.in-Some.found c.requires.orderly c.in-Some.ensures.found

pub returns-in-Err-clause-unchanged : goal.returns-in-Err-clause-unchanged
returns-in-Err-clause-unchanged g c = back_part c.args.core.now c.make.new.numbers c.in-Err.ensures.same

pub returns-in-Err-clause-orderly : goal.returns-in-Err-clause-orderly
returns-in-Err-clause-orderly g c = back_orderly c.args.core.now c.make.new.numbers c.in-Err.ensures.same c.requires.orderly

pub returns-in-Err-clause-settings : goal.returns-in-Err-clause-settings
returns-in-Err-clause-settings g c = back_settled c.args.core.now c.make.new.numbers c.in-Err.ensures.same c.requires.orderly

pub returns-in-Err-clause-places : goal.returns-in-Err-clause-places
returns-in-Err-clause-places g c = back_places c.args.core.now c.make.new.numbers c.in-Err.ensures.same c.requires.orderly c.requires.places

pub returns-in-Err-clause-rows : goal.returns-in-Err-clause-rows
returns-in-Err-clause-rows g c = rows_kept c.args.core.now.numbers.local c.make.new.numbers.local c.in-Err.ensures.same.graph c.requires.rows

pub returns-in-Err-clause-links : goal.returns-in-Err-clause-links
returns-in-Err-clause-links g c = c.in-Err.ensures.same.graph.links

pub returns-then-not-has_serial-clause-no_memory : goal.returns-then-not-has_serial-clause-no_memory
returns-then-not-has_serial-clause-no_memory g c = λ refused. can_update c.args.core.now c.in-Some.found c.requires.orderly c.in-Some.ensures.found

pub returns-in-Ok-clause-marks : goal.returns-in-Ok-clause-marks
returns-in-Ok-clause-marks g c = made_marks (g.P.Program.meaning c.args.program.now) c.args.core.now.numbers c.make.new.numbers c.in-Some.found.vertex _ c.in-Ok.ensures.made

pub returns-in-Err-clause-marks : goal.returns-in-Err-clause-marks
returns-in-Err-clause-marks g c = back_marks c.args.core.now.numbers c.make.new.numbers c.in-Err.ensures.same

pub returns-in_default-clause-updated : goal.returns-in_default-clause-updated
returns-in_default-clause-updated g c = tt

pub returns-in_default-clause-run : goal.returns-in_default-clause-run
returns-in_default-clause-run g c = tt

pub returns-in_default-clause-same : goal.returns-in_default-clause-same
returns-in_default-clause-same g c = λ refused. refl

pub returns-in_default-clause-unchanged : goal.returns-in_default-clause-unchanged
returns-in_default-clause-unchanged g c = refl

pub returns-in_default-clause-tasks : goal.returns-in_default-clause-tasks
returns-in_default-clause-tasks g c = refl

pub returns-in_default-clause-rows : goal.returns-in_default-clause-rows
returns-in_default-clause-rows g c = c.requires.rows

pub returns-in_default-clause-own : goal.returns-in_default-clause-own
returns-in_default-clause-own g c = λ x. refl

pub returns-in_default-clause-marks : goal.returns-in_default-clause-marks
returns-in_default-clause-marks g c = λ x. refl

pub returns-in_default-clause-local : goal.returns-in_default-clause-local
returns-in_default-clause-local g c = refl

pub returns-in_default-clause-links : goal.returns-in_default-clause-links
returns-in_default-clause-links g c = λ x. refl

pub returns-in_default-clause-orderly : goal.returns-in_default-clause-orderly
returns-in_default-clause-orderly g c = c.requires.orderly

pub returns-in_default-clause-places : goal.returns-in_default-clause-places
returns-in_default-clause-places g c = c.requires.places

pub returns-in_default-clause-settings : goal.returns-in_default-clause-settings
returns-in_default-clause-settings g c = λ st part. part

pub returns-in_default-clause-pipe : goal.returns-in_default-clause-pipe
returns-in_default-clause-pipe g c = refl

pub returns-in_default-clause-rest : goal.returns-in_default-clause-rest
returns-in_default-clause-rest g c = refl

pub returns-then-not-has_serial-clause-updated : goal.returns-then-not-has_serial-clause-updated
returns-then-not-has_serial-clause-updated g c = tt

pub returns-then-not-has_serial-clause-run : goal.returns-then-not-has_serial-clause-run
returns-then-not-has_serial-clause-run g c = tt

pub returns-then-not-has_serial-clause-unchanged : goal.returns-then-not-has_serial-clause-unchanged
returns-then-not-has_serial-clause-unchanged g c = refl

pub returns-then-not-has_serial-clause-tasks : goal.returns-then-not-has_serial-clause-tasks
returns-then-not-has_serial-clause-tasks g c = refl

pub returns-then-not-has_serial-clause-rows : goal.returns-then-not-has_serial-clause-rows
returns-then-not-has_serial-clause-rows g c = c.requires.rows

pub returns-then-not-has_serial-clause-own : goal.returns-then-not-has_serial-clause-own
returns-then-not-has_serial-clause-own g c = λ x. refl

pub returns-then-not-has_serial-clause-marks : goal.returns-then-not-has_serial-clause-marks
returns-then-not-has_serial-clause-marks g c = λ x. refl

pub returns-then-not-has_serial-clause-local : goal.returns-then-not-has_serial-clause-local
returns-then-not-has_serial-clause-local g c = refl

pub returns-then-not-has_serial-clause-links : goal.returns-then-not-has_serial-clause-links
returns-then-not-has_serial-clause-links g c = λ x. refl

pub returns-then-not-has_serial-clause-orderly : goal.returns-then-not-has_serial-clause-orderly
returns-then-not-has_serial-clause-orderly g c = c.requires.orderly

pub returns-then-not-has_serial-clause-places : goal.returns-then-not-has_serial-clause-places
returns-then-not-has_serial-clause-places g c = c.requires.places

pub returns-then-not-has_serial-clause-settings : goal.returns-then-not-has_serial-clause-settings
returns-then-not-has_serial-clause-settings g c = λ st part. part

pub returns-then-not-has_serial-clause-pipe : goal.returns-then-not-has_serial-clause-pipe
returns-then-not-has_serial-clause-pipe g c = refl

pub returns-then-not-has_serial-clause-rest : goal.returns-then-not-has_serial-clause-rest
returns-then-not-has_serial-clause-rest g c = refl
