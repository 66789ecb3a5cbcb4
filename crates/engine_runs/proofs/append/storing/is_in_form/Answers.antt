-- By its number, and by its bytes.
use Rattle.std.proofs.Common.{arith, refl}
use Rattle.engine_runs.proofs.append.Putting.{if_form}
use Rattle.engine_runs.proofs.append.storing.is_in_form.Goals as goal

pub returns : goal.returns
returns c = if_form c.args.header.now c.args.stored c.args.made.now.number c.args.made.now c.is_record.result refl (omega arith) c.is_record.ensures.fits c.is_record.ensures.form c.is_record.ensures.taken
