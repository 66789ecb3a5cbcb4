-- Field by field.
use Rattle.std.proofs.Common.{subst, sym}
use Rattle.engine_runs.specs.append.Inner.Numbers.{EntryFits}
use Rattle.engine_runs.proofs.append.numbers.look_at.Goals as goal

pub returns-in-Go : goal.returns-in-Go
returns-in-Go c = subst EntryFits (sym c.in-Go.is) c.update_fits.ensures

pub returns-in-Restart : goal.returns-in-Restart
returns-in-Restart c = subst EntryFits (sym c.in-Restart.is) c.restart_fits.ensures
