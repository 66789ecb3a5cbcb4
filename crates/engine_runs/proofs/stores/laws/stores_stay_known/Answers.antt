-- They leave it as it is.
use Rattle.engine_runs.proofs.stores.Keeping.{passes_known}
use Rattle.engine_runs.proofs.stores.laws.stores_stay_known.Goals as goal

pub returns : goal.returns
returns g c = λ old new header start bodies lost stored front order st o at goes known. passes_known g.M.SavingMachine.represents old new header start bodies lost stored front order st o at goes known
