use Rattle.engine_cli.proofs.AlikeStores.{same-stores}
use Rattle.engine_cli.proofs.laws.stores_serve_alike_jobs.Goals as goal

pub returns : goal.returns
returns t = same-stores
