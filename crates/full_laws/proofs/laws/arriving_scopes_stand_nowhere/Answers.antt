use Rattle.full_laws.proofs.Standing.{gather_comes}
use Rattle.full_laws.proofs.laws.arriving_scopes_stand_nowhere.Goals as goal

pub returns : goal.returns
returns c = λ st p w kept from to s v rest seen behind first. gather_comes st p w kept from to s v rest seen behind first
