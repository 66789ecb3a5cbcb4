use Rattle.std.proofs.Common.{refl}
use Rattle.update_api.proofs.ScopesLaws.{same_with_centre}
use Rattle.update_api.proofs.scopes.Scope.centre_mut.Goals as goal

pub returns : goal.returns
returns c = ((refl, λ w. same_with_centre c.args.self.now w _), record { writes_back = tt; value = refl })
