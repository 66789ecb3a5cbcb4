use Rattle.std.proofs.Common.{refl}
use Rattle.full_scope.proofs.ScopesLaws.{same_with_full_centre}
use Rattle.full_scope.proofs.scopes.FullScope.centre_mut.Goals as goal

pub returns : goal.returns
returns c = ((refl, λ w. same_with_full_centre c.args.self.now w _), record { writes_back = tt; value = refl })
