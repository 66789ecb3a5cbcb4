use Rattle.std.proofs.Common.{rules, sym, subst}
use Rattle.std.proofs.lemmas.Fn.{filter_same}
use Rattle.tests_parts.specs.Flying.{AllFly}
use Rattle.tests_parts.proofs.FlyingLemmas.{is_other, fly_on}
use Rattle.tests_parts.proofs.plain_pipes.Both.go_on.Goals as goal

pub invariant_of-self : goal.invariant_of-self
invariant_of-self c =
    let kept = filter_same _ (is_other c.index.result.now.scope) _ (λ x b f' k. search rules) _ c.retain.new.self.items c.retain.ensures.filtered in
    let stay = fly_on _ c.finish.new.self c.index.result.now.scope c.args.self.now.flights.items c.finish.ensures.finished c.args.self.now.fly in
    record { fly = subst (λ fs. AllFly c.finish.new.self fs) (sym kept) stay }
