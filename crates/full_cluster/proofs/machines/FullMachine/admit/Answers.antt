use Rattle.std.proofs.Common.{◌∷◌, ◌<◌, List, ℕ, sym, subst}
use Rattle.std.specs.List.{All}
use Rattle.gl_base.specs.declared.numbers.MachineNo.{MachineNo}
use Rattle.full_cluster.proofs.ArrivingLemmas.{second_below}
use Rattle.full_cluster.proofs.machines.FullMachine.admit.Goals as goal

pub admit_here-requires-clause-rest : goal.admit_here-requires-clause-rest
admit_here-requires-clause-rest c = λ b at.
    let many = c.args.terms.machines in
    let all : All (λ m. m.0 < many) (c.in-Some.first ∷ c.take_first.new.list.items) = subst (λ (list : List MachineNo). All (λ m. m.0 < many) list) c.in-Some.ensures.some c.in_ok-rest.ensures.within in
    subst (λ (n : ℕ). b.0 < n) (sym c.requires.one.queues) (second_below c.in-Some.first c.take_first.new.list.items many all b at)
