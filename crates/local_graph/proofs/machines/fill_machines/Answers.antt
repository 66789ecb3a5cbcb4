use Rattle.std.proofs.Common.{ℕ, [], ◌∙◌}
use Rattle.gl_base.specs.declared.numbers.MachineNo.{MachineNo}
use Rattle.local_graph.specs.Played.{meets}
use Rattle.local_graph.proofs.ListLemmas.{range_pushed}
use Rattle.local_graph.proofs.machines.fill_machines.Goals as goal

pub loop-a-preserved : goal.loop-a-preserved
loop-a-preserved c =
    let f : ℕ → MachineNo = λ a. record { 0 = a } in
    c.in_ok-push_machine.ensures
    ∙ range_pushed f (meets c.args.me c.args.sides.now) c.loop-a.a c.takes_part-takes.result [] c.loop-a.list.items c.takes_part-takes.ensures c.loop-a.invariant
