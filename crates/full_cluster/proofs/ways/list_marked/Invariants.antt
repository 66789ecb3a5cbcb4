use Rattle.std.proofs.Common.{◌≡◌, false, map, slice_index_or}
use Rattle.gl_base.specs.declared.numbers.MachineNo.{MachineNo}
use Rattle.full_cluster.specs.Inner.Ways.{passing}
use Rattle.full_cluster.proofs.ways.list_marked.Given as goal

abbrev pub invariant-loop-a : goal.invariant-loop-a
invariant-loop-a l = map (λ (m : MachineNo). m.0) l.list.items ≡ passing (λ a. slice_index_or l.marks a false) 0 l.a
