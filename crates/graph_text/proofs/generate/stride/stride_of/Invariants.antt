-- no smaller number will do
use Rattle.std.proofs.Common.{ℕ, ◌<◌}
use Rattle.graph_text.specs.generate.Making.{IsStep}
use Rattle.graph_text.proofs.generate.stride.stride_of.Given as goal

abbrev pub invariant-loop-stride : goal.invariant-loop-stride
invariant-loop-stride l = (u : ℕ) → IsStep l.half u → u < l.stride → ⊥
