use Rattle.std.proofs.Common.{arith}
use Rattle.graph_text.specs.generate.Making.{offset_count}
use Rattle.graph_text.proofs.generate.Strides.{offsets_apart, offset_small}
use Rattle.graph_text.proofs.generate.laws.offsets_are_apart.Goals as goal

pub returns-clause-apart : goal.returns-clause-apart
returns-clause-apart c = λ number vertices stride i j is i_in j_in apart. offsets_apart number (offset_count vertices) stride i j is i_in j_in apart

pub returns-clause-some : goal.returns-clause-some
returns-clause-some c = λ number vertices stride k. omega arith

pub returns-clause-small : goal.returns-clause-small
returns-clause-small c = λ number vertices stride k some. (offset_small number vertices stride k some).1
