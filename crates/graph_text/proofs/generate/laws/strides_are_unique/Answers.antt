use Rattle.graph_text.proofs.generate.Strides.{one_stride}
use Rattle.graph_text.proofs.generate.laws.strides_are_unique.Goals as goal

pub returns : goal.returns
returns c = one_stride
