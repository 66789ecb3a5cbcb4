-- Each queue is empty.
use Rattle.std.proofs.Common.{sym, ◌∙◌}
use Rattle.whole_laws.proofs.cluster_whole.Colours.{in_turn}
use Rattle.whole_laws.proofs.cluster_whole.Stepping.{nil_cons}
use Rattle.whole_laws.proofs.cluster_whole.laws.grants_never_happen.Goals as goal

pub returns : goal.returns
returns c = λ st colour colours a x cluster whole chromatic may.
    nil_cons may.claim may.behind (sym ((in_turn st colour colours cluster whole chromatic).queues a x) ∙ may.first)
