-- No edge is saved twice on the way, and sections say what is saved.
use Rattle.call_laws.proofs.each_saved_once.InCalls.{edges_once}
use Rattle.call_laws.proofs.each_saved_once.laws.edges_are_saved_once.Goals as goal

pub returns : goal.returns
returns c = λ st failures kept resumed base first events cluster trace. edges_once st failures kept resumed base first events cluster trace
