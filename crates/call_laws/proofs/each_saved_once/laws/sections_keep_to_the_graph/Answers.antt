-- By what is saved on the way, and by what is logged in the last attempt.
use Rattle.call_laws.proofs.each_saved_once.InCalls.{edges_inside, updates_owned, vertices_inside}
use Rattle.call_laws.proofs.each_saved_once.laws.sections_keep_to_the_graph.Goals as goal

pub returns-clause-vertices : goal.returns-clause-vertices
returns-clause-vertices c = λ st failures kept resumed base first events cluster trace. vertices_inside st failures kept resumed base first events cluster trace

pub returns-clause-edges : goal.returns-clause-edges
returns-clause-edges c = λ st failures kept resumed base first events cluster trace. edges_inside st failures kept resumed base first events cluster trace

pub returns-clause-updates : goal.returns-clause-updates
returns-clause-updates c = λ st failures kept resumed base first events cluster trace. updates_owned st failures kept resumed base first events cluster trace
