-- What is seen in the lists is what is seen around the vertex.
use Rattle.std.proofs.Common.{sym, ◌∙◌, ap}
use Rattle.graph_core.specs.Halves.{halves_of}
use Rattle.seq_run.specs.States.{is_woken}
use Rattle.full_scope.specs.FullUpdates.{Surroundings}
use Rattle.full_scope.proofs.RowLemmas.{seen_is, number_left, rows_left}
use Rattle.full_scope.proofs.laws.full_rows_have_their_scope.Goals as goal

pub returns-clause-number : goal.returns-clause-number
returns-clause-number c = λ g p s v links numbers is around. number_left g is p s v ∙ ap p.number (sym (seen_is g s v links numbers around))

pub returns-clause-numbers : goal.returns-clause-numbers
returns-clause-numbers c = λ g p s v links old new is undirected around written. rows_left g p s v links old new is undirected around written

pub returns-clause-wakes : goal.returns-clause-wakes
returns-clause-wakes c = λ g p s v links numbers is around u. ap (λ (seen : Surroundings). is_woken (p.woken seen) (halves_of g v) u) (sym (seen_is g s v links numbers around))
