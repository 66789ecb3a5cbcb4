-- A row that is in is that of its vertex.
use Rattle.std.proofs.Common.{refl}
use Rattle.local_graph.specs.Locals.{links_at, sides_at}
use Rattle.std.specs.Prelude.{length}
use Rattle.machine_core.proofs.machine_turns.TurnLemmas.{row_in, is_in}
use Rattle.machine_core.proofs.machine_turns.laws.parts_have_each_row.Goals as goal

pub returns-clause-has : goal.returns-clause-has
returns-clause-has c st l is are v own = row_in st l v is own (links_at l v) refl (are v own)

pub returns-clause-are_in : goal.returns-clause-are_in
returns-clause-are_in c l rows v own = is_in (links_at l v) (length (sides_at l v)) (rows v own)
