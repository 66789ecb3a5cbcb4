use Rattle.std.proofs.Common.{ℕ, List, ap, ◌∙◌}
use Rattle.partition.specs.machine_numbers.Views.{written, sides_at, edge_here}
use Rattle.partition.proofs.machine_numbers.KeepLemmas.{written_same}
use Rattle.partition.proofs.machine_numbers.keeping.Numbers.put_back.Goals as goal

pub returns-clause-edge : goal.returns-clause-edge
returns-clause-edge c = λ e.
    let sides = sides_at c.args.self.now.local c.args.work.vertex.0 in
    c.put_row.ensures.numbers e ∙ ap (λ (xs : List ℕ). written sides xs (edge_here c.args.self.now) e) (c.deref.ensures.value ∙ c.requires.numbers) ∙ written_same (edge_here c.args.self.now) sides e
