-- The failures fired by the counts.
use Rattle.std.proofs.Common.{List, ap, ℕ, ◌∙◌}
use Rattle.std.specs.Prelude.{slice_index_or}
use Rattle.engine_runs.specs.finish.Gathered.{reached_places}
use Rattle.engine_runs.proofs.finish.gathering.counts_of.Goals as goal

pub returns-clause-fired : goal.returns-clause-fired
returns-clause-fired g c = c.in_ok-fired.ensures ∙ ap (λ (xs : List ℕ). reached_places (λ m. slice_index_or xs m 0) 0 c.args.failures.now) c.deref.ensures.value
