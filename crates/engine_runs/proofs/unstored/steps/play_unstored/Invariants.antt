use Rattle.engine_runs.specs.unstored.Inner.Going.{GoesOnUnstored}
use Rattle.engine_runs.proofs.unstored.steps.play_unstored.Given as goal

abbrev pub invariant-loop : goal.invariant-loop
invariant-loop g l = GoesOnUnstored g.P.Program.meaning l.graph (g.P.Program.meaning l.program) l.fn.call l.call
