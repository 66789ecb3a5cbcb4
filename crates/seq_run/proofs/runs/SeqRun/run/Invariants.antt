use Rattle.seq_run.specs.Runs.{WentOn}
use Rattle.seq_run.proofs.runs.SeqRun.run.Given as goal

abbrev pub invariant-loop-made : goal.invariant-loop-made
invariant-loop-made g l = WentOn l.initial.self l.self l._made
