-- What is asked for within a window.
use Rattle.std.proofs.Common.{ap, sym, ◌∙◌}
use Rattle.snapshot_machines.proofs.locking.AnswerLemmas.{asked_none, asked_some}
use Rattle.snapshot_machines.proofs.locking.machines.LockingMachine.ask_within.Goals as goal

pub returns-in-Some : goal.returns-in-Some
returns-in-Some g c = rw (← c.self.view_is) (asked_some (record { machine = c.self.inside.machine; counts = c.self.inside.counts; window = c.self.inside.window; reports = c.self.inside.reports }) c.args.window (sym (ap (λ x. x.window) c.self.view_is ∙ c.requires.window)) c.ask.new.self c.ask.ensures.kept c.ask.ensures.core c.ask.ensures.program c.in-Some.acknowledged c.put.new.self (sym c.in-Some.is ∙ c.ask.ensures.behind) c.put.ensures)

pub returns-in_default : goal.returns-in_default
returns-in_default g c = rw (← c.self.view_is) (asked_none (record { machine = c.self.inside.machine; counts = c.self.inside.counts; window = c.self.inside.window; reports = c.self.inside.reports }) c.args.window (sym (ap (λ x. x.window) c.self.view_is ∙ c.requires.window)) c.ask.new.self c.ask.ensures.kept c.ask.ensures.core c.ask.ensures.program (sym c.in_default.is ∙ c.ask.ensures.behind))
