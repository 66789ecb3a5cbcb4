-- An own vertex has a place among the tasks.
use Rattle.std.proofs.Common.{sym, ap, ◌∙◌}
use Rattle.partition.proofs.machine_numbers.WakeLemmas.{own_inside}
use Rattle.partition.specs.machine_numbers.Views.{flag_there}
use Rattle.snapshot_machines.proofs.marking.marking.is_pending.Goals as goal

pub is_pending_at-requires : goal.is_pending_at-requires
is_pending_at-requires c = own_inside c.args.numbers.now.local c.args.numbers.now.tasks c.args.v.0 c.in-Some.place c.requires.tasks c.requires.own (sym c.place.ensures ∙ c.in-Some.is)

pub returns : goal.returns
returns c = c.is_pending_at.ensures ∙ ap (flag_there c.args.numbers.now.tasks.pending) (sym (sym c.place.ensures ∙ c.in-Some.is))
