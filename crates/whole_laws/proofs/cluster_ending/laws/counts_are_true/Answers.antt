-- A machine tells its counts of the moment, and no number falls.
use Rattle.whole_laws.proofs.cluster_ending.Fronts.{on_way_low, prompt_is, told_wave_low}
use Rattle.whole_laws.proofs.cluster_ending.laws.counts_are_true.Goals as goal

pub returns-clause-balanced : goal.returns-clause-balanced
returns-clause-balanced c = λ st cluster watch was. was.balanced

pub returns-clause-told : goal.returns-clause-told
returns-clause-told c = λ st a m. prompt_is st a m

pub returns-clause-on_way : goal.returns-clause-on_way
returns-clause-on_way c = λ st cluster watch a k counts rest was low is. on_way_low st cluster watch was a low k counts rest is

pub returns-clause-come : goal.returns-clause-come
returns-clause-come c = λ st cluster watch a counts was low is. told_wave_low st cluster watch was a low counts is
