-- Each machine is somewhere with the newest wave.
use Rattle.whole_laws.proofs.cluster_ending.Coming.{may_be_counted}
use Rattle.whole_laws.proofs.cluster_ending.Fronts.{wave_front}
use Rattle.whole_laws.proofs.cluster_ending.laws.waves_may_be_received.Goals as goal

pub returns-clause-wave : goal.returns-clause-wave
returns-clause-wave c = λ st cluster watch a k behind was low first. wave_front st cluster watch was a low k behind first

pub returns-clause-counts : goal.returns-clause-counts
returns-clause-counts c = λ st cluster watch a k counts behind was low first.
    may_be_counted st cluster.coordinator.begun cluster watch.turn watch.begun_before watch.begun_newest was a low k counts behind first
