-- With locks each scope is in its place; with colours each machine is where the newest step and wave have it.
use Rattle.cluster_laws.proofs.cluster_places.Fronts.{front}
use Rattle.whole_laws.specs.cluster_whole.Views.{world_of}
use Rattle.whole_laws.proofs.cluster_whole.Colours.{in_places, in_turn}
use Rattle.whole_laws.proofs.cluster_whole.Hearing.{none_held, step_is_newest, was_free}
use Rattle.whole_laws.proofs.cluster_whole.Stepping.{front_between}
use Rattle.whole_laws.proofs.cluster_whole.Telling.{may_be_counted}
use Rattle.whole_laws.proofs.cluster_whole.laws.fronts_may_be_received.Goals as goal

pub returns-clause-messages : goal.returns-clause-messages
returns-clause-messages c = λ st cluster p q message behind is whole locks first.
    let placed = in_places st cluster whole locks in
    front st is (world_of cluster) placed.0 placed.1 p q (whole.consistent.copies.told p q) message behind first

pub returns-clause-step : goal.returns-clause-step
returns-clause-step c = λ st cluster colour colours a newest behind whole chromatic low first.
    let t = in_turn st colour colours cluster whole chromatic in
    (step_is_newest st colour cluster t a low behind newest first, λ s home. was_free st colour cluster t a low behind newest first s home)

pub returns-clause-wave : goal.returns-clause-wave
returns-clause-wave c = λ st cluster colour colours a k behind whole chromatic low first. none_held st colour cluster (in_turn st colour colours cluster whole chromatic) a low behind k first

pub returns-clause-counts : goal.returns-clause-counts
returns-clause-counts c = λ st cluster colour colours a k counts behind whole chromatic low first. may_be_counted st colour cluster (in_turn st colour colours cluster whole chromatic) a low k counts behind first

pub returns-clause-words : goal.returns-clause-words
returns-clause-words c = λ st cluster colour colours p q message behind whole chromatic first.
    let t = in_turn st colour colours cluster whole chromatic in
    front_between st cluster.coordinator.rounds.steps p q message behind (cluster.link p q) first ((cluster.machine p).part.out q) (t.between p q)
