-- All that was sent was received when the last wave was answered, and who has answered sends nothing.
use Rattle.whole_laws.proofs.cluster_whole.Colours.{in_turn}
use Rattle.whole_laws.proofs.cluster_whole.Due.{due_closed, due_free, due_ways}
use Rattle.whole_laws.proofs.cluster_whole.laws.due_steps_are_over.Goals as goal

pub returns : goal.returns
returns c = λ st colour colours cluster whole chromatic due.
    let t = in_turn st colour colours cluster whole chromatic in
    (λ p q. due_ways st colour cluster t due p q, λ a. due_closed st colour cluster t due a, λ s. due_free st colour cluster t due s)
