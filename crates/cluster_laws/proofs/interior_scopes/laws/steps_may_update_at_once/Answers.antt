use Rattle.cluster_laws.proofs.interior_scopes.Moving.{start_may, stepped_turn}
use Rattle.cluster_laws.proofs.interior_scopes.laws.steps_may_update_at_once.Goals as goal

pub returns : goal.returns
returns c = λ st w v colour colours steps start within interior quiet same goes_on left.
    start_may st w v (stepped_turn st (w.part (st.owner v)) v colour colours steps same goes_on) start within interior quiet left
