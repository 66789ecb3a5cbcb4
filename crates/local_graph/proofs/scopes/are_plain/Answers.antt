use Rattle.local_graph.proofs.ScopeLemmas.{plain_from}
use Rattle.local_graph.proofs.scopes.are_plain.Goals as goal

pub returns-then-ascend : goal.returns-then-ascend
returns-then-ascend c = λ first.
    let s = c.args.standing.now in
    plain_from c.args.owned.now s.many s.places.now (c.ascend.ensures.0 c.if-ascend.true) c.requires (c.have_first_places.ensures first)
