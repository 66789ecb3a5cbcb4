use Rattle.local_graph.specs.Played.{numbers_of}
use Rattle.local_graph.proofs.ScopeLemmas.{scope_is}
use Rattle.local_graph.proofs.scopes.fill_scope.Goals as goal

pub returns-in_ok-list_near : goal.returns-in_ok-list_near
returns-in_ok-list_near c =
    let s = c.args.standing.now in
    scope_is c.args.owned.now s.many s.places.now c.args.v.0 c.args.sides.now (numbers_of c.list_near.new.list.items) (numbers_of c.make_distinct.new.list.items)
    (c.requires.plain c.if-is_plain.true) c.requires.few c.requires.sides c.in_ok-list_near.ensures c.make_distinct.ensures
