use Rattle.std.proofs.Common.{◌≡◌, ◌++◌, map, take}
use Rattle.local_graph.proofs.order.list_known.Given as goal

abbrev pub invariant-loop-line : goal.invariant-loop-line
invariant-loop-line l = l.known.items ≡ map (λ v. v.vertex) (take l.line-index l.own)

abbrev pub invariant-loop-line-2 : goal.invariant-loop-line-2
invariant-loop-line-2 l = l.known.items ≡ map (λ v. v.vertex) l.own ++ map (λ g. g.vertex) (take l.line-index l.ghosts)
