-- That a graph is one is a fact of which there is one proof at most.
use Rattle.std.proofs.Common.{◌≡◌, ◌⊎◌, ◌<◌, inl, inr, ap, arith}
use Rattle.std.proofs.Props.{props}
use Rattle.graph_core.specs.DataGraph.{DataEdge, DataGraph, IsBefore, IsDataGraph}

one_side : {A B : Type 0} → IsProp A → IsProp B → (A → B → ⊥) → IsProp (A ⊎ B)
one_side one other apart (inl a) (inl b) = ap inl (one a b)
one_side one other apart (inl a) (inr b) = absurd (apart a b)
one_side one other apart (inr a) (inl b) = absurd (apart b a)
one_side one other apart (inr a) (inr b) = ap inr (other a b)

pub before_prop : (e f : DataEdge) → IsProp (IsBefore e f)
before_prop e f =
    one_side {A = e.from < f.from} {B = (e.from ≡ f.from) × (e.to < f.to)} (hlevel props) (hlevel props) (λ less same. let at = same.0 in omega (arith, less, at))

pub graph_prop : (g : DataGraph) → IsProp (IsDataGraph g)
graph_prop g = hlevel (props, before_prop)
