-- What a run goes on from.
use Rattle.std.specs.Prelude.{◌≡◌, ◌⊎◌, ℕ, ◌+◌, ◌^◌, ◌<◌, List, [], length}
use Rattle.gl_base.specs.declared.snapshots.Base.{Base}
use Rattle.store.specs.declared.store_format.header.Header.{Header}
use Rattle.recovery.specs.Orders.{DataGraph, Update, size, start_state, AreNumbers}
use Rattle.recovery.specs.Journals.{IsLastSnapshot}

-- the start: number 0, the empty order, the numbers of the start state, and the length of a store without snapshots
pub record IsStartBase (g : DataGraph) (p : Update) (base : Base) : Type 0 where
  pub number : base.number ≡ 0
  pub order : base.order.items ≡ []
  pub vertices : AreNumbers (size g) (start_state g p).vertex base.values.items
  pub edges : AreNumbers (length g.edges) (start_state g p).edge base.edges.items
  pub length : base.length ≡ 65

-- the last of these snapshots, or the start where there is none
abbrev pub IsRecovered : DataGraph → Update → Header → List (List ℕ) → Base → Type 0
IsRecovered g p header bodies base =
    ((length bodies ≡ 0) × IsStartBase g p base) ⊎ ((0 < length bodies) × IsLastSnapshot header bodies base)

-- A base for this graph: it has a number for each vertex and each edge, and its own number fits where one more does.
pub record FitsGraph (g : DataGraph) (base : Base) : Type 0 where
  pub vertices : length base.values.items ≡ size g
  pub edges : length base.edges.items ≡ length g.edges
  pub number : base.number + 1 < 2 ^ 32

-- the header is for a graph of so many vertices and edges
pub record IsHeaderOf (g : DataGraph) (header : Header) : Type 0 where
  pub n : header.n ≡ size g
  pub m : header.m ≡ length g.edges
