-- What a good store is, and a good base: their numbers are what the replay of their orders gives.
use Rattle.std.specs.Prelude.{◌≡◌, ℕ, ◌<◌, List, [], ◌∷◌, ◌++◌, length, ⊤}
use Rattle.gl_base.specs.declared.entries.Entry.{Entry}
use Rattle.gl_base.specs.declared.snapshots.Base.{Base}
use Rattle.gl_base.specs.declared.snapshots.Record.{Record}
use Rattle.store.specs.declared.store_format.header.Header.{Header}
use Rattle.recovery.specs.Orders.{size, replay, AreNumbers, Shared, IsOrderInTurn, AreGoodOrders}
use Rattle.recovery.specs.Journals.{body_entries, with_entries, stored_order, vertex_number, edge_number, saved_or, record_vertices, record_edges}

-- the orders of the snapshots of these records, one after another, where this is the order before them
abbrev pub orders_behind : List Entry → List (List ℕ) → List (List Entry)
orders_behind order [] = []
orders_behind order (body ∷ bodies) =
    with_entries order (body_entries body) ∷ orders_behind (with_entries order (body_entries body)) bodies

-- the orders of the snapshots of a store
abbrev pub stored_orders : List (List ℕ) → List (List Entry)
stored_orders bodies = orders_behind [] bodies

-- the numbers of this body are the replay of this order
pub record IsReplayed (shared : Shared) (header : Header) (order : List Entry) (body : List ℕ) : Type 0 where
  pub vertex : (v : ℕ) → v < size shared.graph → vertex_number header body v ≡ (replay shared.graph shared.program order).vertex v
  pub edge : (e : ℕ) → e < length shared.graph.edges → edge_number header body e ≡ (replay shared.graph shared.program order).edge e

-- the numbers of each snapshot are the replay of its order, where this is the order before them
abbrev pub AreReplayed : Shared → Header → List Entry → List (List ℕ) → Type 0
AreReplayed shared header order [] = ⊤
AreReplayed shared header order (body ∷ bodies) =
    IsReplayed shared header (with_entries order (body_entries body)) body
    × AreReplayed shared header (with_entries order (body_entries body)) bodies

-- A good store: its orders are those of one, and the numbers of each snapshot are the replay of its order.
pub record IsGoodStore (shared : Shared) (header : Header) (bodies : List (List ℕ)) : Type 0 where
  pub orders : AreGoodOrders shared (stored_orders bodies)
  pub numbers : AreReplayed shared header [] bodies

-- The record behind these: with its order the orders are those of a good store, and its numbers are the replay of its order.
pub record GoesBehind (shared : Shared) (header : Header) (bodies : List (List ℕ)) (body : List ℕ) : Type 0 where
  pub orders : AreGoodOrders shared (stored_orders bodies ++ with_entries (stored_order bodies) (body_entries body) ∷ [])
  pub numbers : IsReplayed shared header (with_entries (stored_order bodies) (body_entries body)) body

-- The record goes with the store of these: with its entries the orders are those of a good store, and it holds for each vertex and
-- each edge the number of the replay.
pub record GoesWith (shared : Shared) (bodies : List (List ℕ)) (next : Record) : Type 0 where
  pub orders : AreGoodOrders shared (stored_orders bodies ++ with_entries (stored_order bodies) next.entries.items ∷ [])
  pub vertex : (v : ℕ) → v < size shared.graph → saved_or 0 (record_vertices next) v ≡ (replay shared.graph shared.program (with_entries (stored_order bodies) next.entries.items)).vertex v
  pub edge : (e : ℕ) → e < length shared.graph.edges → saved_or 0 (record_edges next) e ≡ (replay shared.graph shared.program (with_entries (stored_order bodies) next.entries.items)).edge e

-- A good base: its order is in turn, and its numbers are the replay of its order.
pub record IsGoodBase (shared : Shared) (base : Base) : Type 0 where
  pub in_turn : IsOrderInTurn shared base.order.items
  pub vertices : AreNumbers (size shared.graph) (replay shared.graph shared.program base.order.items).vertex base.values.items
  pub edges : AreNumbers (length shared.graph.edges) (replay shared.graph shared.program base.order.items).edge base.edges.items
