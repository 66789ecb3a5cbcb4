-- Good stores, and what is recovered from them.
use Rattle.std.proofs.Common.{◌≡◌, inl, inr, ℕ, ◌<◌, List, [], ◌∷◌, ◌++◌, length, refl, sym, ap, ◌∙◌, subst, arith}
use Rattle.gl_base.specs.declared.entries.Entry.{Entry}
use Rattle.gl_base.specs.declared.snapshots.Base.{Base}
use Rattle.gl_base.specs.declared.snapshots.Record.{Record}
use Rattle.graph_core.specs.DataGraph.{DataGraph, size}
use Rattle.update_api.specs.Updates.{Update}
use Rattle.seq_run.specs.Orders.{replay}
use Rattle.seq_run.specs.Runs.{AreNumbers}
use Rattle.cluster_laws.specs.cluster_runs.Attempts.{Shared}
use Rattle.call_laws.specs.attempts.EngineCalls.{IsOrderInTurn}
use Rattle.call_laws.specs.attempts.Stores.{AreGoodOrders, last_order}
use Rattle.call_laws.proofs.attempts.Storing.{last_in_turn}
use Rattle.store.specs.declared.store_format.header.Header.{Header}
use Rattle.store.specs.store_format.Stores.{stored_in, IsBeforeOrAfter}
use Rattle.store.specs.store_format.StoredOrders.{body_entries, with_entries, order_behind, stored_order}
use Rattle.store.specs.store_format.Encoding.{body_bytes, RecordFits}
use Rattle.store.specs.store_format.ReadBack.{NumbersFit}
use Rattle.store.proofs.store_format.StoreLemmas.{stored_are}
use Rattle.store.proofs.store_format.ReadBackLemmas.{entries_of_record, vertices_of_record, edges_of_record}
use Rattle.store.specs.snap_journal.Last.{last_body, last_body_or, IsLastSnapshot}
use Rattle.recovery.specs.GoodStores.{orders_behind, stored_orders, IsReplayed, AreReplayed, IsGoodStore, GoesBehind, GoesWith, IsGoodBase}
use Rattle.recovery.specs.Recovered.{IsStartBase, IsRecovered, IsHeaderOf}

-- the order of a snapshot is the last of those up to it
pub last_behind : (order : List Entry) (bodies : List (List ℕ)) → last_order order (orders_behind order bodies) ≡ order_behind order bodies
last_behind order [] = refl
last_behind order (body ∷ bodies) = last_behind (with_entries order (body_entries body)) bodies

-- the numbers of the last snapshot are the replay of its order
last_replayed : (shared : Shared) (header : Header) (order : List Entry) (first body : List ℕ) (bodies : List (List ℕ)) → AreReplayed shared header order (body ∷ bodies)
    → IsReplayed shared header (order_behind order (body ∷ bodies)) (last_body_or first (body ∷ bodies))
last_replayed shared header order first body [] are = are.0
last_replayed shared header order first body (later ∷ bodies) are = last_replayed shared header (with_entries order (body_entries body)) body later bodies are.1

some_replayed : (shared : Shared) (header : Header) (bodies : List (List ℕ)) → 0 < length bodies → AreReplayed shared header [] bodies → IsReplayed shared header (stored_order bodies) (last_body bodies)
some_replayed shared header [] some are = absurd (omega arith)
some_replayed shared header (body ∷ bodies) some are = last_replayed shared header [] [] body bodies are

-- a store without snapshots is good
pub none_good : (shared : Shared) (header : Header) → IsGoodStore shared header []
none_good shared header = record { orders = record { in_turn = tt; earlier_first = tt }; numbers = tt }

-- one more record
pub orders_more : (order : List Entry) (bodies : List (List ℕ)) (body : List ℕ) → orders_behind order (bodies ++ body ∷ []) ≡ orders_behind order bodies ++ with_entries (order_behind order bodies) (body_entries body) ∷ []
orders_more order [] body = refl
orders_more order (first ∷ bodies) body = ap (λ (l : List (List Entry)). with_entries order (body_entries first) ∷ l) (orders_more (with_entries order (body_entries first)) bodies body)

replayed_more : (shared : Shared) (header : Header) (order : List Entry) (bodies : List (List ℕ)) (body : List ℕ) → AreReplayed shared header order bodies → IsReplayed shared header (with_entries (order_behind order bodies) (body_entries body)) body → AreReplayed shared header order (bodies ++ body ∷ [])
replayed_more shared header order [] body are one = (one, tt)
replayed_more shared header order (first ∷ bodies) body are one = (are.0, replayed_more shared header (with_entries order (body_entries first)) bodies body are.1 one)

pub good_more : (shared : Shared) (header : Header) (bodies : List (List ℕ)) (body : List ℕ) → IsGoodStore shared header bodies → GoesBehind shared header bodies body → IsGoodStore shared header (bodies ++ body ∷ [])
good_more shared header bodies body good behind = record {
  orders = subst (AreGoodOrders shared) (sym (orders_more [] bodies body)) behind.orders;
  numbers = replayed_more shared header [] bodies body good.numbers behind.numbers;
}

pub images_good : (shared : Shared) (header : Header) (bodies : List (List ℕ)) (body image : List ℕ) → IsGoodStore shared header bodies → GoesBehind shared header bodies body → IsBeforeOrAfter header bodies body image → IsGoodStore shared header (stored_in header image)
images_good shared header bodies body image good behind (inl stands) = subst (IsGoodStore shared header) (sym (stored_are header image bodies stands)) good
images_good shared header bodies body image good behind (inr stands) = subst (IsGoodStore shared header) (sym (stored_are header image (bodies ++ body ∷ []) stands)) (good_more shared header bodies body good behind)

-- a record that goes with a store, by its body
pub behind_record : (shared : Shared) (header : Header) (bodies : List (List ℕ)) (next : Record) → RecordFits next → NumbersFit next → length next.sections.items ≡ header.machines → GoesWith shared bodies next → GoesBehind shared header bodies (body_bytes next)
behind_record shared header bodies next small fits machines goes =
    let own : next.entries.items ≡ body_entries (body_bytes next) = sym (entries_of_record next small fits) in
    record {
      orders = subst (λ (entries : List Entry). AreGoodOrders shared (stored_orders bodies ++ with_entries (stored_order bodies) entries ∷ [])) own goes.orders;
      numbers = subst (λ (entries : List Entry). IsReplayed shared header (with_entries (stored_order bodies) entries) (body_bytes next)) own (record {
        vertex = λ v inside. vertices_of_record header next v small fits machines ∙ goes.vertex v inside;
        edge = λ e inside. edges_of_record header next e small fits machines ∙ goes.edge e inside;
      });
    }

pub records_good : (shared : Shared) (header : Header) (bodies : List (List ℕ)) (next : Record) (image : List ℕ) → IsGoodStore shared header bodies → RecordFits next → NumbersFit next → length next.sections.items ≡ header.machines → GoesWith shared bodies next
    → IsBeforeOrAfter header bodies (body_bytes next) image → IsGoodStore shared header (stored_in header image)
records_good shared header bodies next image good small fits machines goes either =
    images_good shared header bodies (body_bytes next) image good (behind_record shared header bodies next small fits machines goes) either

-- the start is a good base
start_good : (shared : Shared) (base : Base) → AreGoodOrders shared [] → IsStartBase shared.graph shared.program base → IsGoodBase shared base
start_good shared base none is =
    let from : [] ≡ base.order.items = sym is.order in
    record {
      in_turn = subst (IsOrderInTurn shared) from (last_in_turn shared [] none);
      vertices = subst (λ (order : List Entry). AreNumbers (size shared.graph) (replay shared.graph shared.program order).vertex base.values.items) from is.vertices;
      edges = subst (λ (order : List Entry). AreNumbers (length shared.graph.edges) (replay shared.graph shared.program order).edge base.edges.items) from is.edges;
    }

-- and so is the last snapshot of a good store
last_good : (shared : Shared) (header : Header) (bodies : List (List ℕ)) (base : Base) → IsHeaderOf shared.graph header → IsGoodStore shared header bodies → 0 < length bodies → IsLastSnapshot header bodies base → IsGoodBase shared base
last_good shared header bodies base of good some is =
    let from : stored_order bodies ≡ base.order.items = sym is.order in
    let replayed = some_replayed shared header bodies some good.numbers in
    let numbers = is.numbers in
    let n = of.n in
    let m = of.m in
    record {
      in_turn = subst (IsOrderInTurn shared) (last_behind [] bodies ∙ from) (last_in_turn shared (stored_orders bodies) good.orders);
      vertices = subst (λ (order : List Entry). AreNumbers (size shared.graph) (replay shared.graph shared.program order).vertex base.values.items) from
          (record { count = numbers.n_is ∙ n; each = λ v inside. numbers.vertex v (omega arith) ∙ replayed.vertex v inside });
      edges = subst (λ (order : List Entry). AreNumbers (length shared.graph.edges) (replay shared.graph shared.program order).edge base.edges.items) from
          (record { count = numbers.m_is ∙ m; each = λ e inside. numbers.edge e (omega arith) ∙ replayed.edge e inside });
    }

empty_store : (bodies : List (List ℕ)) → length bodies ≡ 0 → bodies ≡ []
empty_store [] none = refl
empty_store (body ∷ bodies) none = absurd (omega arith)

pub recovered_good : (shared : Shared) (header : Header) (bodies : List (List ℕ)) (base : Base) → IsHeaderOf shared.graph header → IsGoodStore shared header bodies → IsRecovered shared.graph shared.program header bodies base → IsGoodBase shared base
recovered_good shared header bodies base of good (inl start) =
    start_good shared base (subst (λ (l : List (List ℕ)). AreGoodOrders shared (stored_orders l)) (empty_store bodies start.0) good.orders) start.1
recovered_good shared header bodies base of good (inr last) = last_good shared header bodies base of good last.0 last.1

-- the same of a graph and a program by other names
pub base_good : (shared : Shared) (graph : DataGraph) (program : Update) (header : Header) (bodies : List (List ℕ)) (base : Base) → shared.graph ≡ graph → shared.program ≡ program
    → IsHeaderOf graph header → IsGoodStore shared header bodies → IsRecovered graph program header bodies base → IsGoodBase shared base
base_good shared graph program header bodies base graph_is program_is of good is =
    recovered_good shared header bodies base (subst (λ (g : DataGraph). IsHeaderOf g header) (sym graph_is) of) good
    (subst (λ (p : Update). IsRecovered shared.graph p header bodies base) (sym program_is)
    (subst (λ (g : DataGraph). IsRecovered g program header bodies base) (sym graph_is) is))
