-- What is good by one owner of the vertices is good by another that agrees with it on the graph.
use Rattle.std.proofs.Common.{◌≡◌, ℕ, ◌<◌, ◌==◌, ◌&&◌, not, Bool, true, List, [], ◌∷◌, length, sym, ap₂, ◌∙◌, subst, subst₂, ⊎_elim, ltb-true}
use Rattle.std.specs.List.{AllByRecursion}
use Rattle.std.proofs.lemmas.Bool.{and_parts, or_cases}
use Rattle.gl_base.specs.declared.entries.Entry.{Entry}
use Rattle.gl_base.specs.declared.entries.Entry.TheVariants.{Go, Restart}
use Rattle.call_laws.specs.attempts.EngineCalls.{IsOrderInTurn}
use Rattle.cluster_laws.specs.cluster_cuts.Goings.{IsByOwner}
use Rattle.cluster_laws.specs.cluster_runs.Attempts.{Shared}
use Rattle.graph_core.specs.DataGraph.{DataGraph, IsDataGraph, size}
use Rattle.recovery.specs.GoodStores.{AreReplayed, IsGoodStore, IsReplayed, stored_orders}
use Rattle.recovery.specs.Journals.{body_entries, with_entries}
use Rattle.seq_run.specs.Orders.{IsValidFrom, IsValidOrder, after_entry, all_tasks, replay, tasks_after_entry}
use Rattle.seq_run.specs.States.{GraphState, start_state, wakes}
use Rattle.seq_run.proofs.Waking.{wakes-within}
use Rattle.store.specs.declared.store_format.header.Header.{Header}
use Rattle.update_api.specs.Updates.{Update}

module _ (g : DataGraph) (p : Update) (is : IsDataGraph g) (owner other : ℕ → ℕ) (agree : (v : ℕ) → v < size g → owner v ≡ other v) where
  -- each update is of a task, and tasks are vertices
  owned_from : (s : GraphState) (tasks : ℕ → Bool) (order : List Entry) → ((u : ℕ) → tasks u ≡ true → u < size g) → IsValidFrom g p s tasks order → AllByRecursion (IsByOwner owner) order → AllByRecursion (IsByOwner other) order
  owned_from s tasks [] within valid owned = tt
  owned_from s tasks (Restart ticket ∷ order) within valid owned = (tt, owned_from s (all_tasks g) order (λ u task. ltb-true u (size g) task) valid.1 owned.1)
  owned_from s tasks (Go machine vertex ticket ∷ order) within valid owned = (
    owned.0 ∙ agree vertex.0 (within vertex.0 valid.0),
    owned_from (after_entry g p s (Go machine vertex ticket)) (tasks_after_entry g p s tasks (Go machine vertex ticket)) order
        (λ u task. ⊎_elim
        (λ (woken : wakes g p s vertex.0 u ≡ true). wakes-within g is p s vertex.0 u woken)
        (λ (was : (tasks u && not (u == vertex.0)) ≡ true). within u (and_parts (tasks u) (not (u == vertex.0)) was).0)
        (or_cases (wakes g p s vertex.0 u) (tasks u && not (u == vertex.0)) task))
        valid.1 owned.1,
  )

  owned_too : (order : List Entry) → IsValidOrder g p order → AllByRecursion (IsByOwner owner) order → AllByRecursion (IsByOwner other) order
  owned_too order valid owned = owned_from (start_state g p) (all_tasks g) order (λ u task. ltb-true u (size g) task) valid owned

module _ (shared same : Shared) (is : IsDataGraph shared.graph) (graph : shared.graph ≡ same.graph) (program : shared.program ≡ same.program)
    (agree : (v : ℕ) → v < size shared.graph → shared.owner v ≡ same.owner v) where
  order_too : (order : List Entry) → IsOrderInTurn shared order → IsOrderInTurn same order
  order_too order turn =
      record {
        valid = subst₂ (λ (g : DataGraph) (p : Update). IsValidOrder g p order) graph program turn.valid;
        high = turn.high;
        by_ticket = turn.by_ticket;
        owners = owned_too shared.graph shared.program is shared.owner same.owner agree order turn.valid turn.owners;
      }

  orders_too : (orders : List (List Entry)) → AllByRecursion (IsOrderInTurn shared) orders → AllByRecursion (IsOrderInTurn same) orders
  orders_too [] turns = tt
  orders_too (order ∷ orders) turns = (order_too order turns.0, orders_too orders turns.1)

  replayed_too : (header : Header) (order : List Entry) (body : List ℕ) → IsReplayed shared header order body → IsReplayed same header order body
  replayed_too header order body replayed =
      record {
        vertex = λ v low. replayed.vertex v (subst (λ (g : DataGraph). v < size g) (sym graph) low) ∙ ap₂ (λ (g : DataGraph) (p : Update). (replay g p order).vertex v) graph program;
        edge = λ e low. replayed.edge e (subst (λ (g : DataGraph). e < length g.edges) (sym graph) low) ∙ ap₂ (λ (g : DataGraph) (p : Update). (replay g p order).edge e) graph program;
      }

  all_replayed_too : (header : Header) (order : List Entry) (bodies : List (List ℕ)) → AreReplayed shared header order bodies → AreReplayed same header order bodies
  all_replayed_too header order [] replayed = tt
  all_replayed_too header order (body ∷ bodies) replayed =
      (replayed_too header (with_entries order (body_entries body)) body replayed.0, all_replayed_too header (with_entries order (body_entries body)) bodies replayed.1)

  pub store_too : (header : Header) (bodies : List (List ℕ)) → IsGoodStore shared header bodies → IsGoodStore same header bodies
  store_too header bodies good =
      record {
        orders = record { in_turn = orders_too (stored_orders bodies) good.orders.in_turn; earlier_first = good.orders.earlier_first };
        numbers = all_replayed_too header [] bodies good.numbers;
      }
