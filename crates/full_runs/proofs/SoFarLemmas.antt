-- A run of one update after another.
use Rattle.std.proofs.Common.{◌≡◌, ℕ, suc, ◌+◌, ◌<◌, ◌==◌, ◌&&◌, ◌||◌, not, Bool, true, nat_lt, List, [], ◌∷◌, ◌++◌, length, sym, ◌∙◌, ap, subst, arith}
use Rattle.gl_base.specs.declared.entries.Entry.{Entry}
use Rattle.gl_base.specs.declared.entries.Entry.TheVariants.{Go, Restart}
use Rattle.gl_base.specs.declared.numbers.MachineNo.{MachineNo}
use Rattle.gl_base.specs.declared.numbers.Vertex.{Vertex}
use Rattle.graph_core.specs.DataGraph.{DataGraph, IsDataGraph, size}
use Rattle.graph_core.specs.Halves.{DataHalf, halves_of}
use Rattle.graph_core.proofs.HalvesLaws.{IsHalfAt, each-append, each-weaker, half_other, halves_are}
use Rattle.seq_run.specs.Orders.{all_tasks}
use Rattle.seq_run.specs.Runs.{AreNumbers}
use Rattle.seq_run.specs.States.{GraphState, near_of}
use Rattle.task_sets.specs.vertex_queue.Flags.{is_flagged}
use Rattle.full_scope.specs.FullOrders.{full_replay, full_tasks_after, full_tasks_entry}
use Rattle.full_scope.specs.FullStates.{AgreeAround, after_full, full_start, full_wakes}
use Rattle.full_scope.specs.FullUpdates.{FullUpdate}
use Rattle.full_scope.proofs.FullGoingOn.{full_replay_from-append, full_tasks_from-append, fully_valid-append}
use Rattle.full_scope.proofs.WithEach.{after-edge_same, after-vertex_same, full_wakes-same}
use Rattle.full_cluster.specs.Written.{state_in}
use Rattle.full_runs.specs.FullEnds.{AreUpdatesFrom, IsByOwner, IsFullPlay}
use Rattle.full_runs.specs.Inner.SoFar.{AreSoFar}

-- one update more, with the next ticket
pub updates_push : (next : ℕ) (order : List Entry) (machine : MachineNo) (v : Vertex) (ticket : ℕ) → ticket ≡ next + length order → AreUpdatesFrom next order → AreUpdatesFrom next (order ++ Go machine v ticket ∷ [])
updates_push next [] machine v ticket is made = (omega (arith, is), tt)
updates_push next (Go m u t ∷ order) machine v ticket is made = (made.0, updates_push (suc next) order machine v ticket (omega (arith, is)) made.1)
updates_push next (Restart t ∷ order) machine v ticket is made = absurd made

-- before the first update
pub at_first : (g : DataGraph) (p : FullUpdate) (owner : ℕ → ℕ) (values edges : List ℕ) (tasks : List Bool) → IsDataGraph g →
    AreNumbers (size g) (full_start g p).vertex values → AreNumbers (length g.edges) (full_start g p).edge edges →
    length tasks ≡ size g → ((u : ℕ) → is_flagged tasks u ≡ nat_lt u (size g)) → AreSoFar g p owner [] values edges tasks
at_first g p owner values edges tasks is vertices marks count all =
    record {
      graph = is;
      play = record { valid = tt; tickets = tt; owners = tt; values_are = vertices; edges_are = marks };
      count = count;
      tasks_are = λ u inside. all u;
    }

module _ (g : DataGraph) (p : FullUpdate) (owner : ℕ → ℕ) (order : List Entry) (values edges : List ℕ) (tasks : List Bool) (so_far : AreSoFar g p owner order values edges tasks)
    (v : Vertex) (low : v.0 < size g) (task : is_flagged tasks v.0 ≡ true) where
  abbrev s : GraphState
  s = state_in values edges

  abbrev t : GraphState
  t = full_replay g p order

  near_same : (h : DataHalf) → IsHalfAt g so_far.graph v.0 h → near_of s h ≡ near_of t h
  near_same h half =
      let number : s.vertex h.other ≡ t.vertex h.other = so_far.play.values_are.each h.other (half_other g so_far.graph v.0 h half).0 in
      let here = half.number in
      let there = half.within in
      let mark : s.edge h.edge ≡ t.edge h.edge = so_far.play.edges_are.each h.edge (omega (arith, here, there)) in
      λ i. record { number = number i; mark = mark i; weight = h.weight; out = h.out; into = h.into }

  agree : AgreeAround g s t v.0
  agree =
      record {
        own = so_far.play.values_are.each v.0 low;
        near = each-weaker (IsHalfAt g so_far.graph v.0) (λ h. near_of s h ≡ near_of t h) near_same (halves_of g v.0) (halves_are g so_far.graph v.0);
      }

  module _ (machine : MachineNo) (owned : machine.0 ≡ owner v.0) (new_values new_edges : List ℕ)
      (vertices : AreNumbers (size g) (after_full g p s v.0).vertex new_values) (marks : AreNumbers (length g.edges) (after_full g p s v.0).edge new_edges) where
    abbrev entry : Entry
    entry = Go machine v (length order)

    state : full_replay g p (order ++ entry ∷ []) ≡ after_full g p t v.0
    state = full_replay_from-append g p (full_start g p) order (entry ∷ [])

    play_more : IsFullPlay g p owner (order ++ entry ∷ []) new_values new_edges
    play_more =
        record {
          valid = fully_valid-append g p (full_start g p) (all_tasks g) order (entry ∷ []) so_far.play.valid (sym (so_far.tasks_are v.0 low) ∙ task, tt);
          tickets = updates_push 0 order machine v (length order) (omega arith) so_far.play.tickets;
          owners = each-append (IsByOwner owner) order (entry ∷ []) so_far.play.owners (owned, tt);
          values_are = subst (λ (x : GraphState). AreNumbers (size g) x.vertex new_values) (sym state)
              (record { count = vertices.count; each = λ k inside. vertices.each k inside ∙ after-vertex_same g p s t v.0 agree k (so_far.play.values_are.each k inside) });
          edges_are = subst (λ (x : GraphState). AreNumbers (length g.edges) x.edge new_edges) (sym state)
              (record { count = marks.count; each = λ k inside. marks.each k inside ∙ after-edge_same g p s t v.0 agree k (so_far.play.edges_are.each k inside) });
        }

    pub one_more : (new_order : List Entry) → new_order ≡ order ++ Go machine v (length order) ∷ [] → (new_tasks : List Bool) → length new_tasks ≡ length tasks →
        ((u : ℕ) → is_flagged new_tasks u ≡ (full_wakes g p s v.0 u || (is_flagged tasks u && not (u == v.0)))) → AreSoFar g p owner new_order new_values new_edges new_tasks
    one_more new_order grown new_tasks long flags =
        let left : full_tasks_after g p (order ++ entry ∷ []) ≡ full_tasks_entry g p t (full_tasks_after g p order) entry = full_tasks_from-append g p (full_start g p) (all_tasks g) order (entry ∷ []) in
        subst (λ (o : List Entry). AreSoFar g p owner o new_values new_edges new_tasks) (sym grown)
        (record {
          graph = so_far.graph;
          play = play_more;
          count = long ∙ so_far.count;
          tasks_are = λ u inside.
              flags u ∙ ap (λ b. b || (is_flagged tasks u && not (u == v.0))) (full_wakes-same g p s t v.0 agree u)
              ∙ ap (λ b. full_wakes g p t v.0 u || (b && not (u == v.0))) (so_far.tasks_are u inside)
              ∙ ap (λ (f : ℕ → Bool). f u) (sym left);
        })
