-- What the machines leave, once all that was given has come, is a run so far.
use Rattle.std.proofs.Common.{◌≡◌, ℕ, ◌<◌, ◌==◌, ◌||◌, Bool, true, false, List, length, refl, sym, ◌∙◌, ap, subst, subst₂, eq-eqb}
use Rattle.std.specs.List.{AllByRecursion}
use Rattle.std.specs.Prelude.{◌↔◌}
use Rattle.gl_base.specs.declared.entries.Entry.{Entry}
use Rattle.graph_core.specs.DataGraph.{DataGraph, size}
use Rattle.seq_run.specs.Runs.{AreNumbers}
use Rattle.task_sets.specs.vertex_queue.Flags.{is_flagged}
use Rattle.cluster_laws.specs.cluster_core.Copies.{from_owner, to_owner}
use Rattle.cluster_laws.specs.cluster_core.Settings.{IsSetting, Setting}
use Rattle.cluster_laws.specs.merged_logs.Merges.{IsMerge}
use Rattle.full_scope.specs.FullOrders.{IsFullyValid, full_replay, full_tasks_after}
use Rattle.full_scope.specs.FullUpdates.{FullUpdate}
use Rattle.full_laws.specs.FullReplays.{IsFullCoherent, all_logs}
use Rattle.full_laws.specs.FullRuns.{IsAllGiven}
use Rattle.full_laws.specs.FullWorlds.{FullWorld}
use Rattle.full_laws.specs.Items.{AnEdge, AVertex}
use Rattle.full_laws.proofs.FullCoherence.{numbers_law, tasks_law}
use Rattle.full_laws.proofs.MergedOrders.{merge_law}
use Rattle.full_cluster.specs.declared.clusters.FullCluster.{FullCluster}
use Rattle.full_cluster.specs.declared.divisions.Division.{Division}
use Rattle.full_cluster.specs.FullClusters.{IsReached}
use Rattle.full_cluster.specs.Owners.{owner_in}
use Rattle.full_cluster.proofs.ClusterLemmas.{reached_coherent}
use Rattle.full_runs.specs.FullEnds.{AreUpdatesFrom, IsByOwner}
use Rattle.full_runs.specs.Inner.Driving.{IsGivenFor}
use Rattle.full_runs.specs.Inner.SoFar.{AreSoFar}

alike : (a b : Bool) → (a ≡ true) ↔ (b ≡ true) → a ≡ b
alike true true same = refl
alike false false same = refl
alike true false same = sym (same.0 refl)
alike false true same = same.1 refl

module _ (st : Setting) (p : FullUpdate) (w : FullWorld) (setting : IsSetting st) (reached : IsReached st p w) (given : IsAllGiven w) (merged : List Entry) (merge : IsMerge (all_logs st w) merged) where
  kept : IsFullCoherent st p w
  kept = reached_coherent st p w setting reached

  merged_is : (merged ≡ kept.order) × IsFullyValid st.graph p merged
  merged_is = merge_law st setting p w kept merged merge

  pub drawn : length merged ≡ w.next
  drawn = ap length merged_is.0 ∙ sym kept.replay.drawn

  vertices : (values : List ℕ) → AreNumbers (size st.graph) (λ v. (w.part (st.owner v)).number (AVertex v)) values → AreNumbers (size st.graph) (full_replay st.graph p merged).vertex values
  vertices values are =
      record {
        count = are.count;
        each = λ v low. are.each v low ∙ numbers_law st p w kept given (AVertex v) (st.owner v) low (eq-eqb (st.owner v) (st.owner v) refl)
            ∙ ap (λ (order : List Entry). (full_replay st.graph p order).vertex v) (sym merged_is.0);
      }

  has_edge : (e : ℕ) → (from_owner st e == from_owner st e || to_owner st e == from_owner st e) ≡ true
  has_edge e = ap (λ (b : Bool). b || (to_owner st e == from_owner st e)) (eq-eqb (from_owner st e) (from_owner st e) refl)

  marks : (edges : List ℕ) → AreNumbers (length st.graph.edges) (λ e. (w.part (from_owner st e)).number (AnEdge e)) edges → AreNumbers (length st.graph.edges) (full_replay st.graph p merged).edge edges
  marks edges are =
      record {
        count = are.count;
        each = λ e low. are.each e low ∙ numbers_law st p w kept given (AnEdge e) (from_owner st e) low (has_edge e)
            ∙ ap (λ (order : List Entry). (full_replay st.graph p order).edge e) (sym merged_is.0);
      }

  flags : (tasks : List Bool) → ((u : ℕ) → u < size st.graph → is_flagged tasks u ≡ (w.part (st.owner u)).task u) → (u : ℕ) → u < size st.graph → is_flagged tasks u ≡ full_tasks_after st.graph p merged u
  flags tasks are u low =
      are u low ∙ sym (alike (full_tasks_after st.graph p kept.order u) ((w.part (st.owner u)).task u) (tasks_law st p w kept given u low))
      ∙ ap (λ (order : List Entry). full_tasks_after st.graph p order u) (sym merged_is.0)

  pub handed_over : (values edges : List ℕ) (tasks : List Bool) → AreNumbers (size st.graph) (λ v. (w.part (st.owner v)).number (AVertex v)) values →
      AreNumbers (length st.graph.edges) (λ e. (w.part (from_owner st e)).number (AnEdge e)) edges → length tasks ≡ size st.graph →
      ((u : ℕ) → u < size st.graph → is_flagged tasks u ≡ (w.part (st.owner u)).task u) → AreSoFar st.graph p st.owner merged values edges tasks
  handed_over values edges tasks vertices_are edges_are count tasks_are =
      record {
        graph = setting.graph;
        play = record {
          valid = merged_is.1;
          tickets = subst (λ (order : List Entry). AreUpdatesFrom 0 order) (sym merged_is.0) kept.replay.tickets;
          owners = subst (λ (order : List Entry). AllByRecursion (IsByOwner st.owner) order) (sym merged_is.0) kept.replay.owners;
          values_are = vertices values vertices_are;
          edges_are = marks edges edges_are;
        };
        count = count;
        tasks_are = flags tasks tasks_are;
      }

-- the same of the division
module _ (division : Division) (machines : ℕ) (p : FullUpdate) (c : FullCluster) (has : IsGivenFor division machines p c) (merged : List Entry) (merge : IsMerge (all_logs has.setting has.world) merged) where
  pub drawn_here : length merged ≡ c.next
  drawn_here = drawn has.setting p has.world has.divided.setting has.is.reached has.given merged merge ∙ has.is.drawn

  pub so_far_here : (values edges : List ℕ) (tasks : List Bool) → AreNumbers (size has.setting.graph) (λ v. (has.world.part (has.setting.owner v)).number (AVertex v)) values →
      AreNumbers (length has.setting.graph.edges) (λ e. (has.world.part (from_owner has.setting e)).number (AnEdge e)) edges → length tasks ≡ size division.graph.now →
      ((u : ℕ) → u < size has.setting.graph → is_flagged tasks u ≡ (has.world.part (has.setting.owner u)).task u) → AreSoFar division.graph.now p (owner_in division.owner.now) merged values edges tasks
  so_far_here values edges tasks vertices_are edges_are count tasks_are =
      subst₂ (λ (g : DataGraph) (owner : ℕ → ℕ). AreSoFar g p owner merged values edges tasks) has.divided.graph has.divided.owners
      (handed_over has.setting p has.world has.divided.setting has.is.reached has.given merged merge values edges tasks vertices_are edges_are
      (subst (λ (g : DataGraph). length tasks ≡ size g) (sym has.divided.graph) count) tasks_are)
