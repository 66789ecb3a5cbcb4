-- As a cluster starts its copies are true, and its numbers are those of no order yet.
use Rattle.std.proofs.Common.{◌≡◌, ℕ, ◌<◌, ◌⊎◌, List, [], ◌∷◌, ◌++◌, length, sym, refl, ap, ◌∙◌, subst, ap₂, inl, inr, append_assoc, append-nil, lt-ltb}
use Rattle.std.specs.List.{AllByRecursion}
use Rattle.gl_base.specs.declared.entries.Entry.{Entry}
use Rattle.gl_base.specs.declared.scopes.Datum.{Datum}
use Rattle.graph_core.specs.DataGraph.{size}
use Rattle.seq_run.specs.Orders.{replay}
use Rattle.cluster_laws.specs.cluster_core.Actions.{Action, after}
use Rattle.cluster_laws.specs.cluster_core.Copies.{edge_to_come, from_owner, to_owner, AreCopies}
use Rattle.cluster_laws.specs.cluster_core.Replays.{IsReplay}
use Rattle.cluster_laws.specs.cluster_core.Runs.{IsStart, IsApartRun}
use Rattle.cluster_laws.specs.cluster_core.Settings.{Setting, IsSetting}
use Rattle.cluster_laws.specs.cluster_core.Ways.{datum_told, edge_told, edge_changed, IsToldTo}
use Rattle.cluster_laws.specs.cluster_core.Worlds.{World, way}
use Rattle.cluster_laws.proofs.cluster_core.Nearness.{owner_takes_part, scoped_itself}
use Rattle.cluster_laws.proofs.cluster_numbers.Keeping.{GoesOnBy, action_goes_on}

module _ (st : Setting) (is : IsSetting st) (w : World) (start : IsStart st w) where
  nothing : (p q : ℕ) → way w p q ≡ []
  nothing p q = ap₂ (λ xs ys. xs ++ ys) (start.links p q) (start.outboxes p q)

  edge_start : (e a b : ℕ) → e < length st.graph.edges → (a ≡ from_owner st e) ⊎ (a ≡ to_owner st e) → edge_to_come w e a b ≡ st.start.edge e
  edge_start e a b within end = ap (λ ms. edge_told e ms ((w.part a).edge e)) (nothing b a) ∙ start.edges e a within end

  owner_start : (v : ℕ) → v < size st.graph → (w.part (st.owner v)).datum v ≡ record { value = st.start.vertex v; version = 0; mark = st.base }
  owner_start v within = start.vertices v (st.owner v) within (owner_takes_part st is v v within (scoped_itself st is v))

  pub copies_start : AreCopies st w
  copies_start =
      record {
        told = λ p q. subst (AllByRecursion (IsToldTo st p q)) (sym (nothing p q)) tt;
        vertices_agree = λ v a within part apart.
            ap (λ ms. datum_told v ms ((w.part a).datum v)) (nothing (st.owner v) a) ∙ start.vertices v a within part ∙ sym (owner_start v within);
        edges_agree = λ e within.
            edge_start e (from_owner st e) (to_owner st e) within (inl refl) ∙ sym (edge_start e (to_owner st e) (from_owner st e) within (inr refl));
        one_way = λ e within. inl (ap (edge_changed e) (nothing (from_owner st e) (to_owner st e)));
      }

  pub replay_start : IsReplay st w []
  replay_start =
      record {
        valid = tt;
        logs = λ a. start.logs a;
        tickets = tt;
        numbers = λ v within. ap (λ (d : Datum). d.value) (owner_start v within);
        edges = λ e within. edge_start e (from_owner st e) (to_owner st e) within (inl refl);
        tasks = λ u within. (λ task. inl (start.tasks u within), λ task. lt-ltb u (size st.graph) within);
      }

-- ---- every list of actions

pub run_goes_on : (st : Setting) → IsSetting st → (actions : List Action) (old new : World) (order : List Entry) → AreCopies st old → IsReplay st old order → IsApartRun st old actions new → GoesOnBy st order new
run_goes_on st is [] old new order copies replay run =
    record { rest = []; copies = subst (AreCopies st) (sym run) copies; replay = subst (IsReplay st new) (sym (append-nil order)) (subst (λ w. IsReplay st w order) (sym run) replay) }
run_goes_on st is (action ∷ actions) old new order copies replay run =
    let next = action_goes_on st is old order copies replay run.0 action run.1 in
    let later = run_goes_on st is actions (after st old action) new (order ++ next.rest) next.copies next.replay run.2 in
    record { rest = next.rest ++ later.rest; copies = later.copies; replay = subst (IsReplay st new) (append_assoc order next.rest later.rest) later.replay }
