-- A cluster is consistent as it starts, and a recovery makes a start.
use Rattle.std.proofs.Common.{◌≡◌, ℕ, ◌<◌, ◌≤◌, [], ◌++◌, nat_lt, ◌==◌, sym, refl, ap, ◌∙◌, subst, ap₂, inl, true≢false, le_of_eq, ne_of_lt, lt-ltb, eq-eqb}
use Rattle.std.specs.List.{AllByRecursion}
use Rattle.std.proofs.lemmas.Bool.{and_from}
use Rattle.gl_base.specs.declared.scopes.Datum.{Datum}
use Rattle.graph_core.specs.DataGraph.{size}
use Rattle.seq_run.specs.States.{GraphState}
use Rattle.cluster_laws.specs.cluster_core.Marks.{mark_of, IsMarking, MarksHold}
use Rattle.cluster_laws.specs.cluster_core.Recovering.{recovered, going_on}
use Rattle.cluster_laws.specs.cluster_core.Runs.{IsStart}
use Rattle.cluster_laws.specs.cluster_core.Settings.{Setting, IsSetting}
use Rattle.cluster_laws.specs.cluster_core.Snapshots.{IsConsistent, IsUnmarked}
use Rattle.cluster_laws.specs.cluster_core.Worlds.{World, way}
use Rattle.cluster_laws.proofs.cluster_core.Nearness.{owner_takes_part, scoped_itself}
use Rattle.cluster_laws.proofs.cluster_numbers.Starting.{copies_start, replay_start}

module _ (st : Setting) (is : IsSetting st) (w : World) (start : IsStart st w) (unmarked : IsUnmarked st w) where
  mark_start : (v : ℕ) → v < size st.graph → mark_of st w v ≡ st.base
  mark_start v within = ap (λ (d : Datum). d.mark) (start.vertices v (st.owner v) within (owner_takes_part st is v v within (scoped_itself st is v)))

  nothing_under_way : (p q : ℕ) → way w p q ≡ []
  nothing_under_way p q = ap₂ (λ xs ys. xs ++ ys) (start.links p q) (start.outboxes p q)

  pub marks_start : MarksHold st w
  marks_start =
      record {
        base = le_of_eq (sym unmarked.acknowledged);
        under = inl (unmarked.begun ∙ sym unmarked.acknowledged);
        known = λ a low. (le_of_eq (unmarked.acknowledged ∙ sym (unmarked.known a)), le_of_eq (unmarked.known a ∙ sym unmarked.begun));
        orders = λ a. subst (AllByRecursion (λ k. k ≤ w.begun)) (sym (unmarked.orders a)) tt;
        marks = λ v within. (le_of_eq (unmarked.acknowledged ∙ sym (mark_start v within)), le_of_eq (mark_start v within ∙ sym (unmarked.known (st.owner v))));
        pending = λ a u yes_pends. absurd (true≢false (sym yes_pends ∙ unmarked.pending a u));
        told = λ p q. subst (AllByRecursion (IsMarking st w)) (sym (nothing_under_way p q)) tt;
        sent_low = λ a low. (le_of_eq (unmarked.acknowledged ∙ sym (unmarked.sent a)), le_of_eq (unmarked.sent a ∙ sym unmarked.begun));
        sent = λ a low its under. absurd (ne_of_lt under (unmarked.acknowledged ∙ sym unmarked.begun));
        sections = λ a low. inl (unmarked.reports a, unmarked.collected a);
      }

  -- no update is in the order yet
  abbrev pub first_kept : IsConsistent st w
  first_kept =
      record {
        order = [];
        copies = copies_start st is w start;
        replay = replay_start st is w start;
        marks = marks_start;
        count = λ v. 0;
        cut = λ begun. absurd (ne_of_lt begun (sym unmarked.begun));
      }

-- ---- recovery

pub recovered_starts : (st : Setting) (numbers : GraphState) (k : ℕ) (w : World) → IsStart (going_on st numbers k) (recovered st numbers k w)
recovered_starts st numbers k w =
    record {
      vertices = λ v a within part. refl;
      edges = λ e a within end. refl;
      tasks = λ u within. and_from (st.owner u == st.owner u) (nat_lt u (size st.graph)) (eq-eqb (st.owner u) (st.owner u) refl) (lt-ltb u (size st.graph) within);
      logs = λ a. refl;
      flying = λ a. refl;
      flights = λ a s. refl;
      stands = λ a s. refl;
      ready = λ a s. refl;
      holders = λ a x s. refl;
      queues = λ a x. refl;
      outboxes = λ a q. refl;
      links = λ p q. refl;
    }

pub recovered_unmarked : (st : Setting) (numbers : GraphState) (k : ℕ) (w : World) → IsUnmarked (going_on st numbers k) (recovered st numbers k w)
recovered_unmarked st numbers k w =
    record {
      begun = refl;
      acknowledged = refl;
      known = λ a. refl;
      sent = λ a. refl;
      pending = λ a u. refl;
      orders = λ a. refl;
      reports = λ a. refl;
      collected = λ a. refl;
    }
