-- A call opens from a good base, and with a base of the law.
use Rattle.std.proofs.Common.{◌≡◌, ◌⊎◌, ℕ, ◌<◌, ◌++◌, ◌∷◌, Bool, true, false, if◌then◌else◌, List, [], length, refl, sym, ap, ◌∙◌, subst, ⊎_elim}
use Rattle.std.proofs.lemmas.Bool.{lt-ltb}
use Rattle.gl_base.specs.declared.entries.Entry.{Entry}
use Rattle.gl_base.specs.declared.entries.Entry.TheVariants.{Restart}
use Rattle.gl_base.specs.declared.jobs.FailureAt.{FailureAt}
use Rattle.gl_base.specs.declared.snapshots.Base.{Base}
use Rattle.call_laws.specs.attempts.Beginnings.{IsBeginning, nothing}
use Rattle.call_laws.proofs.attempts.Opening.{plain_begins, resumed_begins}
use Rattle.cluster_laws.specs.cluster_model.ByTicket.{StandByTicket}
use Rattle.whole_laws.specs.cluster_records.Recorded.{HaveSameNumbers}
use Rattle.cluster_laws.specs.cluster_runs.Attempts.{Beginning, Shared}
use Rattle.seq_run.specs.Orders.{IsValidOrder, replay, tasks_after}
use Rattle.seq_run.specs.States.{GraphState, start_state}
use Rattle.seq_run.proofs.GoingOn.{replay_from-append}
use Rattle.recovery.specs.opened_store.Opening.{AreJobFailures, AreNumbers, BaseView, Cluster, IsBase, IsGoodBase, IsOpened, Setting, base_numbers, base_opened, cluster_before, order_opened, shared_of, size, ticket_above}

module _ (st : Setting) (failures : List FailureAt) (base : Base) (good : IsGoodBase (shared_of st failures) base) where
  -- ---- its numbers

  pub vertices_seen : AreNumbers (size st.graph) (base_numbers base).vertex base.values.items
  vertices_seen = record { count = good.vertices.count; each = λ k low. refl }

  pub edges_seen : AreNumbers (length st.graph.edges) (base_numbers base).edge base.edges.items
  edges_seen = record { count = good.edges.count; each = λ k low. refl }

  replayed : HaveSameNumbers st.graph (base_numbers base) (replay st.graph st.program base.order.items)
  replayed = record { vertices = good.vertices.each; edges = good.edges.each }

  -- a restart changes no number
  restarted : (resumed : Bool) → replay st.graph st.program (order_opened resumed base.order.items) ≡ replay st.graph st.program base.order.items
  restarted true = replay_from-append st.graph st.program (start_state st.graph st.program) base.order.items (Restart (ticket_above base.order.items) ∷ [])
  restarted false = replay_from-append st.graph st.program (start_state st.graph st.program) base.order.items []

  -- ---- the opening

  pub opens_from : (resumed : Bool) (left store_end : ℕ) → AreJobFailures st.machines failures → (resumed ≡ true) ⊎ ((resumed ≡ false) × (base.order.items ≡ []))
      → IsOpened st failures base.order.items resumed (base_opened resumed base) (cluster_before st (ticket_above base.order.items) left store_end)
  opens_from resumed left store_end ordered begins = record {
    ordered = ordered;
    in_turn = good.in_turn;
    begins = begins;
    front = refl;
    numbers = subst (HaveSameNumbers st.graph (base_numbers base)) (sym (restarted resumed)) replayed;
    next = refl;
    done = λ a. refl;
  }

-- ---- a base of the law

abbrev opened_at : List Entry → Bool → Beginning
opened_at kept resumed = record { front = order_opened resumed kept; next = ticket_above kept; done = nothing }

module _ (st : Setting) (failures : List FailureAt) (kept : List Entry) (resumed : Bool) (base : BaseView) (first : Cluster) (opened : IsOpened st failures kept resumed base first) where
  abbrev shared : Shared
  shared = shared_of st failures

  begins_there : IsBeginning shared (opened_at kept resumed)
  begins_there =
      ⊎_elim
      (λ (yes_resumed : resumed ≡ true). subst (λ (b : Bool). IsBeginning shared (opened_at kept b)) (sym yes_resumed) (resumed_begins shared kept opened.in_turn))
      (λ (plain : (resumed ≡ false) × (kept ≡ [])).
      subst (λ (b : Bool). IsBeginning shared (opened_at kept b)) (sym plain.0) (subst (λ (es : List Entry). IsBeginning shared (opened_at es false)) (sym plain.1) (plain_begins shared)))
      opened.begins

  pub base_there : IsBase st base first.next
  base_there =
      let begins = begins_there in
      record {
        front = record {
          valid = subst (IsValidOrder st.graph st.program) (sym opened.front) begins.valid;
          tasks = λ u low. subst (λ (es : List Entry). tasks_after st.graph st.program es u ≡ true) (sym opened.front) (ap (λ (tasks : ℕ → Bool). tasks u) begins.tasks ∙ lt-ltb u (size st.graph) low);
        };
        numbers = opened.numbers;
        by_ticket = subst (λ (es : List Entry). StandByTicket 0 es first.next) (sym opened.front) (subst (λ (n : ℕ). StandByTicket 0 (order_opened resumed kept) n) (sym opened.next) begins.by_ticket);
      }
