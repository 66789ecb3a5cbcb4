-- Actions that tell no news and change no number keep copies true, and the numbers those of the order.
use Rattle.std.proofs.Common.{◌≡◌, ℕ, ◌<◌, Bool, true, false, ◌≢◌, ◌⊎◌, List, ◌∷◌, ◌++◌, sym, refl, ap, ◌∙◌, subst, subst₂, inl, inr, ⊎_elim}
use Rattle.std.specs.List.{AllByRecursion}
use Rattle.gl_base.specs.declared.entries.Entry.{Entry}
use Rattle.gl_base.specs.declared.scopes.Datum.{Datum}
use Rattle.seq_run.specs.Orders.{replay}
use Rattle.cluster_laws.specs.cluster_core.Actions.{sends}
use Rattle.cluster_laws.specs.cluster_core.Copies.{edge_to_come, from_owner, to_owner, AreCopies}
use Rattle.cluster_laws.specs.cluster_core.Messages.{Message}
use Rattle.cluster_laws.specs.cluster_core.Parts.{Part}
use Rattle.cluster_laws.specs.cluster_core.Ranges.{set_at}
use Rattle.cluster_laws.specs.cluster_core.Replays.{ticket_of, IsTask, IsReplay}
use Rattle.cluster_laws.specs.cluster_core.Settings.{Setting}
use Rattle.cluster_laws.specs.cluster_core.Ways.{datum_told, edge_told, edge_changed, vertex_woken, IsToldTo}
use Rattle.cluster_laws.specs.cluster_core.Worlds.{World, with_part, way}
use Rattle.cluster_laws.proofs.cluster_core.Basics.{set_at-kept}
use Rattle.cluster_laws.proofs.cluster_core.Taking.{same_way, taken, taken-here, taken-there, sent-way}
use Rattle.cluster_laws.proofs.cluster_numbers.Quiet.{dones, dones-append, IsQuiet}
use Rattle.cluster_laws.proofs.cluster_numbers.Told.{datum_told-dones, edge_told-dones, edge_changed-dones, vertex_woken-dones, told-dones, told-from_dones}

-- The new world has the numbers, tasks and logs of the old one, and the same news are under way.
pub record IsQuietStep (old new : World) : Type 0 where
  pub datum : (a : ℕ) → (new.part a).datum ≡ (old.part a).datum
  pub edge : (a : ℕ) → (new.part a).edge ≡ (old.part a).edge
  pub task : (a : ℕ) → (new.part a).task ≡ (old.part a).task
  pub log : (a : ℕ) → (new.part a).log ≡ (old.part a).log
  pub next : new.next ≡ old.next
  pub news : (p q : ℕ) → dones (way new p q) ≡ dones (way old p q)

pub quiet_steps : (a b c : World) → IsQuietStep a b → IsQuietStep b c → IsQuietStep a c
quiet_steps a b c one other =
    record {
      datum = λ m. other.datum m ∙ one.datum m;
      edge = λ m. other.edge m ∙ one.edge m;
      task = λ m. other.task m ∙ one.task m;
      log = λ m. other.log m ∙ one.log m;
      next = other.next ∙ one.next;
      news = λ p q. other.news p q ∙ one.news p q;
    }

-- ---- which steps are quiet

pub part_quiet : (w : World) (a : ℕ) (new : Part) → IsQuiet (w.part a) new → IsQuietStep w (with_part w a new)
part_quiet w a new quiet =
    record {
      datum = set_at-kept (λ (part : Part). part.datum) w.part a new quiet.datum;
      edge = set_at-kept (λ (part : Part). part.edge) w.part a new quiet.edge;
      task = set_at-kept (λ (part : Part). part.task) w.part a new quiet.task;
      log = set_at-kept (λ (part : Part). part.log) w.part a new quiet.log;
      next = refl;
      news = λ p q.
          dones-append (w.link p q) ((set_at w.part a new p).out q)
          ∙ ap (λ ms. dones (w.link p q) ++ ms) (set_at-kept (λ (part : Part). dones (part.out q)) w.part a new (quiet.out q) p)
          ∙ sym (dones-append (w.link p q) ((w.part p).out q));
    }

pub taken_quiet : (w : World) (p q : ℕ) (m : Message) (behind : List Message) (first : w.link p q ≡ m ∷ behind) → ((ms : List Message) → dones (m ∷ ms) ≡ dones ms) → IsQuietStep w (taken w p q m behind first)
taken_quiet w p q m behind first silent =
    record {
      datum = λ a. refl;
      edge = λ a. refl;
      task = λ a. refl;
      log = λ a. refl;
      next = refl;
      news = λ i j. ⊎_elim
          (λ (both : (i ≡ p) × (j ≡ q)). subst₂ (λ k l. dones (way (taken w p q m behind first) k l) ≡ dones (way w k l)) (sym both.0) (sym both.1)
          (sym (ap dones (taken-here w p q m behind first) ∙ silent (way (taken w p q m behind first) p q))))
          (λ (other : (i ≢ p) ⊎ (j ≢ q)). ap dones (taken-there w p q m behind first i j other))
          (same_way p q i j);
    }

pub sent_quiet : (w : World) (p q : ℕ) (m : Message) (behind : List Message) → (w.part p).out q ≡ m ∷ behind → IsQuietStep w (sends w p q (m ∷ behind))
sent_quiet w p q m behind first =
    let shorter : Part = record (w.part p) { out = set_at (w.part p).out q behind } in
    record {
      datum = set_at-kept (λ (part : Part). part.datum) w.part p shorter refl;
      edge = set_at-kept (λ (part : Part). part.edge) w.part p shorter refl;
      task = set_at-kept (λ (part : Part). part.task) w.part p shorter refl;
      log = set_at-kept (λ (part : Part). part.log) w.part p shorter refl;
      next = refl;
      news = λ i j. ap dones (sent-way w p q m behind first i j);
    }

-- ---- what they keep

module _ (st : Setting) (old new : World) (step : IsQuietStep old new) where
  datum_told-quiet : (v p q : ℕ) (d : Datum) → datum_told v (way new p q) d ≡ datum_told v (way old p q) d
  datum_told-quiet v p q d = sym (datum_told-dones v (way new p q) d) ∙ ap (λ ms. datum_told v ms d) (step.news p q) ∙ datum_told-dones v (way old p q) d

  edge_changed-quiet : (e p q : ℕ) → edge_changed e (way new p q) ≡ edge_changed e (way old p q)
  edge_changed-quiet e p q = sym (edge_changed-dones e (way new p q)) ∙ ap (edge_changed e) (step.news p q) ∙ edge_changed-dones e (way old p q)

  vertex_woken-quiet : (u p q : ℕ) → vertex_woken u (way new p q) ≡ vertex_woken u (way old p q)
  vertex_woken-quiet u p q = sym (vertex_woken-dones u (way new p q)) ∙ ap (vertex_woken u) (step.news p q) ∙ vertex_woken-dones u (way old p q)

  edge_to_come-quiet : (e a b : ℕ) → edge_to_come new e a b ≡ edge_to_come old e a b
  edge_to_come-quiet e a b =
      ap (edge_told e (way new b a)) (ap (λ (f : ℕ → ℕ). f e) (step.edge a))
      ∙ sym (edge_told-dones e (way new b a) ((old.part a).edge e)) ∙ ap (λ ms. edge_told e ms ((old.part a).edge e)) (step.news b a)
      ∙ edge_told-dones e (way old b a) ((old.part a).edge e)

  pub copies_quiet : AreCopies st old → AreCopies st new
  copies_quiet copies =
      record {
        told = λ p q. told-from_dones st p q (way new p q) (subst (AllByRecursion (IsToldTo st p q)) (sym (step.news p q)) (told-dones st p q (way old p q) (copies.told p q)));
        vertices_agree = λ v a within part apart.
            ap (datum_told v (way new (st.owner v) a)) (ap (λ (f : ℕ → Datum). f v) (step.datum a))
            ∙ datum_told-quiet v (st.owner v) a ((old.part a).datum v) ∙ copies.vertices_agree v a within part apart
            ∙ sym (ap (λ (f : ℕ → Datum). f v) (step.datum (st.owner v)));
        edges_agree = λ e within.
            edge_to_come-quiet e (from_owner st e) (to_owner st e) ∙ copies.edges_agree e within ∙ sym (edge_to_come-quiet e (to_owner st e) (from_owner st e));
        one_way = λ e within. ⊎_elim
            (λ (none : edge_changed e (way old (from_owner st e) (to_owner st e)) ≡ false). inl (edge_changed-quiet e (from_owner st e) (to_owner st e) ∙ none))
            (λ (none : edge_changed e (way old (to_owner st e) (from_owner st e)) ≡ false). inr (edge_changed-quiet e (to_owner st e) (from_owner st e) ∙ none))
            (copies.one_way e within);
      }

  task_quiet : (u : ℕ) → IsTask st old u → IsTask st new u
  task_quiet u task = ⊎_elim
      (λ (here : (old.part (st.owner u)).task u ≡ true). inl (ap (λ (f : ℕ → Bool). f u) (step.task (st.owner u)) ∙ here))
      (λ (coming : (p : ℕ) × (vertex_woken u (way old p (st.owner u)) ≡ true)). inr (coming.0, vertex_woken-quiet u coming.0 (st.owner u) ∙ coming.1))
      task

  task_was : (u : ℕ) → IsTask st new u → IsTask st old u
  task_was u task = ⊎_elim
      (λ (here : (new.part (st.owner u)).task u ≡ true). inl (sym (ap (λ (f : ℕ → Bool). f u) (step.task (st.owner u))) ∙ here))
      (λ (coming : (p : ℕ) × (vertex_woken u (way new p (st.owner u)) ≡ true)). inr (coming.0, sym (vertex_woken-quiet u coming.0 (st.owner u)) ∙ coming.1))
      task

  pub replay_quiet : (order : List Entry) → IsReplay st old order → IsReplay st new order
  replay_quiet order replay =
      record {
        valid = replay.valid;
        logs = λ a. step.log a ∙ replay.logs a;
        tickets = subst (λ n. AllByRecursion (λ entry. ticket_of entry < n) order) (sym step.next) replay.tickets;
        numbers = λ v within. ap (λ (f : ℕ → Datum). (f v).value) (step.datum (st.owner v)) ∙ replay.numbers v within;
        edges = λ e within. edge_to_come-quiet e (from_owner st e) (to_owner st e) ∙ replay.edges e within;
        tasks = λ u within. (λ yes_task. task_quiet u ((replay.tasks u within).0 yes_task), λ task. (replay.tasks u within).1 (task_was u task));
      }
