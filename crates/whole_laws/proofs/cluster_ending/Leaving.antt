-- Where no task is left and none is on its way, no event but a recovery makes one.
use Rattle.std.proofs.Common.{◌≡◌, ◌≢◌, ◌⊎◌, ℕ, ◌<◌, ◌==◌, ◌&&◌, ◌||◌, not, Bool, true, false, if◌then◌else◌, Option, List, [], ◌∷◌, ◌++◌, length, refl, sym, ◌∙◌, ap, subst, ⊎_elim, append_assoc}
use Rattle.std.specs.List.{AllByRecursion}
use Rattle.std.proofs.lemmas.Bool.{both_ways, false_from_ne_true, or_cases}
use Rattle.gl_base.specs.declared.entries.Entry.{Entry}
use Rattle.graph_core.specs.DataGraph.{size}
use Rattle.cluster_laws.specs.cluster_core.Actions.{Action, Admit, Grant, Send, Deliver, Update, Mark, Begin, Hear, SendSection, Collect, Record, MayHappen, after, collects, delivers, hears, marks, sends}
use Rattle.cluster_laws.specs.cluster_core.Copies.{AreCopies}
use Rattle.cluster_laws.specs.cluster_core.Effects.{admitted, begins, granted, mark_news, marked, received}
use Rattle.cluster_laws.specs.cluster_core.Messages.{Ask, Done, Message, Ready, Section}
use Rattle.cluster_laws.specs.cluster_core.Parts.{Part}
use Rattle.cluster_laws.specs.cluster_core.Places.{IsExclusive}
use Rattle.cluster_laws.specs.cluster_core.Scopes.{takes_part}
use Rattle.cluster_laws.specs.cluster_core.Settings.{IsSetting, Setting}
use Rattle.cluster_laws.specs.cluster_core.Ways.{IsNewsFor, IsToldTo, vertex_woken, wakes_vertex}
use Rattle.cluster_laws.specs.cluster_core.Worlds.{World, way, with_part}
use Rattle.cluster_laws.proofs.cluster_core.Basics.{set_at-holds, set_at-kept}
use Rattle.cluster_laws.proofs.cluster_core.Nearness.{near_turned, near_within}
use Rattle.cluster_laws.proofs.cluster_core.Taking.{same_way, taken, taken-here, taken-there}
use Rattle.cluster_laws.proofs.cluster_numbers.Quiet.{admitted-quiet, goes_on-quiet, granted-quiet, ready-quiet}
use Rattle.cluster_laws.proofs.cluster_numbers.QuietWorlds.{IsQuietStep, part_quiet, quiet_steps, sent_quiet, taken_quiet}
use Rattle.cluster_laws.proofs.cluster_numbers.Told.{vertex_woken-dones}
use Rattle.whole_laws.specs.cluster_whole.Views.{IsMove, IsTurned, MayTurn}
use Rattle.whole_laws.specs.cluster_ending.Watched.{HoldsNoTask, HasNoTaskLeft}

-- no task is left afterwards, and no update was made
pub record StaysDone (st : Setting) (w v : World) : Type 0 where
  pub left : HasNoTaskLeft st v
  pub logs : (a : ℕ) → length (v.part a).log ≡ length (w.part a).log

-- what wakes a vertex is told between machines of the cluster
pub woken_within : (st : Setting) → IsSetting st → (p q u : ℕ) (messages : List Message) → AllByRecursion (IsToldTo st p q) messages → vertex_woken u messages ≡ true → (p < st.machines) × (q < st.machines) × (u < size st.graph)
woken_within st is p q u [] all woken = absurd (both_ways false refl woken)
woken_within st is p q u (Ask s c rest ∷ messages) all woken = woken_within st is p q u messages all.1 woken
woken_within st is p q u (Ready s ∷ messages) all woken = woken_within st is p q u messages all.1 woken
woken_within st is p q u (Done s news ∷ messages) all woken =
    ⊎_elim
    (λ (here : news.wakes u ≡ true).
    let told : IsNewsFor st p q news = all.0 in
    let near = told.wakes u here in
    let within : u < size st.graph = (near_within st is news.centre u near.0).0 in
    let centre : news.centre < size st.graph = (near_within st is u news.centre (near_turned st u news.centre ∙ near.0)).0 in
    (subst (λ (a : ℕ). a < st.machines) told.centre (is.owner news.centre centre), subst (λ (a : ℕ). a < st.machines) near.1 (is.owner u within), within))
    (λ (rest : vertex_woken u messages ≡ true). woken_within st is p q u messages all.1 rest)
    (or_cases (news.wakes u) (vertex_woken u messages) woken)

or_none : (a b : Bool) → (a || b) ≡ false → (a ≡ false) × (b ≡ false)
or_none true b is = absurd (both_ways true is refl)
or_none false b is = (refl, is)

or_both : (a b : Bool) → a ≡ false → b ≡ false → (a || b) ≡ false
or_both a b one other = ap (λ (x : Bool). x || b) one ∙ other

woken_pushed : (u : ℕ) (xs : List Message) (m : Message) → wakes_vertex u m ≡ false → vertex_woken u (xs ++ m ∷ []) ≡ vertex_woken u xs
woken_pushed u [] m none = ap (λ (b : Bool). b || false) none
woken_pushed u (x ∷ xs) m none = ap (λ (b : Bool). wakes_vertex u x || b) (woken_pushed u xs m none)

-- a message that wakes nobody comes behind
woken_told : (u : ℕ) (test : Bool) (link out : List Message) (m : Message) → wakes_vertex u m ≡ false → vertex_woken u (link ++ (if test then out ++ m ∷ [] else out)) ≡ vertex_woken u (link ++ out)
woken_told u true link out m none = ap (vertex_woken u) (sym (append_assoc link out (m ∷ []))) ∙ woken_pushed u (link ++ out) m none
woken_told u false link out m none = refl

module _ (st : Setting) (is : IsSetting st) (w : World) (told : (p q : ℕ) → AllByRecursion (IsToldTo st p q) (way w p q)) (left : HasNoTaskLeft st w) where
  pub none_woken : (p q u : ℕ) → vertex_woken u (way w p q) ≡ false
  none_woken p q u =
      false_from_ne_true (vertex_woken u (way w p q)) (λ woken.
      let h = woken_within st is p q u (way w p q) (told p q) woken in
      both_ways (vertex_woken u (way w p q)) (left.wakes p q u h.0 h.1 h.2) woken)

  -- tasks, wakes and logs are the same
  pub done_like : (v : World) → ((a : ℕ) → (v.part a).task ≡ (w.part a).task) → ((p q u : ℕ) → vertex_woken u (way v p q) ≡ vertex_woken u (way w p q)) →
      ((a : ℕ) → length (v.part a).log ≡ length (w.part a).log) → StaysDone st w v
  done_like v tasks wakes logs =
      record {
        left = record {
          tasks = λ a low u within. ap (λ (f : ℕ → Bool). f u) (tasks a) ∙ left.tasks a low u within;
          wakes = λ p q u p_low q_low within. wakes p q u ∙ left.wakes p q u p_low q_low within;
        };
        logs = logs;
      }

  done_quiet : (v : World) → IsQuietStep w v → StaysDone st w v
  done_quiet v step =
      done_like v step.task
      (λ p q u. sym (vertex_woken-dones u (way v p q)) ∙ ap (vertex_woken u) (step.news p q) ∙ vertex_woken-dones u (way w p q))
      (λ a. ap (λ (log : List Entry). length log) (step.log a))

  -- a part is set that has the same tasks and log, and the same outboxes
  done_part : (a : ℕ) (new : Part) → new.task ≡ (w.part a).task → new.log ≡ (w.part a).log → ((q u : ℕ) → vertex_woken u (w.link a q ++ new.out q) ≡ vertex_woken u (way w a q)) → StaysDone st w (with_part w a new)
  done_part a new task log wakes =
      done_like (with_part w a new)
      (set_at-kept (λ (part : Part). part.task) w.part a new task)
      (λ p q u. set_at-holds (λ (p : ℕ) (part : Part). vertex_woken u (w.link p q ++ part.out q) ≡ vertex_woken u (way w p q)) w.part a new p (wakes q u) (λ off. refl))
      (λ b. ap (λ (entries : List Entry). length entries) (set_at-kept (λ (part : Part). part.log) w.part a new log b))

  done_delivered : (p q : ℕ) (message : Message) (behind : List Message) → w.link p q ≡ message ∷ behind → StaysDone st w (delivers st w p q (message ∷ behind))
  done_delivered p q (Ask s v rest) behind first =
      let mid : World = taken w p q (Ask s v rest) behind first in
      done_quiet (delivers st w p q (Ask s v rest ∷ behind))
      (quiet_steps w mid (delivers st w p q (Ask s v rest ∷ behind)) (taken_quiet w p q (Ask s v rest) behind first (λ ms. refl))
      (part_quiet mid q (received st q (Ask s v rest) (w.part q)) (goes_on-quiet st q s v 0 rest (w.part q))))
  done_delivered p q (Ready s) behind first =
      let mid : World = taken w p q (Ready s) behind first in
      done_quiet (delivers st w p q (Ready s ∷ behind))
      (quiet_steps w mid (delivers st w p q (Ready s ∷ behind)) (taken_quiet w p q (Ready s) behind first (λ ms. refl))
      (part_quiet mid q (received st q (Ready s) (w.part q)) (ready-quiet (w.part q) (received st q (Ready s) (w.part q)).ready)))
  done_delivered p q (Done s news) behind first =
      let mid : World = taken w p q (Done s news) behind first in
      let new : Part = received st q (Done s news) (w.part q) in
      let v : World = delivers st w p q (Done s news ∷ behind) in
      let here : (u : ℕ) → (news.wakes u || vertex_woken u (way mid p q)) ≡ false = λ u. ap (vertex_woken u) (sym (taken-here w p q (Done s news) behind first)) ∙ none_woken p q u in
      let same : (p' q' : ℕ) → way v p' q' ≡ way mid p' q' = λ p' q'. ap (λ (ms : List Message). mid.link p' q' ++ ms) (set_at-kept (λ (part : Part). part.out q') w.part q new refl p') in
      record {
        left = record {
          tasks = λ a low. set_at-holds (λ (a : ℕ) (part : Part). a < st.machines → HoldsNoTask st part) w.part q new a
              (λ low u within. or_both (news.wakes u) ((w.part q).task u) (or_none (news.wakes u) (vertex_woken u (way mid p q)) (here u)).0 (left.tasks q low u within))
              (λ off low. left.tasks a low) low;
          wakes = λ p' q' u p_low q_low within. ap (vertex_woken u) (same p' q') ∙ ⊎_elim
              (λ (at : (p' ≡ p) × (q' ≡ q)). (λ i. vertex_woken u (way mid (at.0 i) (at.1 i))) ∙ (or_none (news.wakes u) (vertex_woken u (way mid p q)) (here u)).1)
              (λ (off : (p' ≢ p) ⊎ (q' ≢ q)). ap (vertex_woken u) (taken-there w p q (Done s news) behind first p' q' off) ∙ left.wakes p' q' u p_low q_low within)
              (same_way p q p' q');
        };
        logs = λ a. ap (λ (entries : List Entry). length entries) (set_at-kept (λ (part : Part). part.log) w.part q new refl a);
      }

  done_heard : (a : ℕ) (k : ℕ) (behind : List ℕ) → StaysDone st w (hears st w a (k ∷ behind))
  done_heard a k behind =
      let h = done_part a (begins st a k (w.part a)) refl refl (λ q u. refl) in
      record { left = record { tasks = h.left.tasks; wakes = h.left.wakes }; logs = h.logs }

  pub done_action : IsExclusive st w → (action : Action) → MayHappen st w action → StaysDone st w (after st w action)
  done_action apart (Admit a v) may = done_quiet (after st w (Admit a v)) (part_quiet w a (admitted st a v (w.part a)) (admitted-quiet st a v (w.part a)))
  done_action apart (Grant a x) may = done_quiet (after st w (Grant a x)) (part_quiet w a (granted st a x (w.part a)) (granted-quiet st a x (w.part a)))
  done_action apart (Send p q) may =
      subst (λ (ms : List Message). StaysDone st w (sends w p q ms)) (sym may.first)
      (done_quiet (sends w p q (may.message ∷ may.behind)) (sent_quiet w p q may.message may.behind may.first))
  done_action apart (Deliver p q) may =
      subst (λ (ms : List Message). StaysDone st w (delivers st w p q ms)) (sym may.first) (done_delivered p q may.message may.behind may.first)
  done_action apart (Update s) may =
      let own = apart.owned s may.vertex (may.flight, may.ready) in
      absurd (both_ways ((w.part s.home.0).task may.vertex) (left.tasks s.home.0 (subst (λ (a : ℕ). a < st.machines) own.1 (is.owner may.vertex own.0)) may.vertex own.0) may.task)
  done_action apart (Mark s) may =
      let a : ℕ = s.home.0 in
      let v : ℕ = may.vertex in
      subst (λ (flight : Option ℕ). StaysDone st w (marks st w s flight)) (sym may.flight)
      (done_part a (marked st a s v (w.part a)) refl refl
      (λ q u. woken_told u (takes_part st v q && not (q == a)) (w.link a q) ((w.part a).out q) (Done s (mark_news st (w.part a) v q)) refl))
  done_action apart Begin may = done_like (after st w Begin) (λ a. refl) (λ p q u. refl) (λ a. refl)
  done_action apart (Hear a) may = subst (λ (ks : List ℕ). StaysDone st w (hears st w a ks)) (sym may.first) (done_heard a may.number may.behind)
  done_action apart (SendSection a) may =
      let h = done_part a (record (w.part a) { sent = (w.part a).known }) refl refl (λ q u. refl) in
      record { left = record { tasks = h.left.tasks; wakes = h.left.wakes }; logs = h.logs }
  done_action apart (Collect a) may =
      subst (λ (sections : List Section). StaysDone st w (collects w a sections)) (sym may.first)
      (done_like (collects w a (may.section ∷ may.behind)) (λ b. refl) (λ p q u. refl) (λ b. refl))
  done_action apart Record may = done_like (after st w Record) (λ a. refl) (λ p q u. refl) (λ a. refl)

-- a machine is told of a step, or closes
done_turned : (st : Setting) (w v : World) → MayTurn w v → HasNoTaskLeft st w → StaysDone st w v
done_turned st w v turns left =
    ⊎_elim
    (λ (same : v ≡ w). subst (StaysDone st w) (sym same) (record { left = left; logs = λ a. refl }))
    (λ (one : (a : ℕ) × (part : Part) × IsTurned (w.part a) part × (v ≡ with_part w a part)).
    let a : ℕ = one.0 in
    let part : Part = one.1 in
    subst (StaysDone st w) (sym one.3)
    (record {
      left = record {
        tasks = λ b low u within. ap (λ (f : ℕ → Bool). f u) (set_at-kept (λ (x : Part). x.task) w.part a part (ap (λ (x : Part). x.task) one.2) b) ∙ left.tasks b low u within;
        wakes = λ p q u p_low q_low within. ap (λ (ms : List Message). vertex_woken u (w.link p q ++ ms)) (set_at-kept (λ (x : Part). x.out q) w.part a part (ap (λ (x : Part). x.out q) one.2) p) ∙ left.wakes p q u p_low q_low within;
      };
      logs = λ b. ap (λ (entries : List Entry). length entries) (set_at-kept (λ (x : Part). x.log) w.part a part (ap (λ (x : Part). x.log) one.2) b);
    }))
    turns

pub done_moved : (st : Setting) → IsSetting st → (w v : World) → AreCopies st w → IsExclusive st w → IsMove st w v → HasNoTaskLeft st w → StaysDone st w v
done_moved st is w v copies apart move left =
    let mid : World = move.0 in
    let one : StaysDone st w mid =
    ⊎_elim
    (λ (same : mid ≡ w). subst (StaysDone st w) (sym same) (record { left = left; logs = λ a. refl }))
    (λ (acts : (action : Action) × (MayHappen st w action × (mid ≡ after st w action))). subst (StaysDone st w) (sym acts.1.1) (done_action st is w copies.told left apart acts.0 acts.1.0))
    move.1 in
    let two : StaysDone st mid v = done_turned st mid v move.2 one.left in
    record { left = two.left; logs = λ a. two.logs a ∙ one.logs a }
