-- Each action keeps scopes in their places, and a cluster starts with none in any.
use Rattle.std.proofs.Common.{◌≡◌, ℕ, false, Option, Some, List, [], ◌∷◌, ◌++◌, refl, sym, ◌∙◌, ap, subst}
use Rattle.std.specs.List.{AllByRecursion}
use Rattle.std.proofs.lemmas.Bool.{both_ways}
use Rattle.gl_base.specs.declared.entries.Entry.{Entry}
use Rattle.gl_base.specs.declared.entries.Entry.TheVariants.{Go}
use Rattle.gl_base.specs.declared.scopes.ScopeId.{ScopeId}
use Rattle.cluster_laws.specs.cluster_core.Messages.{Message, Section}
use Rattle.cluster_laws.specs.cluster_core.Parts.{Part}
use Rattle.cluster_laws.specs.cluster_core.Settings.{Setting, IsSetting, Locking}
use Rattle.cluster_laws.specs.cluster_core.Scopes.{set_for}
use Rattle.cluster_laws.specs.cluster_core.Effects.{begins, updated, marked, news_for, mark_news}
use Rattle.cluster_laws.specs.cluster_core.Worlds.{World, with_part}
use Rattle.cluster_laws.specs.cluster_core.Actions.{Action, Admit, Grant, Send, Deliver, Update, Mark, Begin, Hear, SendSection, Collect, Record, MayHappen, after, sends, delivers, updates, marks, hears, collects, draws}
use Rattle.cluster_laws.specs.cluster_core.Stages.{Stage, Idle, Ends, tokens_of, claims_of}
use Rattle.cluster_laws.specs.cluster_core.Places.{ArePlaces}
use Rattle.cluster_laws.specs.cluster_core.Runs.{IsStart, IsActionRun}
use Rattle.cluster_laws.specs.cluster_places.Steps.{IsOfColour, IsInStep}
use Rattle.cluster_laws.proofs.cluster_places.Standing.{places_by_parts, aside_keeps}
use Rattle.cluster_laws.proofs.cluster_places.Delivering.{send_keeps, deliver_keeps, none_flies}
use Rattle.cluster_laws.proofs.cluster_places.Granting.{grant_keeps}
use Rattle.cluster_laws.proofs.cluster_places.Admitting.{admit_keeps}
use Rattle.cluster_laws.proofs.cluster_places.Ending.{update_ends, mark_ends, reaches, end_keeps}

-- there are places
abbrev pub Placed : Setting → World → Type 0
Placed st w = (stage : ScopeId → Stage) × ArePlaces st w stage

module _ (st : Setting) (is : IsSetting st) (locks : st.engine ≡ Locking) (w : World) (stage : ScopeId → Stage) (places : ArePlaces st w stage) where
  pub action_keeps : (action : Action) → MayHappen st w action → Placed st (after st w action)
  action_keeps (Admit a v) may = admit_keeps st is w stage places a v may locks
  action_keeps (Grant a x) may = grant_keeps st is w stage places a x may
  action_keeps (Send p q) may =
      subst (λ (messages : List Message). Placed st (sends w p q messages)) (sym may.first) (stage, send_keeps st is w stage places p q may.message may.behind may.first)
  action_keeps (Deliver p q) may =
      subst (λ (messages : List Message). Placed st (delivers st w p q messages)) (sym may.first) (deliver_keeps st is w stage places p q may.message may.behind may.first)
  action_keeps (Update s) may =
      let part : Part = w.part s.home.0 in
      let entry : Entry = Go s.home (record { 0 = may.vertex }) w.next in
      let made : Part = updated st s.home.0 s may.vertex entry part in
      let next : ScopeId → Stage = set_for stage s (Ends may.vertex (reaches st is w stage places s may.vertex may.flight may.ready (news_for st part may.vertex) made (update_ends st s may.vertex entry part))) in
      let kept : ArePlaces st (with_part w s.home.0 made) next =
      end_keeps st is w stage places s may.vertex may.flight may.ready (news_for st part may.vertex) made (update_ends st s may.vertex entry part) in
      let drawn : Placed st (updates st w s (Some may.vertex)) =
      (next, places_by_parts st (with_part w s.home.0 made) (draws (with_part w s.home.0 made)) next refl refl kept) in
      subst (λ (flight : Option ℕ). Placed st (updates st w s flight)) (sym may.flight) drawn
  action_keeps (Mark s) may =
      let part : Part = w.part s.home.0 in
      let made : Part = marked st s.home.0 s may.vertex part in
      let kept : Placed st (marks st w s (Some may.vertex)) = (
        set_for stage s (Ends may.vertex (reaches st is w stage places s may.vertex may.flight may.ready (mark_news st part may.vertex) made (mark_ends st s may.vertex part))),
        end_keeps st is w stage places s may.vertex may.flight may.ready (mark_news st part may.vertex) made (mark_ends st s may.vertex part),
      ) in
      subst (λ (flight : Option ℕ). Placed st (marks st w s flight)) (sym may.flight) kept
  action_keeps Begin may = (stage, places_by_parts st w (after st w Begin) stage refl refl places)
  action_keeps (Hear a) may =
      let part : Part = begins st a may.number (w.part a) in
      let kept : ArePlaces st (with_part w a part) stage =
      aside_keeps st w stage places a part (record { flight = refl; ready = refl; stand = refl; holder = refl; queue = refl; out = refl; serial = refl }) in
      let heard : Placed st (hears st w a (may.number ∷ may.behind)) =
      (stage, places_by_parts st (with_part w a part) (hears st w a (may.number ∷ may.behind)) stage refl refl kept) in
      subst (λ (orders : List ℕ). Placed st (hears st w a orders)) (sym may.first) heard
  action_keeps (SendSection a) may =
      let part : Part = record (w.part a) { sent = (w.part a).known } in
      let kept : ArePlaces st (with_part w a part) stage =
      aside_keeps st w stage places a part (record { flight = refl; ready = refl; stand = refl; holder = refl; queue = refl; out = refl; serial = refl }) in
      (stage, places_by_parts st (with_part w a part) (after st w (SendSection a)) stage refl refl kept)
  action_keeps (Collect a) may =
      let collected : Placed st (collects w a (may.section ∷ may.behind)) =
      (stage, places_by_parts st w (collects w a (may.section ∷ may.behind)) stage refl refl places) in
      subst (λ (sections : List Section). Placed st (collects w a sections)) (sym may.first) collected
  action_keeps Record may = (stage, places_by_parts st w (after st w Record) stage refl refl places)

-- ---- the start, and what follows

module _ (st : Setting) (w : World) (start : IsStart st w) where
  pub start_placed : ArePlaces st w (λ s. Idle)
  start_placed =
      record {
        shows = λ s. record {
          flight = start.flights s.home.0 s;
          ready = start.ready s.home.0 s;
          stand = λ a. start.stands a s;
          holder = λ x. start.holders (st.owner x) x s;
          queue = λ x. ap (claims_of s) (start.queues (st.owner x) x);
          tokens = λ p q. λ i. tokens_of s (start.links p q i ++ start.outboxes p q i);
        };
        stages = λ s. tt;
        admitted = λ s busy. absurd (busy refl);
        single = λ s t v flies also. cc;
        alone = λ s t x centre has also. absurd (both_ways false refl has);
      }

  pub start_in_step : (colour : ℕ → ℕ) (step : ℕ) → ((a : ℕ) → (w.part a).closed ≡ false → (w.part a).colour ≡ step) → IsInStep st colour step w
  start_in_step colour step machines =
      record {
        machines = machines;
        flights = λ s v flies. absurd (none_flies v (sym (start.flights s.home.0 s) ∙ flies));
        news = λ p q. subst (AllByRecursion (IsOfColour colour step)) (λ i. sym (start.links p q) i ++ sym (start.outboxes p q) i) tt;
      }

pub runs_keep : (st : Setting) → IsSetting st → st.engine ≡ Locking → (actions : List Action) (old new : World) → Placed st old → IsActionRun st old actions new → Placed st new
runs_keep st is locks [] old new placed run = subst (Placed st) (sym run) placed
runs_keep st is locks (action ∷ actions) old new placed run =
    runs_keep st is locks actions (after st old action) new (action_keeps st is locks old placed.0 placed.1 action run.0) run.1
