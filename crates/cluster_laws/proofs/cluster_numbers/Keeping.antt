-- Each action keeps copies true, and the numbers those of an order that goes on.
use Rattle.std.proofs.Common.{◌≡◌, ℕ, true, false, List, [], ◌∷◌, ◌++◌, Some, sym, refl, ap, ◌∙◌, subst, ap₂, append-nil}
use Rattle.gl_base.specs.declared.entries.Entry.{Entry}
use Rattle.gl_base.specs.declared.entries.Entry.TheVariants.{Go}
use Rattle.gl_base.specs.declared.scopes.ScopeId.{ScopeId}
use Rattle.cluster_laws.specs.cluster_core.Actions.{Action, Admit, Grant, Send, Deliver, Update, Mark, Begin, Hear, SendSection, Collect, Record, MayUpdate, MayHappen, sends, delivers, updates, marks, begins_one, hears, sends_section, collects, records, after}
use Rattle.cluster_laws.specs.cluster_core.Copies.{AreCopies}
use Rattle.cluster_laws.specs.cluster_core.Effects.{admitted, granted, begins, received}
use Rattle.cluster_laws.specs.cluster_core.Messages.{Message, Ask, Ready, Done}
use Rattle.cluster_laws.specs.cluster_core.Parts.{Part}
use Rattle.cluster_laws.specs.cluster_core.Places.{done_near, IsExclusive}
use Rattle.cluster_laws.specs.cluster_core.Ranges.{set_at}
use Rattle.cluster_laws.specs.cluster_core.Replays.{replay_of, IsReplay, IsFresh}
use Rattle.cluster_laws.specs.cluster_core.Scopes.{set_for}
use Rattle.cluster_laws.specs.cluster_core.Settings.{Setting, IsSetting}
use Rattle.cluster_laws.specs.cluster_core.Worlds.{World, with_part, way}
use Rattle.cluster_laws.proofs.cluster_core.Basics.{set_at-kept}
use Rattle.cluster_laws.proofs.cluster_core.Taking.{taken}
use Rattle.cluster_laws.proofs.cluster_numbers.NewsComes.{copies_come, replay_comes}
use Rattle.cluster_laws.proofs.cluster_numbers.Quiet.{dones, ready-quiet, goes_on-quiet, admitted-quiet, granted-quiet}
use Rattle.cluster_laws.proofs.cluster_numbers.QuietWorlds.{IsQuietStep, quiet_steps, part_quiet, taken_quiet, sent_quiet, copies_quiet, replay_quiet}
use Rattle.cluster_laws.proofs.cluster_numbers.Replaying.{fresh, copies_updated, replay_made, copies_marked, replay_marked}

-- what an action leaves of the numbers, where only what snapshots use changes
pub numbers_quiet : (w new : World) (a : ℕ) (part : Part) → new.part ≡ set_at w.part a part → new.link ≡ w.link → new.next ≡ w.next →
    part.datum ≡ (w.part a).datum → part.edge ≡ (w.part a).edge → part.task ≡ (w.part a).task → part.log ≡ (w.part a).log → part.out ≡ (w.part a).out → IsQuietStep w new
numbers_quiet w new a part parts links next datum edge task log out =
    record {
      datum = λ b. ap (λ (f : ℕ → Part). (f b).datum) parts ∙ set_at-kept (λ (p : Part). p.datum) w.part a part datum b;
      edge = λ b. ap (λ (f : ℕ → Part). (f b).edge) parts ∙ set_at-kept (λ (p : Part). p.edge) w.part a part edge b;
      task = λ b. ap (λ (f : ℕ → Part). (f b).task) parts ∙ set_at-kept (λ (p : Part). p.task) w.part a part task b;
      log = λ b. ap (λ (f : ℕ → Part). (f b).log) parts ∙ set_at-kept (λ (p : Part). p.log) w.part a part log b;
      next = next;
      news = λ i j. ap dones (ap₂ (λ (l : ℕ → ℕ → List Message) (f : ℕ → Part). l i j ++ (f i).out j) links parts
          ∙ ap (λ (o : ℕ → List Message). w.link i j ++ o j) (set_at-kept (λ (p : Part). p.out) w.part a part out i));
    }

pub updates_is : (st : Setting) (w : World) (s : ScopeId) (v : ℕ) → (w.part s.home.0).flight s ≡ Some v → updates st w s ((w.part s.home.0).flight s) ≡ updates st w s (Some v)
updates_is st w s v flight = ap (updates st w s) flight

pub marks_is : (st : Setting) (w : World) (s : ScopeId) (v : ℕ) → (w.part s.home.0).flight s ≡ Some v → marks st w s ((w.part s.home.0).flight s) ≡ marks st w s (Some v)
marks_is st w s v flight = ap (marks st w s) flight

-- The copies are true, and the numbers are those of the order with more behind it.
pub record GoesOnBy (st : Setting) (order : List Entry) (new : World) : Type 0 where
  pub rest : List Entry
  pub copies : AreCopies st new
  pub replay : IsReplay st new (order ++ rest)

module _ (st : Setting) (is : IsSetting st) (w : World) (order : List Entry) (copies : AreCopies st w) (replay : IsReplay st w order) where
  stays_on : (new : World) → AreCopies st new → IsReplay st new order → GoesOnBy st order new
  stays_on new new_copies new_replay = record { rest = []; copies = new_copies; replay = subst (IsReplay st new) (sym (append-nil order)) new_replay }

  quietly : (new : World) → IsQuietStep w new → GoesOnBy st order new
  quietly new step = stays_on new (copies_quiet st w new step copies) (replay_quiet st w new step order replay)

  delivered : (p q : ℕ) (m : Message) (behind : List Message) → w.link p q ≡ m ∷ behind → GoesOnBy st order (delivers st w p q (m ∷ behind))
  delivered p q (Ask s c rest) behind first =
      quietly (delivers st w p q (Ask s c rest ∷ behind))
      (quiet_steps w (taken w p q (Ask s c rest) behind first) (delivers st w p q (Ask s c rest ∷ behind))
      (taken_quiet w p q (Ask s c rest) behind first (λ ms. refl))
      (part_quiet (taken w p q (Ask s c rest) behind first) q (received st q (Ask s c rest) (w.part q)) (goes_on-quiet st q s c 0 rest (w.part q))))
  delivered p q (Ready s) behind first =
      quietly (delivers st w p q (Ready s ∷ behind))
      (quiet_steps w (taken w p q (Ready s) behind first) (delivers st w p q (Ready s ∷ behind))
      (taken_quiet w p q (Ready s) behind first (λ ms. refl))
      (part_quiet (taken w p q (Ready s) behind first) q (received st q (Ready s) (w.part q)) (ready-quiet (w.part q) (set_for (w.part q).ready s true))))
  delivered p q (Done s news) behind first =
      stays_on (delivers st w p q (Done s news ∷ behind)) (copies_come st is w p q s news behind first copies) (replay_comes st is w p q s news behind first copies order replay)

  pub action_goes_on : IsExclusive st w → (action : Action) → MayHappen st w action → GoesOnBy st order (after st w action)
  action_goes_on apart (Admit a v) may = quietly (with_part w a (admitted st a v (w.part a))) (part_quiet w a (admitted st a v (w.part a)) (admitted-quiet st a v (w.part a)))
  action_goes_on apart (Grant a x) may = quietly (with_part w a (granted st a x (w.part a))) (part_quiet w a (granted st a x (w.part a)) (granted-quiet st a x (w.part a)))
  action_goes_on apart (Send p q) may =
      subst (λ ms. GoesOnBy st order (sends w p q ms)) (sym may.first) (quietly (sends w p q (may.message ∷ may.behind)) (sent_quiet w p q may.message may.behind may.first))
  action_goes_on apart (Deliver p q) may =
      subst (λ ms. GoesOnBy st order (delivers st w p q ms)) (sym may.first) (delivered p q may.message may.behind may.first)
  action_goes_on apart (Update s) may =
      let own = apart.owned s may.vertex (may.flight, may.ready) in
      let still : (p : ℕ) → done_near st may.vertex (way w p s.home.0) ≡ false = λ p. apart.done s may.vertex p (may.flight, may.ready) in
      subst (GoesOnBy st order) (sym (updates_is st w s may.vertex may.flight))
      (record {
        rest = Go s.home (record { 0 = may.vertex }) w.next ∷ [];
        copies = copies_updated st is w s may.vertex own.0 own.1 still copies order replay;
        replay = replay_made st is w s may.vertex own.0 own.1 still copies order replay may.task;
      })
  action_goes_on apart (Mark s) may =
      let own = apart.owned s may.vertex (may.flight, may.ready) in
      let still : (p : ℕ) → done_near st may.vertex (way w p s.home.0) ≡ false = λ p. apart.done s may.vertex p (may.flight, may.ready) in
      subst (GoesOnBy st order) (sym (marks_is st w s may.vertex may.flight))
      (stays_on (marks st w s (Some may.vertex)) (copies_marked st is w s may.vertex own.0 own.1 still copies order replay) (replay_marked st is w s may.vertex own.0 own.1 still copies order replay))
  action_goes_on apart Begin may = quietly (begins_one w) (record { datum = λ a. refl; edge = λ a. refl; task = λ a. refl; log = λ a. refl; next = refl; news = λ p q. refl })
  action_goes_on apart (Hear a) may =
      subst (λ ks. GoesOnBy st order (hears st w a ks)) (sym may.first)
      (quietly (hears st w a (may.number ∷ may.behind))
      (numbers_quiet w (hears st w a (may.number ∷ may.behind)) a (begins st a may.number (w.part a)) refl refl refl refl refl refl refl refl))
  action_goes_on apart (SendSection a) may =
      quietly (sends_section w a)
      (numbers_quiet w (sends_section w a) a (record (w.part a) { sent = (w.part a).known }) refl refl refl refl refl refl refl refl)
  action_goes_on apart (Collect a) may =
      subst (λ ms. GoesOnBy st order (collects w a ms)) (sym may.first)
      (quietly (collects w a (may.section ∷ may.behind)) (record { datum = λ b. refl; edge = λ b. refl; task = λ b. refl; log = λ b. refl; next = refl; news = λ p q. refl }))
  action_goes_on apart Record may = quietly (records w) (record { datum = λ a. refl; edge = λ a. refl; task = λ a. refl; log = λ a. refl; next = refl; news = λ p q. refl })

  -- an update that may happen is fresh
  pub update_fresh : IsExclusive st w → (s : ScopeId) (may : MayUpdate s (w.part s.home.0) w.left) → IsFresh st (replay_of st order) (w.part s.home.0) may.vertex
  update_fresh apart s may =
      let own = apart.owned s may.vertex (may.flight, may.ready) in
      fresh st is w s may.vertex own.0 own.1 (λ p. apart.done s may.vertex p (may.flight, may.ready)) copies order replay
