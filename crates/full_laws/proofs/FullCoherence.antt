-- Whatever happens from a start on, the cluster stays coherent.
use Rattle.std.proofs.Common.{◌≡◌, ◌↔◌, ℕ, ◌<◌, true, false, None, is_some, List, [], ◌∷◌, ◌++◌, refl, sym, ◌∙◌, ap, subst, ⊎_elim, inl, true≢false, rules}
use Rattle.std.specs.Prelude.{nat_lt}
use Rattle.std.specs.List.{AllByRecursion, list_any}
use Rattle.std.proofs.lemmas.Bool.{both_ways}
use Rattle.gl_base.specs.declared.scopes.ScopeId.{ScopeId}
use Rattle.graph_core.specs.DataGraph.{size}
use Rattle.cluster_laws.specs.cluster_core.Parts.{Part}
use Rattle.cluster_laws.specs.cluster_core.Places.{ArePlaces}
use Rattle.cluster_laws.specs.cluster_core.Settings.{IsSetting, Setting, is_in_scope}
use Rattle.cluster_laws.specs.cluster_core.Stages.{Idle, Stays, flying, sight_of}
use Rattle.cluster_laws.specs.cluster_core.Worlds.{World}
use Rattle.cluster_laws.proofs.cluster_numbers.Passing.{none_not_some}
use Rattle.cluster_laws.proofs.cluster_places.Seen.{flying_seen, staying_stage}
use Rattle.full_scope.specs.FullOrders.{full_replay, full_tasks_after}
use Rattle.full_scope.specs.FullStates.{AgreeAround}
use Rattle.full_scope.specs.FullUpdates.{FullUpdate}
use Rattle.full_laws.specs.FullActions.{FullAction, MayUpdateFull, after_action}
use Rattle.full_laws.specs.FullEffects.{lent_full}
use Rattle.full_laws.specs.FullMessages.{FullMessage, Gift, gifts_of}
use Rattle.full_laws.specs.FullPlaces.{bare_stand, to_gather}
use Rattle.full_laws.specs.FullReplays.{IsFullCoherent, gifts_from}
use Rattle.full_laws.specs.FullRuns.{IsAllGiven, IsFullRun, IsFullStart}
use Rattle.full_laws.specs.FullWorlds.{FullWorld}
use Rattle.full_laws.specs.Items.{IsItem, Item, keeps, number_in}
use Rattle.full_laws.proofs.FromPlaces.{locks_given, shows_as, some_if-is, stages_are}
use Rattle.full_laws.proofs.FullKeeping.{IsKept, action_keeps}
use Rattle.full_laws.proofs.FullMaking.{agree}
use Rattle.full_laws.proofs.Gathering.{gathered_is}
use Rattle.full_laws.proofs.Mirrors.{SameWay}
use Rattle.full_laws.proofs.MirrorSteps.{ArePlaced, locking}

-- ---- the start

-- a part with nothing under way
abbrev idle_part : ℕ → ℕ → Part
idle_part serial flying =
    record {
      datum = λ v. record { value = 0; version = 0; mark = 0 };
      edge = λ e. 0;
      task = λ u. false;
      log = [];
      serial = serial;
      flying = flying;
      flight = λ s. None;
      stand = λ s. None;
      ready = λ s. false;
      holder = λ x s. None;
      queue = λ x. [];
      pending = λ u. false;
      known = 0;
      saved = record { vertices = λ v. None; edges = λ e. None };
      sent = 0;
      colour = 0;
      closed = false;
      out = λ q. [];
    }

abbrev idle_world : FullWorld → World
idle_world w =
    record {
      part = λ a. idle_part (w.part a).serial (w.part a).flying;
      link = λ p q. [];
      next = 0;
      left = 0;
      begun = 0;
      acknowledged = 0;
      orders = λ a. [];
      reports = λ a. [];
      collected = λ a. None;
    }

idle_places : (st : Setting) (w : FullWorld) → ArePlaces st (idle_world w) (λ s. Idle)
idle_places st w =
    record {
      shows = λ s. record { flight = refl; ready = refl; stand = λ a. refl; holder = λ x. refl; queue = λ x. refl; tokens = λ p q. refl };
      stages = λ s. tt;
      admitted = λ s busy. absurd (busy refl);
      single = λ s t v flies also. cc;
      alone = λ s t x centre has also. absurd (both_ways false refl has);
    }

empty_way : (st : Setting) (q : ℕ) (fs : List FullMessage) → fs ≡ [] → SameWay st q [] fs
empty_way st q fs none = subst (SameWay st q []) (sym none) refl

empty_front : {X : Type 0} (xs ys : List X) → xs ++ ys ≡ [] → xs ≡ []
empty_front [] ys none = refl
empty_front (x ∷ xs) ys none = cc

empty_back : {X : Type 0} (xs ys : List X) → xs ++ ys ≡ [] → ys ≡ []
empty_back [] ys none = none
empty_back (x ∷ xs) ys none = cc

module _ (st : Setting) (is : IsSetting st) (p : FullUpdate) (w : FullWorld) (start : IsFullStart st p w) where
  links_empty : (a q : ℕ) → w.link a q ≡ []
  links_empty a q = empty_front (w.link a q) ((w.part a).out q) (start.silent a q)

  outs_empty : (a q : ℕ) → (w.part a).out q ≡ []
  outs_empty a q = empty_back (w.link a q) ((w.part a).out q) (start.silent a q)

  start_placed : ArePlaced st w
  start_placed =
      record {
        core = idle_world w;
        stage = λ s. Idle;
        mirrors = record {
          parts = λ a. record {
            flight = λ s. sym (start.flights a s);
            ready = λ s. sym (ap is_some (start.ready a s));
            stand = λ s. sym (ap bare_stand (start.stands a s));
            holder = λ x s. sym (start.holders a x s);
            queue = λ x. sym (start.queues a x);
            out = λ q. empty_way st q ((w.part a).out q) (outs_empty a q);
            serial = refl;
            flying = refl;
          };
          links = λ a q. empty_way st q (w.link a q) (links_empty a q);
        };
        places = idle_places (locking st) w;
      }

  nothing_given : (a q : ℕ) → gifts_from w a q ≡ []
  nothing_given a q = ap gifts_of (start.silent a q)

  pub start_kept : IsKept st p w
  start_kept =
      record {
        placed = start_placed;
        order = [];
        holders = λ a x s t its also. absurd (both_ways ((w.part a).holds x s) (start.holders a x s) its);
        own = λ a x s its. absurd (both_ways ((w.part a).holds x s) (start.holders a x s) its);
        flights = λ s v flies. absurd (none_not_some v (sym (start.flights s.home.0 s) ∙ flies));
        gathered = record {
          parts = λ a. record {
            out = λ q. subst (AllByRecursion _) (sym (outs_empty a q)) tt;
            stands = λ t stand stood. absurd (none_not_some stand (sym (start.stands a t) ∙ stood));
            ready = λ t seen home is_ready. absurd (none_not_some seen (sym (start.ready a t) ∙ is_ready));
          };
          links = λ a q. subst (AllByRecursion _) (sym (links_empty a q)) tt;
        };
        replay = record {
          valid = tt;
          logs = start.logs;
          tickets = tt;
          drawn = start.next;
          owners = tt;
          numbers = λ i a low kept. record {
            given = λ q. subst (AllByRecursion _) (sym (nothing_given q a)) tt;
            else_here = λ none. start.numbers i a low kept;
          };
          tasks = λ u low. ((λ task. inl (start.tasks u low)), (λ task. is_vertex u (size st.graph) low));
        };
      }
    where
      is_vertex : (u n : ℕ) → u < n → nat_lt u n ≡ true
      is_vertex u n low = search (rules, low)

-- ---- every list of actions

pub run_kept : (st : Setting) → IsSetting st → (p : FullUpdate) (actions : List FullAction) (old new : FullWorld) → IsKept st p old → IsFullRun st p old actions new → IsKept st p new
run_kept st is p [] old new kept run = subst (IsKept st p) (sym run) kept
run_kept st is p (action ∷ actions) old new kept run =
    run_kept st is p actions (after_action st p old action) new (action_keeps st is p old kept action run.0) run.1

-- ---- what follows

pub coherent : (st : Setting) (p : FullUpdate) (w : FullWorld) → IsKept st p w → IsFullCoherent st p w
coherent st p w kept =
    record {
      stage = kept.placed.stage;
      order = kept.order;
      holders = kept.holders;
      own = kept.own;
      given = locks_given st w kept.placed kept.own;
      places = record {
        shows = λ s. shows_as st w kept.placed s (kept.placed.stage s) refl;
        stages = stages_are st w kept.placed;
        admitted = λ s busy. subst (λ (n : ℕ). s.serial < n) (kept.placed.mirrors.parts s.home.0).serial (kept.placed.places.admitted s busy);
        single = kept.placed.places.single;
        tasks = λ s v flies. kept.flights s v ((shows_as st w kept.placed s (kept.placed.stage s) refl).flight ∙ flying_seen st s (kept.placed.stage s) ∙ flies);
      };
      gathered = gathered_is (to_gather st w) w kept.gathered;
      replay = kept.replay;
    }

pub start_law : (st : Setting) → IsSetting st → (p : FullUpdate) (w : FullWorld) → IsFullStart st p w → (kept : IsFullCoherent st p w) × (kept.order ≡ [])
unfolding coherent start_kept
start_law st is p w start = (coherent st p w (start_kept st is p w start), refl)

pub fresh_law : (st : Setting) → IsSetting st → (p : FullUpdate) (w : FullWorld) → IsKept st p w →
    (kept : IsFullCoherent st p w) × ((s : ScopeId) (may : MayUpdateFull s (w.part s.home.0) w.left) → AgreeAround st.graph (lent_full may.seen (w.part s.home.0)) (full_replay st.graph p kept.order) may.vertex)
unfolding coherent
fresh_law st is p w kept = (
  coherent st p w kept,
  λ s may. agree st is p w kept.placed kept.holders kept.gathered kept.order kept.replay s may.vertex may.seen may.flight may.ready,
)

module _ (st : Setting) (p : FullUpdate) (w : FullWorld) (kept : IsFullCoherent st p w) where
  ready_holds : (s : ScopeId) (may : MayUpdateFull s (w.part s.home.0) w.left) (x : ℕ) → is_in_scope st may.vertex x ≡ true → (w.part (st.owner x)).holds x s ≡ true
  ready_holds s may x scoped =
      let h = kept.places.shows s in
      let stays : kept.stage s ≡ Stays may.vertex = staying_stage st s (kept.stage s) may.vertex (sym h.flight ∙ may.flight) (sym h.ready ∙ ap is_some may.ready) in
      h.holds x ∙ ap (λ y. is_some ((sight_of st s y).holder x)) stays ∙ some_if-is (is_in_scope st may.vertex x) _ ∙ scoped

  pub apart_law : (s t : ScopeId) (one : MayUpdateFull s (w.part s.home.0) w.left) (other : MayUpdateFull t (w.part t.home.0) w.left) (x : ℕ) → is_in_scope st one.vertex x ≡ true → is_in_scope st other.vertex x ≡ true → s ≡ t
  apart_law s t one other x scoped also = kept.holders (st.owner x) x s t (ready_holds s one x scoped) (ready_holds t other x also)

  pub numbers_law : IsAllGiven w → (i : Item) (a : ℕ) → IsItem st.graph i → keeps st a i ≡ true → (w.part a).number i ≡ number_in (full_replay st.graph p kept.order) i
  numbers_law given i a low keep = (kept.replay.numbers i a low keep).else_here (λ q. subst (AllByRecursion _) (sym (given q a)) tt)

  pub tasks_law : IsAllGiven w → (u : ℕ) → u < size st.graph → (full_tasks_after st.graph p kept.order u ≡ true) ↔ ((w.part (st.owner u)).task u ≡ true)
  tasks_law given u low = (
    (λ task. ⊎_elim
        (λ (here : (w.part (st.owner u)).task u ≡ true). here)
        (λ (coming : (q : ℕ) × (list_any (λ (gift : Gift). gift.wakes u) (gifts_from w q (st.owner u)) ≡ true)).
        absurd (true≢false (sym coming.1 ∙ ap (list_any (λ (gift : Gift). gift.wakes u)) (given coming.0 (st.owner u)))))
        ((kept.replay.tasks u low).0 task)),
    (λ here. (kept.replay.tasks u low).1 (inl here)),
  )
