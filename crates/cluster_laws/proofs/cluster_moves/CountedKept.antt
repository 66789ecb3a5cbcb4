-- Each action leaves each machine with the number of its scopes in flight.
use Rattle.std.proofs.Common.{◌≡◌, ◌≢◌, ℕ, zero, suc, pred, ◌+◌, ◌<◌, ◌≤◌, ◌==◌, true, false, Option, None, Some, List, ◌∷◌, refl, sym, ◌∙◌, ap, subst, ⊎_elim, arith}
use Rattle.std.proofs.lemmas.Bool.{cases_eq, eq-eqb, ne_eqb, and_from, and_right}
use Rattle.gl_base.specs.declared.entries.Entry.TheVariants.{Go}
use Rattle.gl_base.specs.declared.scopes.ScopeId.{ScopeId}
use Rattle.cluster_laws.specs.cluster_core.Messages.{Message, Section}
use Rattle.cluster_laws.specs.cluster_core.Parts.{Part}
use Rattle.cluster_laws.specs.cluster_core.Ranges.{set_at}
use Rattle.cluster_laws.specs.cluster_core.Settings.{Setting, Engine, Locking}
use Rattle.cluster_laws.specs.cluster_core.Scopes.{is_scope, set_for}
use Rattle.cluster_laws.specs.cluster_core.Effects.{next_scope, in_flight, admitted, granted, received, begins, updated, marked}
use Rattle.cluster_laws.specs.cluster_core.Worlds.{World, with_part}
use Rattle.cluster_laws.specs.cluster_core.Actions.{Action, Admit, Grant, Send, Deliver, Update, Mark, Begin, Hear, SendSection, Collect, Record, MayHappen, IsItsTurn, after, sends, delivers, updates, marks, hears, collects}
use Rattle.cluster_laws.specs.cluster_core.Runs.{IsStart}
use Rattle.cluster_laws.specs.cluster_core.Stages.{Stage, Idle, Stays}
use Rattle.cluster_laws.specs.cluster_core.Places.{ArePlaces}
use Rattle.cluster_laws.proofs.cluster_core.Basics.{set_at-holds, set_for-holds}
use Rattle.cluster_laws.specs.cluster_moves.Due.{one_flying, flights_below, AreFlightsCounted}
use Rattle.cluster_laws.proofs.cluster_places.Seen.{staying_stage}
use Rattle.cluster_laws.proofs.cluster_moves.DueKept.{IsKept, admitted_kept, first_granted_kept, begins_kept, received_kept, none_some}

abbrev pub numbered : ℕ → ℕ → ScopeId
numbered a n = record { home = record { 0 = a }; serial = n }

flights-same : (a : ℕ) (old new : ScopeId → Option ℕ) (n : ℕ) → ((k : ℕ) → k < n → new (numbered a k) ≡ old (numbered a k)) → flights_below a new n ≡ flights_below a old n
flights-same a old new zero same = refl
flights-same a old new (suc n) same =
    let below = flights-same a old new n (λ k low. same k (omega arith)) in
    let here : one_flying (new (numbered a n)) ≡ one_flying (old (numbered a n)) = ap one_flying (same n (omega arith)) in
    λ i. below i + here i

pub flights-none : (a : ℕ) (flight : ScopeId → Option ℕ) (n : ℕ) → ((k : ℕ) → flight (numbered a k) ≡ None) → flights_below a flight n ≡ 0
flights-none a flight zero none = refl
flights-none a flight (suc n) none =
    let below = flights-none a flight n none in
    let here : one_flying (flight (numbered a n)) ≡ 0 = ap one_flying (none n) in
    omega (arith, below, here)

-- the scope of one number is none of another's
other_number : (s : ScopeId) (a k : ℕ) → k ≢ s.serial → is_scope (numbered a k) s ≡ false
other_number s a k off = and_right (a == s.home.0) (k == s.serial) (ne_eqb k s.serial off)

own_number : (s : ScopeId) (a k : ℕ) → s.home.0 ≡ a → k ≡ s.serial → is_scope (numbered a k) s ≡ true
own_number s a k home at = and_from (a == s.home.0) (k == s.serial) (eq-eqb a s.home.0 (sym home)) (eq-eqb k s.serial at)

-- below a number, a scope of that number or a higher one doesn't count
flights-above : (a : ℕ) (flight : ScopeId → Option ℕ) (s : ScopeId) (x : Option ℕ) (n : ℕ) → n ≤ s.serial → flights_below a (set_for flight s x) n ≡ flights_below a flight n
flights-above a flight s x n high =
    flights-same a flight (set_for flight s x) n (λ k low. let apart = other_number s a k (λ same. omega arith) in rw apart refl)

-- one scope less is in flight
flights-less : (a : ℕ) (flight : ScopeId → Option ℕ) (s : ScopeId) (v n : ℕ) → s.home.0 ≡ a → flight (numbered a s.serial) ≡ Some v → s.serial < n → flights_below a flight n ≡ suc (flights_below a (set_for flight s None) n)
flights-less a flight s v zero home flies low = absurd (omega arith)
flights-less a flight s v (suc n) home flies low =
    ⊎_elim
    (λ (at : n ≡ s.serial).
    let below = flights-above a flight s None n (omega arith) in
    let was : one_flying (flight (numbered a n)) ≡ 1 = ap one_flying (ap (λ (k : ℕ). flight (numbered a k)) at ∙ flies) in
    let own = own_number s a n home at in
    let gone : one_flying (set_for flight s None (numbered a n)) ≡ 0 = rw own refl in
    omega (arith, below, was, gone))
    (λ (off : n ≢ s.serial).
    let below = flights-less a flight s v n home flies (omega arith) in
    let apart = other_number s a n off in
    let same : one_flying (set_for flight s None (numbered a n)) ≡ one_flying (flight (numbered a n)) = rw apart refl in
    omega (arith, below, same))
    (cases_eq n s.serial)

-- one machine's count
pub record IsCountedIn (st : Setting) (a : ℕ) (part : Part) : Type 0 where
  pub number : part.flying ≡ flights_below a part.flight part.serial
  pub home : (s : ScopeId) (v : ℕ) → part.flight s ≡ Some v → s.home.0 ≡ a
  pub room : st.engine ≡ Locking → part.flying ≤ st.pipeline

kept_counted : (st : Setting) (a : ℕ) (old new : Part) → IsKept old new → IsCountedIn st a old → IsCountedIn st a new
kept_counted st a old new kept counted =
    record {
      number = kept.flying ∙ counted.number ∙ sym (flights-same a old.flight new.flight old.serial (λ k low. kept.flight (numbered a k))) ∙ ap (flights_below a new.flight) (sym kept.serial);
      home = λ s v flies. counted.home s v (sym (kept.flight s) ∙ flies);
      room = λ locks. subst (λ (n : ℕ). n ≤ st.pipeline) (sym kept.flying) (counted.room locks);
    }

begun_counted : (st : Setting) (a v : ℕ) (part : Part) → (st.engine ≡ Locking → part.flying < st.pipeline) → IsCountedIn st a part → IsCountedIn st a (in_flight a v part)
begun_counted st a v part turn counted =
    let next : ScopeId = next_scope a part in
    let below = flights-above a part.flight next (Some v) part.serial (omega arith) in
    let own = own_number next a part.serial refl refl in
    let one : one_flying (set_for part.flight next (Some v) (numbered a part.serial)) ≡ 1 = rw own refl in
    record {
      number = omega (arith, counted.number, below, one);
      home = set_for-holds (λ (s : ScopeId) (flight : Option ℕ). (u : ℕ) → flight ≡ Some u → s.home.0 ≡ a) part.flight next (Some v) (λ u flies. refl) (λ s apart u flies. counted.home s u flies);
      room = λ locks. turn locks;
    }

ended_counted : (st : Setting) (a : ℕ) (s : ScopeId) (v : ℕ) (old made : Part) → s.home.0 ≡ a → old.flight s ≡ Some v → s.serial < old.serial → made.flight ≡ set_for old.flight s None → made.flying ≡ pred old.flying → made.serial ≡ old.serial → IsCountedIn st a old → IsCountedIn st a made
ended_counted st a s v old made home flies low flight flying serial counted =
    let own : numbered a s.serial ≡ s = λ i. record { home = record { 0 = sym home i }; serial = s.serial } in
    let less = flights-less a old.flight s v old.serial home (ap old.flight own ∙ flies) low in
    let now : flights_below a made.flight made.serial ≡ flights_below a (set_for old.flight s None) old.serial = λ i. flights_below a (flight i) (serial i) in
    record {
      number = flying ∙ ap pred (counted.number ∙ less) ∙ sym now;
      home = λ t u is. set_for-holds (λ (t : ScopeId) (flight : Option ℕ). flight ≡ Some u → t.home.0 ≡ a) old.flight s None (λ none. absurd (none_some u none)) (λ t apart also. counted.home t u also) t (sym (λ i. flight i t) ∙ is);
      room = λ locks. subst (λ (n : ℕ). n ≤ st.pipeline) (sym flying) (pred_low old.flying st.pipeline (counted.room locks));
    }
  where
    pred_low : (n m : ℕ) → n ≤ m → pred n ≤ m
    pred_low zero m low = low
    pred_low (suc n) m low = omega arith

module _ (st : Setting) (w : World) (counted : AreFlightsCounted st w) where
  counted_at : (a : ℕ) → IsCountedIn st a (w.part a)
  counted_at a = record { number = counted.number a; home = counted.home a; room = λ locks. counted.room locks a }

  gathered : (other : World) → ((a : ℕ) → IsCountedIn st a (other.part a)) → AreFlightsCounted st other
  gathered other each = record { number = λ a. (each a).number; home = λ a. (each a).home; room = λ locks a. (each a).room locks }

  part_counted : (a : ℕ) (new : Part) → IsCountedIn st a new → AreFlightsCounted st (with_part w a new)
  part_counted a new here =
      gathered (with_part w a new) (λ b. set_at-holds (λ (b : ℕ) (part : Part). IsCountedIn st b part) w.part a new b here (λ off. counted_at b))

  same_counted : (a : ℕ) (new : Part) → IsKept (w.part a) new → AreFlightsCounted st (with_part w a new)
  same_counted a new kept = part_counted a new (kept_counted st a (w.part a) new kept (counted_at a))

  module _ (stage : ScopeId → Stage) (places : ArePlaces st w stage) where
    ready_low : (s : ScopeId) (v : ℕ) → (w.part s.home.0).flight s ≡ Some v → (w.part s.home.0).ready s ≡ true → s.serial < (w.part s.home.0).serial
    ready_low s v flight ready =
        let at = staying_stage st s (stage s) v (sym (places.shows s).flight ∙ flight) (sym (places.shows s).ready ∙ ready) in
        places.admitted s (λ idle. idle_stays (sym idle ∙ at))
      where
        idle_stays : Idle ≡ Stays v → ⊥
        idle_stays is = cc

    pub action_counted : (action : Action) → MayHappen st w action → AreFlightsCounted st (after st w action)
    action_counted (Admit a v) may =
        let begun : Part = in_flight a v (w.part a) in
        let turn : st.engine ≡ Locking → (w.part a).flying < st.pipeline = λ locks. subst (λ (engine : Engine). IsItsTurn engine st.pipeline v (w.part a)) locks may.turn in
        part_counted a (admitted st a v (w.part a)) (kept_counted st a begun (admitted st a v (w.part a)) (admitted_kept st.engine st a v (w.part a)) (begun_counted st a v (w.part a) turn (counted_at a)))
    action_counted (Grant a x) may = same_counted a (granted st a x (w.part a)) (first_granted_kept st a x ((w.part a).queue x) (w.part a))
    action_counted (Send p q) may =
        let shorter : Part = record (w.part p) { out = set_at (w.part p).out q may.behind } in
        let kept = same_counted p shorter (record { flight = λ s. refl; pending = λ u is. is; task = λ u is. is; flying = refl; serial = refl }) in
        let sent : AreFlightsCounted st (sends w p q (may.message ∷ may.behind)) = record { number = kept.number; home = kept.home; room = kept.room } in
        subst (λ (messages : List Message). AreFlightsCounted st (sends w p q messages)) (sym may.first) sent
    action_counted (Deliver p q) may =
        let kept = same_counted q (received st q may.message (w.part q)) (received_kept st q may.message (w.part q)) in
        let delivered : AreFlightsCounted st (delivers st w p q (may.message ∷ may.behind)) = record { number = kept.number; home = kept.home; room = kept.room } in
        subst (λ (messages : List Message). AreFlightsCounted st (delivers st w p q messages)) (sym may.first) delivered
    action_counted (Update s) may =
        let part : Part = w.part s.home.0 in
        let made : Part = updated st s.home.0 s may.vertex (Go s.home (record { 0 = may.vertex }) w.next) part in
        let kept = part_counted s.home.0 made (ended_counted st s.home.0 s may.vertex part made refl may.flight (ready_low s may.vertex may.flight may.ready) refl refl refl (counted_at s.home.0)) in
        let made_it : AreFlightsCounted st (updates st w s (Some may.vertex)) = record { number = kept.number; home = kept.home; room = kept.room } in
        subst (λ (flight : Option ℕ). AreFlightsCounted st (updates st w s flight)) (sym may.flight) made_it
    action_counted (Mark s) may =
        let part : Part = w.part s.home.0 in
        let made : Part = marked st s.home.0 s may.vertex part in
        let kept : AreFlightsCounted st (marks st w s (Some may.vertex)) =
        part_counted s.home.0 made (ended_counted st s.home.0 s may.vertex part made refl may.flight (ready_low s may.vertex may.flight may.ready) refl refl refl (counted_at s.home.0)) in
        subst (λ (flight : Option ℕ). AreFlightsCounted st (marks st w s flight)) (sym may.flight) kept
    action_counted Begin may = record { number = counted.number; home = counted.home; room = counted.room }
    action_counted (Hear a) may =
        let kept = same_counted a (begins st a may.number (w.part a)) (begins_kept st a may.number (w.part a)) in
        let heard : AreFlightsCounted st (hears st w a (may.number ∷ may.behind)) = record { number = kept.number; home = kept.home; room = kept.room } in
        subst (λ (orders : List ℕ). AreFlightsCounted st (hears st w a orders)) (sym may.first) heard
    action_counted (SendSection a) may =
        let kept = same_counted a (record (w.part a) { sent = (w.part a).known }) (record { flight = λ s. refl; pending = λ u is. is; task = λ u is. is; flying = refl; serial = refl }) in
        record { number = kept.number; home = kept.home; room = kept.room }
    action_counted (Collect a) may =
        let collected : AreFlightsCounted st (collects w a (may.section ∷ may.behind)) = record { number = counted.number; home = counted.home; room = counted.room } in
        subst (λ (sections : List Section). AreFlightsCounted st (collects w a sections)) (sym may.first) collected
    action_counted Record may = record { number = counted.number; home = counted.home; room = counted.room }

pub start_counted : (st : Setting) (w : World) → IsStart st w → AreFlightsCounted st w
start_counted st w start =
    record {
      number = λ a. start.flying a ∙ sym (flights-none a (w.part a).flight (w.part a).serial (λ k. start.flights a (numbered a k)));
      home = λ a s v flies. absurd (none_some v (sym (start.flights a s) ∙ flies));
      room = λ locks a. omega (arith, start.flying a);
    }
