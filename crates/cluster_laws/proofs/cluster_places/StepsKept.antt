-- In a step scopes exclude one another, and each action keeps the cluster in the step.
use Rattle.std.proofs.Common.{◌≡◌, ◌≢◌, ◌⊎◌, ℕ, suc, ◌<◌, ◌==◌, ◌&&◌, not, Bool, true, false, if◌then◌else◌, Option, None, Some, List, [], ◌∷◌, ◌++◌, refl, sym, ◌∙◌, ap, subst, ⊎_elim, inl, inr, All}
use Rattle.std.specs.List.{AllByRecursion, list_any}
use Rattle.std.proofs.lemmas.Bool.{eqb-true, and_parts, or_cases, both_ways, false_from_ne_true}
use Rattle.std.proofs.lemmas.List.Elements.{All-head, All-tail}
use Rattle.gl_base.specs.declared.entries.Entry.{Entry}
use Rattle.gl_base.specs.declared.entries.Entry.TheVariants.{Go}
use Rattle.gl_base.specs.declared.scopes.Claim.{Claim}
use Rattle.gl_base.specs.declared.scopes.ScopeId.{ScopeId}
use Rattle.graph_core.specs.DataGraph.{DataEdge, size}
use Rattle.graph_core.specs.Colourings.{joins}
use Rattle.cluster_laws.specs.cluster_core.Messages.{Message, News, Section, Ask, Ready, Done}
use Rattle.cluster_laws.specs.cluster_core.Parts.{Part, Stand}
use Rattle.cluster_laws.specs.cluster_core.Settings.{Setting, Engine, Chromatic, is_near}
use Rattle.cluster_laws.specs.cluster_core.Scopes.{set_for, takes_part, own_from}
use Rattle.cluster_laws.specs.cluster_core.Effects.{posts, goes_away, asks_for, goes_on, next_scope, admitted, admitted_by, moves_on, takes_lock, first_granted, granted, begins, tell, updated, marked, news_for, mark_news, received}
use Rattle.cluster_laws.specs.cluster_core.Worlds.{World, with_part, way}
use Rattle.cluster_laws.specs.cluster_core.Actions.{Action, Admit, Grant, Send, Deliver, Update, Mark, Begin, Hear, SendSection, Collect, Record, MayHappen, IsItsTurn, after, sends, delivers, updates, marks, hears, collects, draws}
use Rattle.cluster_laws.specs.cluster_core.Places.{IsExclusive, done_near}
use Rattle.cluster_laws.proofs.cluster_core.Basics.{set_at-cases, set_at-holds, set_for-holds}
use Rattle.cluster_laws.proofs.cluster_core.Taking.{taken, taken-here, taken-there, same_way, shorter, sent-way}
use Rattle.cluster_laws.specs.cluster_places.Steps.{AreApart, IsOfColour, IsInStep}

-- ---- exclusion

edge_apart : (colour : ℕ → ℕ) (v u : ℕ) (edges : List DataEdge) → All (λ e. colour e.from ≢ colour e.to) edges → list_any (joins v u) edges ≡ true → colour v ≡ colour u → ⊥
edge_apart colour v u [] apart near same = both_ways false refl near
edge_apart colour v u (e ∷ edges) apart near same =
    ⊎_elim
    (λ (here : joins v u e ≡ true). ⊎_elim
    (λ (one : (e.from == v && e.to == u) ≡ true).
    let h = and_parts (e.from == v) (e.to == u) one in
    All-head (λ e. colour e.from ≢ colour e.to) e edges apart (ap colour (eqb-true e.from v h.0) ∙ same ∙ sym (ap colour (eqb-true e.to u h.1))))
    (λ (one : (e.from == u && e.to == v) ≡ true).
    let h = and_parts (e.from == u) (e.to == v) one in
    All-head (λ e. colour e.from ≢ colour e.to) e edges apart (ap colour (eqb-true e.from u h.0) ∙ sym same ∙ sym (ap colour (eqb-true e.to v h.1))))
    (or_cases (e.from == v && e.to == u) (e.from == u && e.to == v) here))
    (λ (rest : list_any (joins v u) edges ≡ true). edge_apart colour v u edges (All-tail (λ e. colour e.from ≢ colour e.to) e edges apart) rest same)
    (or_cases (joins v u e) (list_any (joins v u) edges) near)

module _ (st : Setting) (colour : ℕ → ℕ) (step : ℕ) (apart : AreApart st colour) where
  none_near : (v : ℕ) → colour v ≡ step → (messages : List Message) → AllByRecursion (IsOfColour colour step) messages → done_near st v messages ≡ true → ⊥
  none_near v is [] all told = both_ways false refl told
  none_near v is (Ask s c rest ∷ messages) all told = none_near v is messages all.1 told
  none_near v is (Ready s ∷ messages) all told = none_near v is messages all.1 told
  none_near v is (Done s news ∷ messages) all told =
      ⊎_elim
      (λ (here : is_near st v news.centre ≡ true). edge_apart colour v news.centre st.graph.edges apart here (is ∙ sym all.0))
      (λ (later : done_near st v messages ≡ true). none_near v is messages all.1 later)
      (or_cases (is_near st v news.centre) (done_near st v messages) told)

  pub step_excludes : (w : World) → IsInStep st colour step w → IsExclusive st w
  step_excludes w in_step =
      record {
        owned = λ s v ready. let h = in_step.flights s v ready.0 in (h.0, h.1);
        ready = λ s t v u one other. false_from_ne_true (is_near st v u) (λ near. edge_apart colour v u st.graph.edges apart near ((in_step.flights s v one.0).2 ∙ sym (in_step.flights t u other.0).2));
        done = λ s v p ready. false_from_ne_true (done_near st v (way w p s.home.0)) (λ told. none_near v (in_step.flights s v ready.0).2 (way w p s.home.0) (in_step.news p s.home.0) told);
      }

-- ---- lists of messages

module _ (P : Message → Type 0) where
  all_join : (xs ys : List Message) → AllByRecursion P xs → AllByRecursion P ys → AllByRecursion P (xs ++ ys)
  all_join [] ys one other = other
  all_join (x ∷ xs) ys one other = (one.0, all_join xs ys one.1 other)

  all_front : (xs ys : List Message) → AllByRecursion P (xs ++ ys) → AllByRecursion P xs
  all_front [] ys all = tt
  all_front (x ∷ xs) ys all = (all.0, all_front xs ys all.1)

  all_back : (xs ys : List Message) → AllByRecursion P (xs ++ ys) → AllByRecursion P ys
  all_back [] ys all = all
  all_back (x ∷ xs) ys all = all_back xs ys all.1

  all_push : (xs : List Message) (m : Message) → AllByRecursion P xs → P m → AllByRecursion P (xs ++ m ∷ [])
  all_push xs m all here = all_join xs (m ∷ []) all (here, tt)

some_same : (v u : ℕ) → Some v ≡ Some u → v ≡ u
some_same v u is = cc

none_some : (v : ℕ) → None ≡ Some v → ⊥
none_some v is = cc

-- ---- a machine's part in a step

module _ (st : Setting) (colour : ℕ → ℕ) (step : ℕ) where
  abbrev Fits : ℕ → ℕ → Type 0
  Fits a v = (v < size st.graph) × (st.owner v ≡ a) × (colour v ≡ step)

  -- scopes that were not in flight have vertices of the step, and so have updates that are told of
  record StaysIn (a : ℕ) (old new : Part) : Type 0 where
    closed : new.closed ≡ old.closed
    at : new.colour ≡ old.colour
    flights : (s : ScopeId) (v : ℕ) → new.flight s ≡ Some v → (old.flight s ≡ Some v) ⊎ Fits a v
    out : (q : ℕ) → AllByRecursion (IsOfColour colour step) (old.out q) → AllByRecursion (IsOfColour colour step) (new.out q)

  abbrev Told : List Message → Type 0
  Told messages = AllByRecursion (IsOfColour colour step) messages

  stays_again : (a : ℕ) (part : Part) → StaysIn a part part
  stays_again a part = record { closed = refl; at = refl; flights = λ s v is. inl is; out = λ q all. all }

  stays_then : (a : ℕ) (one two three : Part) → StaysIn a one two → StaysIn a two three → StaysIn a one three
  stays_then a one two three first then_ =
      record {
        closed = then_.closed ∙ first.closed;
        at = then_.at ∙ first.at;
        flights = λ s v is. ⊎_elim (λ (was : two.flight s ≡ Some v). first.flights s v was) (λ (fits : Fits a v). inr fits) (then_.flights s v is);
        out = λ q all. then_.out q (first.out q all);
      }

  -- a request and word of locks tell of no update
  put_stays : (a b : ℕ) (m : Message) (part : Part) → IsOfColour colour step m → StaysIn a part (posts b m part)
  put_stays a b m part fits =
      record {
        closed = refl;
        at = refl;
        flights = λ s v is. inl is;
        out = λ q all. set_at-cases Told part.out b (part.out b ++ m ∷ []) q
            (λ here. all_push (IsOfColour colour step) (part.out b) m (subst (λ (c : ℕ). Told (part.out c)) here all) fits)
            (λ off. all);
      }

  home_stays : (a : ℕ) (s : ScopeId) (test : Bool) (part : Part) → StaysIn a part (if test then record part { ready = set_for part.ready s true } else posts s.home.0 (Ready s) part)
  home_stays a s true part = record { closed = refl; at = refl; flights = λ s v is. inl is; out = λ q all. all }
  home_stays a s false part = put_stays a s.home.0 (Ready s) part tt

  asks_for_stays : (a : ℕ) (s : ScopeId) (v : ℕ) (rest : List ℕ) (first : Option ℕ) (part : Part) → StaysIn a part (asks_for a s v rest first part)
  asks_for_stays a s v rest (Some x) part = record { closed = refl; at = refl; flights = λ s v is. inl is; out = λ q all. all }
  asks_for_stays a s v (b ∷ rest) None part =
      let gone : Part = record part { stand = set_for part.stand s None } in
      stays_then a part gone (posts b (Ask s v rest) gone) (record { closed = refl; at = refl; flights = λ s v is. inl is; out = λ q all. all }) (put_stays a b (Ask s v rest) gone tt)
  asks_for_stays a s v [] None part =
      let gone : Part = record part { stand = set_for part.stand s None } in
      stays_then a part gone (goes_away a s v [] gone) (record { closed = refl; at = refl; flights = λ s v is. inl is; out = λ q all. all }) (home_stays a s (s.home.0 == a) gone)

  goes_on_stays : (a : ℕ) (s : ScopeId) (v k : ℕ) (rest : List ℕ) (part : Part) → StaysIn a part (goes_on st a s v k rest part)
  goes_on_stays a s v k rest part = asks_for_stays a s v rest (own_from st v a k) part

  moves_on_stays : (a x : ℕ) (c : Claim) (stand : Option Stand) (part : Part) → StaysIn a part (moves_on st a x c stand part)
  moves_on_stays a x c None part = stays_again a part
  moves_on_stays a x c (Some stand) part = goes_on_stays a c.scope stand.centre (suc x) stand.rest part

  first_granted_stays : (a x : ℕ) (claims : List Claim) (part : Part) → StaysIn a part (first_granted st a x claims part)
  first_granted_stays a x [] part = stays_again a part
  first_granted_stays a x (c ∷ claims) part =
      let locked : Part = takes_lock x c claims part in
      stays_then a part locked (moves_on st a x c (part.stand c.scope) locked) (record { closed = refl; at = refl; flights = λ s v is. inl is; out = λ q all. all }) (moves_on_stays a x c (part.stand c.scope) locked)

  received_stays : (a : ℕ) (m : Message) (part : Part) → StaysIn a part (received st a m part)
  received_stays a (Ask s v rest) part = goes_on_stays a s v 0 rest part
  received_stays a (Ready s) part = record { closed = refl; at = refl; flights = λ s v is. inl is; out = λ q all. all }
  received_stays a (Done s news) part = record { closed = refl; at = refl; flights = λ s v is. inl is; out = λ q all. all }

  admitted_stays : (colours a v : ℕ) (part : Part) → Fits a v → StaysIn a part (admitted_by (Chromatic colour colours) st a v part)
  admitted_stays colours a v part fits =
      record {
        closed = refl;
        at = refl;
        flights = set_for-holds
            (λ (s : ScopeId) (flight : Option ℕ). (u : ℕ) → flight ≡ Some u → (part.flight s ≡ Some u) ⊎ Fits a u)
            part.flight (next_scope a part) (Some v)
            (λ u is. inr (subst (Fits a) (some_same v u is) fits))
            (λ s apart u is. inl is);
        out = λ q all. all;
      }

  -- a scope of v ends, and others are told of it
  told_if : (s : ScopeId) (news : News) (test : Bool) (messages : List Message) → colour news.centre ≡ step → Told messages → Told (if test then messages ++ Done s news ∷ [] else messages)
  told_if s news true messages is all = all_push (IsOfColour colour step) messages (Done s news) all is
  told_if s news false messages is all = all

  ended_stays : (a : ℕ) (s : ScopeId) (v : ℕ) (news : ℕ → News) (old made : Part) → made.closed ≡ old.closed → made.colour ≡ old.colour → made.flight ≡ set_for old.flight s None → made.out ≡ tell st a v s news old.out → ((q : ℕ) → colour (news q).centre ≡ step) → StaysIn a old made
  ended_stays a s v news old made closed at flight out centres =
      record {
        closed = closed;
        at = at;
        flights = λ t u is. set_for-holds
            (λ (t : ScopeId) (flight : Option ℕ). (u : ℕ) → flight ≡ Some u → (old.flight t ≡ Some u) ⊎ Fits a u)
            old.flight s None
            (λ u is. absurd (none_some u is))
            (λ t apart u is. inl is)
            t u (sym (λ i. flight i t) ∙ is);
        out = λ q all. subst Told (sym (λ i. out i q)) (told_if s (news q) (takes_part st v q && not (q == a)) (old.out q) (centres q) all);
      }

  -- ---- the cluster

  with_part_stays : (w : World) (a : ℕ) (new : Part) → StaysIn a (w.part a) new → IsInStep st colour step w → IsInStep st colour step (with_part w a new)
  with_part_stays w a new stays in_step =
      record {
        machines = λ b. set_at-cases (λ (part : Part). part.closed ≡ false → part.colour ≡ step) w.part a new b
            (λ here open_. stays.at ∙ in_step.machines a (sym stays.closed ∙ open_))
            (λ off. in_step.machines b);
        flights = λ s v. set_at-cases (λ (part : Part). part.flight s ≡ Some v → Fits s.home.0 v) w.part a new s.home.0
            (λ here is. ⊎_elim
            (λ (was : (w.part a).flight s ≡ Some v). in_step.flights s v (subst (λ (b : ℕ). (w.part b).flight s ≡ Some v) (sym here) was))
            (λ (fits : Fits a v). subst (λ (b : ℕ). Fits b v) (sym here) fits)
            (stays.flights s v is))
            (λ off. in_step.flights s v);
        news = λ p q. set_at-holds (λ (p : ℕ) (part : Part). Told (w.link p q ++ part.out q)) w.part a new p
            (all_join (IsOfColour colour step) (w.link a q) (new.out q)
            (all_front (IsOfColour colour step) (w.link a q) ((w.part a).out q) (in_step.news a q))
            (stays.out q (all_back (IsOfColour colour step) (w.link a q) ((w.part a).out q) (in_step.news a q))))
            (λ off. in_step.news p q);
      }

  by_parts : (one other : World) → other.part ≡ one.part → other.link ≡ one.link → IsInStep st colour step one → IsInStep st colour step other
  by_parts one other parts links in_step =
      record {
        machines = λ a. subst (λ (part : ℕ → Part). (part a).closed ≡ false → (part a).colour ≡ step) (sym parts) (in_step.machines a);
        flights = λ s v. subst (λ (part : ℕ → Part). (part s.home.0).flight s ≡ Some v → Fits s.home.0 v) (sym parts) (in_step.flights s v);
        news = λ p q. subst Told (λ i. sym links i p q ++ (sym parts i p).out q) (in_step.news p q);
      }

  taken_stays : (w : World) (p q : ℕ) (m : Message) (behind : List Message) (first : w.link p q ≡ m ∷ behind) → IsInStep st colour step w → IsInStep st colour step (taken w p q m behind first)
  taken_stays w p q m behind first in_step =
      let now : World = taken w p q m behind first in
      record {
        machines = in_step.machines;
        flights = in_step.flights;
        news = λ p' q'. ⊎_elim
            (λ (same : (p' ≡ p) × (q' ≡ q)).
            let whole : Told (m ∷ way now p q) = subst Told (taken-here w p q m behind first) (in_step.news p q) in
            subst Told (λ i. way now (sym same.0 i) (sym same.1 i)) whole.1)
            (λ (off : (p' ≢ p) ⊎ (q' ≢ q)). subst Told (sym (taken-there w p q m behind first p' q' off)) (in_step.news p' q'))
            (same_way p q p' q');
      }

  sent_stays : (w : World) (p q : ℕ) (m : Message) (behind : List Message) (first : (w.part p).out q ≡ m ∷ behind) → IsInStep st colour step w → IsInStep st colour step (sends w p q (m ∷ behind))
  sent_stays w p q m behind first in_step =
      let less : Part = shorter w p q m behind first in
      record {
        machines = λ a. set_at-cases (λ (part : Part). part.closed ≡ false → part.colour ≡ step) w.part p less a
            (λ here. in_step.machines p) (λ off. in_step.machines a);
        flights = λ s v. set_at-cases (λ (part : Part). part.flight s ≡ Some v → Fits s.home.0 v) w.part p less s.home.0
            (λ here. subst (λ (b : ℕ). (w.part b).flight s ≡ Some v → Fits s.home.0 v) here (in_step.flights s v)) (λ off. in_step.flights s v);
        news = λ p' q'. subst Told (sym (sent-way w p q m behind first p' q')) (in_step.news p' q');
      }

  module _ (colours : ℕ) (coloured : st.engine ≡ Chromatic colour colours) (w : World) (in_step : IsInStep st colour step w) where
    pub action_stays : (action : Action) → MayHappen st w action → IsInStep st colour step (after st w action)
    action_stays (Admit a v) may =
        let turn : (colour v ≡ (w.part a).colour) × ((w.part a).closed ≡ false) = subst (λ (engine : Engine). IsItsTurn engine st.pipeline v (w.part a)) coloured may.turn in
        let is_so : admitted st a v (w.part a) ≡ admitted_by (Chromatic colour colours) st a v (w.part a) = ap (λ (engine : Engine). admitted_by engine st a v (w.part a)) coloured in
        subst (λ (part : Part). IsInStep st colour step (with_part w a part)) (sym is_so)
        (with_part_stays w a (admitted_by (Chromatic colour colours) st a v (w.part a)) (admitted_stays colours a v (w.part a) (may.vertex, may.owned, turn.0 ∙ in_step.machines a turn.1)) in_step)
    action_stays (Grant a x) may = with_part_stays w a (granted st a x (w.part a)) (first_granted_stays a x ((w.part a).queue x) (w.part a)) in_step
    action_stays (Send p q) may =
        subst (λ (messages : List Message). IsInStep st colour step (sends w p q messages)) (sym may.first) (sent_stays w p q may.message may.behind may.first in_step)
    action_stays (Deliver p q) may =
        let now : World = taken w p q may.message may.behind may.first in
        subst (λ (messages : List Message). IsInStep st colour step (delivers st w p q messages)) (sym may.first)
        (with_part_stays now q (received st q may.message (w.part q)) (received_stays q may.message (w.part q)) (taken_stays w p q may.message may.behind may.first in_step))
    action_stays (Update s) may =
        let part : Part = w.part s.home.0 in
        let entry : Entry = Go s.home (record { 0 = may.vertex }) w.next in
        let made : Part = updated st s.home.0 s may.vertex entry part in
        let stays : StaysIn s.home.0 part made =
        ended_stays s.home.0 s may.vertex (news_for st part may.vertex) part made refl refl refl refl (λ q. (in_step.flights s may.vertex may.flight).2) in
        let kept : IsInStep st colour step (updates st w s (Some may.vertex)) =
        by_parts (with_part w s.home.0 made) (draws (with_part w s.home.0 made)) refl refl (with_part_stays w s.home.0 made stays in_step) in
        subst (λ (flight : Option ℕ). IsInStep st colour step (updates st w s flight)) (sym may.flight) kept
    action_stays (Mark s) may =
        let part : Part = w.part s.home.0 in
        let made : Part = marked st s.home.0 s may.vertex part in
        let stays : StaysIn s.home.0 part made =
        ended_stays s.home.0 s may.vertex (mark_news st part may.vertex) part made refl refl refl refl (λ q. (in_step.flights s may.vertex may.flight).2) in
        let kept : IsInStep st colour step (marks st w s (Some may.vertex)) = with_part_stays w s.home.0 made stays in_step in
        subst (λ (flight : Option ℕ). IsInStep st colour step (marks st w s flight)) (sym may.flight) kept
    action_stays Begin may = by_parts w (after st w Begin) refl refl in_step
    action_stays (Hear a) may =
        let part : Part = begins st a may.number (w.part a) in
        let stays : StaysIn a (w.part a) part = record { closed = refl; at = refl; flights = λ s v is. inl is; out = λ q all. all } in
        let kept : IsInStep st colour step (hears st w a (may.number ∷ may.behind)) =
        by_parts (with_part w a part) (hears st w a (may.number ∷ may.behind)) refl refl (with_part_stays w a part stays in_step) in
        subst (λ (orders : List ℕ). IsInStep st colour step (hears st w a orders)) (sym may.first) kept
    action_stays (SendSection a) may =
        let part : Part = record (w.part a) { sent = (w.part a).known } in
        let stays : StaysIn a (w.part a) part = record { closed = refl; at = refl; flights = λ s v is. inl is; out = λ q all. all } in
        by_parts (with_part w a part) (after st w (SendSection a)) refl refl (with_part_stays w a part stays in_step)
    action_stays (Collect a) may =
        let kept : IsInStep st colour step (collects w a (may.section ∷ may.behind)) = by_parts w (collects w a (may.section ∷ may.behind)) refl refl in_step in
        subst (λ (sections : List Section). IsInStep st colour step (collects w a sections)) (sym may.first) kept
    action_stays Record may = by_parts w (after st w Record) refl refl in_step
