-- Each action of a cluster whose updates write their scopes is, in its places, one of the locking engine; so its places are kept.
use Rattle.std.proofs.Common.{◌≡◌, ℕ, ◌<◌, true, false, Option, None, Some, is_some, List, [], ◌∷◌, ◌++◌, map, refl, sym, ◌∙◌, subst, inr, arith}
use Rattle.gl_base.specs.declared.entries.Entry.TheVariants.{Go}
use Rattle.gl_base.specs.declared.scopes.ScopeId.{ScopeId}
use Rattle.cluster_laws.specs.cluster_core.Actions.{Action, Admit, Deliver, Grant, MayHappen, Send, Update, after, delivers, sends, updates}
use Rattle.cluster_laws.specs.cluster_core.Effects.{first_granted}
use Rattle.cluster_laws.specs.cluster_core.Messages.{Message}
use Rattle.cluster_laws.specs.cluster_core.Parts.{Part}
use Rattle.cluster_laws.specs.cluster_core.Places.{ArePlaces}
use Rattle.cluster_laws.specs.cluster_core.Settings.{IsSetting, Locking, Setting}
use Rattle.cluster_laws.specs.cluster_core.Stages.{Stage}
use Rattle.cluster_laws.specs.cluster_core.Worlds.{World, with_part}
use Rattle.cluster_laws.specs.cluster_core.Ranges.{set_at}
use Rattle.cluster_laws.proofs.cluster_places.PlacesKept.{action_keeps}
use Rattle.full_scope.specs.FullUpdates.{FullUpdate}
use Rattle.full_laws.specs.FullActions.{Admits, Delivers, FullAction, Grants, MayHappenFull, Sends, Updates, after_action, delivers_full, sends_full, updates_full}
use Rattle.full_laws.specs.FullEffects.{granted_first, lent_full, received_full}
use Rattle.full_laws.specs.FullMessages.{FullMessage}
use Rattle.full_laws.specs.FullParts.{FullPart}
use Rattle.full_laws.specs.FullWorlds.{FullWorld, with_full_part}
use Rattle.full_laws.proofs.Mirrors.{IsMirror, SameMessage, SameWay, admitted_mirror, both_set, claimant, claims_front, granted_mirror, received_mirror, updated_mirror, way_push}

-- the setting of the locking engine
abbrev pub locking : Setting → Setting
locking st = record st { engine = Locking }

-- the two show the same of each scope's place
pub record AreMirrors (st : Setting) (w : FullWorld) (c : World) : Type 0 where
  pub parts : (a : ℕ) → IsMirror st (w.part a) (c.part a)
  pub links : (p q : ℕ) → SameWay st q (c.link p q) (w.link p q)

-- there is a cluster of the locking engine that shows the same, and its scopes are in their places
pub record ArePlaced (st : Setting) (w : FullWorld) : Type 0 where
  pub core : World
  pub stage : ScopeId → Stage
  pub mirrors : AreMirrors st w core
  pub places : ArePlaces (locking st) core stage

-- every vertex is a task, none is pending, and a ticket is left
abbrev pub freed_part : Part → Part
freed_part part = record part { task = λ u. true; pending = λ u. false }

abbrev pub freed : World → World
freed c = record c { part = λ a. freed_part (c.part a); left = 1 }

-- the places are the same
freed_places : (st : Setting) (c : World) (stage : ScopeId → Stage) → ArePlaces st c stage → ArePlaces st (freed c) stage
freed_places st c stage places =
    record {
      shows = λ s.
          let h = places.shows s in
          record { flight = h.flight; ready = h.ready; stand = h.stand; holder = h.holder; queue = h.queue; tokens = h.tokens };
      stages = places.stages;
      admitted = places.admitted;
      single = places.single;
      alone = places.alone;
    }

freed_mirror : (st : Setting) (f : FullPart) (c : Part) → IsMirror st f c → IsMirror st f (freed_part c)
freed_mirror st f c m =
    record { flight = m.flight; ready = m.ready; stand = m.stand; holder = m.holder; queue = m.queue; out = m.out; serial = m.serial; flying = m.flying }

held_not : {X : Type 0} (o : Option X) (x : X) → o ≡ Some x → is_some o ≡ false → ⊥
held_not None x is none = cc
held_not (Some y) x is none = cc

some_true : {X : Type 0} (o : Option X) (x : X) → o ≡ Some x → is_some o ≡ true
some_true None x is = cc
some_true (Some y) x is = refl

module _ (st : Setting) where
  -- one part changes
  part_mirrors : (w : FullWorld) (c : World) (a : ℕ) (f : FullPart) (new : Part) → AreMirrors st w c → IsMirror st f new → AreMirrors st (with_full_part w a f) (with_part c a new)
  part_mirrors w c a f new are m =
      record { parts = both_set (λ i x y. IsMirror st x y) w.part c.part a f new m are.parts; links = are.links }

  -- and one link
  link_mirrors : (w : FullWorld) (c : World) (a : ℕ) (f : FullPart) (new : Part) (p q : ℕ) (cs : List Message) (fs : List FullMessage) → AreMirrors st w c → IsMirror st f new → SameWay st q cs fs → (i j : ℕ) →
      SameWay st j (set_at c.link p (set_at (c.link p) q cs) i j) (set_at w.link p (set_at (w.link p) q fs) i j)
  link_mirrors w c a f new p q cs fs are m same =
      both_set (λ i row other. (j : ℕ) → SameWay st j (row j) (other j)) c.link w.link p (set_at (c.link p) q cs) (set_at (w.link p) q fs)
      (both_set (λ j xs ys. SameWay st j xs ys) (c.link p) (w.link p) q cs fs same (are.links p)) are.links

  pub sends_mirrors : (w : FullWorld) (c : World) (p q : ℕ) (m : FullMessage) (behind : List FullMessage) (cm : Message) (rest : List Message) → AreMirrors st w c → SameMessage st q cm m → SameWay st q rest behind → AreMirrors st (sends_full w p q (m ∷ behind)) (sends c p q (cm ∷ rest))
  sends_mirrors w c p q m behind cm rest are same more =
      let f : FullPart = record (w.part p) { out = set_at (w.part p).out q behind } in
      let new : Part = record (c.part p) { out = set_at (c.part p).out q rest } in
      let h = are.parts p in
      let mirror : IsMirror st f new = record {
        flight = h.flight;
        ready = h.ready;
        stand = h.stand;
        holder = h.holder;
        queue = h.queue;
        out = both_set (λ r cs fs. SameWay st r cs fs) (c.part p).out (w.part p).out q rest behind more h.out;
        serial = h.serial;
        flying = h.flying;
      } in
      record {
        parts = both_set (λ i x y. IsMirror st x y) w.part c.part p f new mirror are.parts;
        links = link_mirrors w c p f new p q (c.link p q ++ cm ∷ []) (w.link p q ++ m ∷ []) are mirror (way_push st q (c.link p q) (w.link p q) cm m (are.links p q) same);
      }

  pub delivers_mirrors : (w : FullWorld) (c : World) (p q : ℕ) (m : FullMessage) (behind : List FullMessage) (cm : Message) (rest : List Message) → AreMirrors st w c → SameMessage st q cm m → SameWay st q rest behind → AreMirrors st (delivers_full st w p q (m ∷ behind)) (delivers st c p q (cm ∷ rest))
  delivers_mirrors w c p q m behind cm rest are same more =
      let mirror = received_mirror st q m cm (w.part q) (c.part q) same (are.parts q) in
      record {
        parts = both_set (λ i x y. IsMirror st x y) w.part c.part q (received_full st q m (w.part q)) _ mirror are.parts;
        links = link_mirrors w c q (received_full st q m (w.part q)) _ p q rest behind are mirror more;
      }

module _ (st : Setting) (is : IsSetting st) (p : FullUpdate) (w : FullWorld) (placed : ArePlaced st w) where
  abbrev lk : Setting
  lk = locking st

  abbrev c : World
  c = freed placed.core

  alike : AreMirrors st w c
  alike = record { parts = λ a. freed_mirror st (w.part a) (placed.core.part a) (placed.mirrors.parts a); links = placed.mirrors.links }

  stepped : (new : FullWorld) (action : Action) → MayHappen lk c action → AreMirrors st new (after lk c action) → ArePlaced st new
  stepped new action may mirrors =
      let kept = action_keeps lk (record { graph = is.graph; owner = is.owner }) refl c placed.stage (freed_places lk placed.core placed.stage placed.places) action may in
      record { core = after lk c action; stage = kept.0; mirrors = mirrors; places = kept.1 }

  pub action_places : (action : FullAction) → MayHappenFull st w action → ArePlaced st (after_action st p w action)
  action_places (Admits a v) may =
      let m = alike.parts a in
      stepped (after_action st p w (Admits a v)) (Admit a v)
      (record {
        vertex = may.vertex;
        owned = may.owned;
        due = inr refl;
        fresh = λ s flies. may.fresh s (sym (m.flight s) ∙ flies);
        turn = subst (λ n. n < st.pipeline) (sym m.flying) may.room;
      })
      (part_mirrors st w c a _ _ alike (admitted_mirror st a v (w.part a) (c.part a) m))
  action_places (Grants a x) may =
      let m = alike.parts a in
      let (claim, rest, front, scope, behind) = claims_front ((c.part a).queue x) may.scope may.behind (m.queue x ∙ may.first) in
      let queue : (w.part a).queue x ≡ claim.scope ∷ map claimant rest = may.first ∙ (λ i. sym scope i ∷ sym behind i) in
      let mirror : IsMirror st (granted_first st a x ((w.part a).queue x) (w.part a)) (first_granted st a x ((c.part a).queue x) (c.part a)) =
      subst (λ q. IsMirror st (granted_first st a x q (w.part a)) (first_granted st a x ((c.part a).queue x) (c.part a))) (sym queue)
      (subst (λ q. IsMirror st (granted_first st a x (claim.scope ∷ map claimant rest) (w.part a)) (first_granted st a x q (c.part a))) (sym front)
      (granted_mirror st a x claim rest (w.part a) (c.part a) m)) in
      stepped (after_action st p w (Grants a x)) (Grant a x)
      (record {
        vertex = may.vertex;
        owned = may.owned;
        claim = claim;
        behind = rest;
        first = front;
        together = λ s mode holds. absurd (held_not ((c.part a).holder x s) mode holds (m.holder x s ∙ may.free s));
      })
      (part_mirrors st w c a _ _ alike mirror)
  action_places (Sends from to) may =
      let (cm, rest, front, same, more) = subst (SameWay st to ((c.part from).out to)) may.first ((alike.parts from).out to) in
      let mirrors : AreMirrors st (sends_full w from to ((w.part from).out to)) (sends c from to ((c.part from).out to)) =
      subst (λ q. AreMirrors st (sends_full w from to q) (sends c from to ((c.part from).out to))) (sym may.first)
      (subst (λ q. AreMirrors st (sends_full w from to (may.message ∷ may.behind)) (sends c from to q)) (sym front)
      (sends_mirrors st w c from to may.message may.behind cm rest alike same more)) in
      stepped (after_action st p w (Sends from to)) (Send from to) (record { message = cm; behind = rest; first = front }) mirrors
  action_places (Delivers from to) may =
      let (cm, rest, front, same, more) = subst (SameWay st to (c.link from to)) may.first (alike.links from to) in
      let mirrors : AreMirrors st (delivers_full st w from to (w.link from to)) (delivers lk c from to (c.link from to)) =
      subst (λ q. AreMirrors st (delivers_full st w from to q) (delivers lk c from to (c.link from to))) (sym may.first)
      (subst (λ q. AreMirrors st (delivers_full st w from to (may.message ∷ may.behind)) (delivers lk c from to q)) (sym front)
      (delivers_mirrors st w c from to may.message may.behind cm rest alike same more)) in
      stepped (after_action st p w (Delivers from to)) (Deliver from to) (record { message = cm; behind = rest; first = front }) mirrors
  action_places (Updates s) may =
      let a : ℕ = s.home.0 in
      let m = alike.parts a in
      let f : FullPart = w.part a in
      let flight : (c.part a).flight s ≡ Some may.vertex = m.flight s ∙ may.flight in
      let made = updated_mirror st is p a s may.vertex (lent_full may.seen f) (Go s.home (record { 0 = may.vertex }) w.next) (Go s.home (record { 0 = may.vertex }) c.next) f (c.part a) m in
      let mirrors : AreMirrors st (updates_full st p w s (Some may.vertex) (Some may.seen)) (updates lk c s (Some may.vertex)) =
      record { parts = both_set (λ i x y. IsMirror st x y) w.part c.part a _ _ made alike.parts; links = alike.links } in
      stepped (after_action st p w (Updates s)) (Update s)
      (record {
        vertex = may.vertex;
        flight = flight;
        ready = m.ready s ∙ some_true (f.ready s) may.seen may.ready;
        not_pending = refl;
        task = refl;
        ticket = omega arith;
      })
      (subst (λ o. AreMirrors st (after_action st p w (Updates s)) (updates lk c s o)) (sym flight)
      (subst (λ o. AreMirrors st (updates_full st p w s o (f.ready s)) (updates lk c s (Some may.vertex))) (sym may.flight)
      (subst (λ o. AreMirrors st (updates_full st p w s (Some may.vertex) o) (updates lk c s (Some may.vertex))) (sym may.ready) mirrors)))
