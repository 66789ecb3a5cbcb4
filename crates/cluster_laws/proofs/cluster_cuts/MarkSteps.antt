-- What keeps the marks: steps that leave them, and a machine that learns of a snapshot.
use Rattle.std.proofs.Common.{◌≡◌, ℕ, suc, ◌<◌, ◌≤◌, max, Bool, true, ◌&&◌, ◌⊎◌, List, [], ◌∷◌, if◌then◌else◌, nat_lt, ◌==◌, Some, None, Option, sym, refl, ap, ◌∙◌, subst, subst₂, inl, inr, ⊎_elim, true≢false, le_trans, le_refl, le_antisymm, arith, ltb-true, le-ltb, eqb-true}
use Rattle.std.specs.List.{AllByRecursion}
use Rattle.std.proofs.lemmas.Bool.{and_parts, or_cases, or_right, cond-false}
use Rattle.graph_core.specs.DataGraph.{size}
use Rattle.graph_core.proofs.HalvesLaws.{each-weaker}
use Rattle.cluster_laws.specs.cluster_core.Actions.{marks}
use Rattle.cluster_laws.specs.cluster_core.Effects.{first_unmarked, first_pending, seed_if, is_at, part_seeded, nothing_saved, knows, begins}
use Rattle.cluster_laws.specs.cluster_core.Marks.{mark_of, IsMarking, IsInPlace, MarksHold}
use Rattle.cluster_laws.specs.cluster_core.Messages.{Section, Message, Ask, Ready, Done}
use Rattle.cluster_laws.specs.cluster_core.Parts.{Part}
use Rattle.cluster_laws.specs.cluster_core.Ranges.{set_at}
use Rattle.cluster_laws.specs.cluster_core.Settings.{Setting}
use Rattle.cluster_laws.specs.cluster_core.Worlds.{World, way}
use Rattle.cluster_laws.proofs.cluster_core.Basics.{set_at-cases, set_at-kept, first_passing-some}
use Rattle.cluster_laws.proofs.cluster_numbers.Quiet.{dones}

-- ---- seeds

seed_first : (pending unmarked : Option ℕ) (u : ℕ) → is_at (seed_if pending unmarked) u ≡ true → unmarked ≡ Some u
seed_first None None u seed = absurd (true≢false (sym seed))
seed_first None (Some v) u seed = ap Some (eqb-true v u seed)
seed_first (Some v) unmarked u seed = absurd (true≢false (sym seed))

-- who is pending after a seed was, or is an own vertex without a mark
pub seeded_pending : (st : Setting) (a : ℕ) (part : Part) (u : ℕ) → (part_seeded st a part).pending u ≡ true → (part.pending u ≡ true) ⊎ ((u < size st.graph) × (st.owner u ≡ a) × ((part.datum u).mark < part.known))
seeded_pending st a part u yes_pends = ⊎_elim
    (λ (seed : is_at (seed_if (first_pending st part) (first_unmarked st a part)) u ≡ true).
    let found = first_passing-some (λ v. st.owner v == a && nat_lt (part.datum v).mark part.known) 0 (size st.graph) u (seed_first (first_pending st part) (first_unmarked st a part) u seed) in
    let both = and_parts (st.owner u == a) (nat_lt (part.datum u).mark part.known) found.2 in
    inr (omega (arith, found.1), eqb-true (st.owner u) a both.0, ltb-true (part.datum u).mark part.known both.1))
    (λ (was : part.pending u ≡ true). inl was)
    (or_cases (is_at (seed_if (first_pending st part) (first_unmarked st a part)) u) (part.pending u) yes_pends)

-- who is pending stays so
pub seeded_more : (st : Setting) (a : ℕ) (part : Part) (u : ℕ) → part.pending u ≡ true → (part_seeded st a part).pending u ≡ true
seeded_more st a part u was = or_right (is_at (seed_if (first_pending st part) (first_unmarked st a part)) u) (part.pending u) was

-- ---- messages under other marks

pub marking_same : (st : Setting) (old new : World) → new.begun ≡ old.begun → ((u : ℕ) → mark_of st new u ≡ mark_of st old u) → (m : Message) → IsMarking st old m → IsMarking st new m
marking_same st old new begun same (Ask s c rest) marking = tt
marking_same st old new begun same (Ready s) marking = tt
marking_same st old new begun same (Done s news) marking = (
  subst (λ k. news.number ≤ k) (sym begun) marking.0,
  λ u yes_pends. let its = marking.1 u yes_pends in (its.0 ∙ sym begun, subst₂ (λ k n. k < n) (sym (same u)) (sym begun) its.1),
)

pub marking-dones : (st : Setting) (w : World) (ms : List Message) → AllByRecursion (IsMarking st w) ms → AllByRecursion (IsMarking st w) (dones ms)
marking-dones st w [] all = tt
marking-dones st w (Ask s c rest ∷ ms) all = marking-dones st w ms all.1
marking-dones st w (Ready s ∷ ms) all = marking-dones st w ms all.1
marking-dones st w (Done s news ∷ ms) all = (all.0, marking-dones st w ms all.1)

pub marking-from_dones : (st : Setting) (w : World) (ms : List Message) → AllByRecursion (IsMarking st w) (dones ms) → AllByRecursion (IsMarking st w) ms
marking-from_dones st w [] all = tt
marking-from_dones st w (Ask s c rest ∷ ms) all = (tt, marking-from_dones st w ms all)
marking-from_dones st w (Ready s ∷ ms) all = (tt, marking-from_dones st w ms all)
marking-from_dones st w (Done s news ∷ ms) all = (all.0, marking-from_dones st w ms all.1)

-- ---- a section's place

-- where a section is, by what the coordinator and its machine have
abbrev pub IsPlaced : List Section → Option Section → ℕ → ℕ → ℕ → Section → Type 0
IsPlaced reports collected acknowledged begun sent saved =
    ((reports ≡ []) × (collected ≡ None))
    ⊎ ((acknowledged < begun) × (sent ≡ begun)
    × (((reports ≡ saved ∷ []) × (collected ≡ None)) ⊎ ((reports ≡ []) × (collected ≡ Some saved))))

pub placed_same : (r r' : List Section) (c c' : Option Section) (a a' b b' s s' : ℕ) (x x' : Section) → r' ≡ r → c' ≡ c → a' ≡ a → b' ≡ b → s' ≡ s → x' ≡ x →
    IsPlaced r c a b s x → IsPlaced r' c' a' b' s' x'
placed_same r r' c c' a a' b b' s s' x x' er ec ea eb es ex placed =
    subst (λ y. IsPlaced r' c' a' b' s' y) (sym ex) (subst (λ y. IsPlaced r' c' a' b' y x) (sym es) (subst (λ y. IsPlaced r' c' a' y s x) (sym eb)
    (subst (λ y. IsPlaced r' c' y b s x) (sym ea) (subst (λ y. IsPlaced r' y a b s x) (sym ec) (subst (λ y. IsPlaced y c a b s x) (sym er) placed)))))

between_same : (a k b a' k' b' : ℕ) → a' ≡ a → k' ≡ k → b' ≡ b → (a ≤ k) × (k ≤ b) → (a' ≤ k') × (k' ≤ b')
between_same a k b a' k' b' ea ek eb bounds = (omega (arith, bounds.0), omega (arith, bounds.1))

-- a machine knows the newest snapshot where it knows a newer one than one that is not older than the newest acknowledged
pub newest_above : (low known acknowledged begun : ℕ) → (begun ≡ acknowledged) ⊎ (begun ≡ suc acknowledged) → acknowledged ≤ low → low < known → known ≤ begun → (known ≡ begun) × (acknowledged < begun)
newest_above low known acknowledged begun under above less high = ⊎_elim
    (λ (none : begun ≡ acknowledged). absurd (omega arith))
    (λ (one : begun ≡ suc acknowledged). (omega arith, omega arith))
    under

-- ---- steps that leave marks, what is pending and what is saved

pub record IsStillStep (old new : World) : Type 0 where
  pub begun : new.begun ≡ old.begun
  pub acknowledged : new.acknowledged ≡ old.acknowledged
  pub orders : new.orders ≡ old.orders
  pub reports : new.reports ≡ old.reports
  pub collected : new.collected ≡ old.collected
  pub pending : (a : ℕ) → (new.part a).pending ≡ (old.part a).pending
  pub known : (a : ℕ) → (new.part a).known ≡ (old.part a).known
  pub saved : (a : ℕ) → (new.part a).saved ≡ (old.part a).saved
  pub sent : (a : ℕ) → (new.part a).sent ≡ (old.part a).sent
  pub marks : (a u : ℕ) → ((new.part a).datum u).mark ≡ ((old.part a).datum u).mark

pub still_steps : (a b c : World) → IsStillStep a b → IsStillStep b c → IsStillStep a c
still_steps a b c one other =
    record {
      begun = other.begun ∙ one.begun;
      acknowledged = other.acknowledged ∙ one.acknowledged;
      orders = other.orders ∙ one.orders;
      reports = other.reports ∙ one.reports;
      collected = other.collected ∙ one.collected;
      pending = λ m. other.pending m ∙ one.pending m;
      known = λ m. other.known m ∙ one.known m;
      saved = λ m. other.saved m ∙ one.saved m;
      sent = λ m. other.sent m ∙ one.sent m;
      marks = λ m u. other.marks m u ∙ one.marks m u;
    }

module _ (st : Setting) (old new : World) (step : IsStillStep old new) (marks : MarksHold st old) where
  in_place_still : (a : ℕ) → IsInPlace old a → IsInPlace new a
  in_place_still a placed =
      placed_same (old.reports a) (new.reports a) (old.collected a) (new.collected a) old.acknowledged new.acknowledged old.begun new.begun
      (old.part a).sent (new.part a).sent (old.part a).saved (new.part a).saved
      (ap (λ (f : ℕ → List Section). f a) step.reports) (ap (λ (f : ℕ → Option Section). f a) step.collected) step.acknowledged step.begun (step.sent a) (step.saved a) placed

  pub marks_still : ((p q : ℕ) → AllByRecursion (IsMarking st old) (way new p q)) → MarksHold st new
  marks_still told =
      record {
        base = subst (λ k. st.base ≤ k) (sym step.acknowledged) marks.base;
        under = subst₂ (λ b a. (b ≡ a) ⊎ (b ≡ suc a)) (sym step.begun) (sym step.acknowledged) marks.under;
        known = λ a low. between_same old.acknowledged (old.part a).known old.begun new.acknowledged (new.part a).known new.begun step.acknowledged (step.known a) step.begun (marks.known a low);
        orders = λ a. subst₂ (λ b ks. AllByRecursion (λ k. k ≤ b) ks) (sym step.begun) (sym (ap (λ (f : ℕ → List ℕ). f a) step.orders)) (marks.orders a);
        marks = λ v within.
            between_same old.acknowledged (mark_of st old v) (old.part (st.owner v)).known new.acknowledged (mark_of st new v) (new.part (st.owner v)).known
            step.acknowledged (step.marks (st.owner v) v) (step.known (st.owner v)) (marks.marks v within);
        pending = λ a u yes_pends.
            let was = marks.pending a u (sym (ap (λ (f : ℕ → Bool). f u) (step.pending a)) ∙ yes_pends) in
            (was.0, was.1, subst₂ (λ k n. k < n) (sym (step.marks a u)) (sym (step.known a)) was.2);
        told = λ p q. each-weaker (IsMarking st old) (IsMarking st new) (λ m. marking_same st old new step.begun (λ u. step.marks (st.owner u) u) m) (way new p q) (told p q);
        sent_low = λ a low. between_same old.acknowledged (old.part a).sent old.begun new.acknowledged (new.part a).sent new.begun step.acknowledged (step.sent a) step.begun (marks.sent_low a low);
        sent = λ a low its under.
            let was = marks.sent a low (sym (step.sent a) ∙ its ∙ step.begun) (subst₂ (λ k n. k < n) step.acknowledged step.begun under) in
            (step.known a ∙ was.0 ∙ sym step.begun, λ v within owner. step.marks (st.owner v) v ∙ was.1 v within owner ∙ sym step.begun);
        sections = λ a low. in_place_still a (marks.sections a low);
      }

-- ---- a machine learns of a snapshot

-- the world with this part of machine a, these links and these orders
abbrev pub learned : World → ℕ → Part → (ℕ → ℕ → List Message) → (ℕ → List ℕ) → World
learned w a new link orders = record w { part = set_at w.part a new; link = link; orders = orders }

-- Machine a learns that snapshot k has begun: its own marks stay, and what is pending has no mark yet.
pub record IsLearning (st : Setting) (a k : ℕ) (old new : Part) : Type 0 where
  pub known : new.known ≡ max old.known k
  pub saved : new.saved ≡ (if nat_lt old.known k then nothing_saved else old.saved)
  pub sent : new.sent ≡ old.sent
  pub marks : (u : ℕ) → st.owner u ≡ a → (new.datum u).mark ≡ (old.datum u).mark
  pub pending : (u : ℕ) → new.pending u ≡ true → (u < size st.graph) × (st.owner u ≡ a) × ((new.datum u).mark < new.known)

max_above : (n x k : ℕ) → n ≡ max x k → x ≤ n
max_above n x k eq = omega arith

max_below : (n x k most : ℕ) → n ≡ max x k → x ≤ most → k ≤ most → n ≤ most
max_below n x k most eq one other = omega arith

module _ (st : Setting) (w : World) (marks : MarksHold st w) (a k : ℕ) (new : Part) (learning : IsLearning st a k (w.part a) new) (low : k ≤ w.begun) (link : ℕ → ℕ → List Message) (orders : ℕ → List ℕ) where
  abbrev world : World
  world = learned w a new link orders

  pub learned_mark : (v : ℕ) → mark_of st world v ≡ mark_of st w v
  learned_mark v = set_at-cases (λ (part : Part). (part.datum v).mark ≡ mark_of st w v) w.part a new (st.owner v)
      (λ same. learning.marks v same ∙ ap (λ j. ((w.part j).datum v).mark) (sym same))
      (λ other. refl)

  pub known_rises : (b : ℕ) → (w.part b).known ≤ (world.part b).known
  known_rises b = set_at-cases (λ (part : Part). (w.part b).known ≤ part.known) w.part a new b
      (λ same. subst (λ j. (w.part j).known ≤ new.known) (sym same) (max_above new.known (w.part a).known k learning.known))
      (λ other. le_refl (w.part b).known)

  pub known_bounds : (b : ℕ) → b < st.machines → (w.acknowledged ≤ (world.part b).known) × ((world.part b).known ≤ w.begun)
  known_bounds b within =
      let was = marks.known b within in (
        le_trans was.0 (known_rises b),
        set_at-cases (λ (part : Part). part.known ≤ w.begun) w.part a new b
            (λ same. max_below new.known (w.part a).known k w.begun learning.known (subst (λ j. (w.part j).known ≤ w.begun) same was.1) low)
            (λ other. was.1),
      )

  -- who knew the newest snapshot still has what it saved
  pub saved_kept : (b : ℕ) → (w.part b).known ≡ w.begun → (world.part b).saved ≡ (w.part b).saved
  saved_kept b newest = set_at-cases (λ (part : Part). part.saved ≡ (w.part b).saved) w.part a new b
      (λ same.
      let here : (w.part a).known ≡ w.begun = ap (λ j. (w.part j).known) (sym same) ∙ newest in
      learning.saved ∙ cond-false (nat_lt (w.part a).known k) nothing_saved (w.part a).saved (le-ltb (w.part a).known k (subst (λ n. k ≤ n) (sym here) low)) ∙ ap (λ j. (w.part j).saved) (sym same))
      (λ other. refl)

  sent_kept : (b : ℕ) → (world.part b).sent ≡ (w.part b).sent
  sent_kept b = set_at-kept (λ (part : Part). part.sent) w.part a new learning.sent b

  sent_still : (b : ℕ) → b < st.machines → (world.part b).sent ≡ w.begun → w.acknowledged < w.begun → ((world.part b).known ≡ w.begun) × ((v : ℕ) → v < size st.graph → st.owner v ≡ b → mark_of st world v ≡ w.begun)
  sent_still b within its under =
      let was = marks.sent b within (sym (sent_kept b) ∙ its) under in
      (le_antisymm (known_bounds b within).1 (subst (λ n. n ≤ (world.part b).known) was.0 (known_rises b)), λ v inside owner. learned_mark v ∙ was.1 v inside owner)

  in_place_kept : (b : ℕ) → b < st.machines → IsInPlace w b → IsInPlace world b
  in_place_kept b within placed = ⊎_elim
      (λ (none : (w.reports b ≡ []) × (w.collected b ≡ None)). inl none)
      (λ (some : (w.acknowledged < w.begun) × ((w.part b).sent ≡ w.begun)
      × (((w.reports b ≡ (w.part b).saved ∷ []) × (w.collected b ≡ None)) ⊎ ((w.reports b ≡ []) × (w.collected b ≡ Some (w.part b).saved)))).
      let was = marks.sent b within some.1 some.0 in
      placed_same (w.reports b) (world.reports b) (w.collected b) (world.collected b) w.acknowledged world.acknowledged w.begun world.begun
      (w.part b).sent (world.part b).sent (w.part b).saved (world.part b).saved refl refl refl refl (sent_kept b) (saved_kept b was.0) (inr some))
      placed

  pub marks_learned : ((b : ℕ) → AllByRecursion (λ n. n ≤ w.begun) (orders b)) → ((p q : ℕ) → AllByRecursion (IsMarking st w) (way world p q)) → MarksHold st world
  marks_learned orders_low told =
      record {
        base = marks.base;
        under = marks.under;
        known = known_bounds;
        orders = orders_low;
        marks = λ v within. (
          subst (λ n. w.acknowledged ≤ n) (sym (learned_mark v)) (marks.marks v within).0,
          subst (λ n. n ≤ (world.part (st.owner v)).known) (sym (learned_mark v)) (le_trans (marks.marks v within).1 (known_rises (st.owner v))),
        );
        pending = λ b u yes_pends.
            set_at-cases (λ (part : Part). part.pending u ≡ true → (u < size st.graph) × (st.owner u ≡ b) × ((part.datum u).mark < part.known)) w.part a new b
            (λ same its. let was = learning.pending u its in (was.0, was.1 ∙ sym same, was.2))
            (λ other its. marks.pending b u its)
            yes_pends;
        told = λ p q. each-weaker (IsMarking st w) (IsMarking st world) (λ m. marking_same st w world refl learned_mark m) (way world p q) (told p q);
        sent_low = λ b within. subst (λ n. (w.acknowledged ≤ n) × (n ≤ w.begun)) (sym (sent_kept b)) (marks.sent_low b within);
        sent = sent_still;
        sections = λ b within. in_place_kept b within (marks.sections b within);
      }

low_max : (m x k : ℕ) → m < x → m < max x k
low_max m x k low = omega arith

-- to hear of a snapshot is such
pub begins_learns : (st : Setting) (a k : ℕ) (w : World) → MarksHold st w → IsLearning st a k (w.part a) (begins st a k (w.part a))
begins_learns st a k w marks =
    record {
      known = refl;
      saved = refl;
      sent = refl;
      marks = λ u owner. refl;
      pending = λ u yes_pends. ⊎_elim
          (λ (was : (w.part a).pending u ≡ true).
          let its = marks.pending a u was in
          (its.0, its.1, low_max ((w.part a).datum u).mark (w.part a).known k its.2))
          (λ (seed : (u < size st.graph) × (st.owner u ≡ a) × (((w.part a).datum u).mark < max (w.part a).known k)). seed)
          (seeded_pending st a (knows k (w.part a)) u yes_pends);
    }
