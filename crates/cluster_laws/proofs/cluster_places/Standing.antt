-- What is known of the places of scopes, whatever happens next.
use Rattle.std.proofs.Common.{◌≡◌, ◌≢◌, ℕ, ◌<◌, ◌≤◌, ◌==◌, Bool, true, false, if◌then◌else◌, Option, None, Some, List, [], ◌∷◌, ◌++◌, refl, sym, ◌∙◌, ap, subst, arith}
use Rattle.gl_base.specs.declared.scopes.ScopeId.{ScopeId}
use Rattle.cluster_laws.specs.cluster_core.Messages.{Ready}
use Rattle.cluster_laws.specs.cluster_core.Parts.{Part}
use Rattle.cluster_laws.specs.cluster_core.Ranges.{set_at}
use Rattle.cluster_laws.specs.cluster_core.Settings.{Setting}
use Rattle.cluster_laws.specs.cluster_core.Scopes.{set_for, own_from}
use Rattle.cluster_laws.specs.cluster_core.Effects.{posts, asks_for, goes_on}
use Rattle.cluster_laws.specs.cluster_core.Worlds.{World, with_part}
use Rattle.cluster_laws.specs.cluster_core.Stages.{Stage, Idle, Shows, sight_of, tokens_of, claims_of}
use Rattle.cluster_laws.specs.cluster_core.Places.{ArePlaces, IsStageOf}
use Rattle.cluster_laws.proofs.cluster_core.Basics.{set_at-holds, set_at-kept}
use Rattle.cluster_laws.proofs.cluster_places.Frames.{SameFor, shows_still}

-- a part with no lower serial number leaves none lower
pub serials_rise : (w : World) (a : ℕ) (new : Part) → (w.part a).serial ≤ new.serial → (b : ℕ) → (w.part b).serial ≤ (set_at w.part a new b).serial
serials_rise w a new rise b = set_at-holds (λ (b : ℕ) (part : Part). (w.part b).serial ≤ part.serial) w.part a new b rise (λ off. omega arith)

home_serial : (a : ℕ) (s : ScopeId) (test : Bool) (part : Part) → (if test then record part { ready = set_for part.ready s true } else posts s.home.0 (Ready s) part).serial ≡ part.serial
home_serial a s true part = refl
home_serial a s false part = refl

asks_for-serial : (a : ℕ) (s : ScopeId) (v : ℕ) (rest : List ℕ) (first : Option ℕ) (part : Part) → (asks_for a s v rest first part).serial ≡ part.serial
asks_for-serial a s v rest (Some x) part = refl
asks_for-serial a s v (b ∷ rest) None part = refl
asks_for-serial a s v [] None part = home_serial a s (s.home.0 == a) (record part { stand = set_for part.stand s None })

pub goes_on-serial : (st : Setting) (a : ℕ) (s : ScopeId) (v k : ℕ) (rest : List ℕ) (part : Part) → (goes_on st a s v k rest part).serial ≡ part.serial
goes_on-serial st a s v k rest part = asks_for-serial a s v rest (own_from st v a k) part

-- what is seen of scopes goes by the parts and the links alone
pub places_by_parts : (st : Setting) (one other : World) (stage : ScopeId → Stage) → other.part ≡ one.part → other.link ≡ one.link → ArePlaces st one stage → ArePlaces st other stage
places_by_parts st one other stage parts links places =
    record {
      shows = λ s.
          let h = places.shows s in
          record {
            flight = ap (λ (part : ℕ → Part). (part s.home.0).flight s) parts ∙ h.flight;
            ready = ap (λ (part : ℕ → Part). (part s.home.0).ready s) parts ∙ h.ready;
            stand = λ a. ap (λ (part : ℕ → Part). (part a).stand s) parts ∙ h.stand a;
            holder = λ x. ap (λ (part : ℕ → Part). (part (st.owner x)).holder x s) parts ∙ h.holder x;
            queue = λ x. ap (λ (part : ℕ → Part). claims_of s ((part (st.owner x)).queue x)) parts ∙ h.queue x;
            tokens = λ p q. (λ i. tokens_of s (links i p q ++ (parts i p).out q)) ∙ h.tokens p q;
          };
      stages = places.stages;
      admitted = λ s busy. subst (λ (part : ℕ → Part). s.serial < (part s.home.0).serial) (sym parts) (places.admitted s busy);
      single = places.single;
      alone = places.alone;
    }

-- scopes, locks and outboxes are as before
pub record IsAside (old new : Part) : Type 0 where
  pub flight : new.flight ≡ old.flight
  pub ready : new.ready ≡ old.ready
  pub stand : new.stand ≡ old.stand
  pub holder : new.holder ≡ old.holder
  pub queue : new.queue ≡ old.queue
  pub out : new.out ≡ old.out
  pub serial : new.serial ≡ old.serial

aside_same : (t : ScopeId) (old new : Part) → IsAside old new → SameFor t old new
aside_same t old new aside =
    record {
      flight = λ i. aside.flight i t;
      ready = λ i. aside.ready i t;
      stand = λ i. aside.stand i t;
      holder = λ x. λ i. aside.holder i x t;
      queue = λ x. λ i. claims_of t (aside.queue i x);
      out = λ q. λ i. tokens_of t (aside.out i q);
    }

module _ (st : Setting) (w : World) (stage : ScopeId → Stage) (places : ArePlaces st w stage) where
  -- what is seen of a scope whose stage is known
  pub shows_as : (s : ScopeId) (x : Stage) → stage s ≡ x → Shows st w s (sight_of st s x)
  shows_as s x is = subst (λ (y : Stage). Shows st w s (sight_of st s y)) is (places.shows s)

  pub stage_as : (s : ScopeId) (x : Stage) → stage s ≡ x → IsStageOf st s x
  stage_as s x is = subst (λ (y : Stage). IsStageOf st s y) is (places.stages s)

  -- a busy scope was admitted
  pub busy_low : (s : ScopeId) (x : Stage) → stage s ≡ x → x ≢ Idle → s.serial < (w.part s.home.0).serial
  busy_low s x is busy = places.admitted s (λ idle. busy (sym is ∙ idle))

  pub aside_keeps : (a : ℕ) (new : Part) → IsAside (w.part a) new → ArePlaces st (with_part w a new) stage
  aside_keeps a new aside =
      record {
        shows = λ s. shows_still st w a new s (sight_of st s (stage s)) (aside_same s (w.part a) new aside) (places.shows s);
        stages = places.stages;
        admitted = λ s busy. subst (λ (n : ℕ). s.serial < n) (sym (set_at-kept (λ (part : Part). part.serial) w.part a new aside.serial s.home.0)) (places.admitted s busy);
        single = places.single;
        alone = places.alone;
      }
