-- What a change of one part leaves to be seen of a scope that it doesn't concern.
use Rattle.std.proofs.Common.{◌≡◌, ◌≢◌, ℕ, ◌==◌, Bool, true, false, if◌then◌else◌, Option, None, Some, List, [], ◌∷◌, ◌++◌, refl, sym, ◌∙◌, ap, ⊎_elim, append_assoc, append-nil}
use Rattle.std.proofs.lemmas.Bool.{cases_eq, eq-eqb, ne_eqb}
use Rattle.gl_base.specs.declared.scopes.Claim.{Claim}
use Rattle.gl_base.specs.declared.scopes.ScopeId.{ScopeId}
use Rattle.cluster_laws.specs.cluster_core.Messages.{Message, Ask, Ready}
use Rattle.cluster_laws.specs.cluster_core.Parts.{Part, Stand}
use Rattle.cluster_laws.specs.cluster_core.Ranges.{set_at}
use Rattle.cluster_laws.specs.cluster_core.Settings.{Setting}
use Rattle.cluster_laws.specs.cluster_core.Scopes.{is_scope, set_for, mode_at, own_from}
use Rattle.cluster_laws.specs.cluster_core.Effects.{posts, goes_away, asks_for, goes_on}
use Rattle.cluster_laws.specs.cluster_core.Worlds.{World, with_part}
use Rattle.cluster_laws.specs.cluster_core.Stages.{Token, Sight, Shows, token_of, tokens_of, claims_of}
use Rattle.cluster_laws.proofs.cluster_core.Basics.{set_at-kept, set_for-other, apart_turned}

-- ---- tokens and claims of lists that grow

pub tokens_of-append : (s : ScopeId) (xs ys : List Message) → tokens_of s (xs ++ ys) ≡ tokens_of s xs ++ tokens_of s ys
tokens_of-append s [] ys = refl
tokens_of-append s (m ∷ xs) ys =
    ap (λ (more : List Token). token_of s m ++ more) (tokens_of-append s xs ys) ∙ sym (append_assoc (token_of s m) (tokens_of s xs) (tokens_of s ys))

claims_push : (test : Bool) (c : Claim) (xs ys zs : List Claim) → xs ≡ ys ++ zs → (if test then c ∷ xs else xs) ≡ (if test then c ∷ ys else ys) ++ zs
claims_push true c xs ys zs is = ap (λ (more : List Claim). c ∷ more) is
claims_push false c xs ys zs is = is

pub claims_of-append : (s : ScopeId) (xs ys : List Claim) → claims_of s (xs ++ ys) ≡ claims_of s xs ++ claims_of s ys
claims_of-append s [] ys = refl
claims_of-append s (c ∷ xs) ys = claims_push (is_scope c.scope s) c (claims_of s (xs ++ ys)) (claims_of s xs) (claims_of s ys) (claims_of-append s xs ys)

pub tokens_of-push : (s : ScopeId) (xs : List Message) (m : Message) → tokens_of s (xs ++ m ∷ []) ≡ tokens_of s xs ++ token_of s m
tokens_of-push s xs m = tokens_of-append s xs (m ∷ []) ∙ ap (λ (more : List Token). tokens_of s xs ++ more) (append-nil (token_of s m))

-- a message more in one outbox
pub put-tokens : (s : ScopeId) (link : List Message) (out : ℕ → List Message) (b : ℕ) (m : Message) (q : ℕ) → tokens_of s (link ++ set_at out b (out b ++ m ∷ []) q) ≡ tokens_of s (link ++ out q) ++ (if q == b then token_of s m else [])
put-tokens s link out b m q =
    ⊎_elim
    (λ (at : q ≡ b).
    let back : link ++ (out q ++ m ∷ []) ≡ (link ++ out q) ++ m ∷ [] = sym (append_assoc link (out q) (m ∷ [])) in
    rw (eq-eqb q b at, ← at) (ap (tokens_of s) back ∙ tokens_of-push s (link ++ out q) m))
    (λ (off : q ≢ b). rw (ne_eqb q b off) (sym (append-nil (tokens_of s (link ++ out q)))))
    (cases_eq q b)

-- ---- a part that shows the same of a scope

pub record SameFor (t : ScopeId) (old new : Part) : Type 0 where
  pub flight : new.flight t ≡ old.flight t
  pub ready : new.ready t ≡ old.ready t
  pub stand : new.stand t ≡ old.stand t
  pub holder : (x : ℕ) → new.holder x t ≡ old.holder x t
  pub queue : (x : ℕ) → claims_of t (new.queue x) ≡ claims_of t (old.queue x)
  pub out : (q : ℕ) → tokens_of t (new.out q) ≡ tokens_of t (old.out q)

pub same_again : (t : ScopeId) (part : Part) → SameFor t part part
same_again t part =
    record { flight = refl; ready = refl; stand = refl; holder = λ x. refl; queue = λ x. refl; out = λ q. refl }

pub same_then : (t : ScopeId) (a b c : Part) → SameFor t a b → SameFor t b c → SameFor t a c
same_then t a b c one other =
    record {
      flight = other.flight ∙ one.flight;
      ready = other.ready ∙ one.ready;
      stand = other.stand ∙ one.stand;
      holder = λ x. other.holder x ∙ one.holder x;
      queue = λ x. other.queue x ∙ one.queue x;
      out = λ q. other.out q ∙ one.out q;
    }

pub shows_still : (st : Setting) (w : World) (a : ℕ) (new : Part) (t : ScopeId) (seen : Sight) → SameFor t (w.part a) new → Shows st w t seen → Shows st (with_part w a new) t seen
shows_still st w a new t seen same shows =
    record {
      flight = set_at-kept (λ (part : Part). part.flight t) w.part a new same.flight t.home.0 ∙ shows.flight;
      ready = set_at-kept (λ (part : Part). part.ready t) w.part a new same.ready t.home.0 ∙ shows.ready;
      stand = λ b. set_at-kept (λ (part : Part). part.stand t) w.part a new same.stand b ∙ shows.stand b;
      holder = λ x. set_at-kept (λ (part : Part). part.holder x t) w.part a new (same.holder x) (st.owner x) ∙ shows.holder x;
      queue = λ x. set_at-kept (λ (part : Part). claims_of t (part.queue x)) w.part a new (same.queue x) (st.owner x) ∙ shows.queue x;
      tokens = λ p q.
          let read : Part → List Token = λ part. tokens_of t (w.link p q ++ part.out q) in
          let here : read new ≡ read (w.part a) =
          tokens_of-append t (w.link p q) (new.out q) ∙ ap (λ (more : List Token). tokens_of t (w.link p q) ++ more) (same.out q) ∙ sym (tokens_of-append t (w.link p q) ((w.part a).out q)) in
          set_at-kept read w.part a new here p ∙ shows.tokens p q;
    }

-- ---- steps of another scope

pub put-same : (t : ScopeId) (b : ℕ) (m : Message) (part : Part) → token_of t m ≡ [] → SameFor t part (posts b m part)
put-same t b m part none =
    record {
      flight = refl;
      ready = refl;
      stand = refl;
      holder = λ x. refl;
      queue = λ x. refl;
      out = λ q. set_at-kept (tokens_of t) part.out b (part.out b ++ m ∷ []) (tokens_of-push t (part.out b) m ∙ ap (λ (more : List Token). tokens_of t (part.out b) ++ more) none ∙ append-nil (tokens_of t (part.out b))) q;
    }

pub not_asked : (t s : ScopeId) (v : ℕ) (rest : List ℕ) → is_scope t s ≡ false → token_of t (Ask s v rest) ≡ []
not_asked t s v rest apart = rw (apart_turned t s apart) refl

pub not_ready : (t s : ScopeId) → is_scope t s ≡ false → token_of t (Ready s) ≡ []
not_ready t s apart = rw (apart_turned t s apart) refl

pub not_claimed : (t : ScopeId) (c : Claim) → is_scope c.scope t ≡ false → (claims : List Claim) → claims_of t (c ∷ claims) ≡ claims_of t claims
not_claimed t c apart claims = rw apart refl

module _ (st : Setting) (a : ℕ) (s : ScopeId) (v : ℕ) (t : ScopeId) (apart : is_scope t s ≡ false) where
  pub readied : (part : Part) → SameFor t part (record part { ready = set_for part.ready s true })
  readied part =
      record { flight = refl; ready = set_for-other part.ready s true t apart; stand = refl; holder = λ x. refl; queue = λ x. refl; out = λ q. refl }

  home_same : (test : Bool) (part : Part) → SameFor t part (if test then record part { ready = set_for part.ready s true } else posts s.home.0 (Ready s) part)
  home_same true part = readied part
  home_same false part = put-same t s.home.0 (Ready s) part (not_ready t s apart)

  pub goes_away-same : (rest : List ℕ) (part : Part) → SameFor t part (goes_away a s v rest part)
  goes_away-same (b ∷ rest) part = put-same t b (Ask s v rest) part (not_asked t s v rest apart)
  goes_away-same [] part = home_same (s.home.0 == a) part

  unstood : (stand : Option Stand) (part : Part) → SameFor t part (record part { stand = set_for part.stand s stand })
  unstood stand part =
      record { flight = refl; ready = refl; stand = set_for-other part.stand s stand t apart; holder = λ x. refl; queue = λ x. refl; out = λ q. refl }

  pub asks_for-same : (rest : List ℕ) (first : Option ℕ) (part : Part) → SameFor t part (asks_for a s v rest first part)
  asks_for-same rest (Some x) part =
      let claim : Claim = record { scope = s; mode = mode_at v x } in
      record {
        flight = refl;
        ready = refl;
        stand = set_for-other part.stand s (Some (record { centre = v; lock = x; rest = rest })) t apart;
        holder = λ y. refl;
        queue = λ y. set_at-kept (claims_of t) part.queue x (part.queue x ++ claim ∷ []) (claims_of-append t (part.queue x) (claim ∷ []) ∙ ap (λ (more : List Claim). claims_of t (part.queue x) ++ more) (not_claimed t claim (apart_turned t s apart) []) ∙ append-nil (claims_of t (part.queue x))) y;
        out = λ q. refl;
      }
  asks_for-same rest None part =
      let gone : Part = record part { stand = set_for part.stand s None } in
      same_then t part gone (goes_away a s v rest gone) (unstood None part) (goes_away-same rest gone)

  pub goes_on-same : (k : ℕ) (rest : List ℕ) (part : Part) → SameFor t part (goes_on st a s v k rest part)
  goes_on-same k rest part = asks_for-same rest (own_from st v a k) part
