-- Scopes go on as they do, whatever the numbers are.
use Rattle.std.proofs.Common.{◌≡◌, ℕ, suc, ◌==◌, Bool, true, false, if◌then◌else◌, Option, Some, None, List, [], ◌∷◌, refl}
use Rattle.gl_base.specs.declared.scopes.Claim.{Claim}
use Rattle.gl_base.specs.declared.scopes.Datum.{Datum}
use Rattle.gl_base.specs.declared.scopes.ScopeId.{ScopeId}
use Rattle.cluster_laws.specs.cluster_core.Effects.{admitted, admitted_by, asks_for, first_granted, goes_away, goes_on, granted, in_flight, moves_on, next_scope, posts, sets_out, takes_lock}
use Rattle.cluster_laws.specs.cluster_core.Messages.{Ask, Ready}
use Rattle.cluster_laws.specs.cluster_core.Parts.{Part, Stand}
use Rattle.cluster_laws.specs.cluster_core.Scopes.{machines_from, own_from, set_for}
use Rattle.cluster_laws.specs.cluster_core.Settings.{Chromatic, Engine, Locking, Setting}
use Rattle.cluster_laws.specs.known_parts.Alike.{with_copies}

module _ (d : ℕ → Datum) (n : ℕ → ℕ) where
  abbrev with : Part → Part
  with part = with_copies d n part

  away_apart : (a : ℕ) (s : ScopeId) (v : ℕ) (rest : List ℕ) (part : Part) → goes_away a s v rest (with part) ≡ with (goes_away a s v rest part)
  away_apart a s v (b ∷ rest) part = refl
  away_apart a s v [] part = by (s.home.0 == a)
    where
      by : (b : Bool) → (if b then record (with part) { ready = set_for part.ready s true } else posts s.home.0 (Ready s) (with part))
          ≡ with (if b then record part { ready = set_for part.ready s true } else posts s.home.0 (Ready s) part)
      by true = refl
      by false = refl

  asks_apart : (a : ℕ) (s : ScopeId) (v : ℕ) (rest : List ℕ) (o : Option ℕ) (part : Part) → asks_for a s v rest o (with part) ≡ with (asks_for a s v rest o part)
  asks_apart a s v rest (Some x) part = refl
  asks_apart a s v rest None part = away_apart a s v rest (record part { stand = set_for part.stand s None })

  pub on_apart : (st : Setting) (a : ℕ) (s : ScopeId) (v k : ℕ) (rest : List ℕ) (part : Part) → goes_on st a s v k rest (with part) ≡ with (goes_on st a s v k rest part)
  on_apart st a s v k rest part = asks_apart a s v rest (own_from st v a k) part

  out_apart : (st : Setting) (a : ℕ) (s : ScopeId) (v : ℕ) (machines : List ℕ) (part : Part) → sets_out st a s v machines (with part) ≡ with (sets_out st a s v machines part)
  out_apart st a s v [] part = refl
  out_apart st a s v (b ∷ rest) part = by (b == a)
    where
      by : (c : Bool) → (if c then goes_on st a s v 0 rest (with part) else posts b (Ask s v rest) (with part)) ≡ with (if c then goes_on st a s v 0 rest part else posts b (Ask s v rest) part)
      by true = on_apart st a s v 0 rest part
      by false = refl

  admitted_apart : (engine : Engine) (st : Setting) (a v : ℕ) (part : Part) → admitted_by engine st a v (with part) ≡ with (admitted_by engine st a v part)
  admitted_apart Locking st a v part = out_apart st a (next_scope a part) v (machines_from st v 0) (in_flight a v part)
  admitted_apart (Chromatic colour colours) st a v part = refl

  pub admit_apart : (st : Setting) (a v : ℕ) (part : Part) → admitted st a v (with part) ≡ with (admitted st a v part)
  admit_apart st a v part = admitted_apart st.engine st a v part

  moves_apart : (st : Setting) (a x : ℕ) (c : Claim) (o : Option Stand) (part : Part) → moves_on st a x c o (with part) ≡ with (moves_on st a x c o part)
  moves_apart st a x c None part = refl
  moves_apart st a x c (Some stand) part = on_apart st a c.scope stand.centre (suc x) stand.rest part

  first_apart : (st : Setting) (a x : ℕ) (claims : List Claim) (part : Part) → first_granted st a x claims (with part) ≡ with (first_granted st a x claims part)
  first_apart st a x [] part = refl
  first_apart st a x (c ∷ queue) part = moves_apart st a x c (part.stand c.scope) (takes_lock x c queue part)

  pub grant_apart : (st : Setting) (a x : ℕ) (part : Part) → granted st a x (with part) ≡ with (granted st a x part)
  grant_apart st a x part = first_apart st a x (part.queue x) part
