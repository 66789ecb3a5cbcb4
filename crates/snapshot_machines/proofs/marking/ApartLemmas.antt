-- Scopes go on as they do, whatever is kept for snapshots.
use Rattle.std.proofs.Common.{◌≡◌, ℕ, suc, ◌==◌, Bool, true, false, if◌then◌else◌, Option, Some, None, List, [], ◌∷◌, refl}
use Rattle.gl_base.specs.declared.scopes.Claim.{Claim}
use Rattle.gl_base.specs.declared.scopes.ScopeId.{ScopeId}
use Rattle.cluster_laws.specs.cluster_core.Effects.{admitted, admitted_by, asks_for, first_granted, goes_away, goes_on, granted, in_flight, moves_on, next_scope, posts, sets_out, takes_lock}
use Rattle.cluster_laws.specs.cluster_core.Messages.{Ask, Ready}
use Rattle.cluster_laws.specs.cluster_core.Parts.{Part, Stand}
use Rattle.cluster_laws.specs.cluster_core.Scopes.{machines_from, own_from, set_for}
use Rattle.cluster_laws.specs.cluster_core.Settings.{Chromatic, Engine, Locking, Setting}
use Rattle.snapshot_machines.specs.marking.Keeping.{SnapView, with_snaps}

away_apart : (a : ℕ) (s : ScopeId) (v : ℕ) (rest : List ℕ) (w : SnapView) (part : Part) → goes_away a s v rest (with_snaps w part) ≡ with_snaps w (goes_away a s v rest part)
away_apart a s v (b ∷ rest) w part = refl
away_apart a s v [] w part = by (s.home.0 == a)
  where
    by : (b : Bool) → (if b then record (with_snaps w part) { ready = set_for part.ready s true } else posts s.home.0 (Ready s) (with_snaps w part))
        ≡ with_snaps w (if b then record part { ready = set_for part.ready s true } else posts s.home.0 (Ready s) part)
    by true = refl
    by false = refl

asks_apart : (a : ℕ) (s : ScopeId) (v : ℕ) (rest : List ℕ) (o : Option ℕ) (w : SnapView) (part : Part) → asks_for a s v rest o (with_snaps w part) ≡ with_snaps w (asks_for a s v rest o part)
asks_apart a s v rest (Some x) w part = refl
asks_apart a s v rest None w part = away_apart a s v rest w (record part { stand = set_for part.stand s None })

pub on_apart : (st : Setting) (a : ℕ) (s : ScopeId) (v k : ℕ) (rest : List ℕ) (w : SnapView) (part : Part) → goes_on st a s v k rest (with_snaps w part) ≡ with_snaps w (goes_on st a s v k rest part)
on_apart st a s v k rest w part = asks_apart a s v rest (own_from st v a k) w part

out_apart : (st : Setting) (a : ℕ) (s : ScopeId) (v : ℕ) (machines : List ℕ) (w : SnapView) (part : Part) → sets_out st a s v machines (with_snaps w part) ≡ with_snaps w (sets_out st a s v machines part)
out_apart st a s v [] w part = refl
out_apart st a s v (b ∷ rest) w part = by (b == a)
  where
    by : (c : Bool) → (if c then goes_on st a s v 0 rest (with_snaps w part) else posts b (Ask s v rest) (with_snaps w part)) ≡ with_snaps w (if c then goes_on st a s v 0 rest part else posts b (Ask s v rest) part)
    by true = on_apart st a s v 0 rest w part
    by false = refl

admitted_apart : (engine : Engine) (st : Setting) (a v : ℕ) (w : SnapView) (part : Part) → admitted_by engine st a v (with_snaps w part) ≡ with_snaps w (admitted_by engine st a v part)
admitted_apart Locking st a v w part = out_apart st a (next_scope a part) v (machines_from st v 0) w (in_flight a v part)
admitted_apart (Chromatic colour colours) st a v w part = refl

pub admit_apart : (st : Setting) (a v : ℕ) (w : SnapView) (part : Part) → admitted st a v (with_snaps w part) ≡ with_snaps w (admitted st a v part)
admit_apart st a v w part = admitted_apart st.engine st a v w part

moves_apart : (st : Setting) (a x : ℕ) (c : Claim) (o : Option Stand) (w : SnapView) (part : Part) → moves_on st a x c o (with_snaps w part) ≡ with_snaps w (moves_on st a x c o part)
moves_apart st a x c None w part = refl
moves_apart st a x c (Some stand) w part = on_apart st a c.scope stand.centre (suc x) stand.rest w part

first_apart : (st : Setting) (a x : ℕ) (claims : List Claim) (w : SnapView) (part : Part) → first_granted st a x claims (with_snaps w part) ≡ with_snaps w (first_granted st a x claims part)
first_apart st a x [] w part = refl
first_apart st a x (c ∷ queue) w part = moves_apart st a x c (part.stand c.scope) w (takes_lock x c queue part)

pub grant_apart : (st : Setting) (a x : ℕ) (w : SnapView) (part : Part) → granted st a x (with_snaps w part) ≡ with_snaps w (granted st a x part)
grant_apart st a x w part = first_apart st a x (part.queue x) w part
