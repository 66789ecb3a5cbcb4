-- One scope moves from one stage to another, and the places stay places.
use Rattle.std.proofs.Common.{◌≡◌, ◌≢◌, ◌⊎◌, ℕ, ◌<◌, ◌≤◌, true, false, Some, refl, sym, ◌∙◌, ⊎_elim, arith}
use Rattle.gl_base.specs.declared.scopes.ScopeId.{ScopeId}
use Rattle.cluster_laws.specs.cluster_core.Settings.{Setting}
use Rattle.cluster_laws.specs.cluster_core.Scopes.{is_scope, set_for}
use Rattle.cluster_laws.specs.cluster_core.Worlds.{World}
use Rattle.cluster_laws.specs.cluster_core.Stages.{Stage, Idle, Shows, sight_of, has_lock, centre_of, flying}
use Rattle.cluster_laws.specs.cluster_core.Places.{ArePlaces, IsStageOf}
use Rattle.cluster_laws.proofs.cluster_core.Basics.{set_for-holds}

-- the locks of the next stage are locks of this one, or go together with the locks of each other scope
abbrev pub LocksFit : Setting → (ScopeId → Stage) → ScopeId → Stage → Type 0
LocksFit st stage s next =
    (x : ℕ) → has_lock st next x ≡ true →
    ((has_lock st (stage s) x ≡ true) × (centre_of next ≡ centre_of (stage s)))
    ⊎ ((t : ScopeId) → is_scope t s ≡ false → has_lock st (stage t) x ≡ true → (centre_of next ≢ Some x) × (centre_of (stage t) ≢ Some x))

-- the vertex of the next stage is that of this one, or no other scope in flight has it
abbrev pub FliesFit : (ScopeId → Stage) → ScopeId → Stage → Type 0
FliesFit stage s next =
    (v : ℕ) → flying next ≡ Some v → (flying (stage s) ≡ Some v) ⊎ ((t : ScopeId) → is_scope t s ≡ false → flying (stage t) ≢ Some v)

module _ (st : Setting) (old new : World) (stage : ScopeId → Stage) (places : ArePlaces st old stage) (s : ScopeId) (next : Stage) where
  alone_here : LocksFit st stage s next → (x : ℕ) → centre_of next ≡ Some x → has_lock st next x ≡ true → (t : ScopeId) → has_lock st (set_for stage s next t) x ≡ true → s ≡ t
  alone_here fits x centre has =
      set_for-holds (λ (t : ScopeId) (y : Stage). has_lock st y x ≡ true → s ≡ t) stage s next
      (λ also. refl)
      (λ t apart also. ⊎_elim
      (λ (was : (has_lock st (stage s) x ≡ true) × (centre_of next ≡ centre_of (stage s))). places.alone s t x (sym was.1 ∙ centre) was.0 also)
      (λ (together : (r : ScopeId) → is_scope r s ≡ false → has_lock st (stage r) x ≡ true → (centre_of next ≢ Some x) × (centre_of (stage r) ≢ Some x)). absurd ((together t apart also).0 centre))
      (fits x has))

  alone_there : LocksFit st stage s next → (x : ℕ) (r : ScopeId) → is_scope r s ≡ false → centre_of (stage r) ≡ Some x → has_lock st (stage r) x ≡ true → (t : ScopeId) → has_lock st (set_for stage s next t) x ≡ true → r ≡ t
  alone_there fits x r apart centre has =
      set_for-holds (λ (t : ScopeId) (y : Stage). has_lock st y x ≡ true → r ≡ t) stage s next
      (λ also. ⊎_elim
      (λ (was : (has_lock st (stage s) x ≡ true) × (centre_of next ≡ centre_of (stage s))). places.alone r s x centre has was.0)
      (λ (together : (t : ScopeId) → is_scope t s ≡ false → has_lock st (stage t) x ≡ true → (centre_of next ≢ Some x) × (centre_of (stage t) ≢ Some x)). absurd ((together r apart has).1 centre))
      (fits x also))
      (λ t off also. places.alone r t x centre has also)

  still_alone : LocksFit st stage s next → (r t : ScopeId) (x : ℕ) → centre_of (set_for stage s next r) ≡ Some x → has_lock st (set_for stage s next r) x ≡ true → has_lock st (set_for stage s next t) x ≡ true → r ≡ t
  still_alone fits r t x centre has also =
      set_for-holds
      (λ (r : ScopeId) (y : Stage). centre_of y ≡ Some x → has_lock st y x ≡ true → (t : ScopeId) → has_lock st (set_for stage s next t) x ≡ true → r ≡ t)
      stage s next
      (λ centre has. alone_here fits x centre has)
      (λ r apart centre has. alone_there fits x r apart centre has)
      r centre has t also

  single_here : FliesFit stage s next → (v : ℕ) → flying next ≡ Some v → (t : ScopeId) → flying (set_for stage s next t) ≡ Some v → s ≡ t
  single_here fits v flies =
      set_for-holds (λ (t : ScopeId) (y : Stage). flying y ≡ Some v → s ≡ t) stage s next
      (λ also. refl)
      (λ t apart also. ⊎_elim
      (λ (was : flying (stage s) ≡ Some v). places.single s t v was also)
      (λ (none : (t : ScopeId) → is_scope t s ≡ false → flying (stage t) ≢ Some v). absurd (none t apart also))
      (fits v flies))

  single_there : FliesFit stage s next → (v : ℕ) (r : ScopeId) → is_scope r s ≡ false → flying (stage r) ≡ Some v → (t : ScopeId) → flying (set_for stage s next t) ≡ Some v → r ≡ t
  single_there fits v r apart flies =
      set_for-holds (λ (t : ScopeId) (y : Stage). flying y ≡ Some v → r ≡ t) stage s next
      (λ also. ⊎_elim
      (λ (was : flying (stage s) ≡ Some v). places.single r s v flies was)
      (λ (none : (t : ScopeId) → is_scope t s ≡ false → flying (stage t) ≢ Some v). absurd (none r apart flies))
      (fits v also))
      (λ t off also. places.single r t v flies also)

  still_single : FliesFit stage s next → (r t : ScopeId) (v : ℕ) → flying (set_for stage s next r) ≡ Some v → flying (set_for stage s next t) ≡ Some v → r ≡ t
  still_single fits r t v flies also =
      set_for-holds
      (λ (r : ScopeId) (y : Stage). flying y ≡ Some v → (t : ScopeId) → flying (set_for stage s next t) ≡ Some v → r ≡ t)
      stage s next
      (λ flies. single_here fits v flies)
      (λ r apart flies. single_there fits v r apart flies)
      r flies t also

  pub one_moves : Shows st new s (sight_of st s next) → ((t : ScopeId) → is_scope t s ≡ false → Shows st old t (sight_of st t (stage t)) → Shows st new t (sight_of st t (stage t))) → IsStageOf st s next → ((a : ℕ) → (old.part a).serial ≤ (new.part a).serial) → (next ≢ Idle → s.serial < (new.part s.home.0).serial) → LocksFit st stage s next → FliesFit stage s next → ArePlaces st new (set_for stage s next)
  one_moves shown others stage_of rises admitted locks flies =
      record {
        shows = set_for-holds (λ (t : ScopeId) (x : Stage). Shows st new t (sight_of st t x)) stage s next shown (λ t apart. others t apart (places.shows t));
        stages = set_for-holds (λ (t : ScopeId) (x : Stage). IsStageOf st t x) stage s next stage_of (λ t apart. places.stages t);
        admitted = set_for-holds (λ (t : ScopeId) (x : Stage). x ≢ Idle → t.serial < (new.part t.home.0).serial) stage s next admitted
            (λ t apart busy. omega (arith, places.admitted t busy, rises t.home.0));
        single = still_single flies;
        alone = still_alone locks;
      }
