-- An update at once of a machine that takes snapshots, as what it does by itself in turn.
pub use Rattle.cluster_laws.specs.interior_scopes.AtOnce.{MayUpdateAtOnce, locks_at_once}
pub use Rattle.coordinator.specs.machine_api.Promises.{Admit, CanNotAdmit, Deed, Grant, Machine, MayBeDone, OfEach, Setting, Update, does}
use Rattle.std.specs.Prelude.{List, [], map, true, ℕ, ◌++◌, ◌∷◌, ◌≡◌, ◌⊎◌}
use Rattle.cluster_laws.specs.cluster_core.Effects.{next_scope}
use Rattle.cluster_laws.specs.cluster_model.Working.{has_room}

-- machine a does these in turn, each of which may be done then
abbrev pub AreDone : Setting → ℕ → List Deed → Machine → Machine → Type 0
AreDone st a [] old new = new ≡ old
AreDone st a (deed ∷ more) old new = MayBeDone st a old deed × AreDone st a more (does st a deed old) new

-- a scope of v is admitted, each of its locks is granted in turn, of which there is none with colours, and its update is made under this ticket
abbrev pub deeds_at_once : Setting → ℕ → ℕ → ℕ → Machine → List Deed
deeds_at_once st a v ticket m = Admit v ∷ map Grant (locks_at_once st v a) ++ Update (next_scope a m.part) ticket ∷ []

-- Machine a may update v at once, while a ticket is left: a scope of v may be admitted, v is a task and not pending, its scope is all the
-- machine's, where scopes take locks nobody claims one of it, and the window has room for one update more.
pub record MayUpdateWithin (st : Setting) (a v : ℕ) (m : Machine) : Type 0 where
  pub may : MayUpdateAtOnce st a v m.part 1
  pub room : has_room st m ≡ true

-- it has: what has become of the code stands for what that makes of the machine
pub record IsUpdatedWithin {M : Type 0} (represents : Setting → ℕ → Machine → M → Type 0) (v ticket : ℕ) (new : M) (st : Setting) (a : ℕ) (m : Machine) : Type 0 where
  pub may : MayUpdateWithin st a v m
  pub after : Machine
  pub done : AreDone st a (deeds_at_once st a v ticket m) m after
  pub here : represents st a after new

-- ---- for each machine of the law that it is

abbrev pub HasUpdatedAtOnce : {M : Type 0} → (Setting → ℕ → Machine → M → Type 0) → M → ℕ → ℕ → M → Type 0
HasUpdatedAtOnce represents old v ticket new = OfEach represents old (IsUpdatedWithin represents v ticket new)

-- some vertex may be updated at once
abbrev pub CanUpdateAtOnce : {M : Type 0} → (Setting → ℕ → Machine → M → Type 0) → M → Type 0
CanUpdateAtOnce represents x = (v : ℕ) × OfEach represents x (λ st a m. MayUpdateWithin st a v m)

-- of no vertex may a scope be admitted, or of one may a scope be admitted that may not be updated at once
abbrev pub CanNotUpdateAtOnce : {M : Type 0} → (Setting → ℕ → Machine → M → Type 0) → M → Type 0
CanNotUpdateAtOnce represents x =
    CanNotAdmit represents x ⊎ ((v : ℕ) × OfEach represents x (λ st a m. MayBeDone st a m (Admit v) × (MayUpdateWithin st a v m → ⊥)))
