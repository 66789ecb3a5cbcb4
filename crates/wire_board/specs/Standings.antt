-- A machine that owes an update, and what it has come to since its seat's last step.
pub use Rattle.coordinator.specs.machine_api.Eager.{CanBeginAtOnce}
pub use Rattle.coordinator.specs.machine_api.Going.{IsSnapSetting}
pub use Rattle.coordinator.specs.machine_api.Promises.{Deed, Machine, OfEach, Setting}
pub use Rattle.wire_board.specs.declared.standings.Member.{Member}
pub use Rattle.wire_board.specs.declared.standings.Owed.{Owed}
pub use Rattle.wire_board.specs.declared.standings.Owed.TheVariants.{AtOnce, Nothing, Update}
pub use Rattle.wire_board.specs.declared.standings.Standing.{Standing}
use Rattle.std.specs.List.{AllByRecursion}
use Rattle.std.specs.Prelude.{List, [], ⊤, ℕ, ◌∷◌}
use Rattle.gl_base.specs.declared.numbers.Vertex.{Vertex}
use Rattle.gl_base.specs.declared.scopes.ScopeId.{ScopeId}
use Rattle.coordinator.specs.machine_api.AtOnce.{AreDone, deeds_at_once}
use Rattle.coordinator.specs.machine_api.Promises.{Admit, Grant, Mark, Section}
use Rattle.coordinator.specs.machine_api.Promises as deed

-- a machine that owes nothing
abbrev pub at_rest : {M : Type 0} → Member M → Standing M
at_rest member = record { member = member; owed = Nothing }

-- a machine that owes the update of a ready scope, or one at once, under this ticket
abbrev pub owing : {M : Type 0} → Member M → ScopeId → ℕ → Standing M
owing member s ticket = record { member = member; owed = Update s ticket }

abbrev pub owing_at_once : {M : Type 0} → Member M → Vertex → ℕ → Standing M
owing_at_once member v ticket = record { member = member; owed = AtOnce v ticket }

-- what a machine that was this still has to do
abbrev pub owed_deeds : Setting → ℕ → Machine → Owed → List Deed
owed_deeds st a m Nothing = []
owed_deeds st a m (Update s ticket) = deed.Update s ticket ∷ []
owed_deeds st a m (AtOnce v ticket) = deeds_at_once st a v.0 ticket m

-- In a cluster with this setting the code is machine a, which is m once what is owed is done.
pub record StandsOwing {M : Type 0} (represents : Setting → ℕ → Machine → M → Type 0) (st : Setting) (a : ℕ) (m : Machine) (x : Standing M) : Type 0 where
  pub before : Machine
  pub here : represents st a before x.member.machine
  pub done : AreDone st a (owed_deeds st a before x.owed) before m

-- ---- what a machine does by itself, without a ticket

abbrev pub IsOwn : Deed → Type 0
IsOwn (Admit v) = ⊤
IsOwn (Grant x) = ⊤
IsOwn (deed.Update s ticket) = ⊥
IsOwn (Mark s) = ⊤
IsOwn Section = ⊤

-- From this machine of the law such deeds lead to one for which the code stands.
pub record WorksTo {M : Type 0} (represents : Setting → ℕ → Machine → M → Type 0) (y : M) (st : Setting) (a : ℕ) (m : Machine) : Type 0 where
  pub deeds : List Deed
  pub own : AllByRecursion IsOwn deeds
  pub after : Machine
  pub done : AreDone st a deeds m after
  pub here : represents st a after y

-- from each machine for which x stood, once what was owed is done
abbrev pub HasComeTo : {M : Type 0} → (Setting → ℕ → Machine → M → Type 0) → Standing M → M → Type 0
HasComeTo represents x y = (st : Setting) (a : ℕ) (m : Machine) → IsSnapSetting st → StandsOwing represents st a m x → WorksTo represents y st a m

-- from each machine for which the old code stands
abbrev pub ComesOn : {M : Type 0} → (Setting → ℕ → Machine → M → Type 0) → M → M → Type 0
ComesOn represents old new = OfEach represents old (WorksTo represents new)
