-- The outboxes of machines, where one of them is changed.
use Rattle.std.proofs.Common.{◌≡◌, ◌≢◌, ℕ, ◌<◌, ◌≤◌, inl, inr, List, [], ◌∷◌, ◌++◌, length, sym, subst, get_or-set_same, get_or-set_other}
use Rattle.std.specs.Prelude.{slice_index_or, slice_set}
use Rattle.std.proofs.lemmas.Bool.{cases_eq}
use Rattle.coordinator.specs.coord_core.Coordinators.{MessageView, OutboxView, OutboxesView, waiting_at, no_outbox}
use Rattle.coordinator.specs.coord_core.Inner.Asking.{SameMessages, room_for}

-- what holds of the box that stands at b now, and of each other box as it stood, holds of box a
pub box_set : (P : ℕ → OutboxView → Type 0) (boxes : List OutboxView) (b a : ℕ) (box : OutboxView) →
    b < length boxes → P b box → (a ≢ b → P a (slice_index_or boxes a no_outbox)) → P a (slice_index_or (slice_set boxes b box) a no_outbox)
box_set P boxes b a box inside here elsewhere = elim (cases_eq a b) [
  | inl same ↦
      subst (λ (k : ℕ). P k (slice_index_or (slice_set boxes b box) k no_outbox)) (sym same)
      (subst (P b) (sym (get_or-set_same boxes b box no_outbox inside)) here)
  | inr other ↦ subst (P a) (sym (get_or-set_other boxes b a box no_outbox other)) (elsewhere other)
]

-- the same messages wait, and there is room for one more to each machine below this one
pub record HaveReserved (first now : OutboxesView) (machine : ℕ) : Type 0 where
  pub same : SameMessages first now
  pub room : (b : ℕ) → b < machine → 0 < room_for now b

-- the machines below this one are told, and the boxes of the others are as they were
pub record HaveTold (first now : OutboxesView) (message : MessageView) (machine : ℕ) : Type 0 where
  pub many : length now.machines ≡ length first.machines
  pub told : (b : ℕ) → b < machine → waiting_at now b ≡ waiting_at first b ++ message ∷ []
  pub rest : (b : ℕ) → machine ≤ b → slice_index_or now.machines b no_outbox ≡ slice_index_or first.machines b no_outbox
