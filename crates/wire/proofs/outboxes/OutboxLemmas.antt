-- Outboxes by their peer.
use Rattle.std.proofs.Common.{◌≡◌, ◌≢◌, ℕ, zero, suc, List, [], ◌∷◌, get_or, refl, arith, get_or-set_same, get_or-set_other}
use Rattle.std.specs.List.{All}
use Rattle.gl_base.specs.declared.scopes.Peer.{Peer}
use Rattle.gl_base.specs.declared.scopes.Peer.TheVariants.{Machine, Coordinator}
use Rattle.gl_base.specs.declared.numbers.MachineNo.{MachineNo}
use Rattle.wire.specs.outboxes.Outboxes.{OutboxView, OutboxesView, no_outbox, outbox_to, waiting_for, IsPeerOf, with_outbox}

-- none of them has a message
nothing_at : (boxes : List OutboxView) (b : ℕ) → All (λ (box : OutboxView). box.messages ≡ []) boxes → (get_or boxes b no_outbox).messages ≡ []
nothing_at [] b none = refl
nothing_at (box ∷ boxes) zero none = none 0 box (omega arith)
nothing_at (box ∷ boxes) (suc b) none = nothing_at boxes b (λ k d low. none (suc k) d (omega arith))

pub nothing_waits : (o : OutboxesView) → All (λ (box : OutboxView). box.messages ≡ []) o.machines → o.coordinator.messages ≡ [] → (to : Peer) → waiting_for o to ≡ []
nothing_waits o none no_one (Machine b) = nothing_at o.machines b.0 none
nothing_waits o none no_one Coordinator = no_one

-- ---- one of them is written

pub outbox_here : (o : OutboxesView) (to : Peer) (box : OutboxView) → IsPeerOf o to → outbox_to (with_outbox o to box) to ≡ box
outbox_here o (Machine b) box is_peer = get_or-set_same o.machines b.0 box no_outbox is_peer
outbox_here o Coordinator box is_peer = refl

pub outbox_elsewhere : (o : OutboxesView) (b c : MachineNo) (box : OutboxView) → c.0 ≢ b.0 → outbox_to (with_outbox o (Machine b) box) (Machine c) ≡ outbox_to o (Machine c)
outbox_elsewhere o b c box other = get_or-set_other o.machines b.0 c.0 box no_outbox other
