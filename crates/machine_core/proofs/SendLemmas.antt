-- The first message that waits for a machine is taken.
use Rattle.std.proofs.Common.{◌≡◌, ℕ, zero, suc, ◌<◌, Bool, true, if◌then◌else◌, None, Some, List, [], ◌∷◌, length, map, set, get_or, slice_get, inl, inr, nat_lt, ◌↔◌, true≢false, refl, sym, ap, ◌∙◌, arith, get_or-set_same, get_or-set_other}
use Rattle.std.proofs.lemmas.Bool.{cases_eq, eq-eqb, ne_eqb, lt-ltb}
use Rattle.std.proofs.lemmas.List.{set-get_or}
use Rattle.gl_base.specs.declared.numbers.MachineNo.{MachineNo}
use Rattle.gl_base.specs.declared.scopes.Peer.TheVariants.{Machine}
use Rattle.cluster_laws.specs.cluster_core.Actions.{HasFirst}
use Rattle.cluster_laws.specs.cluster_core.Messages as law
use Rattle.cluster_laws.specs.cluster_core.Ranges.{set_at}
use Rattle.wire.specs.outboxes.Outboxes.{OutboxView, OutboxesView, MessageView, no_outbox, outbox_to, waiting_for, with_outbox, left_behind, without_first}
use Rattle.wire.specs.wire_msgs.Views.{message_view}
use Rattle.wire.specs.declared.wire_msgs.messages.Message.{Message}
use Rattle.machine_core.specs.machine_parts.Parts.{message_of, messages_for}

-- ---- a list and its first

none_first : (w : MessageView) → Some w ≡ None → ⊥
none_first w is = cc

first_behind : (ws : List MessageView) (w : MessageView) (room : ℕ) → Some w ≡ slice_get ws 0 → (behind : List MessageView) × (ws ≡ w ∷ behind) × ((left_behind ws room).messages ≡ behind)
first_behind [] w room first = absurd (none_first w first)
first_behind (u ∷ ws) w room first =
    let same : w ≡ u = cc in
    (ws, ap (λ (x : MessageView). x ∷ ws) (sym same), refl)

none_waits : (ws : List MessageView) → None ≡ slice_get ws 0 → ws ≡ []
none_waits [] none = refl
none_waits (w ∷ ws) none = absurd (none_first w (sym none))

-- a message waits just where the law finds a first one
pub waits_first : (ws : List MessageView) → (nat_lt 0 (length ws) ≡ true) ↔ HasFirst (map message_of ws)
waits_first [] = (λ waits. absurd (true≢false (sym waits)), λ first. absurd (no_message first.message first.behind first.first))
  where
    no_message : (m : law.Message) (behind : List law.Message) → [] ≡ m ∷ behind → ⊥
    no_message m behind is = cc
waits_first (w ∷ ws) = (λ waits. record { message = message_of w; behind = map message_of ws; first = refl }, λ first. lt-ltb 0 (length (w ∷ ws)) (omega arith))

-- an outbox in which a message waits is one of the list
is_there : (boxes : List OutboxView) (b : ℕ) (w : MessageView) → Some w ≡ slice_get (get_or boxes b no_outbox).messages 0 → b < length boxes
is_there [] b w first = absurd (none_first w first)
is_there (box ∷ boxes) zero w first = omega arith
is_there (box ∷ boxes) (suc b) w first = omega (arith, is_there boxes b w first)

-- what waits for machine q, as the outbox to machine b is another one
box_behind : (boxes : List OutboxView) (b q : ℕ) (box : OutboxView) (ws : List MessageView) → b < length boxes → box.messages ≡ ws
    → map message_of (get_or (set boxes b box) q no_outbox).messages ≡ set_at (λ (r : ℕ). map message_of (get_or boxes r no_outbox).messages) b (map message_of ws) q
box_behind boxes b q box ws low is = elim (cases_eq q b) [
  | inl same ↦
      ap (λ (r : ℕ). map message_of (get_or (set boxes b box) r no_outbox).messages) same
      ∙ ap (λ (o : OutboxView). map message_of o.messages) (get_or-set_same boxes b box no_outbox low)
      ∙ ap (map message_of) is
      ∙ sym (ap (λ (t : Bool). if t then map message_of ws else map message_of (get_or boxes q no_outbox).messages) (eq-eqb q b same))
  | inr other ↦
      ap (λ (o : OutboxView). map message_of o.messages) (get_or-set_other boxes b q box no_outbox other)
      ∙ sym (ap (λ (t : Bool). if t then map message_of ws else map message_of (get_or boxes q no_outbox).messages) (ne_eqb q b other))
]

-- what waits, where the first for machine `to` is taken
module _ (before out : OutboxesView) (to : MachineNo) (behind : out ≡ with_outbox before (Machine to) (without_first (outbox_to before (Machine to)))) where
  pub first_taken : (message : Message) → Some (message_view message) ≡ slice_get (waiting_for before (Machine to)) 0
      → (rest : List law.Message) × (messages_for before to.0 ≡ message_of (message_view message) ∷ rest) × ((q : ℕ) → messages_for out q ≡ set_at (messages_for before) to.0 rest q)
  first_taken message first =
      let box = outbox_to before (Machine to) in
      let left = first_behind box.messages (message_view message) box.room first in
      let low = is_there before.machines to.0 (message_view message) first in (
        map message_of left.0,
        ap (map message_of) left.1,
        λ q. ap (λ (o : OutboxesView). messages_for o q) behind ∙ box_behind before.machines to.0 q (without_first box) left.0 low left.2,
      )

  pub none_taken : None ≡ slice_get (waiting_for before (Machine to)) 0 → out ≡ before
  none_taken first =
      let box = outbox_to before (Machine to) in
      let empty = none_waits box.messages first in
      let same : without_first box ≡ box = ap (λ (ws : List MessageView). left_behind ws box.room) empty ∙ (λ i. record { messages = (sym empty) i; room = box.room }) in
      behind
      ∙ ap (λ (b : OutboxView). record before { machines = set before.machines to.0 b }) same
      ∙ (λ i. record before { machines = (set-get_or before.machines to.0 no_outbox) i })
