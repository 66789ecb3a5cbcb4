-- Messages that are the same: the lists that they hold have the same elements.
use Rattle.std.specs.Prelude.{◌≡◌}
use Rattle.wire.specs.declared.wire_msgs.messages.Done.{Done}
use Rattle.wire.specs.declared.wire_msgs.messages.Section.{Section}
use Rattle.wire.specs.declared.wire_msgs.messages.Message.{Message}
use Rattle.wire.specs.declared.wire_msgs.messages.Message.TheVariants as wire

pub record IsSameDone (one other : Done) : Type 0 where
  pub scope : other.scope ≡ one.scope
  pub centre : other.centre ≡ one.centre
  pub datum : other.datum ≡ one.datum
  pub edges : other.edges.items ≡ one.edges.items
  pub wakes : other.wakes.items ≡ one.wakes.items
  pub pends : other.pends.items ≡ one.pends.items
  pub number : other.number ≡ one.number

pub record IsSameSection (one other : Section) : Type 0 where
  pub number : other.number ≡ one.number
  pub vertices : other.vertices.items ≡ one.vertices.items
  pub edges : other.edges.items ≡ one.edges.items
  pub entries : other.entries.items ≡ one.entries.items

-- the messages are of one kind, and hold the same
abbrev pub IsSameMessage : Message → Message → Type 0
IsSameMessage (wire.Ask s c r) (wire.Ask t d q) = (t ≡ s) × (d ≡ c) × (q.items ≡ r.items)
IsSameMessage (wire.Ready s) (wire.Ready t) = t ≡ s
IsSameMessage (wire.Done one) (wire.Done other) = IsSameDone one other
IsSameMessage (wire.Begin k) (wire.Begin j) = j ≡ k
IsSameMessage (wire.Section one) (wire.Section other) = IsSameSection one other
IsSameMessage (wire.Committed k) (wire.Committed j) = j ≡ k
IsSameMessage (wire.Wave k) (wire.Wave j) = j ≡ k
IsSameMessage (wire.Count k one) (wire.Count j other) = (j ≡ k) × (other ≡ one)
IsSameMessage (wire.Step k) (wire.Step j) = j ≡ k
IsSameMessage (wire.Want k) (wire.Want j) = j ≡ k
IsSameMessage _ _ = ⊥
