-- Messages as what they hold: with lists in place of vectors, whose values carry more than their elements.
use Rattle.std.specs.Prelude.{ℕ, Option, List}
use Rattle.gl_base.specs.declared.entries.Entry.{Entry}
use Rattle.gl_base.specs.declared.numbers.EdgeNo.{EdgeNo}
use Rattle.gl_base.specs.declared.numbers.MachineNo.{MachineNo}
use Rattle.gl_base.specs.declared.numbers.Vertex.{Vertex}
use Rattle.gl_base.specs.declared.scopes.Counted.{Counted}
use Rattle.gl_base.specs.declared.scopes.Datum.{Datum}
use Rattle.gl_base.specs.declared.scopes.ScopeId.{ScopeId}
use Rattle.wire.specs.declared.wire_msgs.messages.Done as done
use Rattle.wire.specs.declared.wire_msgs.messages.Section as section
use Rattle.wire.specs.declared.wire_msgs.messages.Message as message
use Rattle.wire.specs.declared.wire_msgs.messages.Message.TheVariants as wire

pub record DoneView : Type 0 where
  pub scope : ScopeId
  pub centre : Vertex
  pub datum : Option Datum
  pub edges : List (EdgeNo × ℕ)
  pub wakes : List Vertex
  pub pends : List Vertex
  pub number : ℕ

pub record SectionView : Type 0 where
  pub number : ℕ
  pub vertices : List (Vertex × ℕ)
  pub edges : List (EdgeNo × ℕ)
  pub entries : List Entry

-- each kind of message has what it says
pub data MessageView : Type 0 where
  Ask : (scope : ScopeId) → (centre : Vertex) → (rest : List MachineNo) → MessageView
  Ready : (scope : ScopeId) → MessageView
  Done : (told : DoneView) → MessageView
  Begin : (number : ℕ) → MessageView
  Section : (saved : SectionView) → MessageView
  Committed : (number : ℕ) → MessageView
  Wave : (wave : ℕ) → MessageView
  Count : (wave : ℕ) → (counted : Counted) → MessageView
  Step : (colour : ℕ) → MessageView
  Want : (acknowledged : ℕ) → MessageView

abbrev pub done_view : done.Done → DoneView
done_view d =
    record {
      scope = d.scope;
      centre = d.centre;
      datum = d.datum;
      edges = d.edges.items;
      wakes = d.wakes.items;
      pends = d.pends.items;
      number = d.number;
    }

abbrev pub section_view : section.Section → SectionView
section_view s = record { number = s.number; vertices = s.vertices.items; edges = s.edges.items; entries = s.entries.items }

abbrev pub message_view : message.Message → MessageView
message_view (wire.Ask scope centre rest) = Ask scope centre rest.items
message_view (wire.Ready scope) = Ready scope
message_view (wire.Done d) = Done (done_view d)
message_view (wire.Begin number) = Begin number
message_view (wire.Section s) = Section (section_view s)
message_view (wire.Committed number) = Committed number
message_view (wire.Wave wave) = Wave wave
message_view (wire.Count wave counted) = Count wave counted
message_view (wire.Step colour) = Step colour
message_view (wire.Want acknowledged) = Want acknowledged
