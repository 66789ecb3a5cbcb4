-- What a message on the wire tells, in the words of the cluster's law.
pub use Rattle.wire.specs.wire_msgs.Views.{DoneView, MessageView, message_view}
use Rattle.std.specs.Prelude.{List, map, ℕ}
use Rattle.gl_base.specs.declared.numbers.MachineNo.{MachineNo}
use Rattle.cluster_laws.specs.cluster_core.Messages.{Ask, Done, Message, News, Ready}
use Rattle.partition.specs.machine_numbers.Views.{is_in_update, number_told}
use Rattle.wire.specs.wire_msgs.Views as wire
use Rattle.wire.specs.declared.wire_msgs.messages.Message as sent

-- what is told of an update
abbrev pub news_read : DoneView → News
news_read d =
    record {
      centre = d.centre.0;
      datum = d.datum;
      edges = number_told d.edges;
      wakes = is_in_update d.wakes;
      pends = is_in_update d.pends;
      number = d.number;
    }

-- the numbers of machines
abbrev pub numbers_read : List MachineNo → List ℕ
numbers_read machines = map (λ m. m.0) machines

-- word of a scope that no machine has, for what machines don't tell each other
abbrev pub no_word : Message
no_word = Ready (record { home = record { 0 = 65536 }; serial = 0 })

-- what a message tells
abbrev pub message_read : MessageView → Message
message_read (wire.Ask scope centre rest) = Ask scope centre.0 (numbers_read rest)
message_read (wire.Ready scope) = Ready scope
message_read (wire.Done d) = Done d.scope (news_read d)
message_read (wire.Begin number) = no_word
message_read (wire.Section s) = no_word
message_read (wire.Committed number) = no_word
message_read (wire.Wave wave) = no_word
message_read (wire.Count wave counted) = no_word
message_read (wire.Step colour) = no_word
message_read (wire.Want acknowledged) = no_word

-- the same of the message itself
abbrev pub view_of : sent.Message → Message
view_of m = message_read (message_view m)
