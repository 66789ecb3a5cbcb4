-- What the coordinator tells each machine, as a message.
use Rattle.coordinator.specs.coord_core.Coordinators.{MessageView}
use Rattle.coordinator.specs.declared.coord_core.asking.Word.{Word}
use Rattle.coordinator.specs.declared.coord_core.asking.Word.TheVariants as word
use Rattle.wire.specs.wire_msgs.Views as wire

abbrev pub word_message : Word → MessageView
word_message (word.Begin number) = wire.Begin number
word_message (word.Committed number) = wire.Committed number
word_message (word.Wave wave) = wire.Wave wave
word_message (word.Step colour) = wire.Step colour
