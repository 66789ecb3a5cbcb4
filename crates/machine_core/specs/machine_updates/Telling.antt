-- Word of an update for another machine.
use Rattle.std.specs.Prelude.{ℕ}
use Rattle.local_graph.specs.declared.works.Outcome.{Outcome}
use Rattle.wire.specs.declared.wire_msgs.messages.Done.{Done}
use Rattle.partition.specs.declared.machine_numbers.keeping.Numbers.{Numbers}
use Rattle.partition.specs.machine_numbers.Steps.{TellsOf}

-- there is a message that tells machine q of the outcome
pub record HasWord (n : Numbers) (o : Outcome) (q : ℕ) : Type 0 where
  pub done : Done
  pub tells : TellsOf n (record { 0 = q }) o done
