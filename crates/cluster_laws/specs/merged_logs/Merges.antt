-- Entries of many logs in one order.
pub use Rattle.std.specs.List.Sorted.{IsPermutation, IsNonDecreasingBy}
pub use Rattle.cluster_laws.specs.cluster_core.Replays.{entries_of, is_of, ticket_of}
pub use Rattle.cluster_laws.specs.cluster_cuts.Goings.{AreUpdatesFrom}
use Rattle.std.specs.Prelude.{ℕ, ◌<◌, List, map, AllPairs}
use Rattle.std.specs.List.{flat_map, range_with_len}
use Rattle.gl_base.specs.declared.entries.Entry.{Entry}
use Rattle.gl_base.specs.declared.entries.Entry.TheVariants.{Go, Restart}

-- no entry has a lower ticket than one before it
abbrev pub IsByTicket : List Entry → Type 0
IsByTicket order = IsNonDecreasingBy ticket_of order

-- each ticket is above those of all entries before it
abbrev pub RiseByTicket : List Entry → Type 0
RiseByTicket order = AllPairs (λ earlier later. ticket_of earlier < ticket_of later) order

-- the entries of all logs, one log behind the other
abbrev pub all_logged : List (List Entry) → List Entry
all_logged logs = flat_map (λ log. log) logs

-- these entries, each as often, by ticket
pub record IsMerge (entries order : List Entry) : Type 0 where
  pub same : IsPermutation entries order
  pub by_ticket : IsByTicket order

-- the log of each of so many machines: its part of the order
abbrev pub logs_of : ℕ → List Entry → List (List Entry)
logs_of machines order = map (λ a. entries_of a order) (range_with_len 0 machines)

-- an update by one of so many machines
abbrev pub IsByMachineBelow : ℕ → Entry → Type 0
IsByMachineBelow machines (Go machine vertex ticket) = machine.0 < machines
IsByMachineBelow machines (Restart ticket) = ⊥
