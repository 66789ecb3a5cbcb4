-- What callers see of the sources and sinks in memory.
use Rattle.std.specs.Prelude.{◌≡◌, ℕ, ◌+◌, ◌-◌, ◌<◌, min, List, length, Result, Ok, Err}
use Rattle.gl_outside.specs.Calls.{CallCounts}

-- a source: the bytes that are left, and its calls
pub record SourceState : Type 0 where
  pub left : List ℕ
  pub calls : CallCounts

-- a sink: the bytes that it holds, how many more it has room for, how many it can hold before it takes memory, and
-- its calls
pub record SinkState : Type 0 where
  pub held : List ℕ
  pub room : ℕ
  pub ready : ℕ
  pub calls : CallCounts

-- how much of a piece there is room for
abbrev pub fitting : SinkState → List ℕ → ℕ
fitting sink piece = min (length piece) sink.room

-- there is no room for a piece that is not empty
abbrev pub HasNoRoom : SinkState → List ℕ → Type 0
HasNoRoom sink piece = (sink.room ≡ 0) × (0 < length piece)

-- what there is room for asks for memory
abbrev pub WantsMemory : SinkState → List ℕ → Type 0
WantsMemory sink piece = sink.ready < length sink.held + fitting sink piece

-- what a write takes is taken off the room
abbrev pub room_after : {E : Type 0} → ℕ → Result ℕ E → ℕ
room_after room (Ok count) = room - count
room_after room (Err fault) = room
