-- A program that goes on from other numbers.
use Rattle.std.specs.Prelude.{List, ℕ, if◌then◌else◌, nat_lt, slice_index}
use Rattle.update_api.specs.Updates.{Update}

-- each vertex whose identifier is below 64 starts with what the list has there
abbrev pub starting_with : List ℕ → Update → Update
starting_with numbers program = record program { start = λ id. if nat_lt id 64 then slice_index numbers id else program.start id }
