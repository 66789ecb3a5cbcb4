-- Which machine owns which vertex, as a list.
use Rattle.std.specs.Prelude.{ℕ, List, slice_index_or}
use Rattle.gl_base.specs.declared.numbers.MachineNo.{MachineNo}

-- the machine that owns a vertex, by the list of all owners
abbrev pub owner_in : List MachineNo → ℕ → ℕ
owner_in owner v = (slice_index_or owner v (record { 0 = 0 })).0
