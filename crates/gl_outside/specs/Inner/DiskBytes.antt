-- The bytes of a disk in memory, inside it.
use Rattle.std.specs.Prelude.{ℕ, List, Option, None, Some, Vec}
use Rattle.std.specs.declared.alloc.Global.{Global}

-- the first bytes, which were not kept apart before the first write
abbrev pub first_of : Option (Vec ℕ Global) → List ℕ → List ℕ
first_of None bytes = bytes
first_of (Some first) bytes = first.items
