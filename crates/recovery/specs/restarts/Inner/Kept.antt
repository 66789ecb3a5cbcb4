-- The entries that are restarts.
use Rattle.std.specs.Prelude.{List, [], if◌then◌else◌, ◌∷◌}
use Rattle.gl_base.specs.declared.entries.Entry.{Entry}
use Rattle.recovery.specs.restarts.Missing.{is_restart}

-- the entry, where it is one
abbrev pub kept_restart : Entry → List Entry
kept_restart entry = if is_restart entry then entry ∷ [] else []
