-- A small history of a disk: three bytes, one of them written over, and then synced.
use Rattle.std.specs.Prelude.{[], ◌∷◌}
use Rattle.gl_outside.specs.Disk.{DiskPast, after_sync, after_write, at_rest, followed_by, with_piece}

-- 1 2 3, of which the byte at 1 is 9 now
abbrev pub written_over : DiskPast
written_over = followed_by (at_rest (1 ∷ 2 ∷ 3 ∷ [])) (after_write (at_rest (1 ∷ 2 ∷ 3 ∷ [])).now 1 1 (with_piece (1 ∷ 2 ∷ 3 ∷ []) 1 (9 ∷ [])))

-- the same, synced
abbrev pub synced : DiskPast
synced = followed_by written_over (after_sync written_over.now)
