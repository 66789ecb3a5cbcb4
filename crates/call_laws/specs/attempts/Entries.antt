-- Tests of entries.
use Rattle.std.specs.Prelude.{Bool, false, nat_le, nat_lt, true, ℕ, ◌&&◌, ◌==◌}
use Rattle.gl_base.specs.declared.entries.Entry.{Entry}
use Rattle.gl_base.specs.declared.entries.Entry.TheVariants.{Go, Restart}
use Rattle.cluster_laws.specs.cluster_core.Replays.{ticket_of}

-- the entry is a restart
abbrev pub is_restart : Entry → Bool
is_restart (Go machine vertex ticket) = false
is_restart (Restart ticket) = true

-- the entry is an update
abbrev pub is_update : Entry → Bool
is_update (Go machine vertex ticket) = true
is_update (Restart ticket) = false

-- an entry with a ticket below r
abbrev pub is_before_ticket : ℕ → Entry → Bool
is_before_ticket r entry = nat_lt (ticket_of entry) r

-- a restart with ticket r
abbrev pub is_restart_at : ℕ → Entry → Bool
is_restart_at r (Go machine vertex ticket) = false
is_restart_at r (Restart ticket) = ticket == r

-- an update with a ticket from r on
abbrev pub is_update_from : ℕ → Entry → Bool
is_update_from r (Go machine vertex ticket) = nat_le r ticket
is_update_from r (Restart ticket) = false

-- an update with a ticket below r
abbrev pub is_update_below : ℕ → Entry → Bool
is_update_below r (Go machine vertex ticket) = nat_lt ticket r
is_update_below r (Restart ticket) = false

-- an update with a ticket from r on and below s
abbrev pub is_update_within : ℕ → ℕ → Entry → Bool
is_update_within r s (Go machine vertex ticket) = nat_le r ticket && nat_lt ticket s
is_update_within r s (Restart ticket) = false
