-- Orders by ticket.
use Rattle.std.specs.Prelude.{List, [], suc, zero, ℕ, ◌∷◌, ◌≤◌}
use Rattle.gl_base.specs.declared.entries.Entry.{Entry}
use Rattle.gl_base.specs.declared.entries.Entry.TheVariants.{Go, Restart}

-- The entries stand by ticket: each ticket is at least `low`, the tickets of updates rise strictly, a restart has at most the
-- ticket of each update behind it, and `high` may be the next ticket.
abbrev pub StandByTicket : ℕ → List Entry → ℕ → Type 0
StandByTicket low [] high = low ≤ high
StandByTicket low (Go machine vertex ticket ∷ order) high = (low ≤ ticket) × StandByTicket (suc ticket) order high
StandByTicket low (Restart ticket ∷ order) high = (low ≤ ticket) × StandByTicket ticket order high

-- so many restarts with this ticket
abbrev pub restarts : ℕ → ℕ → List Entry
restarts zero ticket = []
restarts (suc n) ticket = Restart ticket ∷ restarts n ticket
