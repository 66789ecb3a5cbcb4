-- A scope that has come to a machine for locks, and what it wants next.
use Rattle.std.specs.Prelude.{ℕ, zero, suc, ◌+◌, nat_lt, Option, Some, None, List, [], ◌∷◌, length, slice_get, if◌then◌else◌}
use Rattle.gl_base.specs.declared.numbers.MachineNo.{MachineNo}
use Rattle.gl_base.specs.declared.numbers.Vertex.{Vertex}
use Rattle.gl_base.specs.declared.scopes.ScopeId.{ScopeId}
use Rattle.gl_base.specs.scope_lists.Scopes.{mode_at}
use Rattle.scope_locks.specs.declared.scope_pipe.next.Next.{Next}
use Rattle.scope_locks.specs.declared.scope_pipe.next.Next.TheVariants.{Lock, Forward, Home}

-- The centre of the scope, this machine's vertices of it, how many of their locks it asked for, and the machines still to come.
pub record EnteredView : Type 0 where
  pub scope : ScopeId
  pub centre : Vertex
  pub part : List Vertex
  pub place : ℕ
  pub rest : List MachineNo

abbrev pub entered_scope : EnteredView → ScopeId
entered_scope e = e.scope

-- the last of the locks that were asked for, where there are so many
abbrev pub last_asked : List Vertex → ℕ → Option Vertex
last_asked part zero = None
last_asked part (suc i) = slice_get part i

-- the lock that it asked for last
abbrev pub lock_asked : EnteredView → Option Vertex
lock_asked e = last_asked e.part e.place

-- the lock of the next vertex; behind the last one the next machine, and behind the last machine the way home
abbrev pub next_at : Vertex → Option Vertex → List MachineNo → Next
next_at centre (Some x) rest = Lock x (mode_at centre.0 x.0)
next_at centre None (machine ∷ rest) = Forward machine
next_at centre None [] = Home

abbrev pub next_of : EnteredView → Next
next_of e = next_at e.centre (slice_get e.part e.place) e.rest

-- it asked for one more lock, where one is left
abbrev pub moved_on : EnteredView → EnteredView
moved_on e = record e { place = if nat_lt e.place (length e.part) then e.place + 1 else e.place }

-- as it comes
abbrev pub comes : ScopeId → Vertex → List Vertex → List MachineNo → EnteredView
comes scope centre part rest = record { scope = scope; centre = centre; part = part; place = 0; rest = rest }
