-- The scopes that a machine admitted and that are in flight, and those that have come to it for locks.
use Rattle.std.specs.Prelude.{◌≡◌, ℕ, ◌+◌, Bool, true, false, Option, Some, None, is_some, option_map, List, length}
use Rattle.gl_base.specs.declared.numbers.MachineNo.{MachineNo}
use Rattle.gl_base.specs.declared.numbers.Vertex.{Vertex}
use Rattle.gl_base.specs.declared.scopes.ScopeId.{ScopeId}
use Rattle.std.specs.List.{position, swap_remove}
use Rattle.gl_base.specs.scope_lists.Scopes.{set_for, is_scope}
use Rattle.gl_base.specs.scope_lists.Found.{by_scope}
use Rattle.scope_locks.specs.declared.scope_pipe.flights.Flight.{Flight}
use Rattle.scope_locks.specs.scope_pipe.Entered.{EnteredView, entered_scope}

-- The home of the scopes that are admitted here, how many were, how many may be in flight, those in flight that are not ready
-- and those that are, and the scopes that have come.
pub record PipeView : Type 0 where
  pub home : MachineNo
  pub serial : ℕ
  pub width : ℕ
  pub waiting : List Flight
  pub ready : List Flight
  pub entered : List EnteredView

abbrev pub flight_scope : Flight → ScopeId
flight_scope f = f.scope

-- ---- what is asked of a pipe

abbrev pub either : Option Flight → Option Flight → Option Flight
either None other = other
either (Some f) other = Some f

-- the centre of the scope, where it was admitted here and is in flight
abbrev pub flight_at : PipeView → ScopeId → Option Vertex
flight_at p s = option_map (λ f. f.centre) (either (by_scope flight_scope p.waiting s) (by_scope flight_scope p.ready s))

-- it is in flight and ready
abbrev pub is_ready : PipeView → ScopeId → Bool
is_ready p s = is_some (by_scope flight_scope p.ready s)

-- how many are in flight, and how many have come
abbrev pub flight_count : PipeView → ℕ
flight_count p = length p.waiting + length p.ready

abbrev pub come : PipeView → ℕ
come p = length p.entered

-- the scope as it has come to this machine, where it has
abbrev pub entered_at : PipeView → ScopeId → Option EnteredView
entered_at p s = by_scope entered_scope p.entered s

-- a scope of this centre is in flight
pub record Flies (p : PipeView) (v : Vertex) : Type 0 where
  pub scope : ScopeId
  pub centre : flight_at p scope ≡ Some v

-- the next scope of this pipe
abbrev pub next_id : PipeView → ScopeId
next_id p = record { home = p.home; serial = p.serial }

-- ---- what becomes of a pipe

-- one more scope, whose centre is v, is in flight
pub record HasAdmitted (old new : PipeView) (v : Vertex) : Type 0 where
  pub serial : new.serial ≡ old.serial + 1
  pub count : flight_count new ≡ flight_count old + 1
  pub flight : (t : ScopeId) → flight_at new t ≡ set_for (flight_at old) (next_id old) (Some v) t
  pub ready : (t : ScopeId) → is_ready new t ≡ is_ready old t

-- the scope in flight is ready now
pub record HasReadied (old new : PipeView) (s : ScopeId) : Type 0 where
  pub serial : new.serial ≡ old.serial
  pub count : flight_count new ≡ flight_count old
  pub flight : (t : ScopeId) → flight_at new t ≡ flight_at old t
  pub ready : (t : ScopeId) → is_ready new t ≡ set_for (is_ready old) s true t

-- the scope is in flight no more
pub record HasFinished (old new : PipeView) (s : ScopeId) : Type 0 where
  pub serial : new.serial ≡ old.serial
  pub count : flight_count new + 1 ≡ flight_count old
  pub flight : (t : ScopeId) → flight_at new t ≡ set_for (flight_at old) s None t
  pub ready : (t : ScopeId) → is_ready new t ≡ set_for (is_ready old) s false t

-- the first flight of the scope is taken out, and the last one stands in its place
abbrev no_flight : Flight
no_flight = record { scope = record { home = record { 0 = 0 }; serial = 0 }; centre = record { 0 = 0 } }

abbrev pub taken_from : List Flight → Option ℕ → List Flight
taken_from flights None = flights
taken_from flights (Some k) = swap_remove flights k no_flight

abbrev pub without_flight : ScopeId → List Flight → List Flight
without_flight s flights = taken_from flights (position (λ f. is_scope f.scope s) flights)

-- of the scopes that have come, s alone now stands as told
pub record HasCome (old new : PipeView) (s : ScopeId) (o : Option EnteredView) : Type 0 where
  pub entered : (t : ScopeId) → entered_at new t ≡ set_for (entered_at old) s o t

-- no scope is in flight, and none has come
pub record IsEmpty (p : PipeView) : Type 0 where
  pub count : flight_count p ≡ 0
  pub flight : (t : ScopeId) → flight_at p t ≡ None
  pub ready : (t : ScopeId) → is_ready p t ≡ false
  pub come : come p ≡ 0
  pub entered : (t : ScopeId) → entered_at p t ≡ None
