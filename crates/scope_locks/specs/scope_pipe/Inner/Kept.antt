-- How a pipe is kept.
use Rattle.std.specs.Prelude.{◌≡◌, ℕ, ◌+◌, ◌<◌, ◌≤◌, true, None, is_some, List, length}
use Rattle.std.specs.List.{All, AllPairs}
use Rattle.gl_base.specs.declared.scopes.ScopeId.{ScopeId}
use Rattle.gl_base.specs.scope_lists.Found.{by_scope, AreOfTwoScopes}
use Rattle.scope_locks.specs.declared.scope_pipe.flights.Flight.{Flight}
use Rattle.scope_locks.specs.scope_pipe.Entered.{EnteredView, entered_scope}
use Rattle.scope_locks.specs.scope_pipe.Pipes.{flight_scope}

-- it asked for no more locks than there are
abbrev pub IsInPart : EnteredView → Type 0
IsInPart e = e.place ≤ length e.part

-- each scope stands once, those in flight have serials that were given, and there is room for all that may come
pub record IsPipe (serial width : ℕ) (waiting ready : List Flight) (entered : List EnteredView) (waiting_cap ready_cap entered_cap : ℕ) : Type 0 where
  pub waiting_apart : AllPairs (AreOfTwoScopes flight_scope) waiting
  pub ready_apart : AllPairs (AreOfTwoScopes flight_scope) ready
  pub across : (s : ScopeId) → is_some (by_scope flight_scope ready s) ≡ true → by_scope flight_scope waiting s ≡ None
  pub waiting_given : All (λ f. f.scope.serial < serial) waiting
  pub ready_given : All (λ f. f.scope.serial < serial) ready
  pub few : length waiting + length ready ≤ width
  pub waiting_room : width ≤ waiting_cap
  pub ready_room : width ≤ ready_cap
  pub entered_apart : AllPairs (AreOfTwoScopes entered_scope) entered
  pub in_part : All IsInPart entered
  pub entered_room : 4096 ≤ entered_cap
