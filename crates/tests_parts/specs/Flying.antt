-- The scopes that a test knows to be in flight.
use Rattle.std.specs.Prelude.{◌≡◌, true, is_some, List}
use Rattle.std.specs.List.{All}
use Rattle.scope_locks.specs.declared.scope_pipe.flights.Flight.{Flight}
use Rattle.scope_locks.specs.scope_pipe.Pipes.{PipeView, flight_at}

-- each of these is in flight
abbrev pub AllFly : PipeView → List Flight → Type 0
AllFly p flights = All (λ f. is_some (flight_at p f.scope) ≡ true) flights
