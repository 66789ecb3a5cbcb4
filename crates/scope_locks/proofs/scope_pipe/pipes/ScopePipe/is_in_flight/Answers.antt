use Rattle.std.proofs.Common.{◌∙◌, ◌||◌, sym, ap}
use Rattle.scope_locks.specs.scope_pipe.Pipes.{is_ready}
use Rattle.scope_locks.proofs.scope_pipe.FlightLemmas.{in_flight_where}
use Rattle.scope_locks.proofs.scope_pipe.pipes.ScopePipe.is_in_flight.Goals as goal

pub returns-then-waits : goal.returns-then-waits
returns-then-waits c =
    c.if-waits.true ∙ sym (in_flight_where c.args.self.now c.args.scope ∙ ap (λ b. b || is_ready c.args.self.now c.args.scope) (sym c.is_waiting-waits.ensures ∙ c.if-waits.true))

pub returns-else-waits : goal.returns-else-waits
returns-else-waits c =
    c.is_ready.ensures ∙ sym (in_flight_where c.args.self.now c.args.scope ∙ ap (λ b. b || is_ready c.args.self.now c.args.scope) (sym c.is_waiting-waits.ensures ∙ c.if-waits.false))
