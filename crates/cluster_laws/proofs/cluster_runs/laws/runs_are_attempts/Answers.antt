-- The order that the run ends with, and of each record its cut.
use Rattle.cluster_laws.proofs.cluster_runs.Attempting.{attempt, attempt_logs, attempt_numbers, attempt_tickets, attempt_recorded, attempt_is}
use Rattle.cluster_laws.proofs.cluster_runs.laws.runs_are_attempts.Goals as goal

pub returns : goal.returns
returns c = λ st failures b start actions new is starts unmarked run numbers next. (
  attempt st is failures b start actions new starts unmarked run,
  attempt_logs st is failures b start actions new starts unmarked run,
  attempt_numbers st is failures b start actions new starts unmarked run,
  attempt_tickets st is failures b start actions new starts unmarked run next,
  attempt_recorded st is failures b start actions new starts unmarked run,
  λ stops. attempt_is st is failures b start actions new starts unmarked run numbers next stops,
)
