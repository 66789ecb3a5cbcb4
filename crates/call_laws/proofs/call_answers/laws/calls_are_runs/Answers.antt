-- By the laws of attempts.
use Rattle.call_laws.proofs.call_answers.Listing.{run_is}
use Rattle.call_laws.proofs.call_answers.laws.calls_are_runs.Goals as goal

pub returns : goal.returns
returns c = λ shared machines call lists is order lost done fired below. run_is shared call is lists order lost fired machines done below
