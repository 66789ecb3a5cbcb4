-- The call that fails once is a call.
use Rattle.std.proofs.Common.{◌≡◌, ◌≤◌, true, false, ℕ, ◌==◌, if◌then◌else◌, refl, inr, arith}
use Rattle.call_laws.specs.attempts.Beginnings.{again}
use Rattle.call_laws.specs.attempts.EngineCalls.{IsEngineCall, opening}
use Rattle.cluster_laws.specs.cluster_runs.Attempts.{IsAttempt}
use Rattle.call_laws.specs.attempts.OneFailure.{alone, failing_call, first_try, second_try}

low : (n : ℕ) → 0 ≤ n
low n = omega arith

one_one : 1 ≤ 1
one_one = omega arith

one_two : 1 ≤ 2
one_two = omega arith

first_is : IsAttempt alone (opening failing_call) first_try
first_is =
    record {
      tickets = (refl, (refl, tt));
      owners = (refl, (refl, tt));
      valid = (refl, (refl, tt));
      cuts = ((refl, tt), tt);
      rising = (λ v. low (if v == 1 then 1 else 0), tt);
      struck = refl;
      stops = (λ reached. refl, tt);
    }

second_is : IsAttempt alone (again (opening failing_call) first_try) second_try
second_is =
    record {
      tickets = (refl, (refl, tt));
      owners = (refl, (refl, tt));
      valid = (refl, (refl, tt));
      cuts = ((refl, (refl, tt)), tt);
      rising = (λ v. low 1, tt);
      struck = refl;
      stops = (λ reached. absurd (not_so reached), tt);
    }
  where
    not_so : false ≡ true → ⊥
    not_so is = cc

pub call_is : IsEngineCall alone failing_call
call_is =
    record {
      counts = (one_two, tt);
      base = record { valid = tt; high = 0; by_ticket = low 0; owners = tt };
      begins = inr (refl, refl);
      attempts = (first_is, one_one, second_is);
    }
