-- A call that runs a job: attempts that failed, in turn, and a last one.
use Rattle.std.specs.List.{AllByRecursion}
use Rattle.std.specs.Prelude.{Bool, List, [], false, filter, if◌then◌else◌, max, nat_le, suc, true, ℕ, ⊤, ◌++◌, ◌+◌, ◌∷◌, ◌≡◌, ◌≤◌, ◌⊎◌}
use Rattle.gl_base.specs.declared.entries.Entry.{Entry}
use Rattle.gl_base.specs.declared.entries.Entry.TheVariants.{Restart}
use Rattle.gl_base.specs.declared.jobs.FailureAt.{FailureAt}
use Rattle.call_laws.specs.attempts.Beginnings.{again, nothing, order_after, unheld_updates}
use Rattle.cluster_laws.specs.cluster_runs.Attempts.{Attempt, Beginning, IsAttempt, Shared, made_by}
use Rattle.cluster_laws.specs.cluster_cuts.Goings.{IsByOwner}
use Rattle.cluster_laws.specs.cluster_model.ByTicket.{StandByTicket}
use Rattle.cluster_laws.specs.cluster_core.Replays.{ticket_of}
use Rattle.seq_run.specs.Orders.{IsValidOrder}

-- The order of the store's last snapshot as the call opened it, or no entry; whether the call resumes it; the attempts that failed; and
-- the last one.
pub record EngineCall : Type 0 where
  pub base : List Entry
  pub resumed : Bool
  pub failed : List Attempt
  pub last : Attempt

-- one above the greatest ticket, or 0 where there is no entry
abbrev pub ticket_above : List Entry → ℕ
ticket_above [] = 0
ticket_above (entry ∷ order) = max (suc (ticket_of entry)) (ticket_above order)

-- the call's first ticket
abbrev pub first_ticket : EngineCall → ℕ
first_ticket call = ticket_above call.base

-- where its first attempt begins: behind the base, and where it resumes, behind a restart
abbrev pub opening : EngineCall → Beginning
opening call =
    record {
      front = call.base ++ (if call.resumed then Restart (first_ticket call) ∷ [] else []);
      next = first_ticket call;
      done = nothing;
    }

-- where the attempt behind these begins
abbrev pub begins_behind : Beginning → List Attempt → Beginning
begins_behind b [] = b
begins_behind b (a ∷ failed) = begins_behind (again b a) failed

-- these attempts failed, in turn: each went on from where it began, and a failure was reached in it
abbrev pub HaveFailed : Shared → Beginning → List Attempt → Type 0
HaveFailed shared b [] = ⊤
HaveFailed shared b (a ∷ failed) = IsAttempt shared b a × (1 ≤ a.struck) × HaveFailed shared (again b a) failed

-- these failed, and the last one went on behind them
abbrev pub AreAttempts : Shared → Beginning → List Attempt → Attempt → Type 0
AreAttempts shared b [] last = IsAttempt shared b last
AreAttempts shared b (a ∷ failed) last = IsAttempt shared b a × (1 ≤ a.struck) × AreAttempts shared (again b a) failed last

-- The order is valid and by ticket, and each update is by the machine that owns its vertex.
pub record IsOrderInTurn (shared : Shared) (order : List Entry) : Type 0 where
  pub valid : IsValidOrder shared.graph shared.program order
  pub high : ℕ
  pub by_ticket : StandByTicket 0 order high
  pub owners : AllByRecursion (IsByOwner shared.owner) order

-- Each of the job's failures comes behind one update at least; the base is an order in turn, and is empty where the call doesn't resume.
pub record IsEngineCall (shared : Shared) (call : EngineCall) : Type 0 where
  pub counts : AllByRecursion (λ (failure : FailureAt). 1 ≤ failure.after) shared.failures
  pub base : IsOrderInTurn shared call.base
  pub begins : (call.resumed ≡ true) ⊎ ((call.resumed ≡ false) × (call.base ≡ []))
  pub attempts : AreAttempts shared (opening call) call.failed call.last

-- where its last attempt begins
abbrev pub last_beginning : EngineCall → Beginning
last_beginning call = begins_behind (opening call) call.failed

-- the order of a call is that of its last attempt
abbrev pub call_order : EngineCall → List Entry
call_order call = order_after (last_beginning call) call.last

-- what failures took away
abbrev pub lost_in : List Attempt → List Entry
lost_in [] = []
lost_in (a ∷ failed) = unheld_updates a ++ lost_in failed

-- what the call lost
abbrev pub lost_of : EngineCall → List Entry
lost_of call = lost_in call.failed

-- all updates that were made, one attempt after the other
abbrev pub made_in : List Attempt → Attempt → List Entry
made_in [] last = last.made
made_in (a ∷ failed) last = a.made ++ made_in failed last

-- all updates that the call made
abbrev pub made_of : EngineCall → List Entry
made_of call = made_in call.failed call.last

-- how many updates each machine made
abbrev pub done_of : EngineCall → ℕ → ℕ
done_of call m = made_by (made_of call) m

-- the failures whose counts were reached
abbrev pub fired_of : Shared → EngineCall → List FailureAt
fired_of shared call = filter (λ (failure : FailureAt). nat_le failure.after (done_of call failure.machine.0)) shared.failures

-- how many failures were reached in these attempts
abbrev pub struck_in : List Attempt → ℕ
struck_in [] = 0
struck_in (a ∷ failed) = a.struck + struck_in failed
