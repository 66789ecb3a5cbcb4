-- A call opens with a beginning, and its order is in turn.
use Rattle.std.proofs.Common.{◌≡◌, ◌≤◌, Bool, true, false, ℕ, suc, ◌+◌, if◌then◌else◌, List, [], ◌∷◌, ◌++◌, length, refl, sym, subst, ⊎_elim, le_refl, le_trans, arith}
use Rattle.std.proofs.Math.Nat.{le-max_left, le-max_right}
use Rattle.gl_base.specs.declared.entries.Entry.{Entry}
use Rattle.gl_base.specs.declared.entries.Entry.TheVariants.{Go, Restart}
use Rattle.graph_core.proofs.HalvesLaws.{each-append}
use Rattle.seq_run.proofs.GoingOn.{tasks_from-append, valid_append}
use Rattle.seq_run.specs.Orders.{all_tasks}
use Rattle.seq_run.specs.States.{start_state}
use Rattle.call_laws.specs.attempts.Beginnings.{IsBeginning, again, nothing, order_after}
use Rattle.call_laws.specs.attempts.EngineCalls.{AreAttempts, EngineCall, IsEngineCall, IsOrderInTurn, begins_behind, call_order, opening, ticket_above}
use Rattle.cluster_laws.specs.cluster_runs.Attempts.{Attempt, Beginning, IsAttempt, Shared}
use Rattle.cluster_laws.specs.cluster_cuts.Goings.{IsByOwner}
use Rattle.cluster_laws.specs.cluster_model.ByTicket.{StandByTicket}
use Rattle.call_laws.proofs.attempts.Beginning.{again_begins, longer_valid}
use Rattle.call_laws.proofs.attempts.Standing.{stand_append, stand_made}

suc_low : (t n : ℕ) → suc t ≤ n → t ≤ n
suc_low t n is = omega arith

pub stand_above : (low : ℕ) (order : List Entry) (high n : ℕ) → low ≤ n → ticket_above order ≤ n → StandByTicket low order high → StandByTicket low order n
stand_above low [] high n under above stand = under
stand_above low (Go machine vertex ticket ∷ order) high n under above stand = (
  stand.0,
  stand_above (suc ticket) order high n (le_trans (le-max_left (suc ticket) (ticket_above order)) above) (le_trans (le-max_right (suc ticket) (ticket_above order)) above) stand.1,
)
stand_above low (Restart ticket ∷ order) high n under above stand = (
  stand.0,
  stand_above ticket order high n (suc_low ticket n (le_trans (le-max_left (suc ticket) (ticket_above order)) above)) (le_trans (le-max_right (suc ticket) (ticket_above order)) above) stand.1,
)

zero_low : (n : ℕ) → 0 ≤ n
zero_low n = omega arith

module _ (shared : Shared) where
  -- where a call with this base begins, resumed or not
  abbrev pub opens : List Entry → Bool → Beginning
  opens base resumed = record { front = base ++ (if resumed then Restart (ticket_above base) ∷ [] else []); next = ticket_above base; done = nothing }

  pub resumed_begins : (base : List Entry) → IsOrderInTurn shared base → IsBeginning shared (opens base true)
  resumed_begins base is =
      record {
        valid = valid_append shared.graph shared.program (start_state shared.graph shared.program) (all_tasks shared.graph) base (Restart (ticket_above base) ∷ []) is.valid (tt, tt);
        tasks = tasks_from-append shared.graph shared.program (start_state shared.graph shared.program) (all_tasks shared.graph) base (Restart (ticket_above base) ∷ []);
        by_ticket = stand_append 0 base (ticket_above base) (Restart (ticket_above base) ∷ []) (ticket_above base)
            (stand_above 0 base is.high (ticket_above base) (zero_low (ticket_above base)) (le_refl (ticket_above base)) is.by_ticket)
            (le_refl (ticket_above base), le_refl (ticket_above base));
        owners = each-append (IsByOwner shared.owner) base (Restart (ticket_above base) ∷ []) is.owners (tt, tt);
      }

  pub plain_begins : IsBeginning shared (opens [] false)
  plain_begins = record { valid = tt; tasks = refl; by_ticket = le_refl 0; owners = tt }

  pub opening_begins : (call : EngineCall) → IsEngineCall shared call → IsBeginning shared (opening call)
  opening_begins call is =
      ⊎_elim
      (λ (resumed : call.resumed ≡ true). subst (λ (b : Bool). IsBeginning shared (opens call.base b)) (sym resumed) (resumed_begins call.base is.base))
      (λ (plain : (call.resumed ≡ false) × (call.base ≡ [])).
      subst (λ (b : Bool). IsBeginning shared (opens call.base b)) (sym plain.0) (subst (λ (base : List Entry). IsBeginning shared (opens base false)) (sym plain.1) plain_begins))
      is.begins

  pub last_begins : (b : Beginning) (failed : List Attempt) (last : Attempt) → IsBeginning shared b → AreAttempts shared b failed last →
      IsBeginning shared (begins_behind b failed) × IsAttempt shared (begins_behind b failed) last
  last_begins b [] last is are = (is, are)
  last_begins b (a ∷ failed) last is are = last_begins (again b a) failed last (again_begins shared b a are.0 is are.1) are.2

  pub led_in_turn : (b : Beginning) (a : Attempt) → IsBeginning shared b → IsAttempt shared b a → IsOrderInTurn shared (order_after b a)
  led_in_turn b a is attempt =
      record {
        valid = longer_valid shared b is a.made attempt.valid;
        high = b.next + length a.made;
        by_ticket = stand_append 0 b.front b.next a.made (b.next + length a.made) is.by_ticket (stand_made b.next a.made attempt.tickets);
        owners = each-append (IsByOwner shared.owner) b.front a.made is.owners attempt.owners;
      }

  pub call_in_turn : (call : EngineCall) → IsEngineCall shared call → IsOrderInTurn shared (call_order call)
  call_in_turn call is =
      let both = last_begins (opening call) call.failed call.last (opening_begins call is) is.attempts in
      led_in_turn (begins_behind (opening call) call.failed) call.last both.0 both.1
