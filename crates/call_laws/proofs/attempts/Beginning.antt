-- Where an attempt ends by a failure, the next one may begin.
use Rattle.std.proofs.Common.{◌≡◌, ◌≤◌, Bool, ℕ, zero, suc, ◌+◌, List, ◌++◌, length, refl, sym, ap, ◌∙◌, subst, arith}
use Rattle.std.specs.List.{AllByRecursion}
use Rattle.gl_base.specs.declared.entries.Entry.{Entry}
use Rattle.gl_base.specs.declared.entries.Entry.TheVariants.{Restart}
use Rattle.graph_core.proofs.HalvesLaws.{each-append}
use Rattle.graph_core.specs.DataGraph.{DataGraph}
use Rattle.update_api.specs.Updates.{Update}
use Rattle.seq_run.proofs.GoingOn.{replay_from-append, tasks_from-append, valid_append}
use Rattle.seq_run.specs.Orders.{IsValidFrom, IsValidOrder, all_tasks, replay, replay_from, tasks_after, tasks_after_entry, tasks_from}
use Rattle.seq_run.specs.States.{GraphState, start_state}
use Rattle.call_laws.specs.attempts.Beginnings.{IsBeginning, again, held_updates, last_of, nothing}
use Rattle.cluster_laws.specs.cluster_runs.Attempts.{Attempt, Beginning, IsAttempt, Shared}
use Rattle.cluster_laws.specs.cluster_cuts.Goings.{IsByOwner}
use Rattle.cluster_laws.specs.cluster_model.ByTicket.{StandByTicket, restarts}
use Rattle.cluster_laws.specs.cluster_core.Cuts.{cut_of}
use Rattle.call_laws.proofs.attempts.Cutting.{all_cut, cut_none, last_holds, stand_cut}
use Rattle.call_laws.proofs.attempts.Standing.{stand_append, stand_made, stand_restarts}

no_less : 1 ≤ 0 → ⊥
no_less is = omega arith

module _ (g : DataGraph) (p : Update) where
  pub restarts_valid : (s : GraphState) (tasks : ℕ → Bool) (n ticket : ℕ) → IsValidFrom g p s tasks (restarts n ticket)
  restarts_valid s tasks zero ticket = tt
  restarts_valid s tasks (suc n) ticket = (tt, restarts_valid s (tasks_after_entry g p s tasks (Restart ticket)) n ticket)

  tasks_still : (s : GraphState) (n ticket : ℕ) → tasks_from g p s (all_tasks g) (restarts n ticket) ≡ all_tasks g
  tasks_still s zero ticket = refl
  tasks_still s (suc n) ticket = tasks_still s n ticket

  pub tasks_again : (s : GraphState) (tasks : ℕ → Bool) (n ticket : ℕ) → 1 ≤ n → tasks_from g p s tasks (restarts n ticket) ≡ all_tasks g
  tasks_again s tasks zero ticket some = absurd (no_less some)
  tasks_again s tasks (suc n) ticket some = tasks_still s n ticket

owned_restarts : (owner : ℕ → ℕ) (n ticket : ℕ) → AllByRecursion (IsByOwner owner) (restarts n ticket)
owned_restarts owner zero ticket = tt
owned_restarts owner (suc n) ticket = (tt, owned_restarts owner n ticket)

module _ (shared : Shared) (b : Beginning) where
  abbrev numbers : GraphState
  numbers = replay shared.graph shared.program b.front

  abbrev IsValidHere : List Entry → Type 0
  IsValidHere more = IsValidFrom shared.graph shared.program numbers (all_tasks shared.graph) more

  pub longer_valid : IsBeginning shared b → (more : List Entry) → IsValidHere more → IsValidOrder shared.graph shared.program (b.front ++ more)
  longer_valid is more valid =
      valid_append shared.graph shared.program (start_state shared.graph shared.program) (all_tasks shared.graph) b.front more is.valid
      (subst (λ (tasks : ℕ → Bool). IsValidFrom shared.graph shared.program numbers tasks more) (sym is.tasks) valid)

  pub longer_numbers : (more : List Entry) → replay shared.graph shared.program (b.front ++ more) ≡ replay_from shared.graph shared.program numbers more
  longer_numbers more = replay_from-append shared.graph shared.program (start_state shared.graph shared.program) b.front more

  pub longer_tasks : IsBeginning shared b → (more : List Entry) →
      tasks_after shared.graph shared.program (b.front ++ more) ≡ tasks_from shared.graph shared.program numbers (all_tasks shared.graph) more
  longer_tasks is more =
      tasks_from-append shared.graph shared.program (start_state shared.graph shared.program) (all_tasks shared.graph) b.front more
      ∙ ap (λ (tasks : ℕ → Bool). tasks_from shared.graph shared.program numbers tasks more) is.tasks

  module _ (a : Attempt) (attempt : IsAttempt shared b a) where
    pub held_valid : IsValidHere (held_updates a)
    held_valid =
        last_holds (λ (count : ℕ → ℕ). IsValidHere (cut_of count a.made)) nothing a.kept
        (subst IsValidHere (sym (cut_none b.next a.made attempt.tickets)) tt) attempt.cuts

    pub stand_held : StandByTicket b.next (held_updates a) (b.next + length a.made)
    stand_held = stand_cut (last_of nothing a.kept) b.next a.made (b.next + length a.made) (stand_made b.next a.made attempt.tickets)

    pub again_begins : IsBeginning shared b → 1 ≤ a.struck → IsBeginning shared (again b a)
    again_begins is some =
        let next : ℕ = b.next + length a.made in
        let new : List Entry = restarts a.struck next in
        record {
          valid = longer_valid is (held_updates a ++ new)
              (valid_append shared.graph shared.program numbers (all_tasks shared.graph) (held_updates a) new held_valid
              (restarts_valid shared.graph shared.program (replay_from shared.graph shared.program numbers (held_updates a))
              (tasks_from shared.graph shared.program numbers (all_tasks shared.graph) (held_updates a)) a.struck next));
          tasks = longer_tasks is (held_updates a ++ new)
              ∙ tasks_from-append shared.graph shared.program numbers (all_tasks shared.graph) (held_updates a) new
              ∙ tasks_again shared.graph shared.program (replay_from shared.graph shared.program numbers (held_updates a))
              (tasks_from shared.graph shared.program numbers (all_tasks shared.graph) (held_updates a)) a.struck next some;
          by_ticket = stand_append 0 b.front b.next (held_updates a ++ new) next is.by_ticket (stand_append b.next (held_updates a) next new next stand_held (stand_restarts a.struck next));
          owners = each-append (IsByOwner shared.owner) b.front (held_updates a ++ new) is.owners
              (each-append (IsByOwner shared.owner) (held_updates a) new (all_cut (IsByOwner shared.owner) (last_of nothing a.kept) a.made attempt.owners) (owned_restarts shared.owner a.struck next));
        }
