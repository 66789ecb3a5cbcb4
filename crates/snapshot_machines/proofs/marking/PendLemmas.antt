-- Vertices that become pending, one after another.
use Rattle.std.proofs.Common.{◌≡◌, ℕ, ◌<◌, ◌==◌, ◌||◌, Bool, true, false, if◌then◌else◌, Some, List, length, refl, sym, ap, ◌∙◌, subst, arith, inl, inr, length-set}
use Rattle.std.specs.Prelude.{slice_set}
use Rattle.std.proofs.lemmas.Bool.{cases_eq, eq-eqb, ne_eqb}
use Rattle.task_sets.proofs.vertex_queue.Queueing.{flag_within}
use Rattle.local_graph.proofs.PlaceLemmas.{at_written}
use Rattle.partition.specs.machine_numbers.Views.{LocalView, TasksView, AreTasksOf, is_flagged, place_at, flag_there}

turned : (u v : ℕ) (b : Bool) → (if u == v then true else b) ≡ ((v == u) || b)
turned u v b = elim (cases_eq v u) [
  | inl same ↦ ap (λ c. if c then true else b) (eq-eqb u v (sym same)) ∙ sym (ap (λ c. c || b) (eq-eqb v u same))
  | inr other ↦ ap (λ c. if c then true else b) (ne_eqb u v (λ e. other (sym e))) ∙ sym (ap (λ c. c || b) (ne_eqb v u other))
]

-- the flag at the place of v is set
pub pended_at : (l : LocalView) (old new : TasksView) (v k : ℕ) → AreTasksOf l old → place_at l v ≡ Some k → new.pending ≡ slice_set old.pending k true → is_flagged new.pending k ≡ true
    → (u : ℕ) → flag_there new.pending (place_at l u) ≡ ((v == u) || flag_there old.pending (place_at l u))
pended_at l old new v k are at is up u =
    let there : k < length new.pending = flag_within new.pending k up in
    let many : length new.pending ≡ length old.pending = ap length is ∙ length-set old.pending k true in
    ap (λ (flags : List Bool). flag_there flags (place_at l u)) is ∙ at_written l.places old.pending v k true false are.apart at (omega arith) u
    ∙ turned u v (flag_there old.pending (place_at l u))

-- those of the first test are pending or still to come
pub record IsPending (l : LocalView) (all left : ℕ → Bool) (old now : TasksView) : Type 0 where
  pub each : (u : ℕ) → (all u || flag_there old.pending (place_at l u)) ≡ (left u || flag_there now.pending (place_at l u))
  pub rest : now ≡ record old { pending = now.pending; asked = now.asked }
  pub tasks : AreTasksOf l now

or_swap : (a b c : Bool) → ((a || b) || c) ≡ (b || (a || c))
or_swap true true c = refl
or_swap true false c = refl
or_swap false b c = refl

pub tasks_pended : (l : LocalView) (old new : TasksView) → new ≡ record old { pending = new.pending; asked = new.asked } → AreTasksOf l old → AreTasksOf l new
tasks_pended l old new rest are = subst (AreTasksOf l) (sym rest) (record { apart = are.apart; own = are.own })

pub pending_more : (l : LocalView) (all left left_then one : ℕ → Bool) (old now new : TasksView) → IsPending l all left old now → ((u : ℕ) → left u ≡ (one u || left_then u))
    → ((u : ℕ) → flag_there new.pending (place_at l u) ≡ (one u || flag_there now.pending (place_at l u))) → new ≡ record now { pending = new.pending; asked = new.asked }
    → IsPending l all left_then old new
pending_more l all left left_then one old now new is step each rest =
    record {
      each = λ u.
          is.each u ∙ ap (λ b. b || flag_there now.pending (place_at l u)) (step u) ∙ or_swap (one u) (left_then u) (flag_there now.pending (place_at l u))
          ∙ sym (ap (λ b. left_then u || b) (each u));
      rest = rest ∙ ap (λ (t : TasksView). record t { pending = new.pending; asked = new.asked }) is.rest;
      tasks = tasks_pended l now new rest is.tasks;
    }

pub pending_all : (l : LocalView) (all left : ℕ → Bool) (old now : TasksView) → IsPending l all left old now → ((u : ℕ) → left u ≡ false)
    → (u : ℕ) → flag_there now.pending (place_at l u) ≡ (all u || flag_there old.pending (place_at l u))
pending_all l all left old now is none u = sym (is.each u ∙ ap (λ b. b || flag_there now.pending (place_at l u)) (none u))
