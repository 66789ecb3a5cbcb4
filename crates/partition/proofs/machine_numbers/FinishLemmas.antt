-- A task that was run, before others are woken.
use Rattle.std.proofs.Common.{◌≡◌, ℕ, ◌+◌, false, Option, Some, None, List, set, refl, sym, ap, ◌∙◌}
use Rattle.std.proofs.lemmas.Bool.{eq-eqb}
use Rattle.std.proofs.lemmas.List.{set-get_or}
use Rattle.std.proofs.lemmas.Option.{get_or_from_slice_get}
use Rattle.gl_base.specs.declared.scopes.Datum.{Datum}
use Rattle.local_graph.specs.Locals.{got_at, set_where}
use Rattle.std.specs.Prelude.{slice_set}
use Rattle.partition.specs.machine_numbers.Views.{TasksView}
use Rattle.partition.specs.machine_numbers.Steps.{HasRun, renewed}

pub run_on : (old between new : TasksView) (k : ℕ) → HasRun old between k → new ≡ record between { task = new.task } → HasRun old new k
run_on old between new k run is =
    let plans : new.plans ≡ between.plans = ap (λ (t : TasksView). t.plans) is in
    record {
      plans = ap (λ (n : ℕ). n + 1) plans ∙ run.plans;
      rest =
          is ∙ ap (λ (t : TasksView). record t { task = new.task }) run.rest
          ∙ ap (λ (n : ℕ). record old { task = new.task; admitted = slice_set old.admitted k false; planned = slice_set old.planned k false; plans = n; outside = old.outside + 1 }) (sym plans);
    }

-- a datum is written as it stood
pub set_as_it_was : (xs : List Datum) (o : Option ℕ) (d : Datum) → got_at xs o ≡ Some d → set_where xs o d ≡ xs
set_as_it_was xs None d is = refl
set_as_it_was xs (Some k) d is = sym (ap (set xs k) (get_or_from_slice_get xs k d d is)) ∙ set-get_or xs k d

-- the number is as before, and so is the datum
pub renewed_same : (old : Datum) (value : ℕ) → value ≡ old.value → renewed old value ≡ old
renewed_same old value same = rw (eq-eqb value old.value same) refl
