-- A new machine that goes by colours.
use Rattle.std.proofs.Common.{◌≡◌, ℕ, ◌<◌, ◌&&◌, not, Bool, true, false, None, Some, List, length, sym, ap, ◌∙◌, subst}
use Rattle.std.specs.Prelude.{nat_lt}
use Rattle.std.proofs.lemmas.Bool.{and_from, lt-ltb}
use Rattle.update_api.specs.Updates.{Update}
use Rattle.partition.specs.machine_numbers.Views.{is_flagged}
use Rattle.machine_core.specs.machine_parts.Parts.{number_of, stand_at}
use Rattle.machine_core.specs.color_parts.Parts.{LinesView, is_in_line}
use Rattle.snapshot_machines.specs.chromatic.Machines.{IsColorSnapOf, IsFreshInSteps, Setting, SnapMachineView, in_no_step}
use Rattle.snapshot_machines.specs.chromatic.Inner.Keeping.{IsKeptInSteps, seen_in_steps}

none_some : (v : ℕ) → None ≡ Some v → ⊥
none_some v e = cc

pub fresh_kept : {P : Type 0} (meaning : P → Update) (m : SnapMachineView P) (colours : List ℕ) (lines asked : LinesView) → IsFreshInSteps m.core (length colours) → (st : Setting) → IsColorSnapOf meaning st (in_no_step m colours) → lines.colours ≡ colours
    → asked.colours ≡ colours → ((u : ℕ) → is_in_line lines u ≡ nat_lt u (length colours)) → ((u : ℕ) → is_in_line asked u ≡ false) → IsKeptInSteps meaning (seen_in_steps m lines.colours 0 true) lines asked
fresh_kept meaning m colours lines asked fresh st setting same asked_same all none =
    record {
      unlocked = fresh.unlocked;
      free = record {
        holder = fresh.unclaimed.holder;
        queue = fresh.unclaimed.queue;
        stand = λ s. ap stand_at (fresh.empty.entered s);
        ready = λ s v flies. absurd (none_some v (sym (ap number_of (fresh.empty.flight s)) ∙ flies));
      };
      in_line = record {
        many = ap length same ∙ sym fresh.many;
        colours = asked_same ∙ sym same;
        tasks = λ k low.
            let here : nat_lt k (length colours) ≡ true = lt-ltb k (length colours) (subst (λ (n : ℕ). k < n) fresh.many low) in
            all k ∙ here ∙ sym (and_from (is_flagged m.core.numbers.tasks.task k) (not (is_flagged m.core.numbers.tasks.admitted k)) (fresh.tasks k ∙ here) (ap not (fresh.none k).1));
        pending = λ k low. none k ∙ sym (ap (λ (b : Bool). b && not (is_flagged m.core.numbers.tasks.admitted k)) (fresh.none k).0);
      };
      st = st;
      setting = subst (λ (cs : List ℕ). IsColorSnapOf meaning st (seen_in_steps m cs 0 true)) (sym same) setting;
    }
