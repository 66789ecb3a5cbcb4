-- Grants of one machine, one after another, are a run of the cluster.
use Rattle.std.proofs.Common.{◌≡◌, ℕ, List, [], ◌∷◌, ◌++◌, map, inl, inr, refl, sym, ◌∙◌, ap, subst, eq-eqb, ne_eqb}
use Rattle.std.proofs.lemmas.Bool.{cases_eq}
use Rattle.cluster_laws.specs.cluster_core.Actions.{Grant}
use Rattle.cluster_laws.specs.cluster_core.Effects.{granted}
use Rattle.cluster_laws.specs.cluster_core.Parts.{Part}
use Rattle.cluster_laws.specs.cluster_core.Ranges.{set_at}
use Rattle.cluster_laws.specs.cluster_core.Runs.{IsActionRun}
use Rattle.cluster_laws.specs.cluster_core.Settings.{Setting}
use Rattle.cluster_laws.specs.cluster_core.Worlds.{World, with_part}
use Rattle.cluster_laws.specs.interior_scopes.InTurn.{AreGranted}
use Rattle.cluster_laws.proofs.interior_scopes.Running.{part_again, part_there}

-- what is put back as it was
set_at-kept : {X : Type 0} (f : ℕ → X) (a b : ℕ) → set_at f a (f a) b ≡ f b
set_at-kept f a b = elim (cases_eq b a) [
  | inl same ↦ rw (eq-eqb b a same) (ap f (sym same))
  | inr other ↦ rw (ne_eqb b a other) refl
]

part_kept : (w : World) (a : ℕ) → with_part w a (w.part a) ≡ w
part_kept w a = λ i. record w { part = λ b. set_at-kept w.part a b i }

pub grants_run : (st : Setting) (a : ℕ) (new : Part) (xs : List ℕ) (w : World) → AreGranted st a xs (w.part a) new → IsActionRun st w (map (Grant a) xs) (with_part w a new)
grants_run st a new [] w is = ap (with_part w a) is ∙ part_kept w a
grants_run st a new (x ∷ xs) w is =
    let one = granted st a x (w.part a) in (
      is.0,
      subst (IsActionRun st (with_part w a one) (map (Grant a) xs)) (part_again w a one new)
          (grants_run st a new xs (with_part w a one) (subst (λ (p : Part). AreGranted st a xs p new) (sym (part_there w a one)) is.1)),
    )

-- some more are granted behind them
pub granted_more : (st : Setting) (a : ℕ) (xs ys : List ℕ) (old between new : Part) → AreGranted st a xs old between → AreGranted st a ys between new → AreGranted st a (xs ++ ys) old new
granted_more st a [] ys old between new is more = subst (λ (p : Part). AreGranted st a ys p new) is more
granted_more st a (x ∷ xs) ys old between new is more = (is.0, granted_more st a xs ys (granted st a x old) between new is.1 more)
