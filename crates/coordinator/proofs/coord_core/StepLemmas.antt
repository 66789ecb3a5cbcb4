-- What the coordinator knows of its steps: what always holds of it, whose it is, and when a step is due.
use Rattle.std.proofs.Common.{◌≡◌, ℕ, suc, ◌≤◌, ◌==◌, min, Bool, true, false, inl, inr, refl, sym, ap, arith, subst, ◌∙◌}
use Rattle.std.specs.Prelude.{if◌then◌else◌, ◌⊎◌}
use Rattle.cluster_laws.specs.cluster_core.Settings as law
use Rattle.cluster_laws.specs.cluster_model.Counting.{Counting}
use Rattle.cluster_laws.specs.cluster_model.Rounds.{AreEven, Rounds, StepIsDue, next_colour, with_counts, with_step, with_wave}
use Rattle.gl_base.specs.declared.scopes.Counted.{Counted}
use Rattle.coordinator.specs.quiet_waves.Waves.{AreEvenWaves}
use Rattle.coordinator.specs.coord_core.Inner.Kept.{AreStepsKept, greatest_colour}
use Rattle.coordinator.specs.coord_core.Steps.{AreStepsOf, HasColours, IsEngineOf, StepsView, colour_in_turn, first_steps, steps_asked, steps_begun}
use Rattle.coordinator.specs.declared.coord_core.steps.Engine.{Engine}
use Rattle.coordinator.specs.declared.coord_core.steps.Engine.TheVariants.{Chromatic, Locking}

-- ---- what always holds

pub none_kept : (engine : Engine) → AreStepsKept (first_steps engine)
none_kept engine = record { colour = omega arith; since = omega arith }

in_turn_low : (engine : Engine) (colour : ℕ) → HasColours engine → colour ≤ greatest_colour engine → colour_in_turn engine colour ≤ greatest_colour engine
in_turn_low Locking colour has low = absurd has
in_turn_low (Chromatic colours) colour has low = grind arith

pub stepped_kept : (s : StepsView) → HasColours s.engine → AreStepsKept s → AreStepsKept (steps_begun s)
stepped_kept s has kept = record { colour = in_turn_low s.engine s.colour has kept.colour; since = omega arith }

pub asked_kept : (s : StepsView) → AreStepsKept s → AreStepsKept (steps_asked s)
asked_kept s kept = record { colour = kept.colour; since = omega arith }

-- ---- whose they are

pub none_of : (engine : Engine) (rounds : Rounds) → rounds.steps ≡ 0 → rounds.colour ≡ 0 → rounds.since ≡ 0 → AreStepsOf engine (first_steps engine) rounds
none_of Locking rounds steps colour since = tt
none_of (Chromatic colours) rounds steps colour since = record { first = ((λ _. refl), (λ _. steps)); colour = colour; since = ap (min 2) since }

-- counts have come
pub counted_of : (engine : Engine) (s : StepsView) (rounds : Rounds) (a : ℕ) (counts : Counted) → AreStepsOf engine s rounds → AreStepsOf engine s (with_counts rounds a counts)
counted_of Locking s rounds a counts are = tt
counted_of (Chromatic colours) s rounds a counts are = record { first = are.first; colour = are.colour; since = are.since }

-- a wave is put out
pub asked_of : (engine : Engine) (s : StepsView) (rounds : Rounds) → AreStepsOf engine s rounds → AreStepsOf engine (steps_asked s) (with_wave rounds)
asked_of Locking s rounds are = tt
asked_of (Chromatic colours) s rounds are = record { first = are.first; colour = are.colour; since = let had = are.since in omega arith }

-- the next step is of this colour
pub colour_of : (engine : Engine) (is : law.Engine) (s : StepsView) (rounds : Rounds) → IsEngineOf engine is → HasColours engine → AreStepsOf engine s rounds →
    (with_step is rounds).colour ≡ colour_in_turn engine s.colour
colour_of Locking is s rounds same has are = absurd has
colour_of (Chromatic colours) is s rounds same has are =
    ap (λ (engine : law.Engine). next_colour engine rounds.colour) same.1 ∙ ap (λ (colour : ℕ). if colour == colours then 1 else suc colour) are.colour

-- which is one
some_colour : (turns : Bool) (colour : ℕ) → (if turns then 1 else suc colour) ≡ 0 → ⊥
some_colour true colour none = cc
some_colour false colour none = cc

-- a step is put out
pub stepped_of : (engine : Engine) (is : law.Engine) (s : StepsView) (rounds : Rounds) → IsEngineOf engine is → HasColours engine → AreStepsOf engine s rounds →
    AreStepsOf engine (record s { colour = colour_in_turn engine s.colour; since = 0 }) (with_step is rounds)
stepped_of Locking is s rounds same has are = absurd has
stepped_of (Chromatic colours) is s rounds same has are =
    record {
      first = ((λ none. absurd (cc)), (λ none. absurd (some_colour (s.colour == colours) s.colour none)));
      colour = colour_of (Chromatic colours) is s rounds same has are;
      since = refl;
    }

-- ---- when a step is due

-- the next step is due, as far as these engines go
pub record IsNext (engine : Engine) (s : StepsView) (counting : Counting) : Type 0 where
  pub some : HasColours engine
  pub whole : counting.waiting ≡ false
  pub over : (s.colour ≡ 0) ⊎ ((s.since ≡ 2) × AreEvenWaves counting.waves)

even_rounds : (rounds : Rounds) (counting : Counting) → rounds.counting ≡ counting → 2 ≤ rounds.since → AreEvenWaves counting.waves → AreEven rounds
even_rounds rounds counting same two even =
    let own : AreEvenWaves rounds.counting.waves = subst (λ (c : Counting). AreEvenWaves c.waves) (sym same) even in
    record { two = two; received_before = own.received_before; sent = own.sent; received = own.received }

even_waves : (rounds : Rounds) (counting : Counting) → rounds.counting ≡ counting → AreEven rounds → AreEvenWaves counting.waves
even_waves rounds counting same even =
    subst (λ (c : Counting). AreEvenWaves c.waves) same (record { received_before = even.received_before; sent = even.sent; received = even.received })

waiting_is : (rounds : Rounds) (counting : Counting) → rounds.counting ≡ counting → rounds.counting.waiting ≡ counting.waiting
waiting_is rounds counting same = ap (λ (c : Counting). c.waiting) same

pub law_next : (engine : Engine) (is : law.Engine) (s : StepsView) (rounds : Rounds) (counting : Counting) → IsEngineOf engine is → AreStepsOf engine s rounds → rounds.counting ≡ counting →
    IsNext engine s counting → StepIsDue is rounds
law_next Locking is s rounds counting same are told next = absurd next.some
law_next (Chromatic colours) is s rounds counting same are told next =
    record {
      colour = same.0;
      colours = colours;
      by = same.1;
      some = next.some;
      whole = waiting_is rounds counting told ∙ next.whole;
      over = elim next.over [
        | inl first ↦ inl (are.first.1 first)
        | inr even ↦ inr (even_rounds rounds counting told (let since = are.since in let two = even.0 in omega arith) even.1)
      ];
    }

-- how many colours an engine has
abbrev colours_in : law.Engine → ℕ
colours_in law.Locking = 0
colours_in (law.Chromatic colour colours) = colours

pub own_next : (engine : Engine) (is : law.Engine) (s : StepsView) (rounds : Rounds) (counting : Counting) → IsEngineOf engine is → AreStepsOf engine s rounds → rounds.counting ≡ counting →
    StepIsDue is rounds → IsNext engine s counting
own_next Locking is s rounds counting same are told due = absurd (let by = due.by in cc)
own_next (Chromatic colours) is s rounds counting same are told due =
    let many : due.colours ≡ colours = ap colours_in (sym due.by ∙ same.1) in
    record {
      some = let some = due.some in omega arith;
      whole = sym (waiting_is rounds counting told) ∙ due.whole;
      over = elim due.over [
        | inl first ↦ inl (are.first.0 first)
        | inr even ↦ inr ((let since = are.since in let two = even.two in omega arith), even_waves rounds counting told even)
      ];
    }
