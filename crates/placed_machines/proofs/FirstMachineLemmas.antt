-- A new machine, with its program and as a member of a cluster, stands for the one of the law that has gone back, with locks and by colours.
use Rattle.std.proofs.Common.{◌≡◌, ◌<◌, ℕ, ◌∙◌, false, Option, List, [], length, ap, sym, subst, refl}
use Rattle.std.specs.Prelude.{nat_lt}
use Rattle.std.proofs.lemmas.Bool.{lt-ltb, ltb-true}
use Rattle.std.proofs.lemmas.List.{length-map}
use Rattle.cluster_laws.proofs.cluster_core.Basics.{same_truth}
use Rattle.cluster_laws.specs.cluster_core.Settings.{Locking}
use Rattle.placed_machines.specs.chromatic.Machines.{IsChromaticMachineOf}
use Rattle.snapshot_machines.specs.chromatic.Machines.{IsColorSnapPart}
use Rattle.coordinator.specs.declared.coord_core.steps.Engine.TheVariants.{Chromatic}
use Rattle.partition.specs.machine_numbers.Views.{is_flagged}
use Rattle.machine_core.specs.declared.machine_parts.cores.Core.{Core}
use Rattle.machine_core.specs.declared.machine_parts.cores.Terms.{Terms}
use Rattle.machine_core.specs.machine_parts.Settings.{IsPartOf, window_of}
use Rattle.placement.specs.places.Colours.{colours_by_place}
use Rattle.placement.proofs.places.ColourLemmas.{as_many, colour_there, task_there}
use Rattle.machine_core.proofs.machine_scopes.PickLemmas.{flag_inside}
use Rattle.placement.specs.places.Cores.{IsMadeWith}
use Rattle.placement.specs.declared.places.cores.NewTerms.{NewTerms}
use Rattle.placement.proofs.places.NewLemmas.{part_is}
use Rattle.placement.specs.graphs.Beginnings.{BeginsAt}
use Rattle.snapshot_machines.specs.locking.Machines.{IsLockingMachineOf}
use Rattle.coordinator.specs.snap_update.Snaps.{SnapRoom, nothing_since}
use Rattle.coordinator.proofs.snap_update.SavedOnce.{nothing_once}
use Rattle.snapshot_machines.specs.wave_counts.Counts.{none_counted}
use Rattle.placed_machines.specs.Inner.Making.{GoesBy, Machine, RunsBy, Setting, Update, goes_back, with_locking}
use Rattle.placed_machines.specs.Inner.Members.{ChromaticMachineView, IsColorSnapOf, IsFreshInSteps, LockingMachineView, SnapMachineView, in_own_colours}
use Rattle.placed_machines.proofs.FirstLemmas.{counts_first, kept_first, looks_first, plans_first, saved_first}

-- with locks the setting is itself
locked : (st : Setting) → st.engine ≡ Locking → with_locking st ≡ st
locked st is = λ i. record st { engine = sym is i }

module _ (st : Setting) (window : Option ℕ) (terms : NewTerms) (m : Core) (goes : GoesBy (with_locking st) window terms) (begins : BeginsAt (with_locking st) m.numbers.local.me.0 window m.numbers) (made : IsMadeWith terms m.numbers m) where
  abbrev here : ℕ
  here = m.numbers.local.me.0

  part_there : IsPartOf (with_locking st) m
  part_there = part_is (with_locking st) window terms m goes begins made

  -- where scopes take no locks, it is fresh
  pub fresh_in_steps : (colours : List ℕ) → terms.terms.locks ≡ false → IsFreshInSteps m (length (colours_by_place colours m.by_place.items))
  fresh_in_steps colours none =
      let many : length (colours_by_place colours m.by_place.items) ≡ length m.numbers.tasks.task =
      length-map m.by_place.items _ ∙ as_many (with_locking st) window m.numbers begins m.by_place.items made.by_place in
      record {
        unlocked = ap (λ (t : Terms). t.locks) made.terms_are ∙ none;
        unclaimed = made.unclaimed;
        empty = made.empty;
        many = sym many;
        tasks = λ u. same_truth (is_flagged m.numbers.tasks.task u) (nat_lt u (length (colours_by_place colours m.by_place.items)))
            (λ set.
            let low = flag_inside m.numbers.tasks.task u set in
            lt-ltb u (length (colours_by_place colours m.by_place.items)) (subst (λ (n : ℕ). u < n) (sym many) low))
            (λ below.
            let low = ltb-true u (length (colours_by_place colours m.by_place.items)) below in
            task_there (with_locking st) window m.numbers begins m.by_place.items made.by_place u (subst (λ (n : ℕ). u < n) many low));
        none = λ u. (begins.fresh.pending u, begins.fresh.admitted u);
      }

  module _ {P : Type 0} (meaning : P → Update) (program : P) (runs : st.program ≡ meaning program) (room : SnapRoom) where
    -- with its program
    abbrev pub first_machine : SnapMachineView P
    first_machine = record { core = m; kept = nothing_since m.terms.base room; program = program }

    module _ (colours : List ℕ) (greatest : ℕ) (by : RunsBy (Chromatic greatest) colours st) where
      color_part : IsColorSnapPart st (in_own_colours first_machine colours)
      color_part = record {
        part = part_there;
        engine = record {
          colour = by.0;
          greatest = greatest;
          chromatic = by.1;
          here = colour_there (with_locking st) window m.numbers begins m.by_place.items made.by_place colours by.0 by.2;
        };
      }

      pub color_of : IsColorSnapOf meaning st (in_own_colours first_machine colours)
      color_of = record { is = record { graph = goes.is.graph; owner = goes.is.owner }; part = color_part; program = runs }

    module _ (law : Machine) (serial : law.part.serial ≡ terms.serial) (same_window : window ≡ window_of st) (reports : ℕ) where
      abbrev back : Machine
      back = goes_back st st.start st.base here law

      -- with nothing counted and nothing told
      abbrev pub first_locking : LockingMachineView P
      first_locking = record {
        machine = first_machine;
        counts = none_counted;
        window = window;
        reports = record { messages = []; room = reports };
      }

      pub stands_first : st.engine ≡ Locking → IsLockingMachineOf meaning st here back first_locking
      stands_first locks = record {
        here = subst (λ (s : Setting). IsPartOf s m) (locked st locks) part_there;
        number = refl;
        program = runs;
        window = same_window;
        part = looks_first st window terms m goes begins made room law.part serial;
        kept = kept_first st window terms m goes begins made law room;
        counts = counts_first st window terms m goes begins made law;
        none_held = refl;
        plans = plans_first st window terms m goes begins made law;
        saved = saved_first st window terms m goes begins made room;
        once = nothing_once m.terms.base room;
        reports = tt;
      }

      abbrev pub first_chromatic : List ℕ → ChromaticMachineView P
      first_chromatic colours = record {
        machine = in_own_colours first_machine colours;
        counts = none_counted;
        window = window;
        reports = record { messages = []; room = reports };
      }

      pub stands_in_colours : terms.machines < 65536 → (colours : List ℕ) (greatest : ℕ) → RunsBy (Chromatic greatest) colours st → IsChromaticMachineOf meaning st here back (first_chromatic colours)
      stands_in_colours few colours greatest by = record {
        here = color_of colours greatest by;
        few = subst (λ (n : ℕ). n < 65536) (sym goes.machines) few;
        number = refl;
        window = same_window;
        part = looks_first st window terms m goes begins made room law.part serial;
        free = λ v. refl;
        kept = kept_first st window terms m goes begins made law room;
        counts = counts_first st window terms m goes begins made law;
        plans = plans_first st window terms m goes begins made law;
        saved = saved_first st window terms m goes begins made room;
        once = nothing_once m.terms.base room;
        reports = tt;
      }
