-- A machine that goes by colours stays one through each call.
use Rattle.std.proofs.Common.{◌≡◌, ℕ, ◌<◌, ◌==◌, true, false, Option, None, Some, List, length, get_or, refl, sym, ap, ◌∙◌, arith}
use Rattle.std.specs.Prelude.{nat_lt, slice_get}
use Rattle.std.proofs.lemmas.Bool.{and_parts, lt-ltb, ltb-true}
use Rattle.std.proofs.lemmas.Option.{slice_get-get_or}
use Rattle.graph_core.specs.DataGraph.{size}
use Rattle.update_api.specs.Updates.{Update}
use Rattle.cluster_laws.specs.cluster_core.Effects.{first_pending, first_unmarked, seed_if}
use Rattle.cluster_laws.proofs.cluster_core.Basics.{first_passing-none}
use Rattle.partition.specs.machine_numbers.Views.{place_at}
use Rattle.machine_core.specs.declared.machine_parts.cores.Core.{Core}
use Rattle.machine_core.specs.machine_parts.Parts.{is_own}
use Rattle.machine_core.specs.machine_parts.Settings.{SameSettings}
use Rattle.machine_core.specs.color_parts.Parts.{LinesView}
use Rattle.snapshot_machines.specs.chromatic.Machines.{ColorSnapView, IsInSameStep, IsOrderly, IsPartOf, IsSameColorSnap, KnowsPlaces, Part, Setting, SnapMachineView, part_of, with_locking}
use Rattle.snapshot_machines.specs.chromatic.Inner.Keeping.{AreBothInLine, IsKeptInSteps, IsWithoutLocks, seen_in_steps}
use Rattle.snapshot_machines.proofs.chromatic.LineLemmas.{StandApart}

-- ---- who stands where

pub stand_apart : (m : Core) → IsOrderly m → KnowsPlaces m → StandApart m.numbers.local (length m.numbers.tasks.task)
stand_apart m orderly places =
    record {
      stands = λ k low.
          let long = places.vertices.many in
          let v = get_or m.by_place.items k (record { 0 = 0 }) in
          (v, places.vertices.place k v (slice_get-get_or m.by_place.items k (record { 0 = 0 }) (omega (arith, low, long))));
      apart = orderly.numbers.tasks.apart;
    }

-- an own vertex is one of the graph
pub own_low : (st : Setting) (m : Core) (u k : ℕ) → IsOrderly m → IsPartOf st m → place_at m.numbers.local u ≡ Some k → k < length m.numbers.tasks.task → (is_own m.numbers.local u ≡ true) × (u < size st.graph) × ((st.owner u == m.numbers.local.me.0) ≡ true)
own_low st m u k orderly is at low =
    let own : is_own m.numbers.local u ≡ true = orderly.numbers.tasks.own u k at ∙ lt-ltb k (length m.numbers.tasks.task) low in
    let both = and_parts (nat_lt u (size st.graph)) (st.owner u == m.numbers.local.me.0) (sym (is.local.own u) ∙ own) in
    (own, ltb-true u (size st.graph) both.0, both.1)

-- ---- the same machine

pub same_step : {P : Type 0} (x : ColorSnapView P) (m : SnapMachineView P) (colours : List ℕ) → SameSettings x.core m.core → m.core.by_place ≡ x.core.by_place → m.core.numbers.local.me ≡ x.core.numbers.local.me → m.program ≡ x.program → colours ≡ x.colours
    → IsInSameStep x (seen_in_steps m colours x.colour x.closed)
same_step x m colours settings places me program same =
    record {
      same = record {
        settings = λ st is. record {
          part = settings (with_locking st) is.part;
          engine = record {
            colour = is.engine.colour;
            greatest = is.engine.greatest;
            chromatic = is.engine.chromatic;
            here = λ k v at. ap (λ (cs : List ℕ). slice_get cs k) same ∙ is.engine.here k v (ap (λ vs. slice_get vs.items k) (sym places) ∙ at);
          };
        };
        number = me;
        program = program;
        colours = same;
      };
      colour = refl;
      closed = refl;
    }

pub kept_on : {P : Type 0} (meaning : P → Update) (x y : ColorSnapView P) (lines asked new_lines new_asked : LinesView) → IsKeptInSteps meaning x lines asked → IsSameColorSnap x y → y.core.terms ≡ x.core.terms → IsWithoutLocks (part_of y.core)
    → AreBothInLine y.core.numbers.tasks new_lines new_asked → IsKeptInSteps meaning y new_lines new_asked
kept_on meaning x y lines asked new_lines new_asked is same terms free in_line =
    record {
      unlocked = ap (λ t. t.locks) terms ∙ is.unlocked;
      free = free;
      in_line = in_line;
      st = is.st;
      setting = record { is = is.setting.is; part = same.settings is.st is.setting.part; program = is.setting.program ∙ ap meaning (sym same.program) };
    }

-- ---- the seed

-- who is seeded is alone
pub seed_alone : (first unmarked : Option ℕ) (s : ℕ) → seed_if first unmarked ≡ Some s → first ≡ None
seed_alone None unmarked s is = refl
seed_alone (Some v) unmarked s is = absurd (none_some is)
  where
    none_some : None ≡ Some s → ⊥
    none_some e = cc

pub none_pending : (st : Setting) (a : ℕ) (part : Part) (u s : ℕ) → u < size st.graph → seed_if (first_pending st part) (first_unmarked st a part) ≡ Some s → part.pending u ≡ false
none_pending st a part u s low is =
    first_passing-none part.pending 0 (size st.graph) (seed_alone (first_pending st part) (first_unmarked st a part) s is) u (omega arith) (omega (arith, low))
