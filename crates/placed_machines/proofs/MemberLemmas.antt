-- A machine as its constructors make it, as the engine wants it.
use Rattle.std.proofs.Common.{◌≡◌, ◌<◌, ℕ, ◌∙◌, All, Option, List, length, ap, sym, subst}
use Rattle.coordinator.specs.declared.coord_core.steps.Engine.{Engine}
use Rattle.coordinator.specs.declared.coord_core.steps.Engine.TheVariants.{Chromatic, Locking}
use Rattle.placed_machines.specs.declared.any_machine.machines.AnyMachine.{AnyMachine}
use Rattle.placed_machines.specs.declared.any_machine.machines.AnyMachine.TheVariants as member
use Rattle.gl_base.specs.declared.numbers.Vertex.{Vertex}
use Rattle.gl_base.specs.declared.snapshots.Base.{Base}
use Rattle.graph_core.specs.DataGraph.{size}
use Rattle.partition.specs.declared.machine_numbers.keeping.Numbers.{Numbers}
use Rattle.machine_core.specs.declared.machine_parts.cores.Core.{Core}
use Rattle.machine_core.specs.declared.machine_parts.cores.Terms.{Terms}
use Rattle.placement.proofs.places.ColourLemmas.{all_coloured, low_colours}
use Rattle.placement.specs.places.Cores.{IsMadeWith}
use Rattle.placement.specs.declared.places.cores.NewTerms.{NewTerms}
use Rattle.placement.proofs.places.NewLemmas.{begins_here, made_itself}
use Rattle.placement.specs.graphs.Beginnings.{AreFirstNumbers, AreFreshTasks, BeginsAt, IsReadyPart}
use Rattle.placed_machines.specs.chromatic.Machines.{IsChromaticMachineOf}
use Rattle.snapshot_machines.specs.saving.Machines.{IsFreshMachine}
use Rattle.snapshot_machines.specs.locking.Machines.{IsLockingMachineOf}
use Rattle.machine_core.specs.machine_parts.Settings.{window_of}
use Rattle.coordinator.specs.snap_update.Snaps.{nothing_since}
use Rattle.placed_machines.specs.Inner.Making.{AreColoursFor, BeginsWith, GoesBy, IsAnyMachineOf, Machine, RunsBy, Setting, Update, goes_back, takes_locks, with_locking}
use Rattle.placed_machines.specs.Inner.Members.{CanRunInColours, FitsEngine, IsNewMember, SnapMachineView, in_own_colours}
use Rattle.placed_machines.proofs.FirstLemmas.{fresh_machine}
use Rattle.placed_machines.proofs.FirstMachineLemmas.{color_of, first_chromatic, first_machine, first_locking, fresh_in_steps, stands_first, stands_in_colours}

pub begins_locked : (st : Setting) (base : Base) → BeginsWith st base → BeginsWith (with_locking st) base
begins_locked st base begins = record { vertices = begins.vertices; edges = begins.edges; number = begins.number }

-- what the constructor says of it
pub record IsFirstMachine {P : Type 0} (core : Core) (program : P) (x : SnapMachineView P) : Type 0 where
  pub core_is : x.core ≡ core
  pub kept_is : x.kept ≡ nothing_since core.terms.base x.kept.room
  pub program_is : x.program ≡ program

module _ (st : Setting) (window : Option ℕ) (terms : NewTerms) (a : ℕ) (n : Numbers) (core : Core) (goes : GoesBy (with_locking st) window terms) (first : AreFirstNumbers (with_locking st) a n) (ready : IsReadyPart (with_locking st) a n) (fresh : AreFreshTasks window n.tasks) (made : IsMadeWith terms n core) where
  begins_in : BeginsAt (with_locking st) core.numbers.local.me.0 window core.numbers
  begins_in = begins_here (with_locking st) window terms a n core goes first ready fresh made

  made_of : IsMadeWith terms core.numbers core
  made_of = made_itself terms n core made

  pub fresh_first : IsFreshMachine core
  fresh_first = fresh_machine st window terms core goes begins_in made_of

  -- each vertex has a colour
  low_first : (colours : List ℕ) → length colours ≡ size st.graph → All (λ (v : Vertex). v.0 < length colours) core.by_place.items
  low_first colours count =
      subst (λ (k : ℕ). All (λ (v : Vertex). v.0 < k) core.by_place.items) (sym count)
      (all_coloured core.numbers.local core.by_place.items (size st.graph) made_of.by_place (low_colours (with_locking st) core.numbers.local.me.0 core.numbers begins_in.part))

  module _ {P : Type 0} (meaning : P → Update) (program : P) (runs : st.program ≡ meaning program) (machine : SnapMachineView P) (is : IsFirstMachine core program machine) where
    machine_same : first_machine st window terms core goes begins_in made_of meaning program runs machine.kept.room ≡ machine
    machine_same = λ i. record { core = sym is.core_is i; kept = sym is.kept_is i; program = sym is.program_is i }

    pub fits_first : (e : Engine) (colours : List ℕ) → RunsBy e colours st → terms.terms.locks ≡ takes_locks e → AreColoursFor st.graph e colours → FitsEngine meaning e colours machine
    fits_first Locking colours by locks are = ap (λ (c : Core). c.terms.locks) is.core_is ∙ ap (λ (t : Terms). t.locks) made.terms_are ∙ locks
    fits_first (Chromatic greatest) colours by locks are = subst (CanRunInColours meaning colours) machine_same (record {
      below = low_first colours are.0;
      fresh = fresh_in_steps st window terms core goes begins_in made_of colours locks;
      st = st;
      setting = color_of st window terms core goes begins_in made_of meaning program runs machine.kept.room colours greatest by;
    })

    module _ (law : Machine) (serial : law.part.serial ≡ terms.serial) (same_window : window ≡ window_of st) (few : terms.machines < 65536) where
      number : core.numbers.local.me.0 ≡ a
      number = ap (λ (k : Numbers). k.local.me.0) made.numbers_are ∙ ready.machine

      pub member_first : (e : Engine) (colours : List ℕ) → RunsBy e colours st → (x : AnyMachine P) → IsNewMember e colours window machine x → IsAnyMachineOf meaning st a (goes_back st st.start st.base a law) x
      member_first Locking colours by (member.Locking x) new =
          let same : first_locking st window terms core goes begins_in made_of meaning program runs machine.kept.room law serial same_window x.reports.room ≡ x = λ i. record {
            machine = (machine_same ∙ sym new.machine_is) i;
            counts = sym new.counts i;
            window = sym new.window_is i;
            reports = record { messages = sym new.reports i; room = x.reports.room };
          } in
          subst (λ (b : ℕ). IsLockingMachineOf meaning st b (goes_back st st.start st.base b law) x) number
          (subst (IsLockingMachineOf meaning st core.numbers.local.me.0 (goes_back st st.start st.base core.numbers.local.me.0 law)) same
          (stands_first st window terms core goes begins_in made_of meaning program runs machine.kept.room law serial same_window x.reports.room by))
      member_first Locking colours by (member.Chromatic x) new = absurd new
      member_first (Chromatic greatest) colours by (member.Locking x) new = absurd new
      member_first (Chromatic greatest) colours by (member.Chromatic x) new =
          let coloured = ap (λ (m : SnapMachineView P). in_own_colours m colours) machine_same in
          let same : first_chromatic st window terms core goes begins_in made_of meaning program runs machine.kept.room law serial same_window x.reports.room colours ≡ x = λ i. record {
            machine = (coloured ∙ sym new.machine_is) i;
            counts = sym new.counts i;
            window = sym new.window_is i;
            reports = record { messages = sym new.reports i; room = x.reports.room };
          } in
          subst (λ (b : ℕ). IsChromaticMachineOf meaning st b (goes_back st st.start st.base b law) x) number
          (subst (IsChromaticMachineOf meaning st core.numbers.local.me.0 (goes_back st st.start st.base core.numbers.local.me.0 law)) same
          (stands_in_colours st window terms core goes begins_in made_of meaning program runs machine.kept.room law serial same_window x.reports.room few colours greatest by))
