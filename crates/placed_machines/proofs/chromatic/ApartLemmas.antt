-- A machine that goes by colours, apart from its steps and from the wave that it holds, is one that takes locks: what is known of that one
-- holds of it too.
use Rattle.std.proofs.Common.{◌≡◌, ℕ, ◌<◌, true, None, [], refl, sym, ap, ◌∙◌, subst}
use Rattle.update_api.specs.Updates.{Update}
use Rattle.cluster_laws.specs.cluster_core.Parts.{Part}
use Rattle.cluster_laws.specs.cluster_core.Settings.{IsSetting}
use Rattle.machine_core.specs.color_parts.Settings.{GoesByColours}
use Rattle.snapshot_machines.specs.chromatic.Machines.{IsInSameStep, IsSameColorSnap, with_locking}
use Rattle.machine_core.specs.machine_parts.Settings.{IsPartOf, SameSettings}
use Rattle.snapshot_machines.specs.saving.Machines.{SnapMachineView}
use Rattle.coordinator.specs.machine_api.Going.{IsSnapSetting}
use Rattle.coordinator.specs.machine_api.Promises.{StandsStill}
use Rattle.snapshot_machines.specs.locking.Machines.{IsLockingMachineOf, LockingMachineView}
use Rattle.placed_machines.specs.chromatic.Machines.{ChromaticMachineView, ColorSnapView, CountsView, IsChromaticMachineOf, IsColorSnapPart, IsSavedRight, Machine, Setting, part_of_steps}

-- ---- apart from steps and waves

abbrev pub snap_apart : {P : Type 0} → ColorSnapView P → SnapMachineView P
snap_apart x = record { core = x.core; kept = x.kept; program = x.program }

abbrev pub counts_apart : CountsView → CountsView
counts_apart w = record w { held = None }

abbrev pub member_apart : {P : Type 0} → ChromaticMachineView P → LockingMachineView P
member_apart x = record { machine = snap_apart x.machine; counts = counts_apart x.counts; window = x.window; reports = x.reports }

abbrev pub part_apart : Part → Part
part_apart part = record part { colour = 0; closed = true }

abbrev pub machine_apart : Machine → Machine
machine_apart m = record m { part = part_apart m.part; held = None }

pub snap_setting_apart : (st : Setting) → IsSnapSetting st → IsSnapSetting (with_locking st)
snap_setting_apart st snap = record { is = record { graph = snap.is.graph; owner = snap.is.owner }; coloured = tt }

saved_there : (st : Setting) (a : ℕ) (part : Part) → IsSavedRight st a part → IsSavedRight (with_locking st) a (part_apart part)
saved_there st a part right =
    record {
      vertices = λ v number has. let one = right.vertices v number has in record { vertex = one.vertex; owned = one.owned; marked = one.marked };
      edges = λ e number has. let one = right.edges e number has in (one.0, one.1, record { vertex = one.2.vertex; owned = one.2.owned; marked = one.2.marked });
      pending = right.pending;
    }

saved_here : (st : Setting) (a : ℕ) (part : Part) → IsSavedRight (with_locking st) a (part_apart part) → IsSavedRight st a part
saved_here st a part right =
    record {
      vertices = λ v number has. let one = right.vertices v number has in record { vertex = one.vertex; owned = one.owned; marked = one.marked };
      edges = λ e number has. let one = right.edges e number has in (one.0, one.1, record { vertex = one.2.vertex; owned = one.2.owned; marked = one.2.marked });
      pending = right.pending;
    }

module _ {P : Type 0} (meaning : P → Update) (st : Setting) (a : ℕ) (m : Machine) (x : ChromaticMachineView P) where
  pub apart : IsChromaticMachineOf meaning st a m x → IsLockingMachineOf meaning (with_locking st) a (machine_apart m) (member_apart x)
  apart is =
      record {
        here = is.here.part.part;
        number = is.number;
        program = is.here.program;
        window = is.window;
        part = record { rest = ap part_apart is.part.rest; vertices = is.part.vertices; edges = is.part.edges };
        kept = record {
          known = is.kept.known;
          sent = is.kept.sent;
          acknowledged = is.kept.acknowledged;
          wanted = is.kept.wanted;
          saved = record { vertices = is.kept.saved.vertices; edges = is.kept.saved.edges };
          before = is.kept.before;
          behind = is.kept.behind;
          unsure = is.kept.unsure;
        };
        counts = record { sent = is.counts.sent; received = is.counts.received; held = refl };
        none_held = refl;
        plans = record { many = is.plans.many; planned = is.plans.planned; others = is.plans.others };
        saved = saved_there st a (part_of_steps x.machine) is.saved;
        once = record { vertices = is.once.vertices; edges = is.once.edges };
        reports = is.reports;
      }

  pub joined : IsSetting st → st.machines < 65536 → GoesByColours st.engine x.machine.core.by_place.items x.machine.colours → m.part.colour ≡ x.machine.colour → m.part.closed ≡ x.machine.closed → ((v : ℕ) → m.part.queue v ≡ []) → m.held ≡ x.counts.held
      → IsLockingMachineOf meaning (with_locking st) a (machine_apart m) (member_apart x) → IsChromaticMachineOf meaning st a m x
  joined setting few engine colour closed free held is =
      record {
        here = record { is = setting; part = record { part = is.here; engine = engine }; program = is.program };
        few = few;
        number = is.number;
        window = is.window;
        part = record { rest = λ i. record (is.part.rest i) { colour = colour i; closed = closed i }; vertices = is.part.vertices; edges = is.part.edges };
        free = free;
        kept = record {
          known = is.kept.known;
          sent = is.kept.sent;
          acknowledged = is.kept.acknowledged;
          wanted = is.kept.wanted;
          saved = record { vertices = is.kept.saved.vertices; edges = is.kept.saved.edges };
          before = is.kept.before;
          behind = is.kept.behind;
          unsure = is.kept.unsure;
        };
        counts = record { sent = is.counts.sent; received = is.counts.received; held = held };
        plans = record { many = is.plans.many; planned = is.plans.planned; others = is.plans.others };
        saved = saved_here st a (part_of_steps x.machine) is.saved;
        once = record { vertices = is.once.vertices; edges = is.once.edges };
        reports = is.reports;
      }

  pub colour_is : IsChromaticMachineOf meaning st a m x → m.part.colour ≡ x.machine.colour
  colour_is is = ap (λ (p : Part). p.colour) is.part.rest

  pub closed_is : IsChromaticMachineOf meaning st a m x → m.part.closed ≡ x.machine.closed
  closed_is is = ap (λ (p : Part). p.closed) is.part.rest

-- a machine that has gone on in its step, or to another
pub gone_on : {P : Type 0} (meaning : P → Update) (st : Setting) (a : ℕ) (m new : Machine) (x now : ChromaticMachineView P) → IsChromaticMachineOf meaning st a m x → IsSameColorSnap x.machine now.machine
    → new.part.colour ≡ now.machine.colour → new.part.closed ≡ now.machine.closed → new.part.queue ≡ m.part.queue → new.held ≡ now.counts.held → IsLockingMachineOf meaning (with_locking st) a (machine_apart new) (member_apart now) → IsChromaticMachineOf meaning st a new now
gone_on meaning st a m new x now is same colour closed queue held there =
    joined meaning st a new now is.here.is is.few (same.settings st is.here.part).engine colour closed (λ v. ap (λ f. f v) queue ∙ is.free v) held there

-- in the same step, holding the same wave
pub kept_on : {P : Type 0} (meaning : P → Update) (st : Setting) (a : ℕ) (m new : Machine) (x now : ChromaticMachineView P) → IsChromaticMachineOf meaning st a m x → IsInSameStep x.machine now.machine
    → new.part.colour ≡ m.part.colour → new.part.closed ≡ m.part.closed → new.part.queue ≡ m.part.queue → new.held ≡ m.held → now.counts.held ≡ x.counts.held → IsLockingMachineOf meaning (with_locking st) a (machine_apart new) (member_apart now) → IsChromaticMachineOf meaning st a new now
kept_on meaning st a m new x now is same colour closed queue held counted there =
    gone_on meaning st a m new x now is same.same (colour ∙ colour_is meaning st a m x is ∙ sym same.colour) (closed ∙ closed_is meaning st a m x is ∙ sym same.closed) queue (held ∙ is.counts.held ∙ sym counted) there

-- ---- whatever setting, with this one's colours

module _ {P : Type 0} (x : ColorSnapView P) (st : Setting) (here : IsColorSnapPart st x) where
  abbrev pub coloured : Setting → Setting
  coloured other = record other { engine = st.engine }

  pub part_in : (other : Setting) → IsPartOf other x.core → IsColorSnapPart (coloured other) x
  part_in other is = record { part = subst (λ (s : Setting). IsPartOf s x.core) (λ i. record other { engine = is.engine i }) is; engine = here.engine }

  pub settings_apart : (now : ColorSnapView P) → IsSameColorSnap x now → SameSettings x.core now.core
  settings_apart now same other is = subst (λ (s : Setting). IsPartOf s now.core) (λ i. record other { engine = sym is.engine i }) (same.settings (coloured other) (part_in other is)).part

-- ---- where nothing has changed for the law

pub stands_apart : {P : Type 0} (meaning : P → Update) (x now : ChromaticMachineView P) → IsInSameStep x.machine now.machine → now.counts.held ≡ x.counts.held → ((st : Setting) → IsColorSnapPart st x.machine → StandsStill (IsLockingMachineOf meaning) (member_apart x) (member_apart now))
    → StandsStill (IsChromaticMachineOf meaning) x now
stands_apart meaning x now same held still st a m snap is =
    kept_on meaning st a m m x now is same refl refl refl refl held
    (still st is.here.part (with_locking st) a (machine_apart m) (snap_setting_apart st snap) (apart meaning st a m x is))

-- it is the same machine in the same step
pub same_step : {P : Type 0} (x : ColorSnapView P) → IsInSameStep x x
same_step x = record { same = record { settings = λ st here. here; number = refl; program = refl; colours = refl }; colour = refl; closed = refl }
