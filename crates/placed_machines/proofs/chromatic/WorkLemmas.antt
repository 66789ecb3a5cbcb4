-- Updates, and what is asked for behind them, for each machine of the law.
use Rattle.std.proofs.Common.{◌≡◌, ℕ, zero, suc, ◌+◌, ◌/◌, ◌<◌, ◌≤◌, ◌==◌, ◌&&◌, ◌||◌, ◌++◌, not, Bool, true, false, if◌then◌else◌, length-append, Option, None, Some, List, [], ◌∷◌, length, refl, sym, ap, ◌∙◌, subst, le_refl, arith}
use Rattle.std.specs.Prelude.{is_some}
use Rattle.gl_base.specs.declared.entries.Entry.{Entry}
use Rattle.gl_base.specs.declared.entries.Entry.TheVariants.{Go}
use Rattle.gl_base.specs.declared.numbers.MachineNo.{MachineNo}
use Rattle.gl_base.specs.declared.scopes.ScopeId.{ScopeId}
use Rattle.update_api.specs.Updates.{Update}
use Rattle.cluster_laws.specs.cluster_core.Actions.{MayUpdate}
use Rattle.cluster_laws.specs.cluster_core.Effects.{marked, nothing_saved, updated}
use Rattle.cluster_laws.specs.cluster_core.Messages.{Message}
use Rattle.cluster_laws.specs.cluster_core.Parts.{Part}
use Rattle.cluster_laws.specs.cluster_core.Scopes.{takes_part}
use Rattle.cluster_laws.specs.cluster_model.Totals.{total_from}
use Rattle.cluster_laws.specs.cluster_model.Working.{makes_update, prompt, works_on}
use Rattle.snapshot_machines.specs.chromatic.Machines.{IsInSameStep, with_locking}
use Rattle.snapshot_machines.specs.chromatic.Updating.{HasLogged, HasRunOf, HasUpdatedInColour}
use Rattle.partition.specs.machine_numbers.Views.{place_at}
use Rattle.machine_core.specs.machine_parts.Order.{IsOrderly}
use Rattle.machine_core.specs.machine_parts.Parts.{part_of}
use Rattle.machine_core.specs.machine_turns.Turns.{HasMadeUpdate}
use Rattle.snapshot_machines.specs.saving.Machines.{SnapView}
use Rattle.cluster_laws.proofs.known_parts.GuardLemmas.{alike_turned, update_may}
use Rattle.coordinator.specs.machine_api.Deeds.{Update as UpdateDeed, updates_centre}
use Rattle.coordinator.specs.machine_api.Going.{IsSnapSetting}
use Rattle.coordinator.specs.machine_api.Promises.{CanNotDo, CanUpdate, HasDone, StandsStill}
use Rattle.snapshot_machines.proofs.locking.StandLemmas.{roomier_stands}
use Rattle.snapshot_machines.proofs.locking.WorkLemmas.{asked_standing, worked_standing}
use Rattle.coordinator.specs.snap_update.Snaps.{IsSameButRoom, asked_behind, with_asking}
use Rattle.snapshot_machines.specs.wave_counts.Counts.{waiting_in}
use Rattle.snapshot_machines.specs.locking.Asking.{asked_in, has_to_ask_in, with_asking_in, with_wish}
use Rattle.placed_machines.specs.chromatic.Prompting.{CanTellCounts, HasPrompted, HasSlack, HasWantedInSteps}
use Rattle.placed_machines.specs.chromatic.Machines.{AreToldReports, ChromaticMachineView, ColorSnapView, IsChromaticMachineOf, IsColorSnapPart, Machine, ReportsView, Setting, part_of_steps}
use Rattle.placed_machines.proofs.chromatic.ApartLemmas.{apart, coloured, kept_on, machine_apart, part_in, member_apart, settings_apart, snap_apart, snap_setting_apart, stands_apart}
use Rattle.placed_machines.proofs.chromatic.PromptLemmas.{slack_told}

-- ---- no outbox gets more than one message

total_more : (k many : ℕ) (f g : ℕ → ℕ) → ((q : ℕ) → g q ≤ f q + 1) → total_from k many g ≤ total_from k many f + many
unfolding total_from
total_more k zero f g low = omega arith
total_more k (suc many) f g low =
    let here : g k ≤ f k + 1 = low k in
    let rest : total_from (suc k) many g ≤ total_from (suc k) many f + many = total_more (suc k) many f g low in
    omega (arith, here, rest)

one_told : (test : Bool) (out : List Message) (m : Message) → length (if test then out ++ m ∷ [] else out) ≤ length out + 1
one_told true out m = subst (λ (n : ℕ). n ≤ length out + 1) (sym (length-append out (m ∷ []))) (le_refl (length out + 1))
one_told false out m = omega arith

module _ {P : Type 0} (meaning : P → Update) where
  -- behind a call that puts out one message more for each machine, the counts can be told
  pub more_told : (x now : ChromaticMachineView P) → HasSlack x → (st : Setting) → IsColorSnapPart st x.machine → st.machines < 65536 → ((q : ℕ) → length ((part_of_steps now.machine).out q) ≤ length ((part_of_steps x.machine).out q) + 1)
      → now.counts.held ≡ x.counts.held → now.counts.sent ≡ x.counts.sent → now.counts.received ≤ x.counts.received + 1 → CanTellCounts st now
  more_told x now slack st here few more same sent received held =
      slack_told x.counts now.counts st.machines (waiting_in st (part_of_steps x.machine)) (waiting_in st (part_of_steps now.machine)) few (slack st here (ap (λ (o : Option ℕ). is_some o) (sym same) ∙ held))
      (total_more 0 st.machines (λ q. length ((part_of_steps x.machine).out q)) (λ q. length ((part_of_steps now.machine).out q)) more) sent received

  pub updated_short : (st : Setting) (a : ℕ) (s : ScopeId) (v : ℕ) (entry : Entry) (part : Part) (q : ℕ) → length ((updated st a s v entry part).out q) ≤ length (part.out q) + 1
  updated_short st a s v entry part q = one_told (takes_part st v q && not (q == a)) (part.out q) _

  pub marked_short : (st : Setting) (a : ℕ) (s : ScopeId) (v : ℕ) (part : Part) (q : ℕ) → length ((marked st a s v part).out q) ≤ length (part.out q) + 1
  marked_short st a s v part q = one_told (takes_part st v q && not (q == a)) (part.out q) _

-- ---- parts that are the same but for what steps and snapshots add

module _ {P : Type 0} (x now : ColorSnapView P) (step : IsInSameStep x now) (st : Setting) (here : IsColorSnapPart st x) where
  pub base_same : now.core.terms.base ≡ x.core.terms.base
  base_same = (step.same.settings st here).part.base ∙ sym here.part.base

  abbrev pub bare : ℕ → Part → Part
  bare base part = record part { known = base; saved = nothing_saved; sent = base; colour = 0; closed = true }

  pub core_part : part_of_steps now ≡ part_of_steps x → part_of now.core ≡ part_of x.core
  core_part same = ap (bare now.core.terms.base) same ∙ ap (λ (b : ℕ). bare b (part_of x.core)) base_same

-- ---- what is asked for

-- what is kept for snapshots doesn't matter for the step
pub rekept_step : {P : Type 0} (x now : ColorSnapView P) (kept : SnapView) → IsInSameStep x now → IsInSameStep x (record now { kept = kept })
rekept_step x now kept step =
    record {
      same = record { settings = λ st here. let one = step.same.settings st here in record { part = one.part; engine = one.engine }; number = step.same.number; program = step.same.program; colours = step.same.colours };
      colour = step.colour;
      closed = step.closed;
    }

or_false : (b : Bool) → b ≡ (b || false)
or_false true = refl
or_false false = refl

-- without a window nothing is
pub asked_never : {P : Type 0} (x : ChromaticMachineView P) → None ≡ x.window → HasWantedInSteps x x
asked_never x none =
    let never : false ≡ has_to_ask_in x.window x.machine.kept = ap (λ (o : Option ℕ). has_to_ask_in o x.machine.kept) none in
    let same : x.machine.kept.wanted ≡ (x.machine.kept.wanted || false) = or_false x.machine.kept.wanted in
    λ i. record x {
      machine = record x.machine { kept = record x.machine.kept { wanted = (same ∙ ap (λ (b : Bool). x.machine.kept.wanted || b) never) i } };
      reports = ap (λ (b : Bool). with_wish (if b then Some x.machine.kept.acknowledged else None) x.reports) never i;
    }

module _ {P : Type 0} (x : ChromaticMachineView P) (window : ℕ) (some_window : Some window ≡ x.window) (now : ColorSnapView P) (rest_now : now ≡ record x.machine { kept = with_asking ((window + 1) / 2) x.machine.kept }) where
  rest : now ≡ record x.machine { kept = with_asking_in x.window x.machine.kept }
  rest = rest_now ∙ ap (λ (o : Option ℕ). record x.machine { kept = with_asking_in o x.machine.kept }) some_window

  wished : asked_behind ((window + 1) / 2) x.machine.kept ≡ asked_in x.window x.machine.kept
  wished = ap (λ (o : Option ℕ). asked_in o x.machine.kept) some_window

  pub asked_some : (k : ℕ) (reports : ReportsView) → Some k ≡ asked_behind ((window + 1) / 2) x.machine.kept → reports ≡ with_wish (Some k) x.reports → HasWantedInSteps x (record x { machine = now; reports = reports })
  asked_some k reports some told = λ i. record x { machine = rest i; reports = (told ∙ ap (λ (o : Option ℕ). with_wish o x.reports) (some ∙ wished)) i }

  pub asked_none : None ≡ asked_behind ((window + 1) / 2) x.machine.kept → HasWantedInSteps x (record x { machine = now })
  asked_none none = λ i. record x { machine = rest i; reports = ap (λ (o : Option ℕ). with_wish o x.reports) (none ∙ wished) i }

-- ---- an update

module _ {P : Type 0} (meaning : P → Update) (x : ChromaticMachineView P) (now : ColorSnapView P) (reports : ReportsView) (orderly : IsOrderly x.machine.core) (s : ScopeId) (ticket : ℕ) (has : HasUpdatedInColour (meaning x.machine.program) x.machine now s ticket)
    (run : HasRunOf x.machine.core now.core s) (logged : HasLogged x.machine.core x.machine.kept now.kept s ticket) (local : let old = x.machine.core.numbers.local in let new = now.core.numbers.local in new ≡ record old { kept = new.kept; rows = new.rows; numbers = new.numbers })
    (step : IsInSameStep x.machine now) (told : reports.messages ≡ x.reports.messages) where
  abbrev v : ℕ
  v = has.may.vertex

  abbrev entry : Entry
  entry = Go s.home (record { 0 = has.may.vertex }) ticket

  abbrev working : ChromaticMachineView P
  working = record x { machine = now; reports = reports }

  -- as for a machine that takes locks
  abbrev made : (st : Setting) → IsColorSnapPart st x.machine → HasMadeUpdate (meaning x.machine.program) x.machine.core now.core s ticket
  made st here =
      record {
        may = record { vertex = has.may.vertex; flight = has.may.flight; ready = has.may.ready; not_pending = has.may.not_pending; task = has.may.task; ticket = has.may.ticket };
        home = has.home;
        after = λ other setting part program.
            let base : now.core.terms.base ≡ x.machine.core.terms.base = base_same x.machine now step st here in
            ap (bare x.machine now step st here now.core.terms.base) (has.after (coloured x.machine st here other) (record { graph = setting.graph; owner = setting.owner }) (part_in x.machine st here other part) program)
            ∙ ap (λ (b : ℕ). updated other s.home.0 s v entry (bare x.machine now step st here b (part_of x.machine.core))) base;
      }

  module _ (behind : ChromaticMachineView P) (asked : HasWantedInSteps working behind) (st : Setting) (a : ℕ) (m : Machine) (snap : IsSnapSetting st) (is : IsChromaticMachineOf meaning st a m x) where
    abbrev new : Machine
    new = makes_update st a s v entry m

    behind_step : IsInSameStep x.machine behind.machine
    behind_step = subst (λ (y : ChromaticMachineView P). IsInSameStep x.machine y.machine) (sym asked) (rekept_step x.machine now (with_asking_in x.window now.kept) step)

    made_stands : IsChromaticMachineOf meaning st a new behind
    made_stands =
        let there = apart meaning st a m x is in
        let locking = snap_setting_apart st snap in
        let worked = worked_standing meaning (member_apart x) (snap_apart now) reports orderly s ticket (made st is.here.part) run logged local step.same.program (settings_apart x.machine st is.here.part now step.same) told (with_locking st) a (machine_apart m) locking there in
        kept_on meaning st a m new x behind is behind_step refl refl refl refl (ap (λ (y : ChromaticMachineView P). y.counts.held) asked)
        (asked_standing meaning (with_locking st) a (works_on (with_locking st) a s v entry (machine_apart m)) (member_apart working) worked (member_apart behind) (ap member_apart asked))

    flight_is : m.part.flight s ≡ Some v
    flight_is = ap (λ (p : Part). p.flight s) is.part.rest ∙ has.may.flight

    can_tell : HasSlack x → CanTellCounts st behind
    can_tell slack =
        let part : part_of_steps now ≡ updated st s.home.0 s v entry (part_of_steps x.machine) = has.after st is.here.is is.here.part is.here.program in
        let out_is : (q : ℕ) → (part_of_steps behind.machine).out q ≡ (updated st s.home.0 s v entry (part_of_steps x.machine)).out q = λ q.
        ap (λ (y : ChromaticMachineView P). (part_of_steps y.machine).out q) asked ∙ ap (λ (p : Part). p.out q) part in
        more_told meaning x behind slack st is.here.part is.few
        (λ q. subst (λ (ms : List Message). length ms ≤ length ((part_of_steps x.machine).out q) + 1) (sym (out_is q)) (updated_short meaning st s.home.0 s v entry (part_of_steps x.machine) q))
        (ap (λ (y : ChromaticMachineView P). y.counts.held) asked) (ap (λ (y : ChromaticMachineView P). y.counts.sent) asked)
        (subst (λ (n : ℕ). n ≤ x.counts.received + 1) (sym (ap (λ (y : ChromaticMachineView P). y.counts.received) asked)) (omega arith))

  pub updated_one : (behind last : ChromaticMachineView P) → HasWantedInSteps working behind → HasSlack x → HasPrompted meaning behind last → HasDone (IsChromaticMachineOf meaning) x (UpdateDeed s ticket) last
  updated_one behind last asked slack prompts st a m snap is =
      let may_m : MayUpdate s m.part 1 = update_may st a (part_of_steps x.machine) m.part (alike_turned st a m.part (part_of_steps x.machine) is.part) s 1 has.may in
      let new : Machine = makes_update st a s v entry m in (
        (ap (λ (n : MachineNo). n.0) has.home ∙ is.number, may_m),
        subst (λ (o : Option ℕ). IsChromaticMachineOf meaning st a (prompt st a (updates_centre st a s ticket o m)) last) (sym (flight_is behind asked st a m snap is))
            (prompts st a new snap (made_stands behind asked st a m snap is) (can_tell behind asked st a m snap is slack)),
      )

-- ---- where no update is made

module _ {P : Type 0} (meaning : P → Update) (x : ChromaticMachineView P) (s : ScopeId) where
  pub can_update : MayUpdate s (part_of_steps x.machine) 1 → s.home ≡ x.machine.core.numbers.local.me → CanUpdate (IsChromaticMachineOf meaning) x s
  can_update may home ticket st a m snap is =
      (ap (λ (n : MachineNo). n.0) home ∙ is.number, update_may st a (part_of_steps x.machine) m.part (alike_turned st a m.part (part_of_steps x.machine) is.part) s 1 may)

  pub can_not_update : (MayUpdate s (part_of_steps x.machine) 1 → ⊥) → (ticket : ℕ) → CanNotDo (IsChromaticMachineOf meaning) x (UpdateDeed s ticket)
  can_not_update not ticket st a m snap is may = not (update_may st a m.part (part_of_steps x.machine) is.part s 1 may.1)

-- ---- where nothing has changed but room

module _ {P : Type 0} (meaning : P → Update) (x : ChromaticMachineView P) where
  pub room_stands : (now : ColorSnapView P) (reports : ReportsView) → IsInSameStep x.machine now → part_of_steps now ≡ part_of_steps x.machine → IsSameButRoom x.machine.kept now.kept → now.core.numbers.tasks ≡ x.machine.core.numbers.tasks
      → ((v : ℕ) → place_at now.core.numbers.local v ≡ place_at x.machine.core.numbers.local v) → reports.messages ≡ x.reports.messages → StandsStill (IsChromaticMachineOf meaning) x (record x { machine = now; reports = reports })
  room_stands now reports step part same tasks places told =
      stands_apart meaning x (record x { machine = now; reports = reports }) step refl
      (λ st here. roomier_stands meaning (member_apart x) (snap_apart now) reports told (core_part x.machine now step st here part) same tasks places step.same.number step.same.program (settings_apart x.machine st here now step.same))

  pub reports_stand : (reports : ReportsView) → reports.messages ≡ x.reports.messages → StandsStill (IsChromaticMachineOf meaning) x (record x { reports = reports })
  reports_stand reports told st a m snap is =
      record {
        here = is.here;
        few = is.few;
        number = is.number;
        window = is.window;
        part = is.part;
        free = is.free;
        kept = is.kept;
        counts = is.counts;
        plans = is.plans;
        saved = is.saved;
        once = is.once;
        reports = subst (λ ms. AreToldReports ms m.out) (sym told) is.reports;
      }
