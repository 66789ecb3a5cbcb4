-- An update at once in a step, and what is asked for behind it, for each machine of the law.
use Rattle.std.proofs.Common.{◌≡◌, ℕ, suc, pred, ◌+◌, ◌≤◌, ◌&&◌, ◌++◌, not, Bool, true, false, if◌then◌else◌, Option, None, Some, List, [], ◌∷◌, length, map, refl, sym, ap, ◌∙◌, subst, inl, inr, arith}
use Rattle.std.specs.Prelude.{is_some, nat_lt}
use Rattle.gl_base.specs.declared.entries.Entry.{Entry}
use Rattle.gl_base.specs.declared.numbers.Vertex.{Vertex}
use Rattle.gl_base.specs.declared.scopes.ScopeId.{ScopeId}
use Rattle.update_api.specs.Updates.{Update}
use Rattle.cluster_laws.specs.cluster_core.Actions.{MayUpdate}
use Rattle.cluster_laws.specs.cluster_core.Effects.{admitted, updated}
use Rattle.cluster_laws.specs.cluster_core.Messages.{Message}
use Rattle.cluster_laws.specs.cluster_core.Parts.{Part}
use Rattle.cluster_laws.specs.cluster_core.Scopes.{set_for}
use Rattle.cluster_laws.specs.cluster_core.Settings.{Chromatic, Engine, IsSetting}
use Rattle.cluster_laws.proofs.cluster_core.Basics.{set_for-same}
use Rattle.cluster_laws.specs.cluster_model.Machines.{gained}
use Rattle.cluster_laws.specs.cluster_model.Working.{admits, asks, has_room, prompt, works_on}
use Rattle.cluster_laws.specs.interior_scopes.AtOnce.{MayUpdateAtOnce, at_once, entry_at_once, locks_by}
use Rattle.cluster_laws.proofs.interior_scopes.Walking.{admitted_flies, released_none, updated_alone, walks}
use Rattle.snapshot_machines.specs.chromatic.AtOnce.{CanUpdateByColour, HasLoggedAtOnce, HasNoneByColour, HasRunAtOnce, HasUpdatedByColour}
use Rattle.snapshot_machines.specs.chromatic.Machines.{IsInSameStep, with_locking}
use Rattle.machine_core.specs.machine_parts.Order.{IsOrderly, KnowsPlaces}
use Rattle.machine_core.specs.machine_parts.Parts.{part_of}
use Rattle.snapshot_machines.specs.saving.Updates.{HasUpdatedFound}
use Rattle.coordinator.specs.machine_api.AtOnce.{AreDone, CanNotUpdateAtOnce, CanUpdateAtOnce, HasUpdatedAtOnce, deeds_at_once}
use Rattle.coordinator.specs.machine_api.Deeds.{Admit, Grant, Update as UpdateDeed, does, updates_centre}
use Rattle.coordinator.specs.machine_api.Going.{IsSnapSetting}
use Rattle.coordinator.specs.machine_api.Promises.{StandsStill}
use Rattle.snapshot_machines.proofs.locking.AtOnceLemmas.{HasSameLocks, at_once_standing, may_with, turned}
use Rattle.snapshot_machines.proofs.locking.TurnLemmas.{entry as entry_of, none_gained, scope, worked_at_once}
use Rattle.snapshot_machines.proofs.locking.WorkLemmas.{asked_standing}
use Rattle.coordinator.specs.snap_update.Snaps.{outside_of}
use Rattle.snapshot_machines.specs.locking.Asking.{with_asking_in}
use Rattle.placed_machines.specs.chromatic.Prompting.{CanTellCounts, HasPrompted, HasSlack, HasWantedInSteps}
use Rattle.placed_machines.specs.chromatic.Machines.{ChromaticMachineView, ColorSnapView, IsChromaticMachineOf, IsColorSnapPart, Machine, ReportsView, Setting, part_of_steps}
use Rattle.placed_machines.proofs.chromatic.AdmitLemmas.{admit_here, admit_there, busy, can_not_admit, may_now}
use Rattle.placed_machines.proofs.chromatic.ApartLemmas.{apart, coloured, kept_on, machine_apart, part_in, member_apart, settings_apart, snap_apart, snap_setting_apart}
use Rattle.placed_machines.proofs.chromatic.PromptLemmas.{prompt_none, room_is}
use Rattle.placed_machines.proofs.chromatic.WorkLemmas.{bare, base_same, more_told, rekept_step}

-- ---- in the law, one thing after another

module _ (st : Setting) (is : IsSetting st) (colour : ℕ → ℕ) (colours : ℕ) (steps : st.engine ≡ Chromatic colour colours) (a v ticket : ℕ) (m : Machine) (may : MayUpdateAtOnce st a v m.part 1) where
  abbrev s : ScopeId
  s = scope st a v ticket m

  abbrev entry : Entry
  entry = entry_of st a v ticket m

  abbrev worked : Machine
  worked = worked_at_once st a v ticket m

  -- it is admitted, and ready
  abbrev ready : Part
  ready = walks st a v m.part m.part.holder None

  abbrev flying : Machine
  flying = record m { part = ready; planned = set_for m.planned s true; plans = suc m.plans }

  admits_is : admits st a v m ≡ flying
  admits_is =
      let part : admitted st a v m.part ≡ ready = admitted_flies st colour colours steps a v m.part in
      (λ i. record m {
        part = part i;
        sent = m.sent + gained st m.part (part i);
        planned = set_for m.planned s (not (may.not_pending i));
        plans = if may.not_pending i then m.plans else suc m.plans;
      })
      ∙ ap (λ (sent : ℕ). record flying { sent = sent }) (none_gained st m.part ready m.sent refl)

  and_false : (b : Bool) → (b && false) ≡ false
  and_false true = refl
  and_false false = refl

  -- a wave that is held waits on
  admitted_is : does st a (Admit v) m ≡ flying
  admitted_is =
      ap (prompt st a) admits_is
      ∙ prompt_none st a flying
      (ap (λ (b : Bool). is_some m.held && b) (busy st.engine colour colours steps st a v m.part flying (sym (admitted_flies st colour colours steps a v m.part)) may.admit.turn) ∙ and_false (is_some m.held))

  may_update : MayUpdate s ready 1
  may_update =
      record {
        vertex = v;
        flight = set_for-same m.part.flight s (Some v);
        ready = set_for-same m.part.ready s true;
        not_pending = may.not_pending;
        task = may.task;
        ticket = omega arith;
      }

  works_is : works_on st a s v entry flying ≡ worked
  works_is =
      let part : updated st a s v entry ready ≡ at_once st a v entry m.part =
      updated_alone st is a v m.part may.admit.vertex may.interior may.is_new m.part.holder (released_none st is a v m.part may.admit.vertex may.interior may.is_new) entry in
      let planned : set_for m.planned s true s ≡ true = set_for-same m.planned s true in
      let unmarked : Bool = nat_lt (m.part.datum v).mark m.part.known in
      (λ i. record flying {
        part = part i;
        sent = m.sent + gained st ready (part i);
        plans = if planned i then pred (suc m.plans) else suc m.plans;
        before = if unmarked then m.before ++ entry ∷ [] else m.before;
        behind = if unmarked then m.behind else m.behind ++ entry ∷ [];
      })
      ∙ ap (λ (sent : ℕ). record worked { sent = sent }) (none_gained st ready (at_once st a v entry m.part) m.sent refl)

  updates_is : does st a (UpdateDeed s ticket) flying ≡ prompt st a (asks st worked)
  updates_is =
      ap (λ (o : Option ℕ). prompt st a (updates_centre st a s ticket o flying)) (set_for-same m.part.flight s (Some v))
      ∙ ap (λ (n : Machine). prompt st a (asks st n)) works_is

  pub done_in_step : has_room st m ≡ true → AreDone st a (deeds_at_once st a v ticket m) m (prompt st a (asks st worked))
  done_in_step room =
      subst (λ (e : Engine). AreDone st a (Admit v ∷ map Grant (locks_by e st v a) ++ UpdateDeed s ticket ∷ []) m (prompt st a (asks st worked))) (sym steps) (
        record { may = may.admit; room = inr room },
        subst (λ (n : Machine). AreDone st a (UpdateDeed s ticket ∷ []) n (prompt st a (asks st worked))) (sym admitted_is) ((refl, may_update), sym updates_is),
      )

-- ---- guards

module _ {P : Type 0} (meaning : P → Update) (x : ChromaticMachineView P) (orderly : IsOrderly x.machine.core) (places : KnowsPlaces x.machine.core) (counted : x.machine.core.numbers.tasks.outside ≡ outside_of x.machine.kept) where
  module _ (st : Setting) (a : ℕ) (m : Machine) (is : IsChromaticMachineOf meaning st a m x) where
    same_locks : HasSameLocks (part_of_steps x.machine) m.part
    same_locks =
        let rest = is.part.rest in
        record {
          serial = sym (ap (λ (p : Part). p.serial) rest);
          task = sym (ap (λ (p : Part). p.task) rest);
          pending = sym (ap (λ (p : Part). p.pending) rest);
          flight = sym (ap (λ (p : Part). p.flight) rest);
          stand = sym (ap (λ (p : Part). p.stand) rest);
          ready = sym (ap (λ (p : Part). p.ready) rest);
          holder = sym (ap (λ (p : Part). p.holder) rest);
          queue = sym (ap (λ (p : Part). p.queue) rest);
        }

    pub at_once_here : (v : ℕ) → MayUpdateAtOnce st x.machine.core.numbers.local.me.0 v (part_of_steps x.machine) 1 → MayUpdateAtOnce st a v m.part 1
    at_once_here v may = may_with st x.machine.core.numbers.local.me.0 a v (part_of_steps x.machine) m.part is.number same_locks (admit_here meaning x orderly places counted st a m is v may.admit) may

    pub at_once_there : (v : ℕ) → MayUpdateAtOnce st a v m.part 1 → MayUpdateAtOnce st x.machine.core.numbers.local.me.0 v (part_of_steps x.machine) 1
    at_once_there v may =
        may_with st a x.machine.core.numbers.local.me.0 v m.part (part_of_steps x.machine) (sym is.number) (turned (part_of_steps x.machine) m.part same_locks) (admit_there meaning x orderly places counted st a m is v may.admit) may

  -- where none is made

  pub can_at_once : CanUpdateByColour x.machine → CanUpdateAtOnce (IsChromaticMachineOf meaning) x
  can_at_once can = (
    can.vertex.0,
    λ st a m snap is. record { may = at_once_here st a m is can.vertex.0 (can.may st is.here.is is.here.part); room = room_is meaning x counted st a m snap is ∙ can.opened },
  )

  pub can_not_at_once : HasNoneByColour x.machine → CanNotUpdateAtOnce (IsChromaticMachineOf meaning) x
  can_not_at_once (inl none) = inl (can_not_admit meaning x orderly places counted none)
  can_not_at_once (inr one) = inr (
    one.0.vertex.0,
    λ st a m snap is. (may_now meaning x orderly places counted st a m is snap one.0, λ may. one.1 st is.here.is is.here.part (at_once_there st a m is one.0.vertex.0 may.may)),
  )

  -- ---- where one is

  module _ (now : ColorSnapView P) (reports : ReportsView) (v : Vertex) (ticket : ℕ) (has : HasUpdatedByColour (meaning x.machine.program) x.machine now v ticket) (run : HasRunAtOnce x.machine.core.numbers.tasks now.core.numbers.tasks)
      (logged : HasLoggedAtOnce x.machine.core x.machine.kept now.kept v ticket) (local : let old = x.machine.core.numbers.local in let new = now.core.numbers.local in new ≡ record old { kept = new.kept; rows = new.rows; numbers = new.numbers })
      (step : IsInSameStep x.machine now) (told : reports.messages ≡ x.reports.messages) where
    abbrev working : ChromaticMachineView P
    working = record x { machine = now; reports = reports }

    -- as for a machine that takes locks
    made_apart : (st : Setting) → IsColorSnapPart st x.machine → HasUpdatedFound (meaning x.machine.program) x.machine.core now.core v ticket
    made_apart st here other setting part program =
        let a = x.machine.core.numbers.local.me.0 in
        let base : now.core.terms.base ≡ x.machine.core.terms.base = base_same x.machine now step st here in
        ap (bare x.machine now step st here now.core.terms.base) (has.after (coloured x.machine st here other) (record { graph = setting.graph; owner = setting.owner }) (part_in x.machine st here other part) program)
        ∙ ap (λ (b : ℕ). at_once other a v.0 (entry_at_once a v.0 ticket) (bare x.machine now step st here b (part_of x.machine.core))) base

    module _ (behind : ChromaticMachineView P) (asked : HasWantedInSteps working behind) (st : Setting) (a : ℕ) (m : Machine) (snap : IsSnapSetting st) (is : IsChromaticMachineOf meaning st a m x) where
      may_m : MayUpdateAtOnce st a v.0 m.part 1
      may_m = at_once_here st a m is v.0 (has.may st is.here.is is.here.part)

      abbrev new : Machine
      new = asks st (worked_at_once st a v.0 ticket m)

      behind_step : IsInSameStep x.machine behind.machine
      behind_step = subst (λ (y : ChromaticMachineView P). IsInSameStep x.machine y.machine) (sym asked) (rekept_step x.machine now (with_asking_in x.window now.kept) step)

      run_stands : IsChromaticMachineOf meaning st a new behind
      run_stands =
          let there = apart meaning st a m x is in
          let locking = snap_setting_apart st snap in
          let worked = at_once_standing meaning (member_apart x) (snap_apart now) reports orderly v ticket (made_apart st is.here.part) run logged local step.same.program (settings_apart x.machine st is.here.part now step.same) told (with_locking st) a (machine_apart m) locking there
          may_m.admit.vertex may_m.admit.owned may_m.is_new.flight in
          kept_on meaning st a m new x behind is behind_step refl refl refl refl (ap (λ (y : ChromaticMachineView P). y.counts.held) asked)
          (asked_standing meaning (with_locking st) a (worked_at_once (with_locking st) a v.0 ticket (machine_apart m)) (member_apart working) worked (member_apart behind) (ap member_apart asked))

      can_tell : HasSlack x → CanTellCounts st behind
      can_tell slack =
          let part : part_of_steps now ≡ at_once st x.machine.core.numbers.local.me.0 v.0 (entry_at_once x.machine.core.numbers.local.me.0 v.0 ticket) (part_of_steps x.machine) = has.after st is.here.is is.here.part is.here.program in
          let out_is : (q : ℕ) → (part_of_steps behind.machine).out q ≡ (part_of_steps x.machine).out q = λ q.
          ap (λ (y : ChromaticMachineView P). (part_of_steps y.machine).out q) asked ∙ ap (λ (p : Part). p.out q) part in
          more_told meaning x behind slack st is.here.part is.few
          (λ q. subst (λ (ms : List Message). length ms ≤ length ((part_of_steps x.machine).out q) + 1) (sym (out_is q)) (omega arith))
          (ap (λ (y : ChromaticMachineView P). y.counts.held) asked) (ap (λ (y : ChromaticMachineView P). y.counts.sent) asked)
          (subst (λ (n : ℕ). n ≤ x.counts.received + 1) (sym (ap (λ (y : ChromaticMachineView P). y.counts.received) asked)) (omega arith))

    pub updated_pick : (behind last : ChromaticMachineView P) → HasWantedInSteps working behind → HasSlack x → HasPrompted meaning behind last → HasUpdatedAtOnce (IsChromaticMachineOf meaning) x v.0 ticket last
    updated_pick behind last asked slack prompts st a m snap is =
        let may : MayUpdateAtOnce st a v.0 m.part 1 = may_m behind asked st a m snap is in
        let engine = is.here.part.engine in
        let room : has_room st m ≡ true = room_is meaning x counted st a m snap is ∙ has.opened in
        record {
          may = record { may = may; room = room };
          after = prompt st a (asks st (worked_at_once st a v.0 ticket m));
          done = done_in_step st is.here.is engine.colour engine.greatest engine.chromatic a v.0 ticket m may room;
          here = prompts st a (asks st (worked_at_once st a v.0 ticket m)) snap (run_stands behind asked st a m snap is) (can_tell behind asked st a m snap is slack);
        }

-- ---- behind the room that was made

module _ {M : Type 0} (stands : Setting → ℕ → Machine → M → Type 0) (x y z : M) (still : StandsStill stands x y) where
  pub updated_from : (v ticket : ℕ) → HasUpdatedAtOnce stands y v ticket z → HasUpdatedAtOnce stands x v ticket z
  updated_from v ticket has st a m snap is = has st a m snap (still st a m snap is)

  pub still_from : StandsStill stands y z → StandsStill stands x z
  still_from more st a m snap is = more st a m snap (still st a m snap is)

  pub can_from : CanUpdateAtOnce stands y → CanUpdateAtOnce stands x
  can_from can = (can.0, λ st a m snap is. can.1 st a m snap (still st a m snap is))

  pub can_not_from : CanNotUpdateAtOnce stands y → CanNotUpdateAtOnce stands x
  can_not_from (inl none) = inl (λ st a m snap is. none st a m snap (still st a m snap is))
  can_not_from (inr one) = inr (one.0, λ st a m snap is. one.1 st a m snap (still st a m snap is))
