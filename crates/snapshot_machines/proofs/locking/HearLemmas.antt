-- What the machine hears from the coordinator, for each machine of the law.
use Rattle.std.proofs.Common.{◌≡◌, ℕ, ◌+◌, ◌<◌, ◌≤◌, ◌^◌, ◌||◌, ◌++◌, max, Bool, true, false, if◌then◌else◌, Option, None, Some, List, [], ◌∷◌, length, drop, refl, sym, ap, ◌∙◌, subst, arith}
use Rattle.std.specs.Prelude.{is_some, nat_lt}
use Rattle.gl_base.specs.declared.scopes.Counted.{Counted}
use Rattle.update_api.specs.Updates.{Update}
use Rattle.cluster_laws.specs.cluster_core.Effects.{begins, knows, nothing_saved}
use Rattle.cluster_laws.specs.cluster_core.Parts.{Part}
use Rattle.cluster_laws.specs.cluster_core.Settings.{Engine}
use Rattle.cluster_laws.specs.cluster_model.Calls.{Begin, Committed, Count, Step, Wave}
use Rattle.cluster_laws.specs.cluster_model.Machines.{is_idle}
use Rattle.cluster_laws.specs.cluster_model.Working.{asks, before_at, behind_at, commits, is_done, prompt, rest_of, takes_call}
use Rattle.cluster_laws.proofs.cluster_moves.DueKept.{begins_kept}
use Rattle.machine_core.specs.declared.machine_parts.cores.Core.{Core}
use Rattle.machine_core.specs.machine_parts.Settings.{SameSettings}
use Rattle.snapshot_machines.specs.saving.Machines.{SnapMachineView}
use Rattle.cluster_laws.proofs.known_parts.SeenLemmas.{begin_alike}
use Rattle.snapshot_machines.specs.marking.Hearing.{HasBegun, HasFewerOutside}
use Rattle.snapshot_machines.specs.marking.Seeding.{HasOtherPending}
use Rattle.coordinator.specs.machine_api.Going.{IsSnapSetting}
use Rattle.coordinator.specs.machine_api.Promises.{HasHeard}
use Rattle.coordinator.specs.snap_update.Snaps.{IsSameButRoom, newly_begun, with_begun, with_committed}
use Rattle.coordinator.proofs.snap_update.SavedOnce.{begun_once}
use Rattle.snapshot_machines.specs.wave_counts.Counts.{HasAnsweredWave, MayTellCounts, waiting_in}
use Rattle.snapshot_machines.specs.declared.wave_counts.answers.WaveAnswer.{WaveAnswer}
use Rattle.snapshot_machines.proofs.wave_counts.CountLemmas.{prompt_counts, prompt_is}
use Rattle.wire.specs.wire_msgs.Views as wire
use Rattle.wire.specs.declared.wire_msgs.messages.Message.TheVariants as sent
use Rattle.snapshot_machines.specs.locking.Reports.{AreToldReports, ReportsView, with_report}
use Rattle.snapshot_machines.specs.locking.Asking.{HasToldCounts, HasWanted}
use Rattle.snapshot_machines.specs.locking.Machines.{CountsView, IsCountOf, IsPartOf, IsLockingMachineOf, IsSavedOnce, IsSavedRight, IsSnapPartOf, LooksAlike, Machine, LockingMachineView, Setting, SnapView, flag_there, part_held, part_of, place_at, with_snaps}
use Rattle.snapshot_machines.proofs.locking.StandLemmas.{alike_to, closed_is, kept_from, plans_kept, still_stands}
use Rattle.snapshot_machines.proofs.locking.MarkLemmas.{seeded_right}
use Rattle.snapshot_machines.proofs.locking.WorkLemmas.{asked_standing, reports_push}

-- ---- a snapshot begins

none_some : (k : ℕ) → None ≡ Some k → ⊥
none_some k is = cc

knows_right : (st : Setting) (a k : ℕ) (part : Part) → IsSavedRight st a part → IsSavedRight st a (knows k part)
knows_right st a k part right = by (nat_lt part.known k) refl
  where
    above : part.known ≤ max part.known k
    above = omega arith

    same : nat_lt part.known k ≡ false → max part.known k ≡ part.known
    same is = grind arith

    by : (b : Bool) → nat_lt part.known k ≡ b → IsSavedRight st a (record part { known = max part.known k; saved = if b then nothing_saved else part.saved })
    by true is =
        record {
          vertices = λ v number has. absurd (none_some number has);
          edges = λ e number has. absurd (none_some number has);
          pending = λ v low owned pends. let less = right.pending v low owned pends in let more = above in omega (arith, less, more);
        }
    by false is =
        let one = same is in
        record {
          vertices = λ v number has. let was = right.vertices v number has in record { vertex = was.vertex; owned = was.owned; marked = subst (λ (j : ℕ). j ≤ (part.datum v).mark) (sym one) was.marked };
          edges = λ e number has.
              let was = right.edges e number has in
              (was.0, was.1, record { vertex = was.2.vertex; owned = was.2.owned; marked = subst (λ (j : ℕ). j ≤ (part.datum was.0).mark) (sym one) was.2.marked });
          pending = λ v low owned pends. subst (λ (j : ℕ). (part.datum v).mark < j) (sym one) (right.pending v low owned pends);
        }

pub begins_right : (st : Setting) (a k : ℕ) (part : Part) → IsSavedRight st a part → IsSavedRight st a (begins st a k part)
begins_right st a k part right = seeded_right st a (knows k part) (knows_right st a k part right)

-- what was kept beside what a beginning changes, and the entries
pub record HasBegunKept (k : ℕ) (m : Machine) (now : SnapView) : Type 0 where
  pub acknowledged : m.acknowledged ≡ now.acknowledged
  pub wanted : m.wanted ≡ now.wanted
  pub before : before_at k m ≡ now.before
  pub behind : behind_at k m ≡ now.behind
  pub unsure : m.unsure ≡ now.unsure

pub begun_kept : (k : ℕ) (m : Machine) (w now : SnapView) → IsSnapPartOf w m → IsSameButRoom (with_begun k w) now → HasBegunKept k m now
begun_kept k m w now kept same =
    subst (HasBegunKept k m) (sym same)
    (let one = by (nat_lt w.known k) in
    record {
      acknowledged = one.0;
      wanted = one.1;
      before = ap (λ (j : ℕ). if nat_lt j k then m.before ++ m.behind else m.before) kept.known ∙ one.2;
      behind = ap (λ (j : ℕ). if nat_lt j k then [] else m.behind) kept.known ∙ one.3;
      unsure = one.4;
    })
  where
    by : (b : Bool) → (m.acknowledged ≡ (if b then newly_begun k w else w).acknowledged) × (m.wanted ≡ (if b then newly_begun k w else w).wanted) × ((if b then m.before ++ m.behind else m.before) ≡ (if b then newly_begun k w else w).before)
        × ((if b then [] else m.behind) ≡ (if b then newly_begun k w else w).behind) × (m.unsure ≡ (if b then newly_begun k w else w).unsure)
    by true = (kept.acknowledged, kept.wanted, λ i. kept.before i ++ kept.behind i, refl, kept.unsure)
    by false = (kept.acknowledged, kept.wanted, kept.before, kept.behind, kept.unsure)

pub once_begun : (k : ℕ) (w now : SnapView) → IsSameButRoom (with_begun k w) now → IsSavedOnce w → IsSavedOnce now
once_begun k w now same once =
    let one = begun_once k w once in
    subst IsSavedOnce (sym same) (record { vertices = one.vertices; edges = one.edges })

module _ {P : Type 0} (meaning : P → Update) (x : LockingMachineView P) (now : SnapMachineView P) where
  abbrev old : Core
  old = x.machine.core

  abbrev behind : LockingMachineView P
  behind = record x { machine = now }

  module _ (k : ℕ) (begun : HasBegun old x.machine.kept now.core now.kept k) (same : IsSameButRoom (with_begun k x.machine.kept) now.kept) (rest : HasOtherPending old now.core) (program : now.program ≡ x.machine.program) (settings : SameSettings old now.core) where
    pub begun_standing : (st : Setting) (a : ℕ) (m : Machine) → IsSnapSetting st → IsLockingMachineOf meaning st a m x → IsLockingMachineOf meaning st a (takes_call st a (Begin k) m) behind
    begun_standing st a m snap is =
        let new : Machine = takes_call st a (Begin k) m in
        let held_is : part_held behind ≡ begins st a k (part_held x) = begun st is.here ∙ ap (λ (b : ℕ). begins st b k (part_held x)) is.number in
        let alike : LooksAlike st a new.part (part_held behind) = alike_to st a new.part (begins st a k (part_held x)) (part_held behind) (begin_alike st a snap.is k m.part (part_held x) is.part) held_is in
        let kept = begun_kept k m x.machine.kept now.kept is.kept same in
        record {
          here = settings st is.here;
          number = ap (λ (c : Core). c.numbers.local.me.0) rest ∙ is.number;
          program = is.program ∙ ap meaning (sym program);
          window = is.window;
          part = alike;
          kept = kept_from st a new now.kept (part_of now.core) alike kept.acknowledged kept.wanted kept.before kept.behind kept.unsure;
          counts = record { sent = is.counts.sent; received = is.counts.received; held = is.counts.held };
          none_held = is.none_held;
          plans = plans_kept old.numbers now.core.numbers m new (begins_kept st a k m.part) refl refl (ap (λ (c : Core). c.numbers.tasks.planned) rest) (ap (λ (c : Core). c.numbers.tasks.plans) rest) (λ v. ap (λ (c : Core). place_at c.numbers.local v) rest) is.plans;
          saved = subst (IsSavedRight st a) (sym held_is) (begins_right st a k (part_held x) is.saved);
          once = once_begun k x.machine.kept now.kept same is.once;
          reports = is.reports;
        }

    pub heard_begin : HasHeard (IsLockingMachineOf meaning) x (sent.Begin k) behind
    heard_begin st c a (Begin j) front =
        still_stands meaning st a (takes_call st a (Begin j) (c.machine a)) behind
        (subst (λ (i : ℕ). IsLockingMachineOf meaning st a (takes_call st a (Begin i) (c.machine a)) behind) front.told (begun_standing st a (c.machine a) front.setting front.here))
    heard_begin st c a (Committed j) front = absurd front.told
    heard_begin st c a (Wave j) front = absurd front.told
    heard_begin st c a (Step j) front = absurd front.told

  -- ---- a snapshot is acknowledged

  module _ (k : ℕ) (kept : now.kept ≡ with_committed k x.machine.kept) (fewer : HasFewerOutside old now.core) (part : part_of now.core ≡ part_of old) (program : now.program ≡ x.machine.program) (settings : SameSettings old now.core)
      (reports : ReportsView) (told : reports.messages ≡ x.reports.messages) where
    abbrev left : LockingMachineView P
    left = record x { machine = now; reports = reports }

    one_less : (xs : List ℕ) → rest_of xs ≡ drop 1 xs
    one_less [] = refl
    one_less (n ∷ xs) = refl

    pub committed_standing : (st : Setting) (a : ℕ) (m : Machine) → IsLockingMachineOf meaning st a m x → IsLockingMachineOf meaning st a (commits k m) left
    committed_standing st a m is =
        let held_is : part_held left ≡ part_held x = ap (λ (w : SnapView). with_snaps w (part_of now.core)) kept ∙ ap (with_snaps x.machine.kept) part in
        let alike : LooksAlike st a m.part (part_held left) = alike_to st a m.part (part_held x) (part_held left) is.part held_is in
        record {
          here = settings st is.here;
          number = ap (λ (c : Core). c.numbers.local.me.0) fewer.rest ∙ is.number;
          program = is.program ∙ ap meaning (sym program);
          window = is.window;
          part = alike;
          kept = kept_from st a (commits k m) now.kept (part_of now.core) alike (sym (ap (λ (w : SnapView). w.acknowledged) kept)) (sym (ap (λ (w : SnapView). w.wanted) kept)) (is.kept.before ∙ sym (ap (λ (w : SnapView). w.before) kept))
              (is.kept.behind ∙ sym (ap (λ (w : SnapView). w.behind) kept)) (ap rest_of is.kept.unsure ∙ one_less x.machine.kept.unsure ∙ sym (ap (λ (w : SnapView). w.unsure) kept));
          counts = record { sent = is.counts.sent; received = is.counts.received; held = is.counts.held };
          none_held = is.none_held;
          plans = record {
            many = is.plans.many ∙ sym (ap (λ (c : Core). c.numbers.tasks.plans) fewer.rest);
            planned = λ s v flies. is.plans.planned s v flies ∙ sym (ap (λ (c : Core). flag_there c.numbers.tasks.planned (place_at c.numbers.local v)) fewer.rest);
            others = is.plans.others;
          };
          saved = subst (IsSavedRight st a) (sym held_is) is.saved;
          once = subst IsSavedOnce (sym kept) (record { vertices = is.once.vertices; edges = is.once.edges });
          reports = subst (λ ms. AreToldReports ms m.out) (sym told) is.reports;
        }

    pub heard_committed : (behind : LockingMachineView P) → HasWanted left behind → HasHeard (IsLockingMachineOf meaning) x (sent.Committed k) behind
    heard_committed behind asked st c a (Committed j) front =
        let m : Machine = c.machine a in
        still_stands meaning st a (asks st (commits j m)) behind
        (subst (λ (i : ℕ). IsLockingMachineOf meaning st a (asks st (commits i m)) behind) front.told
        (asked_standing meaning st a (commits k m) left (committed_standing st a m front.here) behind asked))
    heard_committed behind asked st c a (Begin j) front = absurd front.told
    heard_committed behind asked st c a (Wave j) front = absurd front.told
    heard_committed behind asked st c a (Step j) front = absurd front.told

-- ---- a wave

module _ {P : Type 0} (meaning : P → Update) (x now : LockingMachineView P) (wave sent_count waiting : ℕ) (told : ReportsView) (messages : told.messages ≡ x.reports.messages) (has_told : HasToldCounts (record x { reports = told }) now wave sent_count)
    (waits : (st : Setting) → IsPartOf st x.machine.core → waiting ≡ waiting_in st (part_of x.machine.core)) (can : MayTellCounts x.counts waiting) (sum : sent_count ≡ x.counts.sent + waiting) where
  abbrev idle : Bool
  idle = has_told.idle

  abbrev updates : ℕ
  updates = length x.machine.core.numbers.log.items

  abbrev counted : Counted
  counted = record { sent = sent_count; received = x.counts.received; updates = updates; idle = idle }

  abbrev counts : CountsView
  counts = record x.counts { held = None }

  abbrev answer : Option WaveAnswer
  answer = Some (record { wave = wave; counted = counted })

  abbrev behind_wave : LockingMachineView P
  behind_wave = record x { counts = counts; reports = with_report (wire.Count wave counted) told }

  wave_standing : (st : Setting) (a : ℕ) (m : Machine) → IsLockingMachineOf meaning st a m x → IsLockingMachineOf meaning st a (prompt st a (takes_call st a (Wave wave) m)) behind_wave
  wave_standing st a m is =
      let held : Machine = takes_call st a (Wave wave) m in
      let counted_here : IsCountOf st (record x.counts { held = Some wave }) held = record { sent = is.counts.sent; received = is.counts.received; held = refl } in
      let wait_is : waiting ≡ waiting_in st m.part = waits st is.here ∙ sym (ap (waiting_in st) is.part.rest) in
      let can_here : MayTellCounts (record x.counts { held = Some wave }) (waiting_in st held.part) =
      record { sent = can.sent; received = can.received; sum = subst (λ (n : ℕ). x.counts.sent + n < 2 ^ 64) wait_is can.sum } in
      let sum_here : sent_count ≡ x.counts.sent + waiting_in st held.part = sum ∙ ap (λ (n : ℕ). x.counts.sent + n) wait_is in
      let made_here : updates ≡ length held.part.log = sym (ap (λ (p : Part). length p.log) is.part.rest) in
      let rests_here : idle ≡ is_idle st held.part = has_told.rests st is.here ∙ sym (ap (is_idle st) is.part.rest) in
      let has : HasAnsweredWave (record x.counts { held = Some wave }) counts (is_done st.engine st a held) sent_count updates idle answer =
      subst (λ (e : Engine). HasAnsweredWave (record x.counts { held = Some wave }) counts (is_done e st a held) sent_count updates idle answer) (sym is.here.engine) (record { told = refl; rest = refl }) in
      let closed = closed_is meaning st a m x is in
      let same : prompt st a held ≡ record m { held = None; out = m.out ++ Count wave counted ∷ [] } =
      prompt_is st a sent_count updates idle (record x.counts { held = Some wave }) counts answer held counted_here can_here sum_here made_here rests_here has
      ∙ (λ i.
      record m {
        part = record m.part { closed = (ap (λ (b : Bool). b || is_some answer) closed ∙ sym closed) i };
        held = None;
        out = m.out ++ Count wave counted ∷ [];
      }) in
      let counts_now : IsCountOf st counts (prompt st a held) =
      prompt_counts st a sent_count updates idle (record x.counts { held = Some wave }) counts answer held counted_here can_here sum_here made_here rests_here has in
      subst (λ (n : Machine). IsLockingMachineOf meaning st a n behind_wave) (sym same)
      (record {
        here = is.here;
        number = is.number;
        program = is.program;
        window = is.window;
        part = is.part;
        kept = record {
          known = is.kept.known;
          sent = is.kept.sent;
          acknowledged = is.kept.acknowledged;
          wanted = is.kept.wanted;
          saved = is.kept.saved;
          before = is.kept.before;
          behind = is.kept.behind;
          unsure = is.kept.unsure;
        };
        counts = subst (IsCountOf st counts) same counts_now;
        none_held = refl;
        plans = record { many = is.plans.many; planned = is.plans.planned; others = is.plans.others };
        saved = is.saved;
        once = is.once;
        reports = subst (λ ms. AreToldReports (ms ++ wire.Count wave counted ∷ []) (m.out ++ Count wave counted ∷ [])) (sym messages)
            (reports_push x.reports.messages m.out (wire.Count wave counted) (Count wave counted) is.reports (refl, tt));
      })

  pub heard_wave : HasHeard (IsLockingMachineOf meaning) x (sent.Wave wave) now
  heard_wave st c a (Wave j) front =
      subst (IsLockingMachineOf meaning st a (prompt st a (takes_call st a (Wave j) (c.machine a)))) (sym has_told.after)
      (subst (λ (i : ℕ). IsLockingMachineOf meaning st a (prompt st a (takes_call st a (Wave i) (c.machine a))) behind_wave) front.told (wave_standing st a (c.machine a) front.here))
  heard_wave st c a (Begin j) front = absurd front.told
  heard_wave st c a (Committed j) front = absurd front.told
  heard_wave st c a (Step j) front = absurd front.told
