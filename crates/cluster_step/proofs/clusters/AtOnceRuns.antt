-- What a machine does in an update at once is a run of events of the cluster.
use Rattle.std.proofs.Common.{◌≡◌, ◌⊎◌, ℕ, suc, pred, ◌+◌, ◌-◌, ◌<◌, ◌^◌, ◌++◌, true, false, true≢false, List, [], ◌∷◌, get_or, length, map, refl, sym, ap, arith, add-one, subst, ⊎_elim, inl, inr, ◌∙◌}
use Rattle.std.specs.List.{AllByRecursion}
use Rattle.std.specs.Prelude.{Err, Ok, Result, slice_index_or}
use Rattle.std.specs.Vec.{with_item}
use Rattle.gl_base.specs.declared.numbers.MachineNo.{MachineNo}
use Rattle.gl_base.specs.declared.numbers.Vertex.{Vertex}
use Rattle.gl_base.specs.declared.refusals.Refused.{Refused}
use Rattle.gl_base.specs.declared.refusals.Refused.TheVariants.{NoMemory, NotNow}
use Rattle.gl_base.specs.declared.scopes.ScopeId.{ScopeId}
use Rattle.cluster_laws.proofs.cluster_core.Basics.{set_at-same}
use Rattle.cluster_laws.specs.cluster_model.Clusters.{with_machine}
use Rattle.cluster_laws.specs.cluster_model.Events as law
use Rattle.whole_laws.specs.cluster_whole.Whole.{IsNoRecovery}
use Rattle.cluster_laws.proofs.interior_scopes.Walking.{set_at-twice}
use Rattle.coordinator.specs.machine_api.AtOnce.{AreDone, CanNotUpdateAtOnce, CanUpdateAtOnce, HasUpdatedAtOnce, MayUpdateWithin, deeds_at_once, locks_at_once}
use Rattle.coordinator.specs.machine_api.Promises.{Admit, Deed, Grant, MayBeDone, StandsStill, Update, does}
use Rattle.cluster_step.specs.clusters.AtOnce.{AnswersAtOnce, CanNotTakePlaceAtOnce, CanTakePlaceAtOnce, TakesPlaceAtOnce, events_at_once}
use Rattle.cluster_step.specs.clusters.Clusters.{Cluster, IsSavingClusterOf, IsSnapSetting, Machine, Parts, Setting, StandsForSaving}
use Rattle.cluster_step.specs.clusters.Events.{CanNotTakePlace}
use Rattle.cluster_step.specs.declared.clusters.events.Event.TheVariants as event
use Rattle.cluster_step.specs.declared.clusters.events.Local.TheVariants as local
use Rattle.cluster_step.proofs.clusters.Answering.{going, never, still_alone}
use Rattle.cluster_step.proofs.clusters.Goings.{going_trace}
use Rattle.cluster_step.proofs.clusters.Making.{does_so, is_awake, law_may, machine_here, machines_set, many_set, runs_set, still_runs}

-- ---- what these events are

grants_no_recovery : (a : ℕ) (xs : List ℕ) (s : ScopeId) → AllByRecursion IsNoRecovery (map (law.Grant a) xs ++ law.Update s ∷ [])
grants_no_recovery a [] s = (λ base is. cc, tt)
grants_no_recovery a (x ∷ xs) s = (λ base is. cc, grants_no_recovery a xs s)

-- none of them is a recovery
pub no_recoveries : (st : Setting) (a v : ℕ) (m : Machine) → AllByRecursion IsNoRecovery (events_at_once st a v m)
no_recoveries st a v m = (λ base is. cc, grants_no_recovery a (locks_at_once st v a) _)

done_runs : (st : Setting) (a : ℕ) (deeds : List Deed) (m after : Machine) → AreDone st a deeds m after → after.failed ≡ m.failed
done_runs st a [] m after done = ap (λ (n : Machine). n.failed) done
done_runs st a (d ∷ deeds) m after done = done_runs st a deeds (does st a d m) after done.1 ∙ still_runs st a d m

-- ---- one after another

module _ (st : Setting) (c : Cluster) (a : ℕ) (runs : c.stopped ≡ false) (low : a < st.machines) (some : 0 < c.left) where
  there : (m : Machine) → (with_machine c a m).machine a ≡ m
  there m = set_at-same c.machine a m

  again : (m n : Machine) → with_machine (with_machine c a m) a n ≡ with_machine c a n
  again m n = λ i. record c { machine = λ b. set_at-twice c.machine a m n b i }

  awake_with : (m : Machine) → m.failed ≡ false → law.IsAwake st (with_machine c a m) a
  awake_with m fine = record { machine = low; runs = ap (λ (n : Machine). n.failed) (there m) ∙ fine }

  may_with : (m : Machine) (d : Deed) → MayBeDone st a m d → MayBeDone st a ((with_machine c a m).machine a) d
  may_with m d may = subst (λ (n : Machine). MayBeDone st a n d) (sym (there m)) may

  grants_run : (xs : List ℕ) (s : ScopeId) (m after : Machine) → m.failed ≡ false → AreDone st a (map Grant xs ++ Update s c.next ∷ []) m after
      → law.IsTrace st (with_machine c a m) (map (law.Grant a) xs ++ law.Update s ∷ []) (law.draws_ticket (with_machine c a after))
  grants_run [] s m after fine done =
      let now : Cluster = with_machine c a m in
      let d : Deed = Update s c.next in
      let may : MayBeDone st a (now.machine a) d = may_with m d done.0 in
      let made : law.after_event st now (law.Update s) ≡ law.draws_ticket (with_machine now a (does st a d (now.machine a))) = does_so st now a (awake_with m fine) d (some, refl) may in (
        (runs, law_may st now a (awake_with m fine) d (some, refl) may),
        sym (
            made
            ∙ ap (λ (n : Machine). law.draws_ticket (with_machine now a (does st a d n))) (there m)
            ∙ ap law.draws_ticket (again m (does st a d m))
            ∙ ap (λ (n : Machine). law.draws_ticket (with_machine c a n)) (sym done.1)
            ),
      )
  grants_run (x ∷ xs) s m after fine done =
      let now : Cluster = with_machine c a m in
      let d : Deed = Grant x in
      let one : Machine = does st a d m in
      let step : law.after_event st now (law.Grant a x) ≡ with_machine c a one = ap (λ (n : Machine). with_machine now a (does st a d n)) (there m) ∙ again m one in (
        (runs, law_may st now a (awake_with m fine) d tt (may_with m d done.0)),
        subst (λ (k : Cluster). law.IsTrace st k (map (law.Grant a) xs ++ law.Update s ∷ []) (law.draws_ticket (with_machine c a after))) (sym step)
            (grants_run xs s one after (still_runs st a d m ∙ fine) done.1),
      )

  pub at_once_trace : law.IsAwake st c a → (v : ℕ) (after : Machine) → AreDone st a (deeds_at_once st a v c.next (c.machine a)) (c.machine a) after
      → law.IsTrace st c (events_at_once st a v (c.machine a)) (law.draws_ticket (with_machine c a after))
  at_once_trace awake v after done = (
    (runs, (awake, done.0)),
    grants_run (locks_at_once st v a) _ (does st a (Admit v) (c.machine a)) after (still_runs st a (Admit v) (c.machine a) ∙ awake.runs) done.1,
  )

-- ---- what the machine answers, the cluster does

module _ {M : Type 0} (represents : Setting → ℕ → Machine → M → Type 0) (old : Parts M) (at : MachineNo) (inside : at.0 < length old.machines.items) where
  -- nothing happens there
  pub at_once_still : (old.stopped ≡ true) ⊎ (slice_index_or old.failed.items at.0 false ≡ true) → AnswersAtOnce represents old at (Err NotNow) old
  at_once_still still =
      record {
        made = tt;
        not_now = λ is. inr (inl none);
        no_memory = λ is. absurd (cc);
        unchanged = λ st c setting of. of;
      }
    where
      none : CanNotTakePlace represents old (event.Local (local.Admit at))
      none st c setting of e is may =
          let there : law.MayOccur st c (law.Admit at.0 is.0) = subst (law.MayOccur st c) is.1 may in
          ⊎_elim
          (λ (ended : old.stopped ≡ true). true≢false (sym (of.stopped ∙ ended) ∙ there.0))
          (λ (failed : slice_index_or old.failed.items at.0 false ≡ true). true≢false (sym (of.runs at.0 there.1.0.machine ∙ failed) ∙ there.1.0.runs))
          still

  -- no ticket is left
  pub at_once_spent : old.left ≡ 0 → AnswersAtOnce represents old at (Err NotNow) old
  at_once_spent spent = record { made = tt; not_now = λ is. inl spent; no_memory = λ is. absurd (cc); unchanged = λ st c setting of. of }

  module _ (runs : old.stopped ≡ false) (awake : slice_index_or old.failed.items at.0 false ≡ false) (x : M) (read : x ≡ get_or old.machines.items at.0 x) (some : 0 < old.left) where
    low : (st : Setting) (c : Cluster) → IsSavingClusterOf represents st old c → at.0 < st.machines
    low st c of = subst (λ (n : ℕ). at.0 < n) of.many inside

    here : (st : Setting) (c : Cluster) (setting : IsSnapSetting st) (of : IsSavingClusterOf represents st old c) → represents st at.0 (c.machine at.0) x
    here st c setting of = machine_here represents st setting old c of at.0 (low st c of) x read

    awake_now : (st : Setting) (c : Cluster) (setting : IsSnapSetting st) (of : IsSavingClusterOf represents st old c) → law.IsAwake st c at.0
    awake_now st c setting of = is_awake represents st setting old c of at.0 (low st c of) awake

    left_now : (st : Setting) (c : Cluster) → IsSavingClusterOf represents st old c → 0 < c.left
    left_now st c of = subst (λ (n : ℕ). 0 < n) (sym of.left) some

    one_less : (n : ℕ) → pred n ≡ n - 1
    one_less n = omega arith

    still_few : (next left : ℕ) → 0 < left → next + left < 2 ^ 64 → (next + 1) + (left - 1) < 2 ^ 64
    still_few next left is_left few = omega arith

    abbrev made_parts : M → Parts M
    made_parts y = record old { machines = with_item old.machines at.0 y; next = old.next + 1; left = old.left - 1 }

    pub at_once_made : (v : ℕ) (y : M) → HasUpdatedAtOnce represents x v old.next y → TakesPlaceAtOnce represents old at.0 v (made_parts y)
    at_once_made v y has st c setting of =
        let a = at.0 in
        let one = has st a (c.machine a) setting (here st c setting of) in
        let done : AreDone st a (deeds_at_once st a v c.next (c.machine a)) (c.machine a) one.after =
        subst (λ (n : ℕ). AreDone st a (deeds_at_once st a v n (c.machine a)) (c.machine a) one.after) (sym of.next) one.done in
        let led : Cluster = law.draws_ticket (with_machine c a one.after) in
        let trace : law.IsTrace st c (events_at_once st a v (c.machine a)) led = at_once_trace st c a (going represents old runs st c of) (low st c of) (left_now st c of) (awake_now st c setting of) v one.after done in
        let kept : one.after.failed ≡ (c.machine a).failed = done_runs st a (deeds_at_once st a v c.next (c.machine a)) (c.machine a) one.after done in
        record {
          may = one.may;
          after = led;
          trace = trace;
          code = record {
            many = many_set represents st setting old c of a (low st c of) y one.after one.here kept;
            small = of.small;
            links = of.links;
            machines = machines_set represents st setting old c of a (low st c of) y one.after one.here kept;
            flags = of.flags;
            runs = runs_set represents st setting old c of a (low st c of) y one.after one.here kept;
            told = of.told;
            calls = of.calls;
            reports = of.reports;
            coordinator = of.coordinator;
            next = ap suc of.next ∙ sym (add-one old.next);
            left = ap pred of.left ∙ one_less old.left;
            few = still_few old.next old.left some of.few;
            stopped = of.stopped;
            going = going_trace st setting (events_at_once st a v (c.machine a)) (no_recoveries st a v (c.machine a)) c led of.going trace;
          };
        }

    pub at_once_can : CanUpdateAtOnce represents x → CanTakePlaceAtOnce represents old at.0
    at_once_can can = (
      can.0,
      λ st c setting of.
          let within : MayUpdateWithin st at.0 can.0 (c.machine at.0) = can.1 st at.0 (c.machine at.0) setting (here st c setting of) in
          record {
            admit = (going represents old runs st c of, (awake_now st c setting of, record { may = within.may.admit; room = inr within.room }));
            may = within;
            ticket = left_now st c of;
          },
    )

    pub at_once_cannot : CanNotUpdateAtOnce represents x → CanNotTakePlaceAtOnce represents old at
    at_once_cannot (inl none) =
        inr (inl (never represents old runs (event.Local (local.Admit at)) (λ st c setting of e is_e may.
        let there : law.MayDo st c (law.Admit at.0 is_e.0) = subst (law.MayDo st c) is_e.1 may in
        none st at.0 (c.machine at.0) setting (here st c setting of) is_e.0 there.1)))
    at_once_cannot (inr one) =
        inr (inr (
          one.0,
          λ st c setting of.
              let both = one.1 st at.0 (c.machine at.0) setting (here st c setting of) in
              ((going represents old runs st c of, (awake_now st c setting of, both.0)), both.1),
        ))

    pub at_once_refused : (e : Refused) (y : M) → (e ≡ NotNow → CanNotUpdateAtOnce represents x) → (e ≡ NoMemory → CanUpdateAtOnce represents x) → StandsStill represents x y
        → AnswersAtOnce represents old at (Err e) (record old { machines = with_item old.machines at.0 y })
    at_once_refused NotNow y cannot can still =
        record { made = tt; not_now = λ is. at_once_cannot (cannot refl); no_memory = λ is. absurd (cc); unchanged = still_alone represents old runs at.0 inside awake x read y still }
    at_once_refused NoMemory y cannot can still =
        record { made = tt; not_now = λ is. absurd (cc); no_memory = λ is. at_once_can (can refl); unchanged = still_alone represents old runs at.0 inside awake x read y still }

    pub at_once_answers : (v : Vertex) (y : M) → HasUpdatedAtOnce represents x v.0 old.next y → AnswersAtOnce represents old at (Ok v) (made_parts y)
    at_once_answers v y has = record { made = at_once_made v.0 y has; not_now = λ is. absurd (cc); no_memory = λ is. absurd (cc); unchanged = tt }

-- ---- behind it

module _ {M : Type 0} (represents : Setting → ℕ → Machine → M → Type 0) (old new : Parts M) (some : StandsForSaving represents old) (at : MachineNo) where
  pub some_at_once : (r : Result Vertex Refused) → AnswersAtOnce represents old at r new → StandsForSaving represents new
  some_at_once (Ok v) answers = let made = answers.made some.0 some.1 some.2 some.3 in (some.0, made.after, some.2, made.code)
  some_at_once (Err e) answers = (some.0, some.1, some.2, answers.unchanged some.0 some.1 some.2 some.3)
