-- What a machine has done by itself since its seat's last step, as events of the cluster; and an update that it begins.
use Rattle.std.proofs.Common.{List, [], ap, arith, false, inl, inr, length, map, pred, refl, subst, suc, sym, ◌++◌, ◌+◌, ◌<◌, ◌^◌, ◌∙◌, ◌∷◌, ◌≡◌, ℕ}
use Rattle.std.proofs.lemmas.Bool.{cases_eq}
use Rattle.std.specs.List.{AllByRecursion}
use Rattle.std.specs.Prelude.{slice_index_or}
use Rattle.std.specs.Vec.{with_item}
use Rattle.gl_base.specs.declared.numbers.Vertex.{Vertex}
use Rattle.gl_base.specs.declared.scopes.ScopeId.{ScopeId}
use Rattle.cluster_step.proofs.trace.AtOnceGoing.{follow_at_once}
use Rattle.cluster_laws.proofs.cluster_core.Basics.{set_at-other, set_at-same}
use Rattle.cluster_laws.specs.cluster_core.Effects.{next_scope}
use Rattle.cluster_laws.specs.cluster_core.Ranges.{set_at}
use Rattle.cluster_laws.specs.cluster_model.Clusters.{with_machine}
use Rattle.cluster_laws.specs.cluster_model.Events as law
use Rattle.cluster_laws.specs.cluster_model.Machines.{completed}
use Rattle.cluster_laws.proofs.interior_scopes.Walking.{set_at-twice}
use Rattle.cluster_step.proofs.clusters.AtOnceRuns.{at_once_trace}
use Rattle.cluster_step.proofs.clusters.Goings.{going_trace}
use Rattle.cluster_step.proofs.clusters.Making.{IsInTurn, does_so, event_of, law_may, left_behind, machine_here, machines_set, many_set, next_behind, runs_set, still_runs}
use Rattle.cluster_step.specs.clusters.AtOnce.{events_at_once, locks_at_once}
use Rattle.cluster_step.specs.clusters.Clusters.{IsGoing}
use Rattle.cluster_step.specs.trace.Traces.{IsPassing}
use Rattle.coordinator.specs.machine_api.AtOnce.{AreDone, deeds_at_once}
use Rattle.coordinator.specs.machine_api.Promises.{Admit, CanUpdate, Deed, Grant, Mark, MayBeDone, Section, does}
use Rattle.coordinator.specs.machine_api.Promises as deed
use Rattle.whole_laws.specs.cluster_whole.Whole.{IsNoRecovery}
use Rattle.call_laws.specs.whole_calls.Following.{FollowJob, has_reached, reaches}
use Rattle.wire_board.proofs.Goings.{done_stays, follows_append, passing_append, passing_others, traces_append}
use Rattle.wire_board.specs.Freeing.{IsFree}
use Rattle.wire_board.specs.Going.{ArePassing, Cluster, FailureAt, GoesOn, IsSavingClusterOf, IsSnapSetting, Machine, Parts, Setting}
use Rattle.wire_board.specs.Standings.{CanBeginAtOnce, WorksTo, HasComeTo, IsOwn, Member, Standing, StandsOwing, at_rest, owing, owing_at_once}

own_turn : (c : Cluster) (d : Deed) → IsOwn d → IsInTurn c d
own_turn c (Admit v) own = tt
own_turn c (Grant x) own = tt
own_turn c (deed.Update s ticket) own = absurd own
own_turn c (Mark s) own = tt
own_turn c Section own = tt

-- it draws no ticket
own_draws : (c : Cluster) (d : Deed) → IsOwn d → (m : Machine) (a : ℕ) → record (with_machine c a m) { next = next_behind d c.next; left = left_behind d c.left } ≡ with_machine c a m
own_draws c (Admit v) own m a = refl
own_draws c (Grant x) own m a = refl
own_draws c (deed.Update s ticket) own m a = absurd own
own_draws c (Mark s) own m a = refl
own_draws c Section own m a = refl

own_passes : (a : ℕ) (d : Deed) → IsOwn d → IsPassing (event_of a d)
own_passes a (Admit v) own = (λ is. cc, λ base is. cc)
own_passes a (Grant x) own = (λ is. cc, λ base is. cc)
own_passes a (deed.Update s ticket) own = absurd own
own_passes a (Mark s) own = (λ is. cc, λ base is. cc)
own_passes a Section own = (λ is. cc, λ base is. cc)

all_own_pass : (a : ℕ) (deeds : List Deed) → AllByRecursion IsOwn deeds → ArePassing (map (event_of a) deeds)
all_own_pass a [] own = tt
all_own_pass a (d ∷ deeds) own = (own_passes a d own.0, all_own_pass a deeds own.1)

own_others : (a : ℕ) (deeds : List Deed) → AllByRecursion IsOwn deeds → AllByRecursion IsNoRecovery (map (event_of a) deeds)
own_others a deeds own = passing_others (map (event_of a) deeds) (all_own_pass a deeds own)

grants_pass : (a : ℕ) (xs : List ℕ) (s : ScopeId) → ArePassing (map (law.Grant a) xs ++ law.Update s ∷ [])
grants_pass a [] s = ((λ is. cc, λ base is. cc), tt)
grants_pass a (x ∷ xs) s = ((λ is. cc, λ base is. cc), grants_pass a xs s)

at_once_passes : (st : Setting) (a v : ℕ) (m : Machine) → ArePassing (events_at_once st a v m)
at_once_passes st a v m = ((λ is. cc, λ base is. cc), grants_pass a (locks_at_once st v a) (next_scope a m.part))

own_setting : (st : Setting) (a : ℕ) (d : Deed) → IsOwn d → law.setting_after st (event_of a d) ≡ st
own_setting st a (Admit v) own = refl
own_setting st a (Grant x) own = refl
own_setting st a (deed.Update s ticket) own = absurd own
own_setting st a (Mark s) own = refl
own_setting st a Section own = refl

-- it follows any job
own_follows : (st : Setting) (failures : List FailureAt) (a : ℕ) (deeds : List Deed) → AllByRecursion IsOwn deeds → (c : Cluster) → FollowJob st failures c (map (event_of a) deeds)
own_follows st failures a [] own c = tt
own_follows st failures a (Admit v ∷ deeds) own c = (tt, own_follows st failures a deeds own.1 (law.after_event st c (law.Admit a v)))
own_follows st failures a (Grant x ∷ deeds) own c = (tt, own_follows st failures a deeds own.1 (law.after_event st c (law.Grant a x)))
own_follows st failures a (deed.Update s ticket ∷ deeds) own c = absurd own.0
own_follows st failures a (Mark s ∷ deeds) own c = (tt, own_follows st failures a deeds own.1 (law.after_event st c (law.Mark s)))
own_follows st failures a (Section ∷ deeds) own c = (tt, own_follows st failures a deeds own.1 (law.after_event st c (law.Section a)))

done_runs : (st : Setting) (a : ℕ) (deeds : List Deed) (m after : Machine) → AreDone st a deeds m after → after.failed ≡ m.failed
done_runs st a [] m after done = ap (λ (n : Machine). n.failed) done
done_runs st a (d ∷ deeds) m after done = done_runs st a deeds (does st a d m) after done.1 ∙ still_runs st a d m

-- ---- a run of them

pub machine_same : (c : Cluster) (a : ℕ) → with_machine c a (c.machine a) ≡ c
machine_same c a = λ i. record c { machine = λ b. same b i }
  where
    same : (b : ℕ) → set_at c.machine a (c.machine a) b ≡ c.machine b
    same b = elim (cases_eq b a) [
      | inl is ↦ ap (λ (k : ℕ). set_at c.machine a (c.machine a) k) is ∙ set_at-same c.machine a (c.machine a) ∙ ap c.machine (sym is)
      | inr off ↦ set_at-other c.machine a (c.machine a) b off
    ]

module _ (st : Setting) (c : Cluster) (a : ℕ) (runs : c.stopped ≡ false) (low : a < st.machines) where
  there : (m : Machine) → (with_machine c a m).machine a ≡ m
  there m = set_at-same c.machine a m

  again : (m n : Machine) → with_machine (with_machine c a m) a n ≡ with_machine c a n
  again m n = λ i. record c { machine = λ b. set_at-twice c.machine a m n b i }

  awake_with : (m : Machine) → m.failed ≡ false → law.IsAwake st (with_machine c a m) a
  awake_with m fine = record { machine = low; runs = ap (λ (n : Machine). n.failed) (there m) ∙ fine }

  own_run : (deeds : List Deed) → AllByRecursion IsOwn deeds → (m after : Machine) → m.failed ≡ false → AreDone st a deeds m after
      → law.IsTrace st (with_machine c a m) (map (event_of a) deeds) (with_machine c a after)
  own_run [] own m after fine done = ap (with_machine c a) done
  own_run (d ∷ deeds) own m after fine done =
      let now : Cluster = with_machine c a m in
      let one : Machine = does st a d m in
      let may : MayBeDone st a (now.machine a) d = subst (λ (n : Machine). MayBeDone st a n d) (sym (there m)) done.0 in
      let step : law.after_event st now (event_of a d) ≡ with_machine c a one =
      does_so st now a (awake_with m fine) d (own_turn now d own.0) may
      ∙ own_draws now d own.0 (does st a d (now.machine a)) a
      ∙ ap (λ (n : Machine). with_machine now a (does st a d n)) (there m)
      ∙ again m one
      in (
        (runs, law_may st now a (awake_with m fine) d (own_turn now d own.0) may),
        subst (λ (s : Setting). law.IsTrace s (law.after_event st now (event_of a d)) (map (event_of a) deeds) (with_machine c a after)) (sym (own_setting st a d own.0))
            (subst (λ (k : Cluster). law.IsTrace st k (map (event_of a) deeds) (with_machine c a after)) (sym step)
            (own_run deeds own.1 one after (still_runs st a d m ∙ fine) done.1)),
      )

  -- from the cluster as it is
  own_trace : (deeds : List Deed) → AllByRecursion IsOwn deeds → (after : Machine) → (c.machine a).failed ≡ false → AreDone st a deeds (c.machine a) after
      → law.IsTrace st c (map (event_of a) deeds) (with_machine c a after)
  own_trace deeds own after fine done =
      subst (λ (k : Cluster). law.IsTrace st k (map (event_of a) deeds) (with_machine c a after)) (machine_same c a) (own_run deeds own (c.machine a) after fine done)

-- ---- the parts that stand for it

-- machine a is another, and tickets are others
pub machine_put : {X : Type 0} (represents : Setting → ℕ → Machine → X → Type 0) (st : Setting) (setting : IsSnapSetting st) (p : Parts X) (c : Cluster) (of : IsSavingClusterOf represents st p c)
    (a : ℕ) (low : a < st.machines) (y : X) (m : Machine) → represents st a m y → m.failed ≡ (c.machine a).failed
    → (next left n k : ℕ) → n ≡ next → k ≡ left → next + left < 2 ^ 64 → IsGoing st (record (with_machine c a m) { next = n; left = k })
    → IsSavingClusterOf represents st (record p { machines = with_item p.machines a y; next = next; left = left }) (record (with_machine c a m) { next = n; left = k })
machine_put represents st setting p c of a low y m here runs next left n k next_is left_is few going = record {
  many = many_set represents st setting p c of a low y m here runs;
  small = of.small;
  links = of.links;
  machines = machines_set represents st setting p c of a low y m here runs;
  flags = of.flags;
  runs = runs_set represents st setting p c of a low y m here runs;
  told = of.told;
  calls = of.calls;
  reports = of.reports;
  coordinator = of.coordinator;
  next = next_is;
  left = left_is;
  few = few;
  stopped = of.stopped;
  going = going;
}

-- ---- what the code has come to

still_few : (next left : ℕ) → 0 < left → next + left < 2 ^ 64 → suc next + pred left < 2 ^ 64
still_few next left some few = omega arith

module _ {M : Type 0} (represents : Setting → ℕ → Machine → M → Type 0) (failures : List FailureAt) (done : List ℕ) (p : Parts (Standing M)) (a : ℕ) (inside : a < length p.machines.items)
    (awake : slice_index_or p.failed.items a false ≡ false) (going_on : p.stopped ≡ false) (x : Standing M) (read : x ≡ slice_index_or p.machines.items a x) (z : Member M) (come : HasComeTo represents x z.machine) where
  module _ (st : Setting) (c : Cluster) (setting : IsSnapSetting st) (of : IsSavingClusterOf (StandsOwing represents) st p c) where
    low : a < st.machines
    low = subst (λ (n : ℕ). a < n) of.many inside

    runs : c.stopped ≡ false
    runs = of.stopped ∙ going_on

    fine : (c.machine a).failed ≡ false
    fine = of.runs a low ∙ awake

    to_now : WorksTo represents z.machine st a (c.machine a)
    to_now = come st a (c.machine a) setting (machine_here (StandsOwing represents) st setting p c of a low x read)

  -- It owes nothing.
  pub comes_goes : GoesOn (StandsOwing represents) failures done p (record p { machines = with_item p.machines a (at_rest z) })
  comes_goes st c setting of =
      let to : WorksTo represents z.machine st a (c.machine a) = to_now st c setting of in
      let events : List law.Event = map (event_of a) to.deeds in
      let later : Cluster = with_machine c a to.after in
      let trace : law.IsTrace st c events later = own_trace st c a (runs st c setting of) (low st c setting of) to.deeds to.own to.after (fine st c setting of) to.done in
      let others : AllByRecursion IsNoRecovery events = own_others a to.deeds to.own in
      record {
        events = events;
        passing = all_own_pass a to.deeds to.own;
        later = later;
        trace = trace;
        follows = λ counts. own_follows st failures a to.deeds to.own c;
        code = machine_put (StandsOwing represents) st setting p c of a (low st c setting of) (at_rest z) to.after (record { before = to.after; here = to.here; done = refl })
            (done_runs st a to.deeds (c.machine a) to.after to.done) p.next p.left c.next c.left of.next of.left of.few (going_trace st setting events others c later of.going trace);
      }

  -- It begins an update under the next ticket.
  module _ (some : 0 < p.left) (free : IsFree represents failures done z.machine a) where
    free_there : (st : Setting) (c : Cluster) → IsSnapSetting st → (m : Machine) → represents st a m z.machine → (with_machine c a m).machine a ≡ m → m.done ≡ slice_index_or done a 0
        → has_reached failures (with_machine c a m) a ≡ false
    free_there st c setting m here at_a counts =
        ap (λ (n : Machine). reaches failures a n.done (completed n)) at_a ∙ free st m setting here counts

    pub begins_goes : (s : ScopeId) → CanUpdate represents z.machine s
        → GoesOn (StandsOwing represents) failures done p (record p { machines = with_item p.machines a (owing z s p.next); next = suc p.next; left = pred p.left })
    begins_goes s can st c setting of =
        let to : WorksTo represents z.machine st a (c.machine a) = to_now st c setting of in
        let events : List law.Event = map (event_of a) to.deeds in
        let led : Cluster = with_machine c a to.after in
        let at_a : led.machine a ≡ to.after = set_at-same c.machine a to.after in
        let trace : law.IsTrace st c events led = own_trace st c a (runs st c setting of) (low st c setting of) to.deeds to.own to.after (fine st c setting of) to.done in
        let others : AllByRecursion IsNoRecovery events = own_others a to.deeds to.own in
        let still : to.after.failed ≡ (c.machine a).failed = done_runs st a to.deeds (c.machine a) to.after to.done in
        let d : Deed = deed.Update s c.next in
        let left : 0 < c.left = subst (λ (n : ℕ). 0 < n) (sym of.left) some in
        let may : MayBeDone st a to.after d = can c.next st a to.after setting to.here in
        let may_there : MayBeDone st a (led.machine a) d = subst (λ (n : Machine). MayBeDone st a n d) (sym at_a) may in
        let awake_there : law.IsAwake st led a = record { machine = low st c setting of; runs = ap (λ (n : Machine). n.failed) at_a ∙ still ∙ fine st c setting of } in
        let made : Machine = does st a d to.after in
        let later : Cluster = record (with_machine c a made) { next = suc c.next; left = pred c.left } in
        let step : law.after_event st led (law.Update s) ≡ later =
        does_so st led a awake_there d (left, refl) may_there
        ∙ ap (λ (n : Machine). law.draws_ticket (with_machine led a (does st a d n))) at_a
        ∙ (λ i. law.draws_ticket (record c { machine = λ b. set_at-twice c.machine a to.after made b i }))
        in
        let last : law.IsTrace st led (law.Update s ∷ []) later = ((runs st c setting of, law_may st led a awake_there d (left, refl) may_there), sym step) in
        let all : law.IsTrace st c (events ++ law.Update s ∷ []) later = traces_append events (law.Update s ∷ []) others st c led later trace last in
        let passes : IsPassing (law.Update s) = (λ is. cc, λ base is. cc) in
        let passing : ArePassing (events ++ law.Update s ∷ []) = passing_append events (law.Update s ∷ []) (all_own_pass a to.deeds to.own) (passes, tt) in
        record {
          events = events ++ law.Update s ∷ [];
          passing = passing;
          later = later;
          trace = all;
          follows = λ counts. follows_append failures events (law.Update s ∷ []) others st c led trace (own_follows st failures a to.deeds to.own c) (
            ap (has_reached failures led) may.0
                ∙ free_there st c setting to.after to.here at_a (ap (λ (n : Machine). n.done) (sym at_a) ∙ done_stays events others st c led trace a ∙ counts a (low st c setting of)),
            tt,
          );
          code = machine_put (StandsOwing represents) st setting p c of a (low st c setting of) (owing z s p.next) made
              (record { before = to.after; here = to.here; done = subst (λ (n : ℕ). AreDone st a (deed.Update s n ∷ []) to.after made) of.next (may, refl) })
              (still_runs st a d to.after ∙ still) (suc p.next) (pred p.left) (suc c.next) (pred c.left) (ap suc of.next) (ap pred of.left) (still_few p.next p.left some of.few)
              (going_trace st setting (events ++ law.Update s ∷ []) (passing_others (events ++ law.Update s ∷ []) passing) c later of.going all);
        }

    pub begins_at_once_goes : (v : Vertex) → CanBeginAtOnce represents z.machine v.0
        → GoesOn (StandsOwing represents) failures done p (record p { machines = with_item p.machines a (owing_at_once z v p.next); next = suc p.next; left = pred p.left })
    begins_at_once_goes v can st c setting of =
        let to : WorksTo represents z.machine st a (c.machine a) = to_now st c setting of in
        let events : List law.Event = map (event_of a) to.deeds in
        let led : Cluster = with_machine c a to.after in
        let at_a : led.machine a ≡ to.after = set_at-same c.machine a to.after in
        let trace : law.IsTrace st c events led = own_trace st c a (runs st c setting of) (low st c setting of) to.deeds to.own to.after (fine st c setting of) to.done in
        let others : AllByRecursion IsNoRecovery events = own_others a to.deeds to.own in
        let still : to.after.failed ≡ (c.machine a).failed = done_runs st a to.deeds (c.machine a) to.after to.done in
        let left : 0 < c.left = subst (λ (n : ℕ). 0 < n) (sym of.left) some in
        let can_now = can c.next st a to.after setting to.here in
        let made : Machine = can_now.0 in
        let done_there : AreDone st a (deeds_at_once st a v.0 c.next (led.machine a)) (led.machine a) made =
        subst (λ (n : Machine). AreDone st a (deeds_at_once st a v.0 c.next n) n made) (sym at_a) can_now.1
        in
        let awake_there : law.IsAwake st led a = record { machine = low st c setting of; runs = ap (λ (n : Machine). n.failed) at_a ∙ still ∙ fine st c setting of } in
        let more : List law.Event = events_at_once st a v.0 (led.machine a) in
        let later : Cluster = record (with_machine c a made) { next = suc c.next; left = pred c.left } in
        let same : law.draws_ticket (with_machine led a made) ≡ later = λ i. law.draws_ticket (record c { machine = λ b. set_at-twice c.machine a to.after made b i }) in
        let last : law.IsTrace st led more later =
        subst (law.IsTrace st led more) same (at_once_trace st led a (runs st c setting of) (low st c setting of) left awake_there v.0 made done_there)
        in
        let more_pass : ArePassing more = at_once_passes st a v.0 (led.machine a) in
        let all : law.IsTrace st c (events ++ more) later = traces_append events more others st c led later trace last in
        let passing : ArePassing (events ++ more) = passing_append events more (all_own_pass a to.deeds to.own) more_pass in
        record {
          events = events ++ more;
          passing = passing;
          later = later;
          trace = all;
          follows = λ counts. follows_append failures events more others st c led trace (own_follows st failures a to.deeds to.own c)
              (follow_at_once st failures a led v.0
              (free_there st c setting to.after to.here at_a (ap (λ (n : Machine). n.done) (sym at_a) ∙ done_stays events others st c led trace a ∙ counts a (low st c setting of))));
          code = machine_put (StandsOwing represents) st setting p c of a (low st c setting of) (owing_at_once z v p.next) made
              (record { before = to.after; here = to.here; done = subst (λ (n : ℕ). AreDone st a (deeds_at_once st a v.0 n to.after) to.after made) of.next can_now.1 })
              (done_runs st a (deeds_at_once st a v.0 c.next to.after) to.after made can_now.1 ∙ still) (suc p.next) (pred p.left) (suc c.next) (pred c.left) (ap suc of.next) (ap pred of.left)
              (still_few p.next p.left some of.few) (going_trace st setting (events ++ more) (passing_others (events ++ more) passing) c later of.going all);
        }
