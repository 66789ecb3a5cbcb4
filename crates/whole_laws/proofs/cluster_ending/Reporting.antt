-- What a machine relies on where word of a snapshot comes, and the coordinator where a section or a want does.
use Rattle.std.proofs.Common.{◌≡◌, ◌⊎◌, ℕ, suc, ◌+◌, ◌<◌, ◌≤◌, Option, None, Some, List, [], ◌∷◌, ◌++◌, refl, sym, ◌∙◌, ap, subst, ⊎_elim, inl, inr, arith}
use Rattle.std.specs.List.{AllByRecursion}
use Rattle.std.proofs.lemmas.Bool.{cases_lt}
use Rattle.gl_base.specs.declared.entries.Entry.{Entry}
use Rattle.cluster_laws.specs.cluster_core.Marks.{MarksHold, mark_of}
use Rattle.cluster_laws.specs.cluster_core.Messages as core
use Rattle.cluster_laws.specs.cluster_core.Settings.{IsSetting, Setting}
use Rattle.cluster_laws.specs.cluster_model.Calls.{Begin, Call, Committed, Report, Saved, Want, begins_in, sections_in}
use Rattle.cluster_laws.specs.cluster_model.Clusters.{BaseView, Cluster, report_way}
use Rattle.cluster_laws.specs.cluster_model.Events.{Event, Admit, DeliverCall, DeliverReport, Deliver, Fail, Grant, Mark, MayDo, IsTrace, PutBegin, PutStep, PutWave, Record, Recover, Section, Send, SendCall, SendReport, Stop, Update, after_event, recovers, setting_after}
use Rattle.cluster_laws.specs.cluster_model.Leading.{Come}
use Rattle.cluster_laws.specs.cluster_model.Machines.{Machine}
use Rattle.whole_laws.specs.cluster_whole.Views.{section_of, world_of}
use Rattle.whole_laws.specs.cluster_whole.Whole.{IsWhole}
use Rattle.whole_laws.proofs.cluster_whole.Wholeness.{whole_kept}
use Rattle.whole_laws.specs.cluster_ending.Snapshotting.{AreInformed, IsReportOf, MayBeSaved, MayBegin, MayCommit}
use Rattle.whole_laws.proofs.cluster_ending.Traces.{setting_is}
use Rattle.whole_laws.proofs.cluster_ending.Informing.{event_informed, may_commit, some_length}

zero_more : (n : ℕ) → 0 + n ≡ n
zero_more n = omega arith

next_known : (k known acknowledged begun : ℕ) → known < k → k ≤ begun → acknowledged ≤ known → (begun ≡ acknowledged) ⊎ (begun ≡ suc acknowledged) → (k ≡ suc known) × (known ≡ acknowledged)
next_known k known acknowledged begun less low high under =
    ⊎_elim (λ (is : begun ≡ acknowledged). (omega arith, omega arith)) (λ (is : begun ≡ suc acknowledged). (omega arith, omega arith)) under

same_mark : (mark known acknowledged : ℕ) → acknowledged ≤ mark → mark ≤ known → known ≡ acknowledged → mark ≡ known
same_mark mark known acknowledged low high is = omega arith

no_cons : (s : core.Section) (ss : List core.Section) → s ∷ ss ≡ [] → ⊥
no_cons s ss is = cc

none_come : (come : Option Come) → section_of come ≡ None → come ≡ None
none_come None is = refl
none_come (Some come) is = absurd (some_none come.section is)
  where
    some_none : (s : core.Section) → Some s ≡ None → ⊥
    some_none s is = cc

pub begin_front : (st : Setting) (c : Cluster) → MarksHold st (world_of c) → (a : ℕ) → a < st.machines → (k : ℕ) (behind : List Call) → c.calls a ≡ Begin k ∷ behind → (k ≤ c.coordinator.begun) × MayBegin st a k (c.machine a)
begin_front st c marks a low k behind first =
    let known : ℕ = (c.machine a).part.known in
    let begun : k ≤ c.coordinator.begun =
    (subst (λ (cs : List Call). AllByRecursion (λ j. j ≤ c.coordinator.begun) (begins_in (cs ++ c.coordinator.out a))) first (marks.orders a)).0 in (
      begun,
      ⊎_elim
          (λ (less : known < k).
          let next = next_known k known c.coordinator.acknowledged c.coordinator.begun less begun (marks.known a low).0 marks.under in
          inr (
            next.0,
            λ v within owned.
                let mark = marks.marks v within in
                subst (λ (b : ℕ). ((c.machine b).part.datum v).mark ≡ (c.machine b).part.known) owned
                (same_mark (mark_of st (world_of c) v) (c.machine (st.owner v)).part.known c.coordinator.acknowledged mark.0 mark.1 (ap (λ (b : ℕ). (c.machine b).part.known) owned ∙ next.1)),
          ))
          (λ (high : k ≤ known). inl high)
          (cases_lt known k),
    )

pub committed_front : (st : Setting) (c : Cluster) → MarksHold st (world_of c) → AreInformed c → (a : ℕ) → a < st.machines → (k : ℕ) (behind : List Call) → c.calls a ≡ Committed k ∷ behind → MayCommit k (c.machine a)
committed_front st c marks was a low k behind first =
    let m : Machine = c.machine a in
    let may = may_commit st c marks was a low k behind first in
    let some = some_length m.unsure m.acknowledged m.part.sent k (was a).unsure may.0 may.2 in
    record { next = may.0; sent = may.2; oldest = some.0; behind = some.1; unsure = some.2 }

first_told : (c : Cluster) → AreInformed c → (a : ℕ) (report : Report) (behind : List Report) → c.reports a ≡ report ∷ behind → IsReportOf (c.machine a).part.sent c.coordinator.acknowledged report
first_told c was a report behind first =
    (subst (λ (rs : List Report). AllByRecursion (IsReportOf (c.machine a).part.sent c.coordinator.acknowledged) (rs ++ (c.machine a).out)) first (was a).told).0

pub saved_front : (st : Setting) (c : Cluster) → MarksHold st (world_of c) → AreInformed c → (a : ℕ) → a < st.machines → (k : ℕ) (section : core.Section) (entries : List Entry) (behind : List Report) → c.reports a ≡ Saved k section entries ∷ behind → MayBeSaved a k c.coordinator
saved_front st c marks was a low k section entries behind first =
    let on_way : sections_in (report_way c a) ≡ section ∷ sections_in (behind ++ (c.machine a).out) = ap (λ (rs : List Report). sections_in (rs ++ (c.machine a).out)) first in
    ⊎_elim
    (λ (none : (sections_in (report_way c a) ≡ []) × (section_of (c.coordinator.come a) ≡ None)). absurd (no_cons section (sections_in (behind ++ (c.machine a).out)) (sym on_way ∙ none.0)))
    (λ placed.
    record {
      newest = first_told c was a (Saved k section entries) behind first ∙ placed.1;
      under = placed.0;
      missing = ⊎_elim
          (λ (on : (sections_in (report_way c a) ≡ (c.machine a).part.saved ∷ []) × (section_of (c.coordinator.come a) ≡ None)). none_come (c.coordinator.come a) on.1)
          (λ (come : (sections_in (report_way c a) ≡ []) × (section_of (c.coordinator.come a) ≡ Some (c.machine a).part.saved)).
          absurd (no_cons section (sections_in (behind ++ (c.machine a).out)) (sym on_way ∙ come.0)))
          placed.2;
    })
    (marks.sections a low)

pub want_front : (c : Cluster) → AreInformed c → (a k : ℕ) (behind : List Report) → c.reports a ≡ Want k ∷ behind → k ≤ c.coordinator.acknowledged
want_front c was a k behind first = first_told c was a (Want k) behind first

-- ---- each event, and every list of events

pub recovered_informed : (st : Setting) (base : BaseView) (c : Cluster) → AreInformed (recovers st base c)
recovered_informed st base c a = record { commits = refl; unsure = zero_more base.number; told = tt }

moved : (st : Setting) (c : Cluster) → IsWhole st c → AreInformed c → (event : Event) → MayDo st c event → ((base : BaseView) → event ≡ Recover base → ⊥) → AreInformed (after_event st c event)
moved st c whole was event may other = event_informed st c whole.consistent.marks was event may other

pub informed_kept : (st : Setting) (c : Cluster) → IsWhole st c → AreInformed c → (event : Event) → MayDo st c event → AreInformed (after_event st c event)
informed_kept st c whole was (Admit a v) may = moved st c whole was (Admit a v) may (λ base same. cc)
informed_kept st c whole was (Grant a x) may = moved st c whole was (Grant a x) may (λ base same. cc)
informed_kept st c whole was (Send p q) may = moved st c whole was (Send p q) may (λ base same. cc)
informed_kept st c whole was (SendCall a) may = moved st c whole was (SendCall a) may (λ base same. cc)
informed_kept st c whole was (SendReport a) may = moved st c whole was (SendReport a) may (λ base same. cc)
informed_kept st c whole was (Deliver p q) may = moved st c whole was (Deliver p q) may (λ base same. cc)
informed_kept st c whole was (DeliverCall a) may = moved st c whole was (DeliverCall a) may (λ base same. cc)
informed_kept st c whole was (DeliverReport a) may = moved st c whole was (DeliverReport a) may (λ base same. cc)
informed_kept st c whole was (Update s) may = moved st c whole was (Update s) may (λ base same. cc)
informed_kept st c whole was (Mark s) may = moved st c whole was (Mark s) may (λ base same. cc)
informed_kept st c whole was (Section a) may = moved st c whole was (Section a) may (λ base same. cc)
informed_kept st c whole was Record may = moved st c whole was Record may (λ base same. cc)
informed_kept st c whole was PutBegin may = moved st c whole was PutBegin may (λ base same. cc)
informed_kept st c whole was PutStep may = moved st c whole was PutStep may (λ base same. cc)
informed_kept st c whole was PutWave may = moved st c whole was PutWave may (λ base same. cc)
informed_kept st c whole was (Fail a) may = moved st c whole was (Fail a) may (λ base same. cc)
informed_kept st c whole was Stop may = moved st c whole was Stop may (λ base same. cc)
informed_kept st c whole was (Recover base) may = recovered_informed st base c

pub traces_informed : (st : Setting) → IsSetting st → (events : List Event) (old new : Cluster) → IsWhole st old → AreInformed old → IsTrace st old events new → AreInformed new
traces_informed st is [] old new whole was trace = subst AreInformed (sym trace) was
traces_informed st is (event ∷ events) old new whole was trace =
    traces_informed (setting_after st event) (setting_is st is event) events (after_event st old event) new (whole_kept st is old whole event trace.0.1) (informed_kept st old whole was event trace.0.1) trace.1
