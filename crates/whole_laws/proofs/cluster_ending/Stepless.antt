-- With locks no step is ever told.
use Rattle.std.proofs.Common.{◌≡◌, ℕ, Option, None, Some, List, [], ◌∷◌, ◌++◌, refl, sym, ◌∙◌, subst, append_assoc}
use Rattle.std.specs.List.{AllByRecursion}
use Rattle.gl_base.specs.declared.scopes.ScopeId.{ScopeId}
use Rattle.graph_core.proofs.HalvesLaws.{each-append}
use Rattle.cluster_laws.specs.cluster_core.Messages.{Message}
use Rattle.cluster_laws.specs.cluster_core.Settings.{Chromatic, Locking, Setting}
use Rattle.cluster_laws.proofs.cluster_core.Basics.{set_at-holds}
use Rattle.cluster_laws.specs.cluster_model.Calls.{Begin, Call, Committed, Count, Report, Saved, Step, Want, Wave}
use Rattle.cluster_laws.specs.cluster_model.Clusters.{Cluster, call_way}
use Rattle.cluster_laws.specs.cluster_model.Events.{Event, Admit, DeliverCall, DeliverReport, Deliver, Fail, Grant, Mark, MayDo, IsTrace, PutBegin, PutStep, PutWave, Record, Recover, Section, Send, SendCall, SendReport, Stop, Update, after_event, delivers_call, delivers_message, delivers_report, makes, saves, sends_call, sends_message, sends_report, setting_after}
use Rattle.whole_laws.proofs.cluster_whole.Pieces.{passed}
use Rattle.whole_laws.specs.cluster_ending.Snapshotting.{HasNoSteps, IsNoStep}

no_colours : (colour : ℕ → ℕ) (colours : ℕ) → Locking ≡ Chromatic colour colours → ⊥
no_colours colour colours is = cc

sends_none : (c : Cluster) (p q : ℕ) (messages : List Message) → HasNoSteps c → HasNoSteps (sends_message c p q messages)
sends_none c p q [] was = was
sends_none c p q (m ∷ behind) was = was

sends_report_none : (c : Cluster) (a : ℕ) (reports : List Report) → HasNoSteps c → HasNoSteps (sends_report c a reports)
sends_report_none c a [] was = was
sends_report_none c a (report ∷ behind) was = was

delivers_none : (st : Setting) (c : Cluster) (p q : ℕ) (messages : List Message) → HasNoSteps c → HasNoSteps (delivers_message st c p q messages)
delivers_none st c p q [] was = was
delivers_none st c p q (m ∷ behind) was = was

delivers_report_none : (c : Cluster) (a : ℕ) (reports : List Report) → HasNoSteps c → HasNoSteps (delivers_report c a reports)
delivers_report_none c a [] was = was
delivers_report_none c a (Saved k section entries ∷ behind) was = was
delivers_report_none c a (Count k counts ∷ behind) was = was
delivers_report_none c a (Want k ∷ behind) was = was

makes_none : (st : Setting) (c : Cluster) (s : ScopeId) (flight : Option ℕ) → HasNoSteps c → HasNoSteps (makes st c s flight)
makes_none st c s None was = was
makes_none st c s (Some v) was = was

saves_none : (st : Setting) (c : Cluster) (s : ScopeId) (flight : Option ℕ) → HasNoSteps c → HasNoSteps (saves st c s flight)
saves_none st c s None was = was
saves_none st c s (Some v) was = was

sends_call_none : (c : Cluster) (a : ℕ) (calls : List Call) → c.coordinator.out a ≡ calls → HasNoSteps c → HasNoSteps (sends_call c a calls)
sends_call_none c a [] is was b = was b
sends_call_none c a (call ∷ behind) is was b = subst (AllByRecursion IsNoStep) (sym (passed c.calls c.coordinator.out a call behind is b)) (was b)

delivers_call_none : (st : Setting) (c : Cluster) (a : ℕ) (calls : List Call) → c.calls a ≡ calls → HasNoSteps c → HasNoSteps (delivers_call st c a calls)
delivers_call_none st c a [] is was b = was b
delivers_call_none st c a (call ∷ behind) is was b =
    set_at-holds (λ (b : ℕ) (cs : List Call). AllByRecursion IsNoStep (cs ++ c.coordinator.out b)) c.calls a behind b
    (subst (λ (cs : List Call). AllByRecursion IsNoStep (cs ++ c.coordinator.out a)) is (was a)).1
    (λ off. was b)

-- one call more for each machine
told_none : (c : Cluster) (call : Call) → IsNoStep call → HasNoSteps c → (a : ℕ) → AllByRecursion IsNoStep (c.calls a ++ (c.coordinator.out a ++ call ∷ []))
told_none c call none was a = subst (AllByRecursion IsNoStep) (append_assoc (c.calls a) (c.coordinator.out a) (call ∷ [])) (each-append IsNoStep (call_way c a) (call ∷ []) (was a) (none, tt))

pub no_steps_kept : (st : Setting) → st.engine ≡ Locking → (c : Cluster) → HasNoSteps c → (event : Event) → MayDo st c event → HasNoSteps (after_event st c event)
no_steps_kept st locks c was (Admit a v) may = was
no_steps_kept st locks c was (Grant a x) may = was
no_steps_kept st locks c was (Send p q) may = sends_none c p q ((c.machine p).part.out q) was
no_steps_kept st locks c was (SendCall a) may = sends_call_none c a (c.coordinator.out a) refl was
no_steps_kept st locks c was (SendReport a) may = sends_report_none c a (c.machine a).out was
no_steps_kept st locks c was (Deliver p q) may = delivers_none st c p q (c.link p q) was
no_steps_kept st locks c was (DeliverCall a) may = delivers_call_none st c a (c.calls a) refl was
no_steps_kept st locks c was (DeliverReport a) may = delivers_report_none c a (c.reports a) was
no_steps_kept st locks c was (Update s) may = makes_none st c s ((c.machine s.home.0).part.flight s) was
no_steps_kept st locks c was (Mark s) may = saves_none st c s ((c.machine s.home.0).part.flight s) was
no_steps_kept st locks c was (Section a) may = was
no_steps_kept st locks c was Record may = told_none c (Committed c.coordinator.begun) tt was
no_steps_kept st locks c was PutBegin may = told_none c (Begin _) tt was
no_steps_kept st locks c was PutStep may = absurd (no_colours may.1.colour may.1.colours (sym locks ∙ may.1.by))
no_steps_kept st locks c was PutWave may = told_none c (Wave _) tt was
no_steps_kept st locks c was (Fail a) may = was
no_steps_kept st locks c was (Recover base) may = λ a. tt
no_steps_kept st locks c was Stop may = was

engine_same : (st : Setting) (event : Event) → (setting_after st event).engine ≡ st.engine
engine_same st (Admit a v) = refl
engine_same st (Grant a x) = refl
engine_same st (Send p q) = refl
engine_same st (SendCall a) = refl
engine_same st (SendReport a) = refl
engine_same st (Deliver p q) = refl
engine_same st (DeliverCall a) = refl
engine_same st (DeliverReport a) = refl
engine_same st (Update s) = refl
engine_same st (Mark s) = refl
engine_same st (Section a) = refl
engine_same st Record = refl
engine_same st PutBegin = refl
engine_same st PutStep = refl
engine_same st PutWave = refl
engine_same st (Fail a) = refl
engine_same st (Recover base) = refl
engine_same st Stop = refl

pub traces_without_steps : (st : Setting) → st.engine ≡ Locking → (events : List Event) (old new : Cluster) → HasNoSteps old → IsTrace st old events new → HasNoSteps new
traces_without_steps st locks [] old new was trace = subst HasNoSteps (sym trace) was
traces_without_steps st locks (event ∷ events) old new was trace =
    traces_without_steps (setting_after st event) (engine_same st event ∙ locks) events (after_event st old event) new (no_steps_kept st locks old was event trace.0.1) trace.1

pub no_step_front : (c : Cluster) → HasNoSteps c → (a colour : ℕ) (behind : List Call) → c.calls a ≡ Step colour ∷ behind → ⊥
no_step_front c was a colour behind first = (subst (λ (cs : List Call). AllByRecursion IsNoStep (cs ++ c.coordinator.out a)) first (was a)).0
