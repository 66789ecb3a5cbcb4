-- Nothing but its end stops a run.
use Rattle.std.proofs.Common.{◌≡◌, ℕ, List, [], ◌∷◌, None, Option, Some, refl, sym, ap, ◌∙◌}
use Rattle.std.specs.Prelude.{Err, Ok, Result}
use Rattle.gl_base.specs.declared.refusals.Refused.{Refused}
use Rattle.gl_base.specs.declared.scopes.ScopeId.{ScopeId}
use Rattle.cluster_laws.specs.cluster_core.Messages.{Message}
use Rattle.cluster_laws.specs.cluster_model.Calls.{Call, Report}
use Rattle.cluster_laws.specs.cluster_model.Events as law
use Rattle.cluster_step.specs.clusters.Clusters.{Cluster, Machine, Parts, Setting, StandsForSameSaving, StandsForSaving}
use Rattle.cluster_step.specs.clusters.Events.{AnswersEvent, IsNamedEvent, IsNoStop, TakesPlace}
use Rattle.cluster_step.specs.declared.clusters.events.Event.{Event}
use Rattle.cluster_step.specs.declared.clusters.events.Event.TheVariants as event
use Rattle.cluster_step.specs.declared.clusters.events.Lead.TheVariants as lead
use Rattle.cluster_step.specs.declared.clusters.events.Local.TheVariants as local
use Rattle.cluster_step.specs.declared.clusters.events.Passage.TheVariants as passage

sent : (c : Cluster) (p q : ℕ) (messages : List Message) → (law.sends_message c p q messages).stopped ≡ c.stopped
sent c p q [] = refl
sent c p q (m ∷ behind) = refl

call_sent : (c : Cluster) (a : ℕ) (calls : List Call) → (law.sends_call c a calls).stopped ≡ c.stopped
call_sent c a [] = refl
call_sent c a (call ∷ behind) = refl

report_sent : (c : Cluster) (a : ℕ) (reports : List Report) → (law.sends_report c a reports).stopped ≡ c.stopped
report_sent c a [] = refl
report_sent c a (report ∷ behind) = refl

delivered : (st : Setting) (c : Cluster) (p q : ℕ) (messages : List Message) → (law.delivers_message st c p q messages).stopped ≡ c.stopped
delivered st c p q [] = refl
delivered st c p q (m ∷ behind) = refl

call_delivered : (st : Setting) (c : Cluster) (a : ℕ) (calls : List Call) → (law.delivers_call st c a calls).stopped ≡ c.stopped
call_delivered st c a [] = refl
call_delivered st c a (call ∷ behind) = refl

report_delivered : (c : Cluster) (a : ℕ) (reports : List Report) → (law.delivers_report c a reports).stopped ≡ c.stopped
report_delivered c a [] = refl
report_delivered c a (report ∷ behind) = refl

made : (st : Setting) (c : Cluster) (s : ScopeId) (centre : Option ℕ) → (law.makes st c s centre).stopped ≡ c.stopped
made st c s None = refl
made st c s (Some v) = refl

saved : (st : Setting) (c : Cluster) (s : ScopeId) (centre : Option ℕ) → (law.saves st c s centre).stopped ≡ c.stopped
saved st c s None = refl
saved st c s (Some v) = refl

-- no other event does
pub runs_on : (st : Setting) (c : Cluster) (what : Event) → IsNoStop what → (e : law.Event) → IsNamedEvent what e → (law.after_event st c e).stopped ≡ c.stopped
runs_on st c (event.Local (local.Admit a)) none e is = ap (λ (x : law.Event). (law.after_event st c x).stopped) is.1
runs_on st c (event.Local (local.Grant a x)) none e is = ap (λ (x : law.Event). (law.after_event st c x).stopped) is
runs_on st c (event.Local (local.Update s)) none e is = ap (λ (x : law.Event). (law.after_event st c x).stopped) is ∙ made st c s ((c.machine s.home.0).part.flight s)
runs_on st c (event.Local (local.Mark s)) none e is = ap (λ (x : law.Event). (law.after_event st c x).stopped) is ∙ saved st c s ((c.machine s.home.0).part.flight s)
runs_on st c (event.Local (local.Section a)) none e is = ap (λ (x : law.Event). (law.after_event st c x).stopped) is
runs_on st c (event.Local (local.Fail a)) none e is = ap (λ (x : law.Event). (law.after_event st c x).stopped) is
runs_on st c (event.Lead lead.Record) none e is = ap (λ (x : law.Event). (law.after_event st c x).stopped) is
runs_on st c (event.Lead lead.Begin) none e is = ap (λ (x : law.Event). (law.after_event st c x).stopped) is
runs_on st c (event.Lead lead.Step) none e is = ap (λ (x : law.Event). (law.after_event st c x).stopped) is
runs_on st c (event.Lead lead.Wave) none e is = ap (λ (x : law.Event). (law.after_event st c x).stopped) is
runs_on st c (event.Lead lead.Stop) none e is = absurd none
runs_on st c (event.Passage (passage.Send p q)) none e is = ap (λ (x : law.Event). (law.after_event st c x).stopped) is ∙ sent c p.0 q.0 ((c.machine p.0).part.out q.0)
runs_on st c (event.Passage (passage.Deliver p q)) none e is = ap (λ (x : law.Event). (law.after_event st c x).stopped) is ∙ delivered st c p.0 q.0 (c.link p.0 q.0)
runs_on st c (event.Passage (passage.SendCall a)) none e is = ap (λ (x : law.Event). (law.after_event st c x).stopped) is ∙ call_sent c a.0 (c.coordinator.out a.0)
runs_on st c (event.Passage (passage.DeliverCall a)) none e is = ap (λ (x : law.Event). (law.after_event st c x).stopped) is ∙ call_delivered st c a.0 (c.calls a.0)
runs_on st c (event.Passage (passage.SendReport a)) none e is = ap (λ (x : law.Event). (law.after_event st c x).stopped) is ∙ report_sent c a.0 (c.machine a.0).out
runs_on st c (event.Passage (passage.DeliverReport a)) none e is = ap (λ (x : law.Event). (law.after_event st c x).stopped) is ∙ report_delivered c a.0 (c.reports a.0)

module _ {M : Type 0} (represents : Setting → ℕ → Machine → M → Type 0) (old new : Parts M) (some : StandsForSaving represents old) where
  -- a cluster for which they stand is one as before
  pub some_same : StandsForSameSaving represents old new → StandsForSaving represents new
  some_same same = (some.0, some.1, some.2, same some.0 some.1 some.2 some.3)

  -- as it was
  pub same_runs : StandsForSameSaving represents old new → new.stopped ≡ old.stopped
  same_runs same = sym (same some.0 some.1 some.2 some.3).stopped ∙ some.3.stopped

  -- behind an event
  pub takes_on : (what : Event) → IsNoStop what → TakesPlace represents old what new → new.stopped ≡ old.stopped
  takes_on what none takes =
      let has = takes some.0 some.1 some.2 some.3 in
      sym has.after.stopped ∙ runs_on some.0 some.1 what none has.event has.is ∙ some.3.stopped

pub answer_runs : {M : Type 0} (represents : Setting → ℕ → Machine → M → Type 0) (old new : Parts M) (some : StandsForSaving represents old) (what : Event) → IsNoStop what → (r : Result (Unit {0}) Refused) → AnswersEvent represents old what r new → new.stopped ≡ old.stopped
answer_runs represents old new some what none (Ok u) answers = takes_on represents old new some what none answers.made
answer_runs represents old new some what none (Err e) answers = same_runs represents old new some answers.unchanged
