-- What events leave as it is that acknowledge nothing and begin no attempt.
use Rattle.std.proofs.Common.{◌≡◌, ◌∙◌, ℕ, List, None, Option, Some, [], ◌∷◌, ◌++◌, refl, subst, sym}
use Rattle.cluster_step.specs.trace.Traces.{ArePassing, Cluster, IsPassing, Setting}
use Rattle.cluster_laws.specs.cluster_core.Messages.{Message}
use Rattle.cluster_laws.specs.cluster_model.Calls.{Call, Count, Report, Saved, Want}
use Rattle.cluster_laws.specs.cluster_model.Events as law
use Rattle.whole_laws.specs.cluster_whole.Whole.{setting_behind}
use Rattle.gl_base.specs.declared.scopes.ScopeId.{ScopeId}

-- The attempt is the same, and the coordinator knows the same of the store.
pub record IsStill (old new : Cluster) : Type 0 where
  pub order : new.base.order ≡ old.base.order
  pub acknowledged : new.coordinator.acknowledged ≡ old.coordinator.acknowledged
  pub store_end : new.coordinator.store_end ≡ old.coordinator.store_end

itself : (c : Cluster) → IsStill c c
itself c = record { order = refl; acknowledged = refl; store_end = refl }

joined : (a b c : Cluster) → IsStill a b → IsStill b c → IsStill a c
joined a b c one other = record { order = other.order ∙ one.order; acknowledged = other.acknowledged ∙ one.acknowledged; store_end = other.store_end ∙ one.store_end }

-- ---- event by event

sent : (c : Cluster) (p q : ℕ) (messages : List Message) → IsStill c (law.sends_message c p q messages)
sent c p q [] = itself c
sent c p q (m ∷ behind) = record { order = refl; acknowledged = refl; store_end = refl }

sent_call : (c : Cluster) (a : ℕ) (calls : List Call) → IsStill c (law.sends_call c a calls)
sent_call c a [] = itself c
sent_call c a (call ∷ behind) = record { order = refl; acknowledged = refl; store_end = refl }

sent_report : (c : Cluster) (a : ℕ) (reports : List Report) → IsStill c (law.sends_report c a reports)
sent_report c a [] = itself c
sent_report c a (report ∷ behind) = record { order = refl; acknowledged = refl; store_end = refl }

delivered : (st : Setting) (c : Cluster) (p q : ℕ) (messages : List Message) → IsStill c (law.delivers_message st c p q messages)
delivered st c p q [] = itself c
delivered st c p q (m ∷ behind) = record { order = refl; acknowledged = refl; store_end = refl }

delivered_call : (st : Setting) (c : Cluster) (a : ℕ) (calls : List Call) → IsStill c (law.delivers_call st c a calls)
delivered_call st c a [] = itself c
delivered_call st c a (call ∷ behind) = record { order = refl; acknowledged = refl; store_end = refl }

delivered_report : (c : Cluster) (a : ℕ) (reports : List Report) → IsStill c (law.delivers_report c a reports)
delivered_report c a [] = itself c
delivered_report c a (Saved k section entries ∷ behind) = record { order = refl; acknowledged = refl; store_end = refl }
delivered_report c a (Count k counts ∷ behind) = record { order = refl; acknowledged = refl; store_end = refl }
delivered_report c a (Want k ∷ behind) = record { order = refl; acknowledged = refl; store_end = refl }

made : (st : Setting) (c : Cluster) (s : ScopeId) (centre : Option ℕ) → IsStill c (law.makes st c s centre)
made st c s None = itself c
made st c s (Some v) = record { order = refl; acknowledged = refl; store_end = refl }

saved : (st : Setting) (c : Cluster) (s : ScopeId) (centre : Option ℕ) → IsStill c (law.saves st c s centre)
saved st c s None = itself c
saved st c s (Some v) = record { order = refl; acknowledged = refl; store_end = refl }

still_event : (st : Setting) (c : Cluster) (event : law.Event) → IsPassing event → IsStill c (law.after_event st c event)
still_event st c (law.Admit a v) is = record { order = refl; acknowledged = refl; store_end = refl }
still_event st c (law.Grant a x) is = record { order = refl; acknowledged = refl; store_end = refl }
still_event st c (law.Send p q) is = sent c p q ((c.machine p).part.out q)
still_event st c (law.SendCall a) is = sent_call c a (c.coordinator.out a)
still_event st c (law.SendReport a) is = sent_report c a (c.machine a).out
still_event st c (law.Deliver p q) is = delivered st c p q (c.link p q)
still_event st c (law.DeliverCall a) is = delivered_call st c a (c.calls a)
still_event st c (law.DeliverReport a) is = delivered_report c a (c.reports a)
still_event st c (law.Update s) is = made st c s ((c.machine s.home.0).part.flight s)
still_event st c (law.Mark s) is = saved st c s ((c.machine s.home.0).part.flight s)
still_event st c (law.Section a) is = record { order = refl; acknowledged = refl; store_end = refl }
still_event st c (law.Record) is = absurd (is.0 refl)
still_event st c (law.PutBegin) is = record { order = refl; acknowledged = refl; store_end = refl }
still_event st c (law.PutStep) is = record { order = refl; acknowledged = refl; store_end = refl }
still_event st c (law.PutWave) is = record { order = refl; acknowledged = refl; store_end = refl }
still_event st c (law.Fail a) is = record { order = refl; acknowledged = refl; store_end = refl }
still_event st c (law.Recover base) is = absurd (is.1 base refl)
still_event st c (law.Stop) is = record { order = refl; acknowledged = refl; store_end = refl }

-- ---- one after another

pub trace_behind : (xs ys : List law.Event) (st : Setting) (a b c : Cluster) → law.IsTrace st a xs b → law.IsTrace st a (xs ++ ys) c → law.IsTrace (setting_behind st xs) b ys c
trace_behind [] ys st a b c one whole = subst (λ (x : Cluster). law.IsTrace st x ys c) (sym one) whole
trace_behind (x ∷ xs) ys st a b c one whole = trace_behind xs ys (law.setting_after st x) (law.after_event st a x) b c one.1 whole.1

pub still_trace : (events : List law.Event) (st : Setting) (a c : Cluster) → ArePassing events → law.IsTrace st a events c → IsStill a c
still_trace [] st a c all trace = subst (λ (x : Cluster). IsStill a x) (sym trace) (itself a)
still_trace (event ∷ events) st a c all trace =
    joined a (law.after_event st a event) c (still_event st a event all.0) (still_trace events (law.setting_after st event) (law.after_event st a event) c all.1 trace.1)
