-- What an order lacks of the logs of all machines.
use Rattle.std.proofs.Common.{◌≡◌, ℕ, ◌∙◌, List, ap, filter, subst, sym}
use Rattle.std.specs.Prelude.{Err, IfOk, Ok, Result}
use Rattle.gl_base.specs.declared.entries.Entry.{Entry}
use Rattle.cluster_laws.specs.cluster_model.Clusters.{BaseView, Cluster}
use Rattle.cluster_laws.specs.cluster_model.Events as law
use Rattle.cluster_laws.specs.merged_logs.Merges.{IsMerge}
use Rattle.call_laws.proofs.whole_calls.Calling.{the_losses}
use Rattle.call_laws.specs.whole_calls.Lost.{TakesAway, all_logged, is_lacking, machine_logs}
use Rattle.engine_runs.specs.rollback.Failing.{CallOpening, TraceView, IsTraceNow, Machine, Setting, newest_setting}

pub for_ok : {X E : Type 0} (r : Result X E) (P Q : X → Type 0) → ((x : X) → P x → Q x) → IfOk r P → IfOk r Q
for_ok (Ok x) P Q then is = then x is
for_ok (Err e) P Q then is = tt

-- what is lacking of them is taken away
pub takes_away : {M : Type 0} (represents : Setting → ℕ → Machine → M → Type 0) (v : TraceView M) (st : Setting) (o : CallOpening) (events : List law.Event) (c : Cluster) → IsTraceNow represents v st o events c →
    (order merged gone : List Entry) → IsMerge (all_logged (machine_logs st.machines c)) merged → gone ≡ filter (is_lacking order) merged → (to : BaseView) → to.order ≡ order → law.GoesBackTo (newest_setting st o events) c to →
    TakesAway (newest_setting st o events) c to gone
takes_away represents v st o events c is order merged gone merges gone_is to order_is back =
    subst (TakesAway (newest_setting st o events) c to) (ap (λ (es : List Entry). filter (is_lacking es) merged) order_is ∙ sym gone_is)
    (the_losses st v.failures o.kept o.resumed o.base o.first events c is.trace to merged back merges)
