-- An event makes an update, or is a recovery, or neither.
use Rattle.gl_base.specs.declared.scopes.ScopeId.{ScopeId}
use Rattle.cluster_laws.specs.cluster_model.Clusters.{BaseView}
use Rattle.cluster_laws.specs.cluster_model.Events.{Event, Admit, DeliverCall, DeliverReport, Deliver, Fail, Grant, Mark, PutBegin, PutStep, PutWave, Record, Recover, Section, Send, SendCall, SendReport, Stop, Update}
use Rattle.whole_laws.specs.cluster_whole.Whole.{IsNoRecovery}
use Rattle.whole_laws.proofs.cluster_records.Entering.{IsNoUpdate}

pub by_kind : (P : Event → Type 0) → ((event : Event) → IsNoRecovery event → IsNoUpdate event → P event) → ((s : ScopeId) → P (Update s)) → ((base : BaseView) → P (Recover base)) → (event : Event) → P event
by_kind P quiet update recover (Admit a v) = quiet (Admit a v) (λ base same. cc) (λ s same. cc)
by_kind P quiet update recover (Grant a x) = quiet (Grant a x) (λ base same. cc) (λ s same. cc)
by_kind P quiet update recover (Send p q) = quiet (Send p q) (λ base same. cc) (λ s same. cc)
by_kind P quiet update recover (SendCall a) = quiet (SendCall a) (λ base same. cc) (λ s same. cc)
by_kind P quiet update recover (SendReport a) = quiet (SendReport a) (λ base same. cc) (λ s same. cc)
by_kind P quiet update recover (Deliver p q) = quiet (Deliver p q) (λ base same. cc) (λ s same. cc)
by_kind P quiet update recover (DeliverCall a) = quiet (DeliverCall a) (λ base same. cc) (λ s same. cc)
by_kind P quiet update recover (DeliverReport a) = quiet (DeliverReport a) (λ base same. cc) (λ s same. cc)
by_kind P quiet update recover (Update s) = update s
by_kind P quiet update recover (Mark s) = quiet (Mark s) (λ base same. cc) (λ s same. cc)
by_kind P quiet update recover (Section a) = quiet (Section a) (λ base same. cc) (λ s same. cc)
by_kind P quiet update recover Record = quiet Record (λ base same. cc) (λ s same. cc)
by_kind P quiet update recover PutBegin = quiet PutBegin (λ base same. cc) (λ s same. cc)
by_kind P quiet update recover PutStep = quiet PutStep (λ base same. cc) (λ s same. cc)
by_kind P quiet update recover PutWave = quiet PutWave (λ base same. cc) (λ s same. cc)
by_kind P quiet update recover (Fail a) = quiet (Fail a) (λ base same. cc) (λ s same. cc)
by_kind P quiet update recover (Recover base) = recover base
by_kind P quiet update recover Stop = quiet Stop (λ base same. cc) (λ s same. cc)
