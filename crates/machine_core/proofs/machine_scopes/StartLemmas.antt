-- A new scope that sets out.
use Rattle.std.proofs.Common.{◌≡◌, ◌≢◌, ℕ, ◌<◌, Bool, if◌then◌else◌, List, ◌∷◌, length, sym, ap, ◌∙◌, subst}
use Rattle.std.proofs.lemmas.Bool.{ne_eqb}
use Rattle.gl_base.specs.declared.numbers.MachineNo.{MachineNo}
use Rattle.gl_base.specs.declared.numbers.Vertex.{Vertex}
use Rattle.gl_base.specs.declared.scopes.Peer.TheVariants.{Machine}
use Rattle.gl_base.specs.declared.scopes.ScopeId.{ScopeId}
use Rattle.cluster_laws.specs.cluster_core.Effects.{goes_on, posts, sets_out}
use Rattle.cluster_laws.specs.cluster_core.Messages as law
use Rattle.wire.specs.outboxes.Outboxes.{OutboxesView, outbox_to, with_outbox, with_message}
use Rattle.scope_locks.specs.scope_pipe.Pipes.{PipeView, come}
use Rattle.wire.specs.wire_msgs.Views as told
use Rattle.machine_core.specs.declared.machine_parts.cores.Core.{Core}
use Rattle.machine_core.specs.machine_parts.Parts.{part_of, parts_at, machine_numbers}
use Rattle.machine_core.specs.machine_scopes.Inner.Setting.{CanSetOut, HasSetOut}
use Rattle.machine_core.specs.declared.machine_scopes.starting.Start.{Start}
use Rattle.machine_core.specs.declared.machine_scopes.starting.Start.TheVariants.{Here, Away}
use Rattle.machine_core.proofs.machine_scopes.EffectLemmas.{posted_part}

pub set_out_away : (m : Core) (out : OutboxesView) (s : ScopeId) (v : Vertex) (first : MachineNo) (rest : List MachineNo) → parts_at m.numbers.local v.0 ≡ first ∷ rest → first.0 ≢ m.numbers.local.me.0 → first.0 < length m.out.machines
    → out ≡ with_outbox m.out (Machine first) (with_message (told.Ask s v rest) (outbox_to m.out (Machine first))) → HasSetOut m (record m { out = out }) s v
set_out_away m out s v first rest parts other low put st part =
    let a = m.numbers.local.me.0 in
    posted_part m out first (told.Ask s v rest) low put
    ∙ sym (ap (λ (b : Bool). if b then goes_on st a s v.0 0 (machine_numbers rest) (part_of m) else posts first.0 (law.Ask s v.0 (machine_numbers rest)) (part_of m)) (ne_eqb first.0 a other))
    ∙ sym (ap (λ (ps : List MachineNo). sets_out st a s v.0 (machine_numbers ps) (part_of m)) parts)

-- it can still do so once as many have come to another pipe
pub can_with_pipe : (m : Core) (pipe : PipeView) (s : ScopeId) (v : Vertex) (start : Start) → come pipe ≡ come m.pipe → CanSetOut m s v start → CanSetOut (record m { pipe = pipe }) s v start
can_with_pipe m pipe s v (Here part rest next) same can =
    record { machines = can.machines; vertices = can.vertices; first = can.first; few = subst (λ (k : ℕ). k < 4096) (sym same) can.few; room = can.room }
can_with_pipe m pipe s v (Away first rest) same can = record { machines = can.machines; other = can.other; room = can.room }
