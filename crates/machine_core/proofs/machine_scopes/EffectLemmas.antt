-- What single calls make of the part of a cluster that a machine stands for.
use Rattle.std.proofs.Common.{◌≡◌, ℕ, suc, ◌+◌, ◌<◌, Bool, true, false, if◌then◌else◌, Option, None, Some, List, [], ◌∷◌, ◌++◌, length, map, drop, get_or, slice_get, slice_set, refl, sym, ap, ◌∙◌, arith, inl, inr}
use Rattle.std.proofs.lemmas.Bool.{cases_eq, eq-eqb, ne_eqb, lt-ltb}
use Rattle.std.proofs.lemmas.List.{get_or-set_same, get_or-set_other, map-append}
use Rattle.std.proofs.lemmas.Option.{slice_get_within}
use Rattle.gl_base.specs.declared.numbers.MachineNo.{MachineNo}
use Rattle.gl_base.specs.declared.numbers.Vertex.{Vertex}
use Rattle.gl_base.specs.declared.scopes.Claim.{Claim}
use Rattle.gl_base.specs.declared.scopes.Peer.TheVariants.{Machine}
use Rattle.gl_base.specs.declared.scopes.ScopeId.{ScopeId}
use Rattle.gl_base.specs.scope_lists.Scopes.{is_scope, mode_at, set_for, set_at}
use Rattle.cluster_laws.specs.cluster_core.Effects.{posts, asks_for, takes_lock, in_flight, next_scope}
use Rattle.cluster_laws.specs.cluster_core.Parts.{Stand}
use Rattle.wire.specs.outboxes.Outboxes.{OutboxView, OutboxesView, MessageView, no_outbox, outbox_to, with_outbox, with_message}
use Rattle.scope_locks.specs.scope_pipe.Entered.{EnteredView, moved_on}
use Rattle.scope_locks.specs.scope_pipe.Pipes.{PipeView, HasCome, HasReadied, HasAdmitted, next_id, entered_at, flight_at}
use Rattle.scope_locks.specs.vertex_locks.Locks.{LockView}
use Rattle.scope_locks.specs.vertex_locks.Tables.{HasAsked, HasTaken, queue_at}
use Rattle.machine_core.specs.declared.machine_parts.cores.Core.{Core}
use Rattle.machine_core.specs.machine_parts.Parts.{part_of, message_of, stand_at, stand_of, last_asked, lock_asked, machine_numbers, number_of}

-- ---- where scopes stand

stand_if : (b : Bool) (o p : Option EnteredView) → stand_at (if b then o else p) ≡ (if b then stand_at o else stand_at p)
stand_if true o p = refl
stand_if false o p = refl

-- a scope that moved on asked for the lock that it wanted
pub moved_asked : (e : EnteredView) (y : Vertex) → slice_get e.part e.place ≡ Some y → lock_asked (moved_on e) ≡ Some y
moved_asked e y at =
    ap (λ b. last_asked e.part (if b then e.place + 1 else e.place)) (lt-ltb e.place (length e.part) (slice_get_within e.part e.place y at))
    ∙ ap (last_asked e.part) (let one : e.place + 1 ≡ suc e.place = omega arith in one) ∙ at

pub moved_place : (e : EnteredView) (y : Vertex) → slice_get e.part e.place ≡ Some y → (moved_on e).place ≡ suc e.place
moved_place e y at =
    ap (λ b. if b then e.place + 1 else e.place) (lt-ltb e.place (length e.part) (slice_get_within e.part e.place y at))
    ∙ (let one : e.place + 1 ≡ suc e.place = omega arith in one)

-- where one scope stands elsewhere
pub stands_set : (old new : PipeView) (s : ScopeId) (o : Option EnteredView) → HasCome old new s o
    → (t : ScopeId) → stand_at (entered_at new t) ≡ set_for (λ (u : ScopeId). stand_at (entered_at old u)) s (stand_at o) t
stands_set old new s o has t = ap stand_at (has.entered t) ∙ stand_if (is_scope t s) o (entered_at old t)

-- ---- the scope asks for a lock

pub asked_part : (m : Core) (pipe : PipeView) (locks : List (Option LockView)) (s : ScopeId) (e : EnteredView) (y : Vertex) (a : ℕ) → slice_get e.part e.place ≡ Some y
    → HasCome m.pipe pipe s (Some (moved_on e)) → pipe ≡ record m.pipe { entered = pipe.entered } → HasAsked m.locks locks y.0 (record { scope = s; mode = mode_at e.centre.0 y.0 })
    → part_of (record m { pipe = pipe; locks = locks }) ≡ asks_for a s e.centre.0 (machine_numbers e.rest) (Some y.0) (part_of m)
asked_part m pipe locks s e y a at come rest asked =
    let stand : Vertex → Stand = λ x. record { centre = e.centre.0; lock = x.0; rest = machine_numbers e.rest } in
    let there : stand_of (moved_on e) ≡ Some (stand y) = ap (λ (o : Option Vertex). stand_from stand o) (moved_asked e y at) in
    ap (λ (p : PipeView). part_of (record m { pipe = p; locks = locks })) rest
    ∙ (λ i.
    record (part_of m) {
      stand = λ t. (stands_set m.pipe pipe s (Some (moved_on e)) come t ∙ ap (λ (o : Option Stand). set_for (λ (u : ScopeId). stand_at (entered_at m.pipe u)) s o t) there) i;
      holder = λ x t. asked.holder x t i;
      queue = λ x. asked.queue x i;
    })
  where
    stand_from : (Vertex → Stand) → Option Vertex → Option Stand
    stand_from f None = None
    stand_from f (Some x) = Some (f x)

-- ---- it leaves

pub left_part : (m : Core) (pipe : PipeView) (s : ScopeId) → HasCome m.pipe pipe s None → pipe ≡ record m.pipe { entered = pipe.entered }
    → part_of (record m { pipe = pipe }) ≡ record (part_of m) { stand = set_for (part_of m).stand s None }
left_part m pipe s come rest =
    ap (λ (p : PipeView). part_of (record m { pipe = p })) rest
    ∙ (λ i. record (part_of m) { stand = λ t. stands_set m.pipe pipe s None come t i })

box_at : (boxes : List OutboxView) (b q : ℕ) (box : OutboxView) (w : MessageView) → b < length boxes → box ≡ with_message w (get_or boxes b no_outbox)
    → map message_of (get_or (slice_set boxes b box) q no_outbox).messages
    ≡ set_at (λ (r : ℕ). map message_of (get_or boxes r no_outbox).messages) b (map message_of (get_or boxes b no_outbox).messages ++ message_of w ∷ []) q
box_at boxes b q box w low is = elim (cases_eq q b) [
  | inl same ↦
      ap (λ (r : ℕ). map message_of (get_or (slice_set boxes b box) r no_outbox).messages) same
      ∙ ap (λ (o : OutboxView). map message_of o.messages) (get_or-set_same boxes b box no_outbox low ∙ is)
      ∙ map-append message_of (get_or boxes b no_outbox).messages (w ∷ [])
      ∙ sym (ap (λ (t : Bool). if t then map message_of (get_or boxes b no_outbox).messages ++ message_of w ∷ [] else map message_of (get_or boxes q no_outbox).messages) (eq-eqb q b same))
  | inr other ↦
      ap (λ (o : OutboxView). map message_of o.messages) (get_or-set_other boxes b q box no_outbox other)
      ∙ sym (ap (λ (t : Bool). if t then map message_of (get_or boxes b no_outbox).messages ++ message_of w ∷ [] else map message_of (get_or boxes q no_outbox).messages) (ne_eqb q b other))
]

pub posted_part : (m : Core) (out : OutboxesView) (b : MachineNo) (w : MessageView) → b.0 < length m.out.machines → out ≡ with_outbox m.out (Machine b) (with_message w (outbox_to m.out (Machine b)))
    → part_of (record m { out = out }) ≡ posts b.0 (message_of w) (part_of m)
posted_part m out b w low is =
    ap (λ (o : OutboxesView). part_of (record m { out = o })) is
    ∙ (λ i. record (part_of m) { out = λ q. box_at m.out.machines b.0 q (with_message w (outbox_to m.out (Machine b))) w low refl i })

-- ---- it is ready

pub readied_part : (m : Core) (pipe : PipeView) (s : ScopeId) → HasReadied m.pipe pipe s → pipe ≡ record m.pipe { waiting = pipe.waiting; ready = pipe.ready }
    → part_of (record m { pipe = pipe }) ≡ record (part_of m) { ready = set_for (part_of m).ready s true }
readied_part m pipe s readied rest =
    ap (λ (p : PipeView). part_of (record m { pipe = p })) rest
    ∙ (λ i.
    record (part_of m) {
      serial = (ap (λ (p : PipeView). p.serial) (sym rest) ∙ readied.serial) i;
      flying = readied.count i;
      flight = λ t. number_of (readied.flight t i);
      ready = λ t. readied.ready t i;
    })

-- ---- a lock is granted

pub taken_part : (m : Core) (locks : List (Option LockView)) (x : ℕ) (c : Claim) (behind : List Claim) → queue_at m.locks x ≡ c ∷ behind → HasTaken m.locks locks x c
    → part_of (record m { locks = locks }) ≡ takes_lock x c behind (part_of m)
taken_part m locks x c behind first taken = λ i.
    record (part_of m) {
      queue = λ z. (taken.queue z ∙ ap (λ (q : List Claim). set_at (queue_at m.locks) x (drop 1 q) z) first) i;
      holder = λ z t. (taken.holder z t) i;
    }

-- ---- a scope is admitted

pub flown_part : (m : Core) (pipe : PipeView) (v : Vertex) (a : ℕ) → HasAdmitted m.pipe pipe v → pipe ≡ record m.pipe { serial = pipe.serial; waiting = pipe.waiting } → next_id m.pipe ≡ next_scope a (part_of m)
    → part_of (record m { pipe = pipe }) ≡ in_flight a v.0 (part_of m)
flown_part m pipe v a admitted rest scope =
    let more : (n : ℕ) → n + 1 ≡ suc n = λ n. omega arith in
    λ i.
    record (part_of m) {
      serial = (admitted.serial ∙ more m.pipe.serial) i;
      flying = (admitted.count ∙ more (part_of m).flying) i;
      flight = λ t. (ap number_of (admitted.flight t) ∙ number_if (is_scope t (next_id m.pipe)) v (flight_at m.pipe t) ∙ ap (λ (s : ScopeId). set_for (part_of m).flight s (Some v.0) t) scope) i;
      ready = λ t. admitted.ready t i;
      stand = λ t. stand_at (entered_at (rest i) t);
    }
  where
    number_if : (b : Bool) (v : Vertex) (o : Option Vertex) → number_of (if b then Some v else o) ≡ (if b then Some v.0 else number_of o)
    number_if true v o = refl
    number_if false v o = refl
