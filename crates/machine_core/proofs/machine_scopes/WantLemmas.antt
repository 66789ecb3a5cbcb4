-- What a scope that moves on wants, and how it gets it.
use Rattle.std.proofs.Common.{◌≡◌, ◌≢◌, ℕ, ◌<◌, ◌≤◌, Bool, true, false, if◌then◌else◌, Option, None, Some, is_some, List, [], ◌∷◌, length, drop, slice_get, nat_lt, refl, sym, ap, ◌∙◌, subst, arith, inl, inr, true≢false}
use Rattle.std.proofs.lemmas.Bool.{cases_lt, eq-eqb, ne_eqb, lt-ltb}
use Rattle.std.proofs.lemmas.List.{length-set}
use Rattle.std.proofs.lemmas.Option.{slice_get-get_or, slice_get_within}
use Rattle.gl_base.specs.declared.numbers.MachineNo.{MachineNo}
use Rattle.gl_base.specs.declared.numbers.Vertex.{Vertex}
use Rattle.gl_base.specs.declared.scopes.Mode.{Mode}
use Rattle.gl_base.specs.declared.scopes.Peer.TheVariants.{Machine}
use Rattle.gl_base.specs.declared.scopes.ScopeId.{ScopeId}
use Rattle.gl_base.specs.scope_lists.Scopes.{mode_at, set_for}
use Rattle.gl_base.proofs.scope_lists.SameScope.{same_scope}
use Rattle.cluster_laws.specs.cluster_core.Effects.{asks_for, goes_away, posts}
use Rattle.cluster_laws.specs.cluster_core.Messages as law
use Rattle.cluster_laws.specs.cluster_core.Parts.{Part}
use Rattle.machine_core.specs.lock_release.Released.{is_one_of}
use Rattle.wire.specs.outboxes.Outboxes.{OutboxView, OutboxesView, outbox_to, with_outbox, with_message}
use Rattle.scope_locks.specs.scope_pipe.Entered.{EnteredView, moved_on, next_at, next_of}
use Rattle.scope_locks.specs.scope_pipe.Pipes.{PipeView, HasCome, HasReadied, entered_at, flight_at, is_ready}
use Rattle.scope_locks.specs.declared.scope_pipe.next.Next.TheVariants.{Lock, Forward, Home}
use Rattle.scope_locks.specs.vertex_locks.Locks.{LockView}
use Rattle.scope_locks.specs.vertex_locks.Tables.{HasAsked, holder_at}
use Rattle.wire.specs.wire_msgs.Views as told
use Rattle.machine_core.specs.declared.machine_parts.cores.Core.{Core}
use Rattle.machine_core.specs.declared.machine_parts.spare.SpareParts.{SpareParts}
use Rattle.machine_core.specs.machine_parts.Parts.{part_of, part_at, machine_numbers, number_of}
use Rattle.machine_core.specs.machine_parts.Order.{IsOrderlyBut, got}
use Rattle.machine_core.specs.machine_scopes.Inner.Going.{Wants, HasGoneOn}
use Rattle.machine_core.proofs.machine_scopes.EffectLemmas.{asked_part, left_part, posted_part, readied_part}
use Rattle.machine_core.proofs.machine_scopes.HeldLemmas.{stands_in}
use Rattle.machine_core.proofs.machine_scopes.MoveLemmas.{is_this}

-- ---- what is wanted

pub record IsLockNext (e : EnteredView) (y : Vertex) (mode : Mode) : Type 0 where
  pub at : slice_get e.part e.place ≡ Some y
  pub mode_is : mode ≡ mode_at e.centre.0 y.0

pub lock_next : (e : EnteredView) (y : Vertex) (mode : Mode) → Lock y mode ≡ next_of e → IsLockNext e y mode
lock_next e y mode is = let parts = by e.centre (slice_get e.part e.place) e.rest is in record { at = parts.0; mode_is = parts.1 }
  where
    by : (centre : Vertex) (o : Option Vertex) (rest : List MachineNo) → Lock y mode ≡ next_at centre o rest → (o ≡ Some y) × (mode ≡ mode_at centre.0 y.0)
    by centre (Some x) rest same =
        let vertex : y ≡ x = cc in
        let mode_same : mode ≡ mode_at centre.0 x.0 = cc in
        (ap (λ (v : Vertex). Some v) (sym vertex), mode_same ∙ ap (λ (v : Vertex). mode_at centre.0 v.0) (sym vertex))
    by centre None (b ∷ rest) same = cc
    by centre None [] same = cc

pub record IsMachineNext (e : EnteredView) (to : MachineNo) : Type 0 where
  pub none : slice_get e.part e.place ≡ None
  pub rest : e.rest ≡ to ∷ drop 1 e.rest

pub machine_next : (e : EnteredView) (to : MachineNo) → Forward to ≡ next_of e → IsMachineNext e to
machine_next e to is = let parts = by e.centre (slice_get e.part e.place) e.rest is in record { none = parts.0; rest = parts.1 }
  where
    by : (centre : Vertex) (o : Option Vertex) (rest : List MachineNo) → Forward to ≡ next_at centre o rest → (o ≡ None) × (rest ≡ to ∷ drop 1 rest)
    by centre (Some x) rest same = cc
    by centre None (b ∷ rest) same =
        let machine : b ≡ to = cc in
        (refl, ap (λ (a : MachineNo). a ∷ rest) machine)
    by centre None [] same = cc

pub record IsHomeNext (e : EnteredView) : Type 0 where
  pub none : slice_get e.part e.place ≡ None
  pub rest : e.rest ≡ []

pub home_next : (e : EnteredView) → Home ≡ next_of e → IsHomeNext e
home_next e is = let parts = by e.centre (slice_get e.part e.place) e.rest is in record { none = parts.0; rest = parts.1 }
  where
    by : (centre : Vertex) (o : Option Vertex) (rest : List MachineNo) → Home ≡ next_at centre o rest → (o ≡ None) × (rest ≡ [])
    by centre (Some x) rest same = cc
    by centre None (b ∷ rest) same = cc
    by centre None [] same = (refl, refl)

-- ---- it asks for a lock

pub lock_went : (m : Core) (pipe : PipeView) (locks : List (Option LockView)) (s : ScopeId) (y : Vertex) (mode : Mode) → Wants m s (Lock y mode) → ((e : EnteredView) → entered_at m.pipe s ≡ Some e → HasCome m.pipe pipe s (Some (moved_on e)))
    → pipe ≡ record m.pipe { entered = pipe.entered } → HasAsked m.locks locks y.0 (record { scope = s; mode = mode }) → HasGoneOn m (record m { pipe = pipe; locks = locks }) s
lock_went m pipe locks s y mode wants come kept asked e at =
    let next = lock_next e y mode (wants e at) in
    let a = m.numbers.local.me.0 in
    asked_part m pipe locks s e y a next.at (come e at) kept (subst (λ (k : Mode). HasAsked m.locks locks y.0 (record { scope = s; mode = k })) next.mode_is asked)
    ∙ sym (ap (λ (o : Option Vertex). asks_for a s e.centre.0 (machine_numbers e.rest) (number_of o) (part_of m)) next.at)

-- ---- it goes on to a machine

pub away_went : (m : Core) (pipe : PipeView) (out : OutboxesView) (spare : SpareParts) (s : ScopeId) (to : MachineNo) (centre : Vertex) (left : List MachineNo) → Wants m s (Forward to) → HasCome m.pipe pipe s None
    → pipe ≡ record m.pipe { entered = pipe.entered } → ((e : EnteredView) → entered_at m.pipe s ≡ Some e → centre ≡ e.centre) → ((e : EnteredView) → entered_at m.pipe s ≡ Some e → left ≡ drop 1 e.rest) → to.0 < length m.out.machines
    → out ≡ with_outbox m.out (Machine to) (with_message (told.Ask s centre left) (outbox_to m.out (Machine to))) → HasGoneOn m (record m { pipe = pipe; out = out; spare = spare }) s
away_went m pipe out spare s to centre left wants come kept centre_is left_is low put e at =
    let next = machine_next e to (wants e at) in
    let a = m.numbers.local.me.0 in
    let gone : Part = record (part_of m) { stand = set_for (part_of m).stand s None } in
    let message : law.Message = law.Ask s centre.0 (machine_numbers left) in
    posted_part (record m { pipe = pipe; spare = spare }) out to (told.Ask s centre left) low put
    ∙ ap (posts to.0 message) (left_part m pipe s come kept)
    ∙ (λ i. posts to.0 (law.Ask s (centre_is e at i).0 (machine_numbers (left_is e at i))) gone)
    ∙ sym (ap (λ (rest : List MachineNo). asks_for a s e.centre.0 (machine_numbers rest) None (part_of m)) next.rest)
    ∙ sym (ap (λ (o : Option Vertex). asks_for a s e.centre.0 (machine_numbers e.rest) (number_of o) (part_of m)) next.none)

-- ---- it goes home

home_is : (m : Core) (s : ScopeId) (e : EnteredView) → IsHomeNext e → asks_for m.numbers.local.me.0 s e.centre.0 (machine_numbers e.rest) (number_of (slice_get e.part e.place)) (part_of m)
    ≡ goes_away m.numbers.local.me.0 s e.centre.0 [] (record (part_of m) { stand = set_for (part_of m).stand s None })
home_is m s e next =
    let a = m.numbers.local.me.0 in
    ap (λ (o : Option Vertex). asks_for a s e.centre.0 (machine_numbers e.rest) (number_of o) (part_of m)) next.none
    ∙ ap (λ (rest : List MachineNo). asks_for a s e.centre.0 (machine_numbers rest) None (part_of m)) next.rest

pub stays_went : (m : Core) (left pipe : PipeView) (spare : SpareParts) (s : ScopeId) → Wants m s Home → HasCome m.pipe left s None → left ≡ record m.pipe { entered = left.entered } → s.home.0 ≡ m.numbers.local.me.0
    → HasReadied left pipe s → pipe ≡ record left { waiting = pipe.waiting; ready = pipe.ready } → HasGoneOn m (record m { pipe = pipe; spare = spare }) s
stays_went m left pipe spare s wants come kept here readied rest e at =
    let a = m.numbers.local.me.0 in
    let gone : Part = record (part_of m) { stand = set_for (part_of m).stand s None } in
    readied_part (record m { pipe = left; spare = spare }) pipe s readied rest
    ∙ ap (λ (p : Part). record p { ready = set_for p.ready s true }) (left_part m left s come kept)
    ∙ sym (ap (λ (b : Bool). if b then record gone { ready = set_for gone.ready s true } else posts s.home.0 (law.Ready s) gone) (eq-eqb s.home.0 a here))
    ∙ sym (home_is m s e (home_next e (wants e at)))

pub returns_went : (m : Core) (pipe : PipeView) (out : OutboxesView) (spare : SpareParts) (s : ScopeId) → Wants m s Home → HasCome m.pipe pipe s None → pipe ≡ record m.pipe { entered = pipe.entered } → s.home.0 ≢ m.numbers.local.me.0
    → s.home.0 < length m.out.machines → out ≡ with_outbox m.out (Machine s.home) (with_message (told.Ready s) (outbox_to m.out (Machine s.home))) → HasGoneOn m (record m { pipe = pipe; out = out; spare = spare }) s
returns_went m pipe out spare s wants come kept away low put e at =
    let a = m.numbers.local.me.0 in
    let gone : Part = record (part_of m) { stand = set_for (part_of m).stand s None } in
    posted_part (record m { pipe = pipe; spare = spare }) out s.home (told.Ready s) low put
    ∙ ap (posts s.home.0 (law.Ready s)) (left_part m pipe s come kept)
    ∙ sym (ap (λ (b : Bool). if b then record gone { ready = set_for gone.ready s true } else posts s.home.0 (law.Ready s) gone) (ne_eqb s.home.0 a away))
    ∙ sym (home_is m s e (home_next e (wants e at)))

-- ---- what it has then

past_all : (part : List Vertex) (place : ℕ) → slice_get part place ≡ None → length part ≤ place
past_all part place none = elim (cases_lt place (length part)) [
  | inl inside ↦ absurd (true≢false (sym (ap is_some (slice_get-get_or part place (record { 0 = 0 }) inside)) ∙ ap is_some none))
  | inr past ↦ past
]

-- a scope that goes home holds the locks of all its vertices here
pub home_holds : (m : Core) (s : ScopeId) (e : EnteredView) → IsOrderlyBut (is_this s) m → entered_at m.pipe s ≡ Some e → IsHomeNext e → (x : ℕ) → is_one_of (part_at m.numbers.local e.centre.0) x ≡ true → is_some (holder_at m.locks x s) ≡ true
home_holds m s e is at next x one =
    let within = stands_in e.part x (ap (λ (p : List Vertex). is_one_of p x) (is.entered s e at).part ∙ one) in
    let j = within.0 in
    let low = slice_get_within e.part j (record { 0 = x }) within.1 in
    let all = past_all e.part e.place next.none in
    is.locks.holds s e j (record { 0 = x }) at within.1 ∙ ap (λ (b : Bool). nat_lt j (got b e.place)) (same_scope s) ∙ lt-ltb j e.place (omega arith)

-- and is in flight and not ready, where this is its home
pub home_flies : (m : Core) (s : ScopeId) (e : EnteredView) → IsOrderlyBut (is_this s) m → entered_at m.pipe s ≡ Some e → s.home.0 ≡ m.numbers.local.me.0 → (flight_at m.pipe s ≡ Some e.centre) × (is_ready m.pipe s ≡ false)
home_flies m s e is at here =
    let home : s.home.0 ≡ m.pipe.home.0 = here ∙ ap (λ (a : MachineNo). a.0) (sym is.flights.home) in
    let right = is.entered s e at in
    (right.flight home, right.waits home)

-- ---- outboxes

pub put_many : (out new : OutboxesView) (to : MachineNo) (box : OutboxView) → new ≡ with_outbox out (Machine to) box → length new.machines ≡ length out.machines
put_many out new to box is = ap (λ (o : OutboxesView). length o.machines) is ∙ length-set out.machines to.0 box

-- ---- machines

pub away_low : (m : Core) (s : ScopeId) (e : EnteredView) (to : MachineNo) → IsOrderlyBut (is_this s) m → entered_at m.pipe s ≡ Some e → IsMachineNext e to → to.0 < length m.out.machines
away_low m s e to is at next = (is.entered s e at).rest 0 to (ap (λ (r : List MachineNo). slice_get r 0) next.rest)

pub away_some : (e : EnteredView) (to : MachineNo) (rest : List MachineNo) (n : ℕ) → IsMachineNext e to → rest ≡ e.rest → n ≡ length rest → 0 < n
away_some e to rest n next same many =
    let more : length rest ≡ length (to ∷ drop 1 e.rest) = ap length (same ∙ next.rest) in
    omega arith
