-- A cluster after the update of a scope.
use Rattle.std.proofs.Common.{◌≡◌, ◌∙◌, ℕ, suc, pred, ◌+◌, ◌-◌, ◌<◌, ◌≤◌, List, length, slice_set, Option, None, Some, refl, sym, ap, ap₂, subst, arith}
use Rattle.gl_base.specs.declared.entries.Entry.TheVariants.{Go}
use Rattle.gl_base.specs.declared.numbers.MachineNo.{MachineNo}
use Rattle.gl_base.specs.declared.scopes.ScopeId.{ScopeId}
use Rattle.graph_core.specs.DataGraph.{DataGraph, size}
use Rattle.cluster_laws.specs.cluster_core.Settings.{IsSetting, Setting}
use Rattle.full_scope.specs.FullUpdates.{FullUpdate}
use Rattle.full_laws.specs.FullActions.{MayUpdateFull, Updates, after_action, updates_full}
use Rattle.full_laws.specs.FullEffects.{lent_full, updated_full}
use Rattle.full_laws.specs.FullParts.{FullPart}
use Rattle.full_laws.specs.FullWorlds.{FullWorld, with_full_part}
use Rattle.full_cluster.specs.declared.divisions.Division.{Division}
use Rattle.full_cluster.specs.declared.machines.FullMachine.{FullMachine}
use Rattle.full_cluster.specs.declared.queues.FullQueues.{FullQueues}
use Rattle.full_cluster.specs.FullClusters.{AreOfWorld, IsReached, IsFullSeat}
use Rattle.full_cluster.specs.FullMachines.{IsMachineOf, IsSameMachine}
use Rattle.full_cluster.specs.Given.{IsDividedAs}
use Rattle.full_cluster.specs.Updating.{IsReadyIfAny, IsUpdatable}
use Rattle.full_cluster.proofs.ClusterLemmas.{at_part, off_part, reached_coherent, reached_more, seat_own, seat_still, world_of_machine}
use Rattle.full_cluster.proofs.EndLemmas.{pred_is}
use Rattle.full_cluster.proofs.ReadyLemmas.{ready_at, updatable}

-- the home after the update of this centre, for which this was gathered, under this ticket
abbrev pub made_full : Setting → FullUpdate → FullWorld → ScopeId → ℕ → (ℕ → Option ℕ) → ℕ → FullPart
made_full st p w s v seen ticket = updated_full st p s.home.0 s v (lent_full seen (w.part s.home.0)) (Go s.home (record { 0 = v }) ticket) (w.part s.home.0)

-- the world after it
abbrev pub world_made : Setting → FullUpdate → FullWorld → ScopeId → ℕ → (ℕ → Option ℕ) → FullWorld
world_made st p w s v seen = record (with_full_part w s.home.0 (made_full st p w s v seen w.next)) { next = suc w.next; left = pred w.left }

made_is : (st : Setting) (p : FullUpdate) (w : FullWorld) (s : ScopeId) (v : ℕ) (seen : ℕ → Option ℕ) → (w.part s.home.0).flight s ≡ Some v → (w.part s.home.0).ready s ≡ Some seen →
    after_action st p w (Updates s) ≡ world_made st p w s v seen
made_is st p w s v seen flight ready = ap₂ (updates_full st p w s) flight ready

-- the update was made
pub updated : (st : Setting) (p : FullUpdate) (w : FullWorld) (machines : List FullMachine) (links : List FullQueues) (next left : ℕ) (m new : FullMachine) (s : ScopeId) → s.home.0 < length machines →
    AreOfWorld st p w machines links next left → IsFullSeat st s.home.0 m (w.part s.home.0) → IsSameMachine m new →
    (may : MayUpdateFull s (w.part s.home.0) left) × IsMachineOf st new (made_full st p w s may.vertex may.seen next) →
    MayUpdateFull s (w.part s.home.0) w.left × AreOfWorld st p (after_action st p w (Updates s)) (slice_set machines s.home.0 new) links (next + 1) (left - 1)
updated st p w machines links next left m new s low are seat still done =
    let may = done.0 in
    let a : ℕ = s.home.0 in
    let drawn = are.drawn in
    let few = are.few in
    let some = may.ticket in
    let may_w : MayUpdateFull s (w.part a) w.left = subst (λ (n : ℕ). MayUpdateFull s (w.part a) n) (sym are.tickets) may in
    let made : FullPart = made_full st p w s may.vertex may.seen w.next in
    let machine : IsMachineOf st new made = subst (λ (n : ℕ). IsMachineOf st new (made_full st p w s may.vertex may.seen n)) (sym drawn) done.1 in
    let also : FullWorld = world_made st p w s may.vertex may.seen in
    let is : after_action st p w (Updates s) ≡ also = made_is st p w s may.vertex may.seen may.flight may.ready in
    let reached : IsReached st p also = subst (λ (x : FullWorld). IsReached st p x) is (reached_more st p w (Updates s) are.reached may_w) in
    let one_more : suc w.next ≡ next + 1 = omega (arith, drawn) in
    let one_less : pred w.left ≡ left - 1 = ap pred are.tickets ∙ pred_is left in (
      may_w,
      subst (λ (x : FullWorld). AreOfWorld st p x (slice_set machines a new) links (next + 1) (left - 1)) (sym is)
          (world_of_machine st p w also machines links next left (next + 1) (left - 1) a new low are reached (off_part w a made) refl one_more one_less (omega (arith, few, some))
          (subst (λ (one : FullPart). IsFullSeat st a new one) (sym (at_part w a made)) (seat_still st a m new (w.part a) made seat still machine))),
    )

-- a scope whose home isn't there is not in flight
pub updates_nothing : (st : Setting) (p : FullUpdate) (w : FullWorld) (machines : List FullMachine) (links : List FullQueues) (next left : ℕ) (s : ScopeId) (many : ℕ) → AreOfWorld st p w machines links next left → st.machines ≤ s.home.0 →
    MayUpdateFull s (w.part s.home.0) many → ⊥
updates_nothing st p w machines links next left s many are past may = none_is (sym ((are.beyond s.home.0 past).flight s) ∙ may.flight) where
  none_is : None ≡ Some may.vertex → ⊥
  none_is is = cc

abbrev machine_of : ℕ → MachineNo
machine_of n = record { 0 = n }

home_is : (h me : MachineNo) → me.0 ≡ h.0 → h ≡ me
home_is h me is = ap machine_of (sym is)

-- the scope's home is the machine
pub at_home : (st : Setting) (s : ScopeId) (m : FullMachine) (part : FullPart) → IsFullSeat st s.home.0 m part → s.home ≡ m.me
at_home st s m part seat = home_is s.home m.me seat.me

-- what the machine's call requires of what the scope names
pub can_update : (st : Setting) (p : FullUpdate) (w : FullWorld) (division : Division) (s : ScopeId) (m : FullMachine) → IsDividedAs st division → IsReached st p w → IsFullSeat st s.home.0 m (w.part s.home.0) → IsUpdatable m s (size division.graph.now)
can_update st p w division s m divided reached seat =
    subst (λ (g : DataGraph). IsUpdatable m s (size g)) divided.graph
    (updatable st p w m s divided.setting (reached_coherent st p w divided.setting reached) (seat_own st w s.home.0 m seat) (at_home st s m (w.part s.home.0) seat))

-- what the machine's call supposes of the scope
pub is_ready : (st : Setting) (p : FullUpdate) (w : FullWorld) (s : ScopeId) (m : FullMachine) → IsSetting st → IsReached st p w → IsFullSeat st s.home.0 m (w.part s.home.0) → IsReadyIfAny st m.me.0 s (w.part s.home.0)
is_ready st p w s m setting reached seat =
    subst (λ (b : ℕ). IsReadyIfAny st b s (w.part s.home.0)) (sym seat.me)
    (λ v seen flight ready. ready_at st p w (reached_coherent st p w setting reached) s v seen flight ready)
