-- What is there for a scope that goes on, and what stays where room is made for it.
use Rattle.std.proofs.Common.{◌≡◌, ℕ, suc, ◌<◌, true, Option, None, Some, List, [], ◌∷◌, length, slice_get, refl, sym, ap, ◌∙◌, subst}
use Rattle.gl_base.specs.declared.numbers.MachineNo.{MachineNo}
use Rattle.gl_base.specs.declared.numbers.Vertex.{Vertex}
use Rattle.gl_base.specs.declared.scopes.Claim.{Claim}
use Rattle.gl_base.specs.declared.scopes.ScopeId.{ScopeId}
use Rattle.scope_locks.specs.scope_pipe.Entered.{EnteredView, next_at, next_of}
use Rattle.scope_locks.specs.scope_pipe.Pipes.{entered_at}
use Rattle.scope_locks.specs.declared.scope_pipe.next.Next.{Next}
use Rattle.scope_locks.specs.vertex_locks.Locks.{LockView, IsNext}
use Rattle.scope_locks.specs.vertex_locks.Tables.{HasGranted, HasTaken, IsTurn, is_owned, holder_at, queue_at}
use Rattle.scope_locks.specs.declared.vertex_locks.turns.Turn.{Turn}
use Rattle.scope_locks.specs.declared.vertex_locks.turns.Turn.TheVariants.{Granted, Waiting}
use Rattle.machine_core.specs.declared.machine_parts.cores.Core.{Core}
use Rattle.machine_core.specs.declared.machine_parts.spare.SpareParts.{SpareParts}
use Rattle.machine_core.specs.machine_parts.Parts.{is_own, part_at, parts_at}
use Rattle.machine_core.specs.machine_parts.Order.{IsGraphInOrder, IsOrderly}
use Rattle.machine_core.specs.machine_parts.Rooms.{HasOnlyMadeRoom}
use Rattle.machine_core.specs.machine_scopes.Asking.{AreMachinesFor}
use Rattle.machine_core.specs.machine_scopes.Inner.Going.{LeadsWithin}

-- ---- what is wanted is here, or at a machine of the cluster

pub within_at : (m : Core) (s : ScopeId) (centre : Vertex) (o : Option Vertex) (rest : List MachineNo) → ((x : Vertex) → o ≡ Some x → is_owned m.locks x.0 ≡ true) → ((b : MachineNo) → slice_get rest 0 ≡ Some b → b.0 < length m.out.machines)
    → s.home.0 < length m.out.machines → LeadsWithin m s (next_at centre o rest)
within_at m s centre (Some x) rest owned machines home = owned x refl
within_at m s centre None (b ∷ rest) owned machines home = machines b refl
within_at m s centre None [] owned machines home = home

-- the first lock of a scope that comes, or the first machine behind this one
pub within_first : (m : Core) (s : ScopeId) (v : Vertex) (part : List Vertex) (rest : List MachineNo) (next : Next) → IsGraphInOrder m.numbers.local (length m.out.machines) → ((x : ℕ) → is_owned m.locks x ≡ is_own m.numbers.local x)
    → AreMachinesFor m s rest → part ≡ part_at m.numbers.local v.0 → next ≡ next_at v (slice_get part 0) rest → LeadsWithin m s next
within_first m s v part rest next graph owned machines listed is = subst (LeadsWithin m s) (sym is)
    (within_at m s v (slice_get part 0) rest
    (λ x at. owned x.0 ∙ graph.own v.0 0 x (ap (λ (p : List Vertex). slice_get p 0) (sym listed) ∙ at))
    (machines.machines 0) machines.home)

-- the next lock of a scope that has come, or the next machine
pub within_next : (m : Core) (s : ScopeId) (e : EnteredView) (next : Next) → IsOrderly m → entered_at m.pipe s ≡ Some e → next ≡ next_of e → LeadsWithin m s next
within_next m s e next is at wants =
    let right = is.entered s e at in
    subst (LeadsWithin m s) (sym wants)
    (within_at m s e.centre (slice_get e.part e.place) e.rest
    (λ x there. is.locks.owned x.0 ∙ is.graph.own e.centre.0 e.place x (ap (λ (p : List Vertex). slice_get p e.place) (sym right.part) ∙ there))
    (right.rest 0) right.home)

-- the machines behind the first of an own vertex's scope
pub rest_machines : (m : Core) (s : ScopeId) (v : ℕ) (a : MachineNo) (rest : List MachineNo) → IsGraphInOrder m.numbers.local (length m.out.machines) → is_own m.numbers.local v ≡ true → s.home.0 < length m.out.machines
    → parts_at m.numbers.local v ≡ a ∷ rest → AreMachinesFor m s rest
rest_machines m s v a rest graph own home parts = record {
  machines = λ i b at. graph.within v (suc i) b own (ap (λ (ps : List MachineNo). slice_get ps (suc i)) parts ∙ at);
  home = home;
}

-- ---- what stays

pub room_spare : (m now : Core) (spare : SpareParts) → HasOnlyMadeRoom (record m { spare = spare }) now → HasOnlyMadeRoom m now
room_spare m now spare room = record { log = room.log; locks = room.locks; out = room.out; rest = room.rest }

pub entered_room : (m now : Core) (s : ScopeId) (o : Option EnteredView) → HasOnlyMadeRoom m now → entered_at m.pipe s ≡ o → entered_at now.pipe s ≡ o
entered_room m now s o room at = ap (λ (n : Core). entered_at n.pipe s) room.rest ∙ at

-- ---- the claim that is granted is the first one

pub taken_is : (old new : List (Option LockView)) (x : ℕ) (turn : Turn) (c : Claim) → IsNext (holder_at old x) (queue_at old x) c → IsTurn (holder_at old x) (queue_at old x) turn → HasGranted old new x turn → HasTaken old new x c
taken_is old new x (Granted d) c next turn has =
    let same : d ∷ turn.behind ≡ c ∷ next.behind = sym turn.first ∙ next.first in
    let one : d ≡ c = cc in
    subst (HasTaken old new x) one has
taken_is old new x Waiting c next turn has = absurd (turn c next)
