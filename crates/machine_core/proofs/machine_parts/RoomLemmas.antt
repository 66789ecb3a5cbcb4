-- A machine of which only room has changed.
use Rattle.std.proofs.Common.{◌≡◌, ℕ, ◌≤◌, Bool, Option, List, length, map, is_some, refl, sym, ap, ◌∙◌, subst, All}
use Rattle.gl_base.specs.declared.scopes.Peer.TheVariants.{Machine}
use Rattle.gl_base.specs.declared.scopes.ScopeId.{ScopeId}
use Rattle.scope_locks.specs.vertex_locks.Locks.{LockView}
use Rattle.partition.specs.declared.machine_numbers.keeping.Numbers.{Numbers}
use Rattle.machine_core.specs.declared.machine_parts.cores.Core.{Core}
use Rattle.machine_core.specs.machine_parts.Parts.{LocalView, PipeView, part_of, message_of}
use Rattle.machine_core.specs.machine_parts.Settings.{IsPartOf, SameSettings}
use Rattle.machine_core.specs.machine_parts.Order.{IsGraphInOrder, AreNumbersInOrder, HasComeRight, StandsAtLock, AreLocksInOrder, IsOrderlyBut}
use Rattle.machine_core.specs.machine_parts.Rooms.{HaveSameClaims, HasOnlyMadeRoom}

pub part_room : (old new : Core) → HasOnlyMadeRoom old new → part_of new ≡ part_of old
part_room old new room =
    ap part_of room.rest
    ∙ (λ i.
    record (part_of old) {
      log = room.log i;
      holder = λ x s. room.locks.holder x s i;
      queue = λ x. room.locks.queue x i;
      out = λ q. map message_of (room.out.messages (Machine (record { 0 = q })) i);
    })

pub settings_room : (old new : Core) → HasOnlyMadeRoom old new → SameSettings old new
settings_room old new room = λ st is. subst (IsPartOf st) (sym room.rest)
    (record {
      local = is.local;
      machines = room.out.machines ∙ is.machines;
      engine = is.engine;
      pipeline = is.pipeline;
      base = is.base;
      window = is.window;
    })

-- ---- the machine in order

-- the locks of a machine have the same claims
pub locks_same : (locking : Bool) (local : LocalView) (old new : List (Option LockView)) (pipe : PipeView) (moving : ScopeId → Bool) → HaveSameClaims old new → AreLocksInOrder locking local old pipe moving → AreLocksInOrder locking local new pipe moving
locks_same locking local old new pipe moving same are = record {
  owned = λ x. same.owned x ∙ are.owned x;
  queues = λ x. subst (All (StandsAtLock pipe moving x)) (sym (same.queue x)) (are.queues x);
  holds = λ s e j y come at. ap is_some (same.holder y.0 s) ∙ are.holds s e j y come at;
  only = λ s c x flies holds. are.only s c x flies (sym (ap is_some (same.holder x s)) ∙ holds);
  ready = λ takes s c x flies is_ready one. ap is_some (same.holder x s) ∙ are.ready takes s c x flies is_ready one;
  admitted = λ s x home holds. are.admitted s x home (sym (ap is_some (same.holder x s)) ∙ holds);
}

-- the log of a machine has the same entries
pub numbers_same : (n new : Numbers) (base : ℕ) → new ≡ record n { log = new.log } → new.log.items ≡ n.log.items → AreNumbersInOrder n base → AreNumbersInOrder new base
numbers_same n new base rest same are = subst (λ (m : Numbers). AreNumbersInOrder m base) (sym rest)
    (record {
      tasks = are.tasks;
      sides = are.sides;
      ghosts = are.ghosts;
      marks = are.marks;
      outside = subst (λ (k : ℕ). n.tasks.outside ≤ k) (sym (ap length same)) are.outside;
    })

pub orderly_room : (moving : ScopeId → Bool) (old new : Core) → HasOnlyMadeRoom old new → IsOrderlyBut moving old → IsOrderlyBut moving new
orderly_room moving old new room is = subst (IsOrderlyBut moving) (sym room.rest)
    (record {
      graph = subst (IsGraphInOrder old.numbers.local) (sym room.out.machines) is.graph;
      numbers = numbers_same old.numbers (record old.numbers { log = new.numbers.log }) old.terms.base refl room.log is.numbers;
      entered = λ s e come. subst (λ (k : ℕ). HasComeRight old.numbers.local old.pipe k (moving s) s e) (sym room.out.machines) (is.entered s e come);
      locks = locks_same old.terms.locks old.numbers.local old.locks new.locks old.pipe moving room.locks is.locks;
      flights = record {
        home = is.flights.home;
        given = is.flights.given;
        own = is.flights.own;
        single = is.flights.single;
        admitted = is.flights.admitted;
        flies = is.flights.flies;
        rows = is.flights.rows;
      };
      width = is.width;
    })
