-- A scope that is moving on takes a lock that nobody claims.
use Rattle.std.proofs.Common.{Result, Ok, Err, OnOk, is_err, ◌≡◌, ◌≢◌, ℕ, suc, ◌<◌, ◌-◌, ◌++◌, Bool, true, false, true≢false, if◌then◌else◌, Option, None, Some, is_some, List, [], ◌∷◌, slice_get, refl, sym, ap, ◌∙◌, subst, arith}
use Rattle.std.proofs.lemmas.Bool.{eq-eqb, ne_eqb}
use Rattle.std.proofs.lemmas.Option.{none-some, same_Some}
use Rattle.gl_base.specs.declared.numbers.Vertex.{Vertex}
use Rattle.gl_base.specs.declared.scopes.Claim.{Claim}
use Rattle.gl_base.specs.declared.scopes.Mode.{Mode}
use Rattle.gl_base.specs.declared.scopes.ScopeId.{ScopeId}
use Rattle.cluster_laws.specs.cluster_core.Effects.{asks_for}
use Rattle.cluster_laws.specs.cluster_core.Parts.{Part}
use Rattle.cluster_laws.specs.interior_scopes.InTurn.{AreGranted}
use Rattle.cluster_laws.proofs.interior_scopes.InTurn.{granted_more}
use Rattle.scope_locks.specs.scope_pipe.Entered.{EnteredView, moved_on, next_of}
use Rattle.scope_locks.specs.scope_pipe.Pipes.{PipeView, HasCome, entered_at}
use Rattle.scope_locks.specs.declared.scope_pipe.next.Next.{Next}
use Rattle.scope_locks.specs.declared.scope_pipe.next.Next.TheVariants.{Lock, Forward, Home}
use Rattle.scope_locks.specs.vertex_locks.Locks.{LockView, IsNext, WaitOnce}
use Rattle.scope_locks.specs.vertex_locks.Tables.{HasTakenFree, asked_at, holder_at, is_owned, queue_at, room_at}
use Rattle.partition.specs.declared.machine_numbers.keeping.Numbers.{Numbers}
use Rattle.machine_core.specs.declared.machine_parts.cores.Core.{Core}
use Rattle.machine_core.specs.machine_parts.Parts.{part_of, machine_numbers, number_of}
use Rattle.machine_core.specs.machine_parts.Order.{IsOrderly, IsOrderlyBut}
use Rattle.machine_core.specs.machine_parts.Rooms.{HasOnlyMadeRoom}
use Rattle.machine_core.specs.machine_parts.Settings.{Setting, IsPartOf, SameSettings}
use Rattle.machine_core.proofs.machine_parts.RoomLemmas.{orderly_room, part_room, settings_room}
use Rattle.machine_core.specs.machine_scopes.Granting.{HasGrantedInTurn, HasGrantedLock, MayGrantLock}
use Rattle.machine_core.specs.machine_scopes.Inner.Going.{HasGoneOn, HasNextRoom, LeadsWithin, Wants}
use Rattle.machine_core.specs.machine_scopes.Inner.Taking.{HasTakenOn}
use Rattle.machine_core.proofs.machine_scopes.EffectLemmas.{moved_place}
use Rattle.machine_core.proofs.machine_scopes.GrantLemmas.{lock_granted, may_grant, orderly_taken}
use Rattle.machine_core.proofs.machine_scopes.MoveLemmas.{entered_here, is_this, orderly_asked}
use Rattle.machine_core.proofs.machine_scopes.RoomForNext.{entered_room, within_at}
use Rattle.machine_core.proofs.machine_scopes.WantLemmas.{IsLockNext, lock_next, lock_went}

-- ---- what is behind the next lock

pub within_ahead : (m : Core) (s : ScopeId) (e : EnteredView) (next : Next) → IsOrderlyBut (is_this s) m → entered_at m.pipe s ≡ Some e → next ≡ next_of (moved_on e) → LeadsWithin m s next
within_ahead m s e next is at wants =
    let right = is.entered s e at in
    let place = (moved_on e).place in
    subst (LeadsWithin m s) (sym wants)
    (within_at m s e.centre (slice_get e.part place) e.rest
    (λ x there. is.locks.owned x.0 ∙ is.graph.own e.centre.0 place x (ap (λ (p : List Vertex). slice_get p place) (sym right.part) ∙ there))
    (right.rest 0) right.home)

-- ---- nothing is taken

gone_room : (m now final : Core) (s : ScopeId) → HasOnlyMadeRoom m now → HasGoneOn now final s → HasGoneOn m final s
gone_room m now final s room gone e at =
    gone e (entered_room m now s (Some e) room at)
    ∙ (λ i. asks_for (room.rest i).numbers.local.me.0 s e.centre.0 (machine_numbers e.rest) (number_of (slice_get e.part e.place)) (part_room m now room i))

pub none_taken : (m now : Core) (s : ScopeId) → HasOnlyMadeRoom m now → HasTakenOn m now s
none_taken m now s room = ([], λ final gone. record { first = final; went = gone_room m now final s room gone; granted = λ st part. refl })

pub nothing_taken : (m : Core) (s : ScopeId) → HasTakenOn m m s
nothing_taken m s = ([], λ final gone. record { first = final; went = gone; granted = λ st part. refl })

-- what is so of the machine is so where its locks are written as they were
pub locks_same : (P : Core → Type 0) (now : Core) (locks : List (Option LockView)) → locks ≡ now.locks → P now → P (record now { locks = locks })
locks_same P now locks same is = subst (λ (l : List (Option LockView)). P (record now { locks = l })) (sym same) is

pub wants_room : (m now : Core) (s : ScopeId) (next : Next) → HasOnlyMadeRoom m now → Wants m s next → Wants now s next
wants_room m now s next room wants e there = wants e (ap (λ (n : Core). entered_at n.pipe s) (sym room.rest) ∙ there)

pub ok_then : {T E : Type 0} (r : Result T E) (P : Type 0) → is_err r ≡ false → OnOk r P → P
ok_then (Ok x) P is holds = holds
ok_then (Err e) P is holds = absurd (true≢false is)

-- ---- one more is taken

pub taken_more : (m between now : Core) (s : ScopeId) → between.numbers ≡ m.numbers → SameSettings m between → HasTakenOn m between s → HasTakenOn between now s → HasTakenOn m now s
taken_more m between now s numbers settings one other = (
  one.0 ++ other.0,
  λ final gone.
      let last = other.1 final gone in
      let early = one.1 last.first last.went in
      record {
        first = early.first;
        went = early.went;
        granted = λ st part. granted_more st m.numbers.local.me.0 one.0 other.0 (part_of early.first) (part_of last.first) (part_of final) (early.granted st part)
            (subst (λ (n : Numbers). AreGranted st n.local.me.0 other.0 (part_of last.first) (part_of final)) numbers (last.granted st (settings st part)));
      },
)

module _ (m now : Core) (s : ScopeId) (y : Vertex) (mode : Mode) (is : IsOrderlyBut (is_this s) m) (room : HasOnlyMadeRoom m now) (e : EnteredView) (at : entered_at m.pipe s ≡ Some e) (wants : Wants m s (Lock y mode)) (pipe : PipeView) (locks : List (Option LockView)) (come : (f : EnteredView) → entered_at now.pipe s ≡ Some f → HasCome now.pipe pipe s (Some (moved_on f))) (kept : pipe ≡ record now.pipe { entered = pipe.entered }) (taken : HasTakenFree now.locks locks y.0 (record { scope = s; mode = mode })) where
  abbrev claim : Claim
  claim = record { scope = s; mode = mode }

  -- the machine once the scope has asked for the lock
  abbrev asked : Core
  asked = record now { pipe = pipe; locks = asked_at now.locks y.0 claim }

  here : entered_at now.pipe s ≡ Some e
  here = entered_room m now s (Some e) room at

  next : IsLockNext e y mode
  next = lock_next e y mode (wants e at)

  is_now : IsOrderlyBut (is_this s) now
  is_now = orderly_room (is_this s) m now room is

  is_asked : IsOrderly asked
  is_asked = orderly_asked now s e y is_now here next.at pipe asked.locks mode (come e here) kept taken.asked

  went_asked : HasGoneOn now asked s
  went_asked = lock_went now pipe asked.locks s y mode (wants_room m now s (Lock y mode) room wants) come kept taken.asked

  queue_is : queue_at asked.locks y.0 ≡ claim ∷ []
  queue_is =
      taken.asked.queue y.0 ∙ ap (λ (b : Bool). if b then queue_at now.locks y.0 ++ claim ∷ [] else queue_at now.locks y.0) (eq-eqb y.0 y.0 refl)
      ∙ ap (λ (q : List Claim). q ++ claim ∷ []) taken.free.none_waits

  unheld : (t : ScopeId) → holder_at asked.locks y.0 t ≡ None
  unheld t = taken.asked.holder y.0 t ∙ taken.free.unheld t

  first : IsNext (holder_at asked.locks y.0) (queue_at asked.locks y.0) claim
  first = record { behind = []; first = queue_is; together = λ t k holds. absurd (none-some k (sym (unheld t) ∙ holds)) }

  once : WaitOnce (holder_at asked.locks y.0) (queue_at asked.locks y.0)
  once = subst (WaitOnce (holder_at asked.locks y.0)) (sym queue_is) (record { once = λ i j d before late. absurd (omega (arith, before, late)); hold_not = (unheld s, tt) })

  stands : entered_at pipe s ≡ Some (moved_on e)
  stands = entered_here now.pipe pipe s (Some (moved_on e)) (come e here)

  owned : is_owned asked.locks y.0 ≡ true
  owned =
      taken.asked.owned y.0 ∙ is_now.locks.owned y.0
      ∙ is_now.graph.own e.centre.0 e.place y (ap (λ (p : List Vertex). slice_get p e.place) (sym (is_now.entered s e here).part) ∙ next.at)

  part_asked : (st : Setting) → IsPartOf st m → IsPartOf st asked
  part_asked st part =
      let was = settings_room m now room st part in
      record { local = was.local; machines = was.machines; engine = was.engine; pipeline = was.pipeline; base = was.base; window = was.window }

  -- the machine once it has the lock
  abbrev pub then_core : Core
  then_core = record now { pipe = pipe; locks = locks }

  pub orderly_then : IsOrderlyBut (is_this s) then_core
  orderly_then = orderly_taken asked y.0 claim is_asked first (moved_on e) stands locks once taken.taken

  pub come_then : is_some (entered_at pipe s) ≡ true
  come_then = ap is_some stands

  pub wants_then : (after : Next) → ((f : EnteredView) → entered_at m.pipe s ≡ Some f → after ≡ next_of (moved_on f)) → Wants then_core s after
  wants_then after looked f there = looked e at ∙ ap next_of (same_Some (moved_on e) f (sym stands ∙ there))

  pub settings_then : SameSettings m then_core
  settings_then st part =
      let was = settings_room m now room st part in
      record { local = was.local; machines = was.machines; engine = was.engine; pipeline = was.pipeline; base = was.base; window = was.window }

  -- the next vertex is another one
  later : (z : Vertex) (k : Mode) → Lock z k ≡ next_of (moved_on e) → z.0 ≢ y.0
  later z k is_next same =
      let part = (is_now.entered s e here).part in
      let there : slice_get e.part (suc e.place) ≡ Some z = ap (slice_get e.part) (sym (moved_place e y next.at)) ∙ (lock_next (moved_on e) z k is_next).at in
      let less = is_now.graph.ascend e.centre.0 e.place (suc e.place) y z (ap (λ (p : List Vertex). slice_get p e.place) (sym part) ∙ next.at) (ap (λ (p : List Vertex). slice_get p (suc e.place)) (sym part) ∙ there) (omega arith) in
      absurd (omega (arith, less, same))

  pub room_then : (after : Next) → after ≡ next_of (moved_on e) → HasNextRoom now s after → HasNextRoom then_core s after
  room_then (Lock z k) is_next has =
      let same : room_at locks z.0 ≡ room_at now.locks z.0 =
      taken.taken.room z.0 ∙ taken.asked.room z.0 ∙ ap (λ (b : Bool). if b then room_at now.locks y.0 - 1 else room_at now.locks z.0) (ne_eqb z.0 y.0 (later z k is_next)) in
      subst (λ (r : ℕ). 0 < r) (sym same) has
  room_then (Forward b) is_next has = has
  room_then Home is_next has = has

  pub taken_then : HasTakenOn m then_core s
  taken_then = (
    y.0 ∷ [],
    λ final gone. record {
      first = asked;
      went = gone_room m now asked s room went_asked;
      granted = λ st part.
          let there = part_asked st part in
          subst (λ (a : ℕ). AreGranted st a (y.0 ∷ []) (part_of asked) (part_of final)) (ap (λ (n : Core). n.numbers.local.me.0) room.rest)
          (may_grant asked y.0 is_asked (record { owned = owned; claim = claim; next = first }) st there, lock_granted asked y.0 claim is_asked first (moved_on e) stands locks final taken.taken gone st there);
    },
  )

-- ---- the first lock was granted before

pub granted_in_turn : (m now first final : Core) (x : ℕ) (locks : List (Option LockView)) (more : List ℕ) → HasOnlyMadeRoom m now → MayGrantLock m x → HasGrantedLock m first x
    → ((st : Setting) → IsPartOf st (record now { locks = locks }) → AreGranted st now.numbers.local.me.0 more (part_of first) (part_of final)) → HasGrantedInTurn m final x
granted_in_turn m now first final x locks more room may one others = (
  more,
  λ st part.
      let was = settings_room m now room st part in
      let there : IsPartOf st (record now { locks = locks }) = record { local = was.local; machines = was.machines; engine = was.engine; pipeline = was.pipeline; base = was.base; window = was.window } in (
        may st part,
        subst (λ (p : Part). AreGranted st m.numbers.local.me.0 more p (part_of final)) (one st part)
            (subst (λ (a : ℕ). AreGranted st a more (part_of first) (part_of final)) (ap (λ (n : Core). n.numbers.local.me.0) room.rest) (others st there)),
      ),
)
