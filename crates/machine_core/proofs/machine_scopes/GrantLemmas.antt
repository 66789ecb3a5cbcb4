-- A lock that is granted, at the machine and as the cluster sees it.
use Rattle.std.proofs.Common.{Result, Ok, Err, OnErr, ◌≡◌, ◌≢◌, ℕ, suc, pred, ◌<◌, Bool, true, false, if◌then◌else◌, Option, None, Some, is_some, IfNone, IfSome, MatchOption, List, ◌∷◌, length, drop, get_or, slice_get, nat_lt, refl, sym, ap, ◌∙◌, subst, All, arith, inl, inr}
use Rattle.std.specs.List.{AllPairs}
use Rattle.std.proofs.lemmas.Bool.{cases_eq, cases_lt, eq-eqb, ne_eqb, lt-ltb, le-ltb}
use Rattle.std.proofs.lemmas.List.Elements.{All-tail}
use Rattle.std.proofs.lemmas.Option.{same_Some}
use Rattle.gl_base.specs.declared.numbers.MachineNo.{MachineNo}
use Rattle.gl_base.specs.declared.numbers.Vertex.{Vertex}
use Rattle.gl_base.specs.declared.scopes.Claim.{Claim}
use Rattle.gl_base.specs.declared.scopes.Mode.{Mode}
use Rattle.gl_base.specs.declared.scopes.ScopeId.{ScopeId}
use Rattle.gl_base.specs.scope_lists.Scopes.{is_scope}
use Rattle.gl_base.specs.scope_lists.Found.{AreOfTwoScopes}
use Rattle.gl_base.proofs.scope_lists.SameScope.{same_scope, scope_turned, one_or_two}
use Rattle.cluster_laws.specs.cluster_core.Effects.{asks_for, first_granted, granted, moves_on, takes_lock}
use Rattle.cluster_laws.specs.cluster_core.Parts.{Stand}
use Rattle.cluster_laws.specs.cluster_core.Scopes.{own_from}
use Rattle.machine_core.specs.lock_release.Released.{is_one_of}
use Rattle.scope_locks.specs.scope_pipe.Entered.{EnteredView}
use Rattle.scope_locks.specs.scope_pipe.Pipes.{PipeView, entered_at, flight_at}
use Rattle.scope_locks.specs.vertex_locks.Locks.{LockView, IsNext, WaitOnce, claimant}
use Rattle.scope_locks.specs.vertex_locks.Tables.{HasTaken, IsGrantable, holder_at, queue_at}
use Rattle.machine_core.specs.declared.machine_parts.cores.Core.{Core}
use Rattle.machine_core.specs.machine_parts.Parts.{part_of, part_at, stand_at, lock_asked, machine_numbers, number_of}
use Rattle.machine_core.specs.machine_parts.Order.{HasComeRight, StandsAtLock, IsOrderly, IsOrderlyBut, got, nobody}
use Rattle.machine_core.specs.machine_parts.Rooms.{HasOnlyMadeRoom}
use Rattle.machine_core.proofs.machine_parts.RoomLemmas.{part_room, settings_room}
use Rattle.machine_core.specs.machine_scopes.Granting.{MayGrantLock, MayNotGrantLock, HasGrantedLock}
use Rattle.machine_core.specs.machine_scopes.Inner.Going.{HasGoneOn}
use Rattle.machine_core.proofs.machine_scopes.EffectLemmas.{taken_part}
use Rattle.machine_core.proofs.machine_scopes.MoveLemmas.{is_this, stands_keep}
use Rattle.machine_core.proofs.machine_scopes.OwnLemmas.{next_own}
use Rattle.machine_core.proofs.machine_scopes.HeldLemmas.{one_of, last_is, first_stands, own_in, own_from_setting, holds_here, holds_there, holds_as, holds_still, held_or}

-- ---- the machine once the lock is granted

-- claims of one scope stand at one lock
apart_from : (pipe : PipeView) (x z : ℕ) (c d : Claim) (e : EnteredView) → entered_at pipe c.scope ≡ Some e → lock_asked e ≡ Some (record { 0 = x }) → z ≢ x → StandsAtLock pipe nobody z d → is_scope d.scope c.scope ≡ false
apart_from pipe x z c d e at asked other stands = elim (one_or_two d.scope c.scope) [
  | inl same ↦
      let both : Some (record { 0 = z }) ≡ Some (record { 0 = x }) = sym (stands.asked e (ap (entered_at pipe) same ∙ at)) ∙ asked in
      absurd (other (ap number (same_Some (record { 0 = z }) (record { 0 = x }) both)))
  | inr apart ↦ apart
]
  where
    number : Vertex → ℕ
    number v = v.0

-- those behind the first are of other scopes
behind_apart : (queue behind : List Claim) (c : Claim) → queue ≡ c ∷ behind → AllPairs (AreOfTwoScopes claimant) queue → (k : ℕ) (d : Claim) → k < length behind → is_scope (get_or behind k d).scope c.scope ≡ false
behind_apart queue behind c is apart k d low =
    let whole = subst (AllPairs (AreOfTwoScopes claimant)) is apart in
    scope_turned (get_or behind k d).scope c.scope ∙ whole 0 (suc k) d (omega arith) (omega arith)

nat_lt_suc : (j i : ℕ) → j ≢ i → nat_lt j i ≡ nat_lt j (suc i)
nat_lt_suc j i other = elim (cases_lt j i) [
  | inl before ↦ lt-ltb j i before ∙ sym (lt-ltb j (suc i) (omega arith))
  | inr after ↦ le-ltb j i after ∙ sym (le-ltb j (suc i) (omega (arith, other)))
]

module _ (m : Core) (x : ℕ) (c : Claim) (is : IsOrderly m) (first : IsNext (holder_at m.locks x) (queue_at m.locks x) c) (e : EnteredView) (at : entered_at m.pipe c.scope ≡ Some e) where
  stood : StandsAtLock m.pipe nobody x c
  stood = first_stands m x c is first

  asked : lock_asked e ≡ Some (record { 0 = x })
  asked = stood.asked e at

  was : HasComeRight m.numbers.local m.pipe (length m.out.machines) false c.scope e
  was = is.entered c.scope e at

  -- where it stands among its vertices
  pub stands_before : (i : ℕ) × (e.place ≡ suc i) × (slice_get e.part i ≡ Some (record { 0 = x }))
  stands_before = last_is e.part e.place (record { 0 = x }) asked

  -- no two of its vertices are one
  alone : (j : ℕ) (z : Vertex) → slice_get e.part j ≡ Some z → z.0 ≡ x → j ≡ stands_before.0
  alone j z there same =
      let i = stands_before.0 in
      let here : slice_get (part_at m.numbers.local e.centre.0) i ≡ Some (record { 0 = x }) = ap (λ (p : List Vertex). slice_get p i) (sym was.part) ∙ stands_before.2 in
      let also : slice_get (part_at m.numbers.local e.centre.0) j ≡ Some z = ap (λ (p : List Vertex). slice_get p j) (sym was.part) ∙ there in
      elim (cases_lt j i) [
        | inl before ↦ let less = is.graph.ascend e.centre.0 j i z (record { 0 = x }) also here before in absurd (omega (arith, less, same))
        | inr after ↦ elim (cases_lt i j) [
          | inl behind ↦ let less = is.graph.ascend e.centre.0 i j (record { 0 = x }) z here also behind in absurd (omega (arith, less, same))
          | inr last ↦ omega arith
        ]
      ]

  pub orderly_taken : (locks : List (Option LockView)) → WaitOnce (holder_at m.locks x) (queue_at m.locks x) → HasTaken m.locks locks x c → IsOrderlyBut (is_this c.scope) (record m { locks = locks })
  orderly_taken locks once taken =
      let i = stands_before.0 in
      let behind = first.behind in
      let moved : (z : ℕ) (d : Claim) → is_scope d.scope c.scope ≡ false → StandsAtLock m.pipe nobody z d → StandsAtLock m.pipe (is_this c.scope) z d =
      λ z d other stands. stands_keep m.pipe m.pipe nobody (is_this c.scope) z d refl other stands in
      record {
        graph = is.graph;
        numbers = is.numbers;
        entered = λ t f come.
            let right = is.entered t f come in
            record { part = right.part; place = right.place; rest = right.rest; home = right.home; stands = λ waits. right.stands refl; flight = right.flight; waits = right.waits };
        locks = record {
          owned = λ z. taken.owned z ∙ is.locks.owned z;
          queues = λ z. elim (cases_eq z x) [
            | inl same ↦
                subst (λ (w : ℕ). All (StandsAtLock m.pipe (is_this c.scope) w) (queue_at locks w)) (sym same)
                (subst (All (StandsAtLock m.pipe (is_this c.scope) x)) (sym (taken.queue x ∙ ap (λ (b : Bool). if b then drop 1 (queue_at m.locks x) else queue_at m.locks x) (eq-eqb x x refl) ∙ ap (drop 1) first.first))
                (λ k d low. moved x (get_or behind k d) (behind_apart (queue_at m.locks x) behind c first.first once.once k d low)
                (All-tail (StandsAtLock m.pipe nobody x) c behind (subst (All (StandsAtLock m.pipe nobody x)) first.first (is.locks.queues x)) k d low)))
            | inr other ↦
                subst (All (StandsAtLock m.pipe (is_this c.scope) z)) (sym (taken.queue z ∙ ap (λ (b : Bool). if b then drop 1 (queue_at m.locks x) else queue_at m.locks z) (ne_eqb z x other)))
                (λ k d low.
                let stands = is.locks.queues z k d low in
                moved z (get_or (queue_at m.locks z) k d) (apart_from m.pipe x z c (get_or (queue_at m.locks z) k d) e at asked other stands) stands)
          ];
          holds = λ t f j z come there. elim (one_or_two t c.scope) [
            | inl same ↦
                let one : e ≡ f = same_Some e f (sym at ∙ ap (entered_at m.pipe) (sym same) ∙ come) in
                let part : slice_get e.part j ≡ Some z = ap (λ (g : EnteredView). slice_get g.part j) one ∙ there in
                let right : nat_lt j (suc i) ≡ nat_lt j (got (is_scope t c.scope) f.place) =
                ap (nat_lt j) (sym stands_before.1 ∙ ap (λ (g : EnteredView). g.place) one) ∙ sym (ap (λ (b : Bool). nat_lt j (got b f.place)) (ap (λ (u : ScopeId). is_scope u c.scope) same ∙ same_scope c.scope)) in
                elim (cases_eq z.0 x) [
                  | inl here ↦ holds_here m.locks locks x c taken z.0 t here same ∙ sym (lt-ltb j (suc i) (let k = alone j z part here in omega arith)) ∙ right
                  | inr away ↦
                      let held = is.locks.holds c.scope e j z at part in
                      ap is_some (holds_there m.locks locks x c taken z.0 t away ∙ ap (holder_at m.locks z.0) same) ∙ held ∙ ap (λ (k : ℕ). nat_lt j (pred k)) stands_before.1
                      ∙ nat_lt_suc j i (λ (last : j ≡ i). away (ap (λ (v : Vertex). v.0) (same_Some z (record { 0 = x }) (sym part ∙ ap (slice_get e.part) last ∙ stands_before.2)))) ∙ right
                ]
            | inr other ↦ ap is_some (holds_as m.locks locks x c taken z.0 t other) ∙ is.locks.holds t f j z come there ∙ sym (ap (λ (b : Bool). nat_lt j (got b f.place)) other)
          ];
          only = λ t d z flies holds. elim (held_or m.locks locks x c taken z t holds) [
            | inl held ↦ is.locks.only t d z flies held
            | inr one ↦
                let flown : flight_at m.pipe c.scope ≡ Some d = ap (flight_at m.pipe) (sym one.1) ∙ flies in
                let home = ap (λ (a : MachineNo). a.0) (is.flights.given c.scope d flown).0 in
                let centre : e.centre ≡ d = same_Some e.centre d (sym (was.flight home) ∙ flown) in
                subst (λ (w : ℕ). is_one_of (part_at m.numbers.local d.0) w ≡ true) (sym one.0)
                (subst (λ (v : Vertex). is_one_of (part_at m.numbers.local v.0) x ≡ true) centre
                (subst (λ (p : List Vertex). is_one_of p x ≡ true) was.part (one_of e.part i (record { 0 = x }) stands_before.2)))
          ];
          ready = λ takes t d z flies readied one. holds_still m.locks locks x c taken z t (is.locks.ready takes t d z flies readied one);
          admitted = λ t z home holds. elim (held_or m.locks locks x c taken z t holds) [
            | inl held ↦ is.locks.admitted t z home held
            | inr one ↦
                let at_home : c.scope.home.0 ≡ m.pipe.home.0 = ap (λ (u : ScopeId). u.home.0) (sym one.1) ∙ home in
                subst (λ (u : ScopeId). u.serial < m.pipe.serial) (sym one.1) (is.flights.given c.scope e.centre (was.flight at_home)).1
          ];
        };
        flights = is.flights;
        width = is.width;
      }

  -- ---- as the cluster sees it

  pub lock_granted : (locks : List (Option LockView)) (new : Core) → HasTaken m.locks locks x c → HasGoneOn (record m { locks = locks }) new c.scope → HasGrantedLock m new x
  lock_granted locks new taken gone st part =
      let a = m.numbers.local.me.0 in
      let behind = first.behind in
      let rest = machine_numbers e.rest in
      let stand : Stand = record { centre = e.centre.0; lock = x; rest = rest } in
      let there : (part_of m).stand c.scope ≡ Some stand = ap stand_at at ∙ ap (standing e.centre.0 rest) asked in
      let own : own_from st e.centre.0 a (suc x) ≡ number_of (slice_get e.part e.place) =
      next_own st m.numbers.local e.centre.0 stands_before.0 (record { 0 = x }) part.local (ap (λ (p : List Vertex). slice_get p stands_before.0) (sym was.part) ∙ stands_before.2)
      ∙ ap number_of (ap (λ (p : List Vertex). slice_get p (suc stands_before.0)) (sym was.part) ∙ ap (slice_get e.part) (sym stands_before.1)) in
      gone e at ∙ ap (asks_for a c.scope e.centre.0 rest (number_of (slice_get e.part e.place))) (taken_part m locks x c behind first.first taken)
      ∙ sym (ap (λ (o : Option ℕ). asks_for a c.scope e.centre.0 rest o (takes_lock x c behind (part_of m))) own)
      ∙ sym (ap (λ (o : Option Stand). moves_on st a x c o (takes_lock x c behind (part_of m))) there)
      ∙ sym (ap (λ (q : List Claim). first_granted st a x q (part_of m)) first.first)
    where
      standing : ℕ → List ℕ → Option Vertex → Option Stand
      standing v rest None = None
      standing v rest (Some y) = Some (record { centre = v; lock = y.0; rest = rest })

-- ---- when it may not be granted

pub may_not_grant : (m : Core) (x : ℕ) → ((c : Claim) → IsNext (holder_at m.locks x) (queue_at m.locks x) c → ⊥) → MayNotGrantLock m x
may_not_grant m x none st part may = none may.claim (record { behind = may.behind; first = may.first; together = may.together })

pub may_grant : (m : Core) (x : ℕ) → IsOrderly m → IsGrantable m.locks x → MayGrantLock m x
may_grant m x is can st part =
    let own = own_in st m.numbers.local x part.local (sym (is.locks.owned x) ∙ can.owned) in
    record { vertex = own.0; owned = own.1; claim = can.claim; behind = can.next.behind; first = can.next.first; together = can.next.together }

pub may_grant_none : (m : Core) → IsOrderly m → ((x : ℕ) → IsGrantable m.locks x → ⊥) → (x : ℕ) → MayNotGrantLock m x
may_grant_none m is none x st part may = none x (record {
  owned = is.locks.owned x ∙ own_from_setting st m.numbers.local x part.local may.vertex may.owned;
  claim = may.claim;
  next = record { behind = may.behind; first = may.first; together = may.together };
})

-- what the table of locks answers is so of the machine
pub next_some : (m : Core) (o : Option Vertex) → IsOrderly m → MatchOption o ((x : ℕ) → IsGrantable m.locks x → ⊥) (λ x. IsGrantable m.locks x.0) → IfSome o (λ x. MayGrantLock m x.0)
next_some m None is next = tt
next_some m (Some x) is next = may_grant m x.0 is next

pub next_none : (m : Core) (o : Option Vertex) → IsOrderly m → MatchOption o ((x : ℕ) → IsGrantable m.locks x → ⊥) (λ x. IsGrantable m.locks x.0) → IfNone o ((x : ℕ) → MayNotGrantLock m x)
next_none m None is next = may_grant_none m is next
next_none m (Some x) is next = tt

-- ---- where room was made before

pub granted_room : (m now new : Core) (x : ℕ) → HasOnlyMadeRoom m now → HasGrantedLock now new x → HasGrantedLock m new x
granted_room m now new x room has st part =
    has st (settings_room m now room st part) ∙ (λ i. granted st (room.rest i).numbers.local.me.0 x (part_room m now room i))

pub next_room : (m now : Core) (x : ℕ) (c : Claim) → HasOnlyMadeRoom m now → IsNext (holder_at m.locks x) (queue_at m.locks x) c → IsNext (holder_at now.locks x) (queue_at now.locks x) c
next_room m now x c room first = record {
  behind = first.behind;
  first = room.locks.queue x ∙ first.first;
  together = λ s mode holds. first.together s mode (sym (room.locks.holder x s) ∙ holds);
}

pub once_room : (m now : Core) (x : ℕ) → HasOnlyMadeRoom m now → WaitOnce (holder_at m.locks x) (queue_at m.locks x) → WaitOnce (holder_at now.locks x) (queue_at now.locks x)
once_room m now x room once =
    subst (λ (h : ScopeId → Option Mode). WaitOnce h (queue_at now.locks x)) (λ i s. (sym (room.locks.holder x s)) i) (subst (WaitOnce (holder_at m.locks x)) (sym (room.locks.queue x)) once)

-- ---- answers

pub on_err : {T E : Type 0} (r : Result T E) (P Q : Type 0) → (P → Q) → OnErr r P → OnErr r Q
on_err (Ok x) P Q so there = there
on_err (Err e) P Q so there = so there
