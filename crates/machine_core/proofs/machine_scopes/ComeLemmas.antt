-- A scope that comes to a machine, and one that becomes ready.
use Rattle.std.proofs.Common.{◌≡◌, ◌≢◌, ℕ, ◌<◌, pred, Bool, true, false, if◌then◌else◌, Option, None, Some, is_some, List, length, get_or, slice_get, nat_lt, refl, sym, ap, ◌∙◌, subst, ⊎_elim, arith, inl, inr, true≢false}
use Rattle.std.proofs.lemmas.Bool.{cases_Bool, le-ltb}
use Rattle.std.proofs.lemmas.Option.{same_Some}
use Rattle.gl_base.specs.declared.numbers.MachineNo.{MachineNo}
use Rattle.gl_base.specs.declared.numbers.Vertex.{Vertex}
use Rattle.gl_base.specs.declared.scopes.ScopeId.{ScopeId}
use Rattle.gl_base.specs.scope_lists.Scopes.{is_scope}
use Rattle.gl_base.proofs.scope_lists.SameScope.{same_scope, one_or_two, set_for-there}
use Rattle.cluster_laws.specs.cluster_core.Effects.{asks_for, received}
use Rattle.cluster_laws.specs.cluster_core.Messages.{Ask, Message}
use Rattle.machine_core.specs.lock_release.Released.{is_one_of}
use Rattle.scope_locks.specs.scope_pipe.Entered.{EnteredView, comes}
use Rattle.scope_locks.specs.scope_pipe.Pipes.{PipeView, HasCome, HasReadied, entered_at, flight_at, is_ready}
use Rattle.scope_locks.specs.vertex_locks.Tables.{holder_at, queue_at}
use Rattle.machine_core.specs.declared.machine_parts.cores.Core.{Core}
use Rattle.machine_core.specs.machine_parts.Parts.{part_of, part_at, stand_at, lock_asked, machine_numbers, number_of}
use Rattle.machine_core.specs.machine_parts.Order.{HasComeRight, IsOrderly, IsOrderlyBut, got, nobody}
use Rattle.machine_core.specs.machine_parts.Rooms.{HasOnlyMadeRoom}
use Rattle.machine_core.proofs.machine_parts.RoomLemmas.{part_room, settings_room}
use Rattle.machine_core.specs.machine_scopes.Asking.{IsNewAt, AreMachinesFor, CanBecomeReady, HasReceivedMessage}
use Rattle.machine_core.specs.machine_scopes.Inner.Going.{HasGoneOn}
use Rattle.machine_core.proofs.machine_scopes.FlownLemmas.{ready_flies}
use Rattle.machine_core.proofs.machine_scopes.HeldLemmas.{last_is, one_of, some_of}
use Rattle.machine_core.proofs.machine_scopes.KeepLemmas.{come_keeps, flights_keep}
use Rattle.machine_core.proofs.machine_scopes.MoveLemmas.{is_this, entered_here, entered_there, entered_is, home_same, flight_same, ready_same, flights_same, stands_keep}
use Rattle.machine_core.proofs.machine_scopes.OwnLemmas.{first_own}

none_is : {X : Type 0} (e : X) (o : Option X) → o ≡ None → o ≡ Some e → ⊥
none_is e o none some = true≢false (sym (ap is_some some) ∙ ap is_some none)

-- ---- a scope that comes

-- it isn't ready where scopes take locks, since it holds none
pub not_ready : (m : Core) (s : ScopeId) (v : Vertex) → IsNewAt m s v → m.terms.locks ≡ true → IsOrderly m → is_ready m.pipe s ≡ false
not_ready m s v is_new takes is = ⊎_elim
    (λ (yes : is_ready m.pipe s ≡ true).
    let one = some_of (flight_at m.pipe s) (ready_flies m.pipe s yes) in
    let own = is.flights.own s one.0 one.1 in
    absurd (true≢false (sym (is.locks.ready takes s one.0 one.0.0 one.1 yes (is.graph.self one.0.0 own)) ∙ ap is_some (is_new.holds_not one.0.0))))
    (λ (waits : is_ready m.pipe s ≡ false). waits)
    (cases_Bool (is_ready m.pipe s))

module _ (m : Core) (s : ScopeId) (v : Vertex) (part : List Vertex) (rest : List MachineNo) (pipe : PipeView) (is_new : IsNewAt m s v) (come : HasCome m.pipe pipe s (Some (comes s v part rest))) (kept : pipe ≡ record m.pipe { entered = pipe.entered }) where
  abbrev one : EnteredView
  one = comes s v part rest

  there : (t : ScopeId) → is_scope t s ≡ false → entered_at pipe t ≡ entered_at m.pipe t
  there = entered_there m.pipe pipe s (Some one) come

  -- a scope that had come is another one
  came_before : (t : ScopeId) → is_some (entered_at m.pipe t) ≡ true → is_scope t s ≡ false
  came_before t some = ⊎_elim
      (λ (same : t ≡ s). absurd (true≢false (sym some ∙ ap is_some (ap (entered_at m.pipe) same ∙ is_new.come_not))))
      (λ (other : is_scope t s ≡ false). other)
      (one_or_two t s)

  pub orderly_come : IsOrderly m → is_ready m.pipe s ≡ false → AreMachinesFor m s rest → part ≡ part_at m.numbers.local v.0 → IsOrderlyBut (is_this s) (record m { pipe = pipe })
  orderly_come is not_ready machines listed =
      let home = home_same m.pipe pipe kept in
      let flight = flight_same m.pipe pipe kept in
      let ready = ready_same m.pipe pipe kept in
      let here : HasComeRight m.numbers.local pipe (length m.out.machines) (is_this s s) s one = record {
        part = listed;
        place = omega arith;
        rest = machines.machines;
        home = machines.home;
        stands = λ waits. absurd (true≢false (sym (same_scope s) ∙ waits));
        flight = λ at. flight s ∙ ⊎_elim (λ (away : s.home.0 ≢ m.pipe.home.0). absurd (away (at ∙ ap (λ (a : MachineNo). a.0) home))) (λ (flies : flight_at m.pipe s ≡ Some v). flies) is_new.flight;
        waits = λ at. ready s ∙ not_ready;
      } in
      record {
        graph = is.graph;
        numbers = is.numbers;
        entered = λ t f at. elim (one_or_two t s) [
          | inl same ↦
              subst (λ (u : ScopeId). HasComeRight m.numbers.local pipe (length m.out.machines) (is_this s u) u f) (sym same)
              (subst (HasComeRight m.numbers.local pipe (length m.out.machines) (is_this s s) s) (same_Some one f (entered_is m.pipe pipe s (Some one) come t f same at)) here)
          | inr other ↦
              come_keeps m.numbers.local m.pipe pipe (length m.out.machines) false (is_this s t) t f home (flight t) (ready t) (λ waits. refl) (is.entered t f (sym (there t other) ∙ at))
        ];
        locks = record {
          owned = is.locks.owned;
          queues = λ x k d low.
              let stood = is.locks.queues x k d low in
              let other = came_before (get_or (queue_at m.locks x) k d).scope stood.come in
              stands_keep m.pipe pipe nobody (is_this s) x (get_or (queue_at m.locks x) k d) (there (get_or (queue_at m.locks x) k d).scope other) other stood;
          holds = λ t f j z at within. elim (one_or_two t s) [
            | inl same ↦
                let first : one ≡ f = same_Some one f (entered_is m.pipe pipe s (Some one) come t f same at) in
                ap is_some (ap (holder_at m.locks z.0) same ∙ is_new.holds_not z.0)
                ∙ sym (ap (λ (b : Bool). nat_lt j (got b f.place)) (ap (λ (u : ScopeId). is_scope u s) same ∙ same_scope s) ∙ ap (λ (g : EnteredView). nat_lt j g.place) (sym first) ∙ le-ltb j 0 (omega arith))
            | inr other ↦ is.locks.holds t f j z (sym (there t other) ∙ at) within ∙ sym (ap (λ (b : Bool). nat_lt j (got b f.place)) other)
          ];
          only = λ t c x flies holds. is.locks.only t c x (sym (flight t) ∙ flies) holds;
          ready = λ takes t c x flies readied within. is.locks.ready takes t c x (sym (flight t) ∙ flies) (sym (ready t) ∙ readied) within;
          admitted = λ t x at holds. subst (λ (k : ℕ). t.serial < k) (sym (ap (λ (p : PipeView). p.serial) kept)) (is.locks.admitted t x (at ∙ ap (λ (a : MachineNo). a.0) home) holds);
        };
        flights = flights_keep m.numbers m.pipe pipe (flights_same m.pipe pipe kept) is.flights;
        width = ap (λ (p : PipeView). p.width) kept ∙ is.width;
      }

  -- it stands at no lock yet
  come_part : part_of (record m { pipe = pipe }) ≡ part_of m
  come_part =
      let stands : (t : ScopeId) → stand_at (entered_at pipe t) ≡ stand_at (entered_at m.pipe t) = λ t.
      ⊎_elim
      (λ (same : t ≡ s). ap (λ (u : ScopeId). stand_at (entered_at pipe u)) same ∙ ap stand_at (entered_here m.pipe pipe s (Some one) come)
      ∙ sym (ap (λ (u : ScopeId). stand_at (entered_at m.pipe u)) same ∙ ap stand_at is_new.come_not))
      (λ (other : is_scope t s ≡ false). ap stand_at (there t other))
      (one_or_two t s) in
      ap (λ (p : PipeView). part_of (record m { pipe = p })) kept ∙ (λ i. record (part_of m) { stand = λ t. stands t i })

  pub ask_received : (new : Core) → part ≡ part_at m.numbers.local v.0 → HasGoneOn (record m { pipe = pipe }) new s → HasReceivedMessage m new (Ask s v.0 (machine_numbers rest))
  ask_received new listed gone st is =
      let a = m.numbers.local.me.0 in
      let first : number_of (slice_get part 0) ≡ number_of (slice_get (part_at m.numbers.local v.0) 0) = ap (λ (p : List Vertex). number_of (slice_get p 0)) listed in
      gone one (entered_here m.pipe pipe s (Some one) come)
      ∙ ap (asks_for a s v.0 (machine_numbers rest) (number_of (slice_get part 0))) come_part
      ∙ ap (λ (o : Option ℕ). asks_for a s v.0 (machine_numbers rest) o (part_of m)) (first ∙ sym (first_own st m.numbers.local v.0 is.local is_new.placed))

-- ---- where room was made before

pub received_room : (m now new : Core) (message : Message) → HasOnlyMadeRoom m now → HasReceivedMessage now new message → HasReceivedMessage m new message
received_room m now new message room has st part =
    has st (settings_room m now room st part) ∙ (λ i. received st (room.rest i).numbers.local.me.0 message (part_room m now room i))

pub new_room : (m now : Core) (s : ScopeId) (v : Vertex) → HasOnlyMadeRoom m now → IsNewAt m s v → IsNewAt now s v
new_room m now s v room is = subst (λ (n : Core). IsNewAt n s v) (sym room.rest)
    (record { come_not = is.come_not; holds_not = λ x. room.locks.holder x s ∙ is.holds_not x; flight = is.flight; placed = is.placed })

-- ---- a scope that becomes ready

pub orderly_readied : (m : Core) (pipe : PipeView) (s : ScopeId) (c : Vertex) → IsOrderly m → entered_at m.pipe s ≡ None → flight_at m.pipe s ≡ Some c
    → (m.terms.locks ≡ true → (x : ℕ) → is_one_of (part_at m.numbers.local c.0) x ≡ true → is_some (holder_at m.locks x s) ≡ true)
    → HasReadied m.pipe pipe s → pipe ≡ record m.pipe { waiting = pipe.waiting; ready = pipe.ready } → IsOrderly (record m { pipe = pipe })
orderly_readied m pipe s c is gone flies all readied kept =
    let home : pipe.home ≡ m.pipe.home = ap (λ (p : PipeView). p.home) kept in
    let same : (t : ScopeId) → entered_at pipe t ≡ entered_at m.pipe t = λ t. ap (λ (p : PipeView). entered_at p t) kept in
    let other : (t : ScopeId) (f : EnteredView) → entered_at m.pipe t ≡ Some f → is_scope t s ≡ false = λ t f at.
    ⊎_elim (λ (one : t ≡ s). absurd (none_is f (entered_at m.pipe s) gone (ap (entered_at m.pipe) (sym one) ∙ at))) (λ (apart : is_scope t s ≡ false). apart) (one_or_two t s) in
    record {
      graph = is.graph;
      numbers = is.numbers;
      entered = λ t f at.
          let before = sym (same t) ∙ at in
          come_keeps m.numbers.local m.pipe pipe (length m.out.machines) false false t f home (readied.flight t)
          (readied.ready t ∙ set_for-there (is_ready m.pipe) s t true (other t f before)) (λ waits. waits) (is.entered t f before);
      locks = record {
        owned = is.locks.owned;
        queues = λ x k d low.
            stands_keep m.pipe pipe nobody nobody x (get_or (queue_at m.locks x) k d) (same (get_or (queue_at m.locks x) k d).scope) refl (is.locks.queues x k d low);
        holds = λ t f j z at within. is.locks.holds t f j z (sym (same t) ∙ at) within;
        only = λ t d x flown holds. is.locks.only t d x (sym (readied.flight t) ∙ flown) holds;
        ready = λ takes t d x flown yes within. elim (one_or_two t s) [
          | inl one ↦
              let centre : c ≡ d = same_Some c d (sym flies ∙ ap (flight_at m.pipe) (sym one) ∙ sym (readied.flight t) ∙ flown) in
              ap (λ (u : ScopeId). is_some (holder_at m.locks x u)) one ∙ all takes x (subst (λ (u : Vertex). is_one_of (part_at m.numbers.local u.0) x ≡ true) (sym centre) within)
          | inr apart ↦ is.locks.ready takes t d x (sym (readied.flight t) ∙ flown) (sym (readied.ready t ∙ set_for-there (is_ready m.pipe) s t true apart) ∙ yes) within
        ];
        admitted = λ t x at holds. subst (λ (k : ℕ). t.serial < k) (sym readied.serial) (is.locks.admitted t x (at ∙ ap (λ (a : MachineNo). a.0) home) holds);
      };
      flights = flights_keep m.numbers m.pipe pipe
          (record {
            home = home;
            serial = readied.serial;
            flight = readied.flight;
            ready = λ t was. readied.ready t ∙ still (is_scope t s) (is_ready m.pipe t) was;
          })
          is.flights;
      width = ap (λ (p : PipeView). p.width) kept ∙ is.width;
    }
  where
    still : (b old : Bool) → old ≡ true → (if b then true else old) ≡ true
    still true old was = refl
    still false old was = was

-- a scope that holds all its locks here waits for none
pub ready_gone : (m : Core) (s : ScopeId) → IsOrderly m → CanBecomeReady m s → entered_at m.pipe s ≡ None
ready_gone m s is can = by (entered_at m.pipe s) refl
  where
    by : (o : Option EnteredView) → entered_at m.pipe s ≡ o → o ≡ None
    by None at = refl
    by (Some e) at =
        let right = is.entered s e at in
        let home = ap (λ (a : MachineNo). a.0) (is.flights.given s can.centre can.flight).0 in
        let centre : can.centre ≡ e.centre = same_Some can.centre e.centre (sym can.flight ∙ right.flight home) in
        let y = some_of (lock_asked e) (right.stands refl) in
        let last = last_is e.part e.place y.0 y.1 in
        let within : is_one_of (part_at m.numbers.local can.centre.0) y.0.0 ≡ true =
        ap (λ (p : List Vertex). is_one_of p y.0.0) (ap (λ (v : Vertex). part_at m.numbers.local v.0) centre ∙ sym right.part) ∙ one_of e.part last.0 y.0 last.2 in
        let not_yet = is.locks.holds s e last.0 y.0 at last.2 ∙ ap (λ (k : ℕ). nat_lt last.0 (pred k)) last.1 ∙ le-ltb last.0 last.0 (omega arith) in
        absurd (true≢false (sym (can.holds y.0.0 within) ∙ not_yet))
