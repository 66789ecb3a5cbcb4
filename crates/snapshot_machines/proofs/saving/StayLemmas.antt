-- A machine that takes part in snapshots stays one through each call.
use Rattle.std.proofs.Common.{◌≡◌, ℕ, ◌+◌, ◌^◌, ◌<◌, ◌≤◌, ◌++◌, Bool, true, false, true≢false, if◌then◌else◌, Option, Some, None, [], ◌∷◌, length, refl, sym, ap, ◌∙◌, subst, arith, length-append, length-set}
use Rattle.std.specs.Prelude.{is_some, nat_lt, slice_get, IfOk, OnErr, OnOk, Result, Ok, Err}
use Rattle.std.proofs.lemmas.List.Sums.{sum_by_push}
use Rattle.gl_base.specs.declared.entries.Entry.{Entry}
use Rattle.gl_base.specs.declared.memory.NoMemory.{NoMemory}
use Rattle.gl_base.specs.declared.numbers.Vertex.{Vertex}
use Rattle.gl_base.specs.declared.scopes.Datum.{Datum}
use Rattle.gl_base.specs.declared.scopes.Peer.{Peer}
use Rattle.gl_base.specs.declared.scopes.Peer.TheVariants.{Coordinator, Machine}
use Rattle.gl_base.specs.declared.scopes.ScopeId.{ScopeId}
use Rattle.partition.specs.declared.machine_numbers.keeping.Numbers.{Numbers}
use Rattle.partition.specs.machine_numbers.Views.{LocalView, TasksView, datum_here, ghost_datum, links_at, own_datum, own_or_ghost, place_at, sides_at}
use Rattle.machine_core.specs.declared.machine_parts.cores.Core.{Core}
use Rattle.wire.specs.outboxes.Outboxes.{OutboxView, OutboxesView, with_outbox}
use Rattle.machine_core.specs.machine_parts.Order.{HasComeRight, IsGraphInOrder}
use Rattle.machine_core.specs.machine_parts.Parts.{flight_at}
use Rattle.machine_core.specs.machine_scopes.Admitting.{with_pick}
use Rattle.machine_core.specs.machine_turns.Turns.{HasRunOf, IsRowIn}
use Rattle.machine_core.proofs.machine_updates.CommitLemmas.{placed}
use Rattle.machine_core.specs.step_scopes.Admitting.{HasAdmittedInStep, IsAdmittedThere}
use Rattle.coordinator.specs.snap_update.Snaps.{IsSameButRoom, newly_begun, nothing_since, with_begun, with_committed, with_entry, with_section}
use Rattle.snapshot_machines.specs.marking.Hearing.{HasFewerOutside}
use Rattle.snapshot_machines.specs.marking.Marking.{HasSavedMore}
use Rattle.snapshot_machines.specs.marking.Seeding.{HasOtherPending}
use Rattle.snapshot_machines.proofs.marking.LearnLemmas.{known_grows, most_grows}
use Rattle.snapshot_machines.specs.saving.Machines.{AreMarkedBelow, AreMarksUpTo, HasEachRow, IsBetweenCalls, IsFreshMachine, IsOrderly, IsSnapMachine, KnowsPlaces, SameSettings, SnapView, is_own, outside_of}

-- ---- between calls

pub in_order : (m : Core) (w : SnapView) (seen : ℕ) → IsSnapMachine m w seen → IsBetweenCalls m w
in_order m w seen is = record { orderly = is.orderly; places = is.places; rows = is.rows; outside = is.outside }

-- ---- a new machine

pub fresh_one : (m : Core) (w : SnapView) → IsFreshMachine m → w ≡ nothing_since m.terms.base w.room → IsSnapMachine m w 0
fresh_one m w is new = subst (λ (x : SnapView). IsSnapMachine m x 0) (sym new)
    (record {
      orderly = is.orderly;
      places = is.places;
      rows = is.rows;
      base = omega arith;
      sent = omega arith;
      below = λ i v low. absurd (omega arith);
      most = is.most;
      outside = is.outside;
    })

-- ---- what own vertices have depends on the graph here alone

own_same : (old new : Numbers) (v : ℕ) → new.local ≡ old.local → is_own old.local v ≡ true → datum_here new v ≡ datum_here old v
own_same old new v same own = ap (λ (l : LocalView). own_or_ghost (own_datum l v) (ghost_datum new.ghosts v)) same ∙ by (own_datum old.local v) own
  where
    by : (o : Option Datum) → is_some o ≡ true → own_or_ghost o (ghost_datum new.ghosts v) ≡ own_or_ghost o (ghost_datum old.ghosts v)
    by None own = absurd (true≢false (sym own))
    by (Some d) own = refl

pub places_same : (m new : Core) → new.numbers ≡ m.numbers → new.by_place ≡ m.by_place → KnowsPlaces m → KnowsPlaces new
places_same m new numbers places knows =
    let many : length new.numbers.tasks.task ≡ length m.numbers.tasks.task = ap (λ (n : Numbers). length n.tasks.task) numbers in
    record {
      vertices = record {
        many = ap (λ vs. length vs.items) places ∙ knows.vertices.many ∙ sym many;
        place = λ k v at. ap (λ (n : Numbers). place_at n.local v.0) numbers ∙ knows.vertices.place k v (ap (λ vs. slice_get vs.items k) (sym places) ∙ at);
      };
      flags = ap (λ (n : Numbers). length n.tasks.admitted) numbers ∙ knows.flags ∙ sym many;
    }

-- where scopes go on
pub stays : (m new : Core) (w : SnapView) (seen : ℕ) → IsSnapMachine m w seen → IsOrderly new → KnowsPlaces new → new.numbers.local ≡ m.numbers.local → new.terms ≡ m.terms → new.numbers.tasks.outside ≡ m.numbers.tasks.outside → IsSnapMachine new w seen
stays m new w seen is orderly places local terms outside =
    let own : (v : ℕ) → is_own new.numbers.local v ≡ true → is_own m.numbers.local v ≡ true = λ v mine. ap (λ (l : LocalView). is_own l v) (sym local) ∙ mine in
    let datum : (v : ℕ) → is_own new.numbers.local v ≡ true → datum_here new.numbers v ≡ datum_here m.numbers v = λ v mine. own_same m.numbers new.numbers v local (own v mine) in
    record {
      orderly = orderly;
      places = places;
      rows = subst HasEachRow (sym local) is.rows;
      base = subst (λ t. t.base ≤ w.sent) (sym terms) is.base;
      sent = is.sent;
      below = λ i v low at mine. subst (λ (d : Datum). w.known ≤ d.mark) (sym (datum v.0 mine)) (is.below i v low (ap (λ (l : LocalView). slice_get l.owned i) (sym local) ∙ at) (own v.0 mine));
      most = λ v mine. subst (λ (d : Datum). d.mark ≤ w.known) (sym (datum v mine)) (is.most v (own v mine));
      outside = outside ∙ is.outside;
    }

-- an admission leaves as many updates outside
taken_outside : (t u : TasksView) (place : Vertex) (snapshot : Bool) → IsAdmittedThere t u place snapshot → u.outside ≡ t.outside
taken_outside t u place snapshot is = ap (λ (y : TasksView). y.outside) is.tasks ∙ by snapshot
  where
    by : (b : Bool) → (with_pick t (record { vertex = place; snapshot = b })).outside ≡ t.outside
    by true = refl
    by false = refl

-- and so does none
pub admitted_outside : (r : Result ScopeId NoMemory) (m new : Core) (place : Vertex) (snapshot : Bool) → IfOk r (λ s. HasAdmittedInStep m new place snapshot) → OnErr r (new ≡ m) → new.numbers.tasks.outside ≡ m.numbers.tasks.outside
admitted_outside (Ok s) m new place snapshot has same = taken_outside m.numbers.tasks new.numbers.tasks place snapshot has.tasks
admitted_outside (Err e) m new place snapshot has same = ap (λ (n : Core). n.numbers.tasks.outside) same

-- ---- what is kept

begun_outside : (k : ℕ) (w : SnapView) → outside_of (with_begun k w) ≡ outside_of w
begun_outside k w = by (nat_lt w.known k)
  where
    by : (b : Bool) → outside_of (if b then newly_begun k w else w) ≡ outside_of w
    by true = let both = length-append w.before w.behind in omega arith
    by false = refl

begun_sent : (k : ℕ) (w : SnapView) → (with_begun k w).sent ≡ w.sent
begun_sent k w = by (nat_lt w.known k)
  where
    by : (b : Bool) → (if b then newly_begun k w else w).sent ≡ w.sent
    by true = refl
    by false = refl

section_outside : (w : SnapView) → outside_of (with_section w) ≡ outside_of w
section_outside w = let more = sum_by_push (λ n. n) w.unsure (length w.before) in omega (arith, more)

-- ---- snapshots

-- where a snapshot begins
pub stays_begun : (m new : Core) (w now : SnapView) (seen place k : ℕ) → IsSnapMachine m w seen → IsOrderly new → KnowsPlaces new → HasOtherPending m new → IsSameButRoom (with_begun k w) now → AreMarkedBelow new.numbers now.known place → IsSnapMachine new now place
stays_begun m new w now seen place k is orderly places rest same below =
    let grows = known_grows k w now same in
    let sent : now.sent ≡ w.sent = ap (λ (x : SnapView). x.sent) same ∙ begun_sent k w in
    let first = is.base in
    let second = is.sent in
    record {
      orderly = orderly;
      places = places;
      rows = subst (λ (x : Core). HasEachRow x.numbers.local) (sym rest) is.rows;
      base = subst (λ (x : Core). x.terms.base ≤ now.sent) (sym rest) (omega (arith, sent, first));
      sent = omega (arith, sent, second, grows);
      below = below;
      most = subst (λ (x : Core). AreMarksUpTo x.numbers now.known) (sym rest) (most_grows m.numbers w.known now.known grows is.most);
      outside = ap (λ (x : Core). x.numbers.tasks.outside) rest ∙ is.outside ∙ sym (ap outside_of same ∙ begun_outside k w);
    }

-- where one is acknowledged
pub stays_committed : (m new : Core) (w now : SnapView) (seen k : ℕ) → IsSnapMachine m w seen → IsOrderly new → KnowsPlaces new → HasFewerOutside m new → now ≡ with_committed k w → new.numbers.tasks.outside ≡ outside_of now → IsSnapMachine new now seen
stays_committed m new w now seen k is orderly places fewer same outside =
    let known : now.known ≡ w.known = ap (λ (x : SnapView). x.known) same in
    let sent : now.sent ≡ w.sent = ap (λ (x : SnapView). x.sent) same in
    record {
      orderly = orderly;
      places = places;
      rows = subst (λ (x : Core). HasEachRow x.numbers.local) (sym fewer.rest) is.rows;
      base = subst (λ (x : Core). x.terms.base ≤ now.sent) (sym fewer.rest) (subst (λ (j : ℕ). m.terms.base ≤ j) (sym sent) is.base);
      sent = subst (λ (x : SnapView). x.sent ≤ x.known) (sym same) is.sent;
      below = subst (λ (x : Core). AreMarkedBelow x.numbers now.known seen) (sym fewer.rest) (subst (λ (j : ℕ). AreMarkedBelow m.numbers j seen) (sym known) is.below);
      most = subst (λ (x : Core). AreMarksUpTo x.numbers now.known) (sym fewer.rest) (subst (AreMarksUpTo m.numbers) (sym known) is.most);
      outside = outside;
    }

-- where word of an update comes
pub stays_learned : (m new : Core) (w now : SnapView) (seen place k : ℕ) → IsSnapMachine m w seen → IsOrderly new → KnowsPlaces new → IsSameButRoom (with_begun k w) now → new.numbers.local ≡ record m.numbers.local { numbers = new.numbers.local.numbers }
    → new.terms ≡ m.terms → new.numbers.tasks.outside ≡ m.numbers.tasks.outside → AreMarkedBelow new.numbers now.known place → (AreMarksUpTo m.numbers w.known → AreMarksUpTo new.numbers now.known) → IsSnapMachine new now place
stays_learned m new w now seen place k is orderly places same local terms outside below most =
    let grows = known_grows k w now same in
    let sent : now.sent ≡ w.sent = ap (λ (x : SnapView). x.sent) same ∙ begun_sent k w in
    let first = is.base in
    let second = is.sent in
    let base = ap (λ t. t.base) terms in
    record {
      orderly = orderly;
      places = places;
      rows = λ v own. subst (λ (l : LocalView). IsRowIn (links_at l v) (length (sides_at l v))) (sym local) (is.rows v (ap (λ (l : LocalView). is_own l v) (sym local) ∙ own));
      base = omega (arith, sent, first, base);
      sent = omega (arith, sent, second, grows);
      below = below;
      most = most is.most;
      outside = outside ∙ is.outside ∙ sym (ap outside_of same ∙ begun_outside k w);
    }

-- where a snapshot update is made, or is not
pub stays_marked : (m new : Core) (w now : SnapView) (seen place : ℕ) → IsSnapMachine m w seen → IsOrderly new → KnowsPlaces new → HasEachRow new.numbers.local → HasSavedMore w now → new.terms ≡ m.terms → new.numbers.tasks.outside ≡ m.numbers.tasks.outside
    → AreMarkedBelow new.numbers now.known place → (AreMarksUpTo m.numbers w.known → AreMarksUpTo new.numbers now.known) → IsSnapMachine new now place
stays_marked m new w now seen place is orderly places rows saved terms outside below most =
    record {
      orderly = orderly;
      places = places;
      rows = rows;
      base = subst (λ t. t.base ≤ now.sent) (sym terms) (subst (λ (j : ℕ). m.terms.base ≤ j) (sym (ap (λ (x : SnapView). x.sent) saved)) is.base);
      sent = subst (λ (x : SnapView). x.sent ≤ x.known) (sym saved) is.sent;
      below = below;
      most = most is.most;
      outside = outside ∙ is.outside ∙ sym (ap outside_of saved);
    }

-- where a section is sent, or is not
pub stays_sent : {T E : Type 0} (r : Result T E) (m : Core) (w now : SnapView) (seen place : ℕ) → IsSnapMachine m w seen → OnOk r (IsSameButRoom (with_section w) now) → OnErr r (now ≡ w) → AreMarkedBelow m.numbers w.known place → IsSnapMachine m now place
stays_sent (Ok s) m w now seen place is sent same below = subst (λ (x : SnapView). IsSnapMachine m x place) (sym sent)
    (record {
      orderly = is.orderly;
      places = is.places;
      rows = is.rows;
      base = let first = is.base in let second = is.sent in omega (arith, first, second);
      sent = omega arith;
      below = below;
      most = is.most;
      outside = is.outside ∙ sym (section_outside w);
    })
stays_sent (Err e) m w now seen place is sent same below = subst (λ (x : SnapView). IsSnapMachine m x place) (sym same)
    (record {
      orderly = is.orderly;
      places = is.places;
      rows = is.rows;
      base = is.base;
      sent = is.sent;
      below = below;
      most = is.most;
      outside = is.outside;
    })

-- ---- updates

logged_outside : (e : Entry) (k : ℕ) (w : SnapView) → outside_of (with_entry e k w) ≡ outside_of w + 1
logged_outside e k w = by (nat_lt k w.known)
  where
    by : (b : Bool) → outside_of (if b then record w { before = w.before ++ e ∷ [] } else record w { behind = w.behind ++ e ∷ [] }) ≡ outside_of w + 1
    by true = let longer = length-append w.before (e ∷ []) in omega arith
    by false = let longer = length-append w.behind (e ∷ []) in omega arith

logged_known : (e : Entry) (k : ℕ) (w : SnapView) → ((with_entry e k w).known ≡ w.known) × ((with_entry e k w).sent ≡ w.sent)
logged_known e k w = by (nat_lt k w.known)
  where
    by : (b : Bool) → ((if b then record w { before = w.before ++ e ∷ [] } else record w { behind = w.behind ++ e ∷ [] }).known ≡ w.known) × ((if b then record w { before = w.before ++ e ∷ [] } else record w { behind = w.behind ++ e ∷ [] }).sent ≡ w.sent)
    by true = (refl, refl)
    by false = (refl, refl)

-- there is room for one update more in the count
pub few_outside : (m : Core) (w : SnapView) (seen : ℕ) → IsSnapMachine m w seen → outside_of w + 1 < 2 ^ 64
few_outside m w seen is =
    let log = m.numbers.log in
    let small = log.small in
    let many = log.ok.0 in
    let fits = log.ok.1 in
    let most = is.orderly.numbers.outside in
    let same = is.outside in
    omega arith

-- marks and rows stay, and the vertices of the machine
module _ (m new : Core) (w now : SnapView) (seen : ℕ) (is : IsSnapMachine m w seen) (orderly : IsOrderly new) (places : KnowsPlaces new) (rows : HasEachRow new.numbers.local) (terms : new.terms ≡ m.terms)
    (local : new.numbers.local ≡ record m.numbers.local { kept = new.numbers.local.kept; rows = new.numbers.local.rows; numbers = new.numbers.local.numbers }) (own : (x : ℕ) → is_own new.numbers.local x ≡ is_own m.numbers.local x)
    (marks : (x : ℕ) → (datum_here new.numbers x).mark ≡ (datum_here m.numbers x).mark) (known : now.known ≡ w.known) (sent : now.sent ≡ w.sent) where
  pub stays_updated : new.numbers.tasks.outside ≡ outside_of now → IsSnapMachine new now seen
  stays_updated outside =
      record {
        orderly = orderly;
        places = places;
        rows = rows;
        base = let first = is.base in let base = ap (λ t. t.base) terms in omega (arith, first, base, sent);
        sent = let second = is.sent in omega (arith, second, known, sent);
        below = λ i v low at mine.
            let up = is.below i v low (ap (λ (l : LocalView). slice_get l.owned i) (sym local) ∙ at) (sym (own v.0) ∙ mine) in
            let same = marks v.0 in
            omega (arith, up, same, known);
        most = λ v mine. let down = is.most v (sym (own v) ∙ mine) in let same = marks v in omega (arith, down, same, known);
        outside = outside;
      }

-- an update that was made
pub run_outside : (m new : Core) (s : ScopeId) (v : Vertex) → IsOrderly m → flight_at m.pipe s ≡ Some v → HasRunOf m new s → new.numbers.tasks.outside ≡ m.numbers.tasks.outside + 1
run_outside m new s v order flies run =
    let at = placed m.numbers.local v.0 (order.flights.own s v flies) in
    ap (λ (t : TasksView). t.outside) (run v at.0 flies at.1).rest

pub logged_stays : (e : Entry) (k : ℕ) (w wide now : SnapView) → IsSameButRoom w wide → IsSameButRoom (with_entry e k wide) now → (now.known ≡ w.known) × (now.sent ≡ w.sent) × (outside_of now ≡ outside_of w + 1)
logged_stays e k w wide now room same =
    let both = logged_known e k wide in (
      ap (λ (x : SnapView). x.known) same ∙ both.0 ∙ ap (λ (x : SnapView). x.known) room,
      ap (λ (x : SnapView). x.sent) same ∙ both.1 ∙ ap (λ (x : SnapView). x.sent) room,
      ap outside_of same ∙ logged_outside e k wide ∙ ap (λ (x : SnapView). outside_of x + 1) room,
    )

-- ---- outboxes

as_many : (out : OutboxesView) (to : Peer) (box : OutboxView) → length (with_outbox out to box).machines ≡ length out.machines
as_many out (Machine b) box = length-set out.machines b.0 box
as_many out Coordinator box = refl

ordered_out : (m : Core) (out : OutboxesView) → length out.machines ≡ length m.out.machines → IsOrderly m → IsOrderly (record m { out = out })
ordered_out m out same is =
    record {
      graph = subst (IsGraphInOrder m.numbers.local) (sym same) is.graph;
      numbers = is.numbers;
      entered = λ s e come. subst (λ (k : ℕ). HasComeRight m.numbers.local m.pipe k false s e) (sym same) (is.entered s e come);
      locks = is.locks;
      flights = is.flights;
      width = is.width;
    }

-- where a message goes out
pub stays_out : (m : Core) (w : SnapView) (seen : ℕ) (to : Peer) (box : OutboxView) → IsSnapMachine m w seen → IsSnapMachine (record m { out = with_outbox m.out to box }) w seen
stays_out m w seen to box is =
    stays m (record m { out = with_outbox m.out to box }) w seen is (ordered_out m (with_outbox m.out to box) (as_many m.out to box) is.orderly) (record { vertices = is.places.vertices; flags = is.places.flags }) refl refl refl

pub settings_out : (m : Core) (to : Peer) (box : OutboxView) → SameSettings m (record m { out = with_outbox m.out to box })
settings_out m to box st is =
    record {
      local = is.local;
      machines = as_many m.out to box ∙ is.machines;
      engine = is.engine;
      pipeline = is.pipeline;
      base = is.base;
      window = is.window;
    }
