-- The first vertex without the mark becomes pending, where none is.
use Rattle.std.proofs.Common.{◌≡◌, ℕ, zero, suc, ◌+◌, ◌<◌, ◌≤◌, ◌==◌, ◌&&◌, ◌||◌, Bool, true, false, true≢false, if◌then◌else◌, Option, Some, None, List, [], ◌∷◌, length, refl, sym, ap, ◌∙◌, subst, arith}
use Rattle.std.specs.Prelude.{is_some, nat_lt, slice_get}
use Rattle.std.specs.Option.{option_map}
use Rattle.std.proofs.lemmas.Bool.{lt-ltb, ltb-true, and_parts}
use Rattle.std.proofs.lemmas.Option.{slice_get-map}
use Rattle.gl_base.specs.declared.numbers.Vertex.{Vertex}
use Rattle.graph_core.specs.DataGraph.{size}
use Rattle.cluster_laws.specs.cluster_core.Effects.{first_pending, first_unmarked, is_at, part_seeded, seed_if}
use Rattle.cluster_laws.specs.cluster_core.Parts.{Part}
use Rattle.cluster_laws.specs.cluster_core.Ranges.{all_passing, first_passing}
use Rattle.cluster_laws.specs.cluster_core.Scopes.{is_found}
use Rattle.partition.proofs.local_parts.FoundLemmas.{found_first}
use Rattle.task_sets.specs.task_sched.Tasks.{HasPending}
use Rattle.partition.specs.machine_numbers.Views.{TasksView, flag_there, is_flagged, is_own, place_at}
use Rattle.machine_core.specs.declared.machine_parts.cores.Core.{Core}
use Rattle.machine_core.specs.machine_parts.Order.{AreNumbersInOrder, IsOrderly, KnowsPlaces}
use Rattle.machine_core.specs.machine_parts.Parts.{datum_here, pending_here}
use Rattle.machine_core.specs.machine_parts.Settings.{IsPartOf, Setting}
use Rattle.snapshot_machines.specs.marking.Keeping.{SnapView, part_of, with_snaps}
use Rattle.snapshot_machines.specs.marking.Seeding.{AreMarkedBelow, HasOtherPending, HasSeeded, IsFirstUnmarked}

-- ---- a machine of which the pending vertices alone have changed

abbrev pub with_tasks : Core → TasksView → Core
with_tasks m t = record m { numbers = record m.numbers { tasks = t } }

abbrev pub pended : Core → TasksView → Core
pended m t = with_tasks m (record m.numbers.tasks { pending = t.pending; asked = t.asked })

numbers_pended : (m : Core) (t : TasksView) → AreNumbersInOrder m.numbers m.terms.base → AreNumbersInOrder (pended m t).numbers m.terms.base
numbers_pended m t are =
    record {
      tasks = record { apart = are.tasks.apart; own = are.tasks.own };
      sides = are.sides;
      ghosts = are.ghosts;
      marks = are.marks;
      outside = are.outside;
    }

orderly_here : (m : Core) (t : TasksView) → IsOrderly m → IsOrderly (pended m t)
orderly_here m t is =
    record {
      graph = is.graph;
      numbers = numbers_pended m t is.numbers;
      entered = is.entered;
      locks = is.locks;
      flights = record {
        home = is.flights.home;
        given = is.flights.given;
        own = is.flights.own;
        single = is.flights.single;
        admitted = is.flights.admitted;
        flies = is.flights.flies;
        rows = is.flights.rows;
      };
      width = is.width;
    }

pub orderly_pended : (old new : Core) → HasOtherPending old new → IsOrderly old → IsOrderly new
orderly_pended old new rest is = subst IsOrderly (sym rest) (orderly_here old new.numbers.tasks is)

pub places_pended : (old new : Core) → HasOtherPending old new → KnowsPlaces old → KnowsPlaces new
places_pended old new rest knows = subst KnowsPlaces (sym rest) (record { vertices = knows.vertices; flags = knows.flags })

pub settings_pended : (old new : Core) → HasOtherPending old new → (st : Setting) → IsPartOf st old → IsPartOf st new
settings_pended old new rest st is = subst (IsPartOf st) (sym rest)
    (record { local = is.local; machines = is.machines; engine = is.engine; pipeline = is.pipeline; base = is.base; window = is.window })

pub below_pended : (old new : Core) (k place : ℕ) → HasOtherPending old new → AreMarkedBelow old.numbers k place → AreMarkedBelow new.numbers k place
below_pended old new k place rest below = subst (λ (m : Core). AreMarkedBelow m.numbers k place) (sym rest) below

-- the part, where these are pending now
pub part_pended : (w : SnapView) (old new : Core) (pending : ℕ → Bool) → HasOtherPending old new → ((u : ℕ) → pending_here new.numbers u ≡ pending u)
    → with_snaps w (part_of new) ≡ record (with_snaps w (part_of old)) { pending = pending }
part_pended w old new pending rest is =
    ap (λ (m : Core). with_snaps w (part_of m)) rest
    ∙ (λ i. record (with_snaps w (part_of old)) { pending = λ u. (sym (ap (λ (m : Core). pending_here m.numbers u) rest) ∙ is u) i })

-- ---- ranges

pub first_none : (test : ℕ → Bool) (k n : ℕ) → ((x : ℕ) → test x ≡ false) → first_passing test k n ≡ None
unfolding first_passing
first_none test k zero fails = refl
first_none test k (suc n) fails = ap (λ (b : Bool). if b then Some k else first_passing test (suc k) n) (fails k) ∙ first_none test (suc k) n fails

-- of those that pass the first test the first that passes the second one, which those before this place don't
first_of : (p q : ℕ → Bool) (k n place : ℕ) → ((i x : ℕ) → i < place → slice_get (all_passing p k n) i ≡ Some x → q x ≡ false)
    → ((x : ℕ) → slice_get (all_passing p k n) place ≡ Some x → q x ≡ true) → first_passing (λ x. p x && q x) k n ≡ slice_get (all_passing p k n) place
unfolding first_passing all_passing
first_of p q k zero place before here = refl
first_of p q k (suc n) place before here = step (p k) (first_of p q (suc k) n) place before here
  where
    step : (b : Bool) → ((place : ℕ) → ((i x : ℕ) → i < place → slice_get (all_passing p (suc k) n) i ≡ Some x → q x ≡ false) → ((x : ℕ) → slice_get (all_passing p (suc k) n) place ≡ Some x → q x ≡ true)
        → first_passing (λ x. p x && q x) (suc k) n ≡ slice_get (all_passing p (suc k) n) place)
        → (place : ℕ) → ((i x : ℕ) → i < place → slice_get (if b then k ∷ all_passing p (suc k) n else all_passing p (suc k) n) i ≡ Some x → q x ≡ false)
        → ((x : ℕ) → slice_get (if b then k ∷ all_passing p (suc k) n else all_passing p (suc k) n) place ≡ Some x → q x ≡ true)
        → (if b && q k then Some k else first_passing (λ x. p x && q x) (suc k) n) ≡ slice_get (if b then k ∷ all_passing p (suc k) n else all_passing p (suc k) n) place
    step false rest place before here = rest place before here
    step true rest zero before here = ap (λ (c : Bool). if c then Some k else first_passing (λ x. p x && q x) (suc k) n) (here k refl)
    step true rest (suc place) before here =
        ap (λ (c : Bool). if c then Some k else first_passing (λ x. p x && q x) (suc k) n) (before 0 k (omega arith) refl)
        ∙ rest place (λ i x low at. before (suc i) x (omega arith) at) here

standing_at : (vs : List Vertex) (k : ℕ) → k < length vs → (v : Vertex) × (slice_get vs k ≡ Some v)
standing_at [] k low = absurd (omega arith)
standing_at (v ∷ vs) zero low = (v, refl)
standing_at (v ∷ vs) (suc k) low = standing_at vs k (omega arith)

some_is : (a b : ℕ) → Some a ≡ Some b → a ≡ b
some_is a b e = cc

listed : (p : ℕ → Bool) (k n i x : ℕ) → slice_get (all_passing p k n) i ≡ Some x → (p x ≡ true) × (x < k + n)
unfolding all_passing
listed p k zero i x at = absurd (true≢false (sym (ap is_some at)))
listed p k (suc n) i x at = step (λ j there. listed p (suc k) n j x there) (p k) refl i at
  where
    step : ((j : ℕ) → slice_get (all_passing p (suc k) n) j ≡ Some x → (p x ≡ true) × (x < suc k + n)) → (b : Bool) → p k ≡ b → (i : ℕ) → slice_get (if b then k ∷ all_passing p (suc k) n else all_passing p (suc k) n) i ≡ Some x
        → (p x ≡ true) × (x < k + suc n)
    step behind false fails i at = let rest = behind i at in let low = rest.1 in (rest.0, omega arith)
    step behind true passes zero at = let same = some_is k x at in (ap p (sym same) ∙ passes, omega arith)
    step behind true passes (suc i) at = let rest = behind i at in let low = rest.1 in (rest.0, omega arith)

-- ---- who is unmarked

module _ (st : Setting) (m : Core) (w : SnapView) (is : IsPartOf st m) where
  abbrev here : Part
  here = with_snaps w (part_of m)

  owned_at : (i : ℕ) → slice_get (all_passing (λ x. st.owner x == m.numbers.local.me.0) 0 (size st.graph)) i ≡ option_map (λ (v : Vertex). v.0) (slice_get m.numbers.local.owned i)
  owned_at i = ap (λ (xs : List ℕ). slice_get xs i) (sym is.local.owned) ∙ slice_get-map (λ (v : Vertex). v.0) m.numbers.local.owned i

  pub from_owned : (i x : ℕ) → slice_get (all_passing (λ x. st.owner x == m.numbers.local.me.0) 0 (size st.graph)) i ≡ Some x → (v : Vertex) × (slice_get m.numbers.local.owned i ≡ Some v) × (v.0 ≡ x)
  from_owned i x at = by (slice_get m.numbers.local.owned i) refl (sym (owned_at i) ∙ at)
    where
      by : (o : Option Vertex) → slice_get m.numbers.local.owned i ≡ o → option_map (λ (v : Vertex). v.0) o ≡ Some x → (v : Vertex) × (slice_get m.numbers.local.owned i ≡ Some v) × (v.0 ≡ x)
      by None at some = absurd (true≢false (sym (ap is_some some)))
      by (Some v) at some = (v, at, some_is v.0 x some)

  -- an own vertex is listed as such
  pub owned_own : (i : ℕ) (v : Vertex) → slice_get m.numbers.local.owned i ≡ Some v → is_own m.numbers.local v.0 ≡ true
  owned_own i v at =
      let in_range = listed (λ x. st.owner x == m.numbers.local.me.0) 0 (size st.graph) i v.0 (owned_at i ∙ ap (option_map (λ (v : Vertex). v.0)) at) in
      let below = in_range.1 in
      let low : v.0 < size st.graph = omega arith in
      is.local.own v.0 ∙ ap (λ (b : Bool). b && st.owner v.0 == m.numbers.local.me.0) (lt-ltb v.0 (size st.graph) low) ∙ in_range.0

  pub unmarked_at : (place : ℕ) → AreMarkedBelow m.numbers w.known place → IsFirstUnmarked m.numbers w.known place → first_unmarked st m.numbers.local.me.0 here ≡ option_map (λ (v : Vertex). v.0) (slice_get m.numbers.local.owned place)
  unmarked_at place below first =
      let a = m.numbers.local.me.0 in
      let q : ℕ → Bool = λ x. nat_lt (datum_here m.numbers x).mark w.known in
      first_of (λ x. st.owner x == a) q 0 (size st.graph) place
      (λ i x low at.
      let has = from_owned i x at in
      ap q (sym has.2) ∙ not_below (datum_here m.numbers has.0.0).mark w.known (below i has.0 low has.1 (owned_own i has.0 has.1)))
      (λ x at.
      let has = from_owned place x at in
      ap q (sym has.2) ∙ lt-ltb (datum_here m.numbers has.0.0).mark w.known (first has.0 has.1))
      ∙ owned_at place
    where
      not_below : (a b : ℕ) → b ≤ a → nat_lt a b ≡ false
      not_below a b up = grind arith

  -- ---- what becomes pending

  pub seeded_none : HasPending m.numbers.tasks → IsOrderly m → KnowsPlaces m → part_seeded st m.numbers.local.me.0 here ≡ here
  seeded_none has order knows =
      let k = has.vertex in
      let low : k < length m.by_place.items = subst (λ (n : ℕ). k < n) (sym knows.vertices.many) has.within in
      let v = standing low in
      let at : place_at m.numbers.local v.0.0 ≡ Some k = knows.vertices.place k v.0 v.1 in
      let own : is_own m.numbers.local v.0.0 ≡ true = order.numbers.tasks.own v.0.0 k at ∙ lt-ltb k (length m.numbers.tasks.task) has.within in
      let inside : v.0.0 < size st.graph = ltb-true v.0.0 (size st.graph) (and_parts (nat_lt v.0.0 (size st.graph)) (st.owner v.0.0 == m.numbers.local.me.0) (sym (is.local.own v.0.0) ∙ own)).0 in
      let pends : pending_here m.numbers v.0.0 ≡ true = ap (flag_there m.numbers.tasks.pending) at ∙ has.pending in
      let found : is_found (first_pending st here) ≡ true = found_first (pending_here m.numbers) 0 (size st.graph) v.0.0 (omega arith) (omega arith) pends in
      let none : seed_if (first_pending st here) (first_unmarked st m.numbers.local.me.0 here) ≡ None = by (first_pending st here) (first_unmarked st m.numbers.local.me.0 here) found in
      λ i. record here { pending = λ u. is_at (none i) u || pending_here m.numbers u }
    where
      standing : has.vertex < length m.by_place.items → (v : Vertex) × (slice_get m.by_place.items has.vertex ≡ Some v)
      standing low = standing_at m.by_place.items has.vertex low

      by : (o u : Option ℕ) → is_found o ≡ true → seed_if o u ≡ None
      by None u is = absurd (true≢false (sym is))
      by (Some x) u is = refl

  pub seeded_one : ((u : ℕ) → is_flagged m.numbers.tasks.pending u ≡ false) → (place : ℕ) → AreMarkedBelow m.numbers w.known place → IsFirstUnmarked m.numbers w.known place
      → (u : ℕ) → (part_seeded st m.numbers.local.me.0 here).pending u ≡ (is_at (option_map (λ (v : Vertex). v.0) (slice_get m.numbers.local.owned place)) u || pending_here m.numbers u)
  seeded_one clear place below first u =
      let none : first_pending st here ≡ None = first_none (pending_here m.numbers) 0 (size st.graph) (λ x. never (place_at m.numbers.local x)) in
      ap (λ (o : Option ℕ). is_at (seed_if o (first_unmarked st m.numbers.local.me.0 here)) u || pending_here m.numbers u) none
      ∙ ap (λ (o : Option ℕ). is_at o u || pending_here m.numbers u) (unmarked_at place below first)
    where
      never : (o : Option ℕ) → flag_there m.numbers.tasks.pending o ≡ false
      never None = refl
      never (Some k) = clear k

-- ---- the three ways

pub pending_already : (m : Core) (k : ℕ) → HasPending m.numbers.tasks → IsOrderly m → KnowsPlaces m → HasSeeded m m k
pending_already m k has order knows st w is known = sym (seeded_none st m w is has order knows)

pub one_pended : (old new : Core) (k place : ℕ) (v : Vertex) → HasOtherPending old new → ((u : ℕ) → is_flagged old.numbers.tasks.pending u ≡ false) → AreMarkedBelow old.numbers k place → IsFirstUnmarked old.numbers k place
    → slice_get old.numbers.local.owned place ≡ Some v → ((u : ℕ) → flag_there new.numbers.tasks.pending (place_at old.numbers.local u) ≡ ((v.0 == u) || pending_here old.numbers u)) → HasSeeded old new k
one_pended old new k place v rest clear below first at each st w is known =
    let seeds = seeded_one st old w is clear place (subst (λ (n : ℕ). AreMarkedBelow old.numbers n place) (sym known) below) (subst (λ (n : ℕ). IsFirstUnmarked old.numbers n place) (sym known) first) in
    part_pended w old new (part_seeded st old.numbers.local.me.0 (with_snaps w (part_of old))).pending rest
    (λ u.
    ap (λ (m : Core). flag_there new.numbers.tasks.pending (place_at m.numbers.local u)) rest ∙ each u
    ∙ ap (λ (o : Option Vertex). is_at (option_map (λ (v : Vertex). v.0) o) u || pending_here old.numbers u) (sym at) ∙ sym (seeds u))

pub none_pended : (m : Core) (k place : ℕ) → ((u : ℕ) → is_flagged m.numbers.tasks.pending u ≡ false) → AreMarkedBelow m.numbers k place → IsFirstUnmarked m.numbers k place
    → ((v : Vertex) → slice_get m.numbers.local.owned place ≡ Some v → is_own m.numbers.local v.0 ≡ false) → HasSeeded m m k
none_pended m k place clear below first none st w is known =
    let seeds = seeded_one st m w is clear place (subst (λ (n : ℕ). AreMarkedBelow m.numbers n place) (sym known) below) (subst (λ (n : ℕ). IsFirstUnmarked m.numbers n place) (sym known) first) in
    let past : slice_get m.numbers.local.owned place ≡ None = by (slice_get m.numbers.local.owned place) refl in
    λ i. record (with_snaps w (part_of m)) { pending = λ u. sym (seeds u ∙ ap (λ (o : Option Vertex). is_at (option_map (λ (v : Vertex). v.0) o) u || pending_here m.numbers u) past) i }
  where
    by : (o : Option Vertex) → slice_get m.numbers.local.owned place ≡ o → slice_get m.numbers.local.owned place ≡ None
    by None at = at
    by (Some v) at = absurd (true≢false (sym (owned_own st m w is place v at) ∙ none v at))
