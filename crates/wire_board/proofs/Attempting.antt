-- A board on which the cluster of a trace is: its seats, and what comes back of it.
use Rattle.std.proofs.Common.{Bool, List, None, [], ap, append-nil, append_assoc, arith, false, get_or, inl, inr, length, map, refl, subst, suc, sym, zero, ◌*◌, ◌++◌, ◌+◌, ◌<◌, ◌≤◌, ◌^◌, ◌∙◌, ◌∷◌, ◌≡◌, ◌⊎◌, ⊎_elim, ℕ}
use Rattle.std.proofs.lemmas.Nat.{mul-le}
use Rattle.std.specs.Prelude.{Err, IfOk, Ok, Result, slice_index_or, slice_set}
use mathlib.Core.Option.{some, some-injective, some-ne-none}
use lib.ListN.{get_elem?}
use Rattle.cluster_laws.specs.cluster_model.Events as law
use Rattle.cluster_step.specs.clusters.Inner.Writing.{HaveLinks}
use Rattle.cluster_step.specs.trace.Later.{apart_now, with_cluster}
use Rattle.cluster_step.specs.trace.Traces.{IsTraceNow, TraceGoesOn}
use Rattle.link_tables.specs.Rule.{AllHere, Ended}
use Rattle.link_tables.specs.Seats.{Rests, Sat, view}
use Rattle.wire_board.proofs.Closing.{length_nodes}
use Rattle.wire_board.proofs.Gathering.{closes, in_range, threads_go}
use Rattle.wire_board.proofs.Goings.{passing_others}
use Rattle.wire_board.specs.Attempts.{AllFrom, AreAllGathered, AreAwake, AreNumbered, FailureAt, IsLaterInAttempt, IsBoardOf, IsSeatOf, Lead, Leading, LinkView, Machine, Member, Node, Parts, Seated, Setting, StandsForSaving, TraceView, at_rest, numbered_members, resting}
use Rattle.wire_board.specs.Closings.{ArePutTogether, gathered}
use Rattle.wire_board.specs.Led.{HasBeenLed, link_between, number_of}
use Rattle.wire_board.specs.Openings.{AreOpening, first_parts, length_numbered, nodes, numbered, standing_parts}
use Rattle.wire_board.specs.Standings.{Nothing}

-- ---- what is so of each, by its number

pub all_snoc : {A : Type 0} (P : ℕ → A → Type 0) (k : ℕ) (xs : List A) (x : A) → AllFrom P k xs → P (k + length xs) x → AllFrom P k (xs ++ x ∷ [])
all_snoc P k [] x all one = (subst (λ (a : ℕ). P a x) (let e : k + 0 ≡ k = omega arith in e) one, tt)
all_snoc P k (y ∷ xs) x all one = (all.0, all_snoc P (suc k) xs x all.1 (subst (λ (a : ℕ). P a x) (let e : k + suc (length xs) ≡ suc k + length xs = omega arith in e) one))

pub all_at : {A : Type 0} (P : ℕ → A → Type 0) (k : ℕ) (xs : List A) (a : ℕ) (d : A) → a < length xs → AllFrom P k xs → P (k + a) (get_or xs a d)
all_at P k [] a d low all = absurd (omega arith)
all_at P k (x ∷ xs) zero d low all = subst (λ (n : ℕ). P n x) (let e : k ≡ k + 0 = omega arith in e) all.0
all_at P k (x ∷ xs) (suc a) d low all = subst (λ (n : ℕ). P n (get_or xs a d)) (let e : suc k + a ≡ k + suc a = omega arith in e) (all_at P (suc k) xs a d (omega arith) all.1)

pub all_set : {A : Type 0} (P : ℕ → A → Type 0) (k : ℕ) (xs : List A) (a : ℕ) (x : A) → AllFrom P k xs → P (k + a) x → AllFrom P k (slice_set xs a x)
all_set P k [] a x all one = tt
all_set P k (y ∷ xs) zero x all one = (subst (λ (n : ℕ). P n x) (let e : k + 0 ≡ k = omega arith in e) one, all.1)
all_set P k (y ∷ xs) (suc a) x all one = (all.0, all_set P (suc k) xs a x all.1 (subst (λ (n : ℕ). P n x) (let e : k + suc a ≡ suc k + a = omega arith in e) one))

-- ---- machines and their numbers

pub resting_numbered : {M : Type 0} (peers k : ℕ) (xs : List M) → nodes (numbered peers k xs) ≡ resting (numbered_members peers k xs)
resting_numbered peers k [] = refl
resting_numbered {M} peers k (x ∷ xs) = ap (λ (l : List (Seated M)). Node (record { member = record { number = k; peers = peers; machine = x }; owed = Nothing }) ∷ l) (resting_numbered peers (suc k) xs)

pub members_numbered : {M : Type 0} (peers k : ℕ) (xs : List M) → AreNumbered peers k (numbered_members peers k xs)
members_numbered peers k [] = tt
members_numbered peers k (x ∷ xs) = (refl, refl, members_numbered peers (suc k) xs)

pub length_members : {M : Type 0} (peers k : ℕ) (xs : List M) → length (numbered_members peers k xs) ≡ length xs
length_members peers k [] = refl
length_members peers k (x ∷ xs) = ap suc (length_members peers (suc k) xs)

pub numbered_snoc : {M : Type 0} (peers k : ℕ) (ys : List (Member M)) (y : Member M) → AreNumbered peers k ys → y.number ≡ k + length ys → y.peers ≡ peers → AreNumbered peers k (ys ++ y ∷ [])
numbered_snoc peers k [] y are number count = (number ∙ (let e : k + 0 ≡ k = omega arith in e), count, tt)
numbered_snoc peers k (z ∷ ys) y are number count = (are.0, are.1, numbered_snoc peers (suc k) ys y are.2 (number ∙ (let e : k + suc (length ys) ≡ suc k + length ys = omega arith in e)) count)

number_at : {M : Type 0} (peers k : ℕ) (ys : List (Member M)) (a : ℕ) (y : Member M) → AreNumbered peers k ys → get_elem? ys a ≡ some y → y.number ≡ k + a
number_at peers k [] a y are at = absurd (some-ne-none y (sym at))
number_at peers k (z ∷ ys) zero y are at = ap (λ (x : Member _). x.number) (sym (some-injective z y at)) ∙ are.0 ∙ (let e : k ≡ k + 0 = omega arith in e)
number_at peers k (z ∷ ys) (suc a) y are at = number_at peers (suc k) ys a y are.2 at ∙ (let e : suc k + a ≡ k + suc a = omega arith in e)

length_more : {A : Type 0} (l : List A) (x : A) → length (l ++ x ∷ []) ≡ suc (length l)
length_more [] x = refl
length_more (y ∷ l) x = ap suc (length_more l x)

-- one machine more has its number
pub number_next : {M : Type 0} (peers : ℕ) (ys : List (Member M)) (number : ℕ) (x : M) (xs : List M) (new : List (Member M)) → number ≡ length ys → new ≡ ys ++ record { number = number; peers = peers; machine = x } ∷ []
    → new ++ numbered_members peers (length new) xs ≡ ys ++ numbered_members peers (length ys) (x ∷ xs)
number_next {M} peers ys number x xs new here is =
    let m : Member M = record { number = number; peers = peers; machine = x } in
    ap (λ (zs : List (Member M)). zs ++ numbered_members peers (length zs) xs) is
    ∙ append_assoc ys (m ∷ []) (numbered_members peers (length (ys ++ m ∷ [])) xs)
    ∙ ap (λ (k : ℕ). ys ++ m ∷ numbered_members peers k xs) (length_more ys m)
    ∙ (λ i. ys ++ record { number = here i; peers = peers; machine = x } ∷ numbered_members peers (suc (length ys)) xs)

-- and so has the machine that follows some
pub map_next : {A B : Type 0} (f : A → B) (ys : List B) (x : A) (xs : List A) (new : List B) → new ≡ ys ++ f x ∷ [] → new ++ map f xs ≡ ys ++ map f (x ∷ xs)
map_next {A} {B} f ys x xs new is = ap (λ (zs : List B). zs ++ map f xs) is ∙ append_assoc ys (f x ∷ []) (map f xs)

zero_more : (a : ℕ) → 0 + a ≡ a
zero_more a = omega arith

pub all_gathered : {M : Type 0} (peers n : ℕ) (lead : Leading) (members : List (Member M)) → lead.number ≡ n → length members ≡ n → AreNumbered peers 0 members → AreAllGathered n lead members
all_gathered peers n lead members last many are = record {
  lead_number = last;
  many = many;
  numbers = λ a y at. number_at peers 0 members a y are at ∙ zero_more a;
}

below_or : (p n : ℕ) → p < suc n → (p < n) ⊎ (p ≡ n)
below_or zero zero low = inr refl
below_or zero (suc n) low = inl (omega arith)
below_or (suc p) zero low = absurd (omega arith)
below_or (suc p) (suc n) low = ⊎_elim (λ (l : p < n). inl (omega arith)) (λ (e : p ≡ n). inr (ap suc e)) (below_or p n (omega arith))

at_resting : {M : Type 0} (members : List (Member M)) (a : ℕ) (y : Member M) → get_elem? members a ≡ some y → get_elem? (resting members) a ≡ some (Node (at_rest y))
at_resting [] a y at = absurd (some-ne-none y (sym at))
at_resting (z ∷ members) zero y at = ap (λ (x : Member _). some (Node (at_rest x))) (some-injective z y at)
at_resting (z ∷ members) (suc a) y at = at_resting members a y at

-- each part is there
pub all_here : {M : Type 0} (peers n : ℕ) (lead : Leading) (members : List (Member M)) → lead.number ≡ n → length members ≡ n → AreNumbered peers 0 members → AllHere number_of (suc n) (gathered lead members)
all_here {M} peers n lead members last many are p low =
    ⊎_elim
    (λ (l : p < n).
    let found = in_range members p (subst (λ (k : ℕ). p < k) (sym many) l) in
    (suc p, Node (at_rest found.0), at_resting members p found.0 found.1, number_at peers 0 members p found.0 are found.1 ∙ zero_more p))
    (λ (e : p ≡ n). (0, Lead lead, refl, last ∙ sym e))
    (below_or p n low)

pub length_first : {M : Type 0} (n : ℕ) (p : Parts M) → length p.machines.items ≡ n → length (first_parts n p) ≡ suc n
length_first n p many = ap suc (length_nodes (numbered (suc n) 0 p.machines.items) ∙ length_numbered (suc n) 0 p.machines.items ∙ many)

-- ---- the place that has all

pub members_are : {M : Type 0} (p q : Parts M) (members : List (Member M)) (number peers : ℕ) → p ≡ q → number ≡ length p.machines.items → peers ≡ number + 1 → members ≡ numbered_members peers 0 p.machines.items
    → members ≡ numbered_members (suc (length q.machines.items)) 0 q.machines.items
members_are p q members number peers same many more are =
    are ∙ (λ i. numbered_members (more i) 0 (same i).machines.items)
    ∙ (let e : number + 1 ≡ suc number = omega arith in ap (λ (k : ℕ). numbered_members k 0 q.machines.items) (e ∙ ap suc (many ∙ ap (λ (r : Parts _). length r.machines.items) same)))

pub rests_first : {M : Type 0} (n : ℕ) (p : Parts M) (lead : Leading) (members : List (Member M)) (me : Sat (Seated M) LinkView) → me ≡ (view (first_parts n p) None 0 [], [])
    → lead.number ≡ n → lead.coordinator ≡ p.coordinator → members ≡ numbered_members (suc n) 0 p.machines.items → Rests me (Lead lead) (resting members)
rests_first {M} n p lead members me is number coordinator are =
    subst (λ (m : Sat (Seated M) LinkView). Rests m (Lead lead) (resting members)) (sym is) (record {
      parts = λ i. Lead (record { number = sym number i; coordinator = sym coordinator i }) ∷ (resting_numbered (suc n) 0 p.machines.items ∙ ap resting (sym are)) i;
      link = refl;
      slots = refl;
    })

pub resting_snoc : {M : Type 0} (members : List (Member M)) (y : Member M) → resting members ++ Node (at_rest y) ∷ [] ≡ resting (members ++ y ∷ [])
resting_snoc [] y = refl
resting_snoc {M} (z ∷ members) y = ap (λ (l : List (Seated M)). Node (at_rest z) ∷ l) (resting_snoc members y)

-- ---- seats

module _ {M : Type 0} (represents : Setting → ℕ → Machine → M → Type 0) (done : List ℕ) (me : Sat (Seated M) LinkView) (before : ℕ) where
  -- a seat by its machine's own number and count of peers
  pub own_seat : (peers a : ℕ) (member : Member M) → IsSeatOf represents peers done a member me before → IsSeatOf represents member.peers done member.number member me before
  own_seat peers a member s = record {
    number = refl;
    peers_are = refl;
    inside = (let i = s.inside in let n = s.number in let p = s.peers_are in omega arith);
    before_is = ap (λ (k : ℕ). slice_index_or done k 0) s.number ∙ s.before_is;
    sits = s.sits;
  }

  -- and by those that it had
  pub seat_again : (peers a number count : ℕ) (member : Member M) → number ≡ a → count ≡ peers → IsSeatOf represents count done number member me before → IsSeatOf represents peers done a member me before
  seat_again peers a number count member is many s = subst (λ (k : ℕ). IsSeatOf represents peers done k member me before) is (subst (λ (k : ℕ). IsSeatOf represents k done number member me before) many s)

pub all_map : {A : Type 0} (P Q : ℕ → A → Type 0) → ((a : ℕ) (x : A) → P a x → Q a x) → (k : ℕ) (xs : List A) → AllFrom P k xs → AllFrom Q k xs
all_map P Q each k [] all = tt
all_map P Q each k (x ∷ xs) all = (each k x all.0, all_map P Q each (suc k) xs all.1)

-- ---- the trace

-- what has come of the trace as its cluster went out has come of the trace
pub goes_apart : {M : Type 0} (represents : Setting → ℕ → Machine → M → Type 0) (v w : TraceView M) → TraceGoesOn represents (apart_now v) w → TraceGoesOn represents v w
goes_apart represents v w goes st o events c is = goes st o events c (record { setting = is.setting; trace = is.trace; code = is.code; done = is.done })

pub goes_ok : {M E : Type 0} (represents : Setting → ℕ → Machine → M → Type 0) (v w : TraceView M) (r : Result (TraceView M) E) → w ≡ apart_now v → IfOk r (λ t. TraceGoesOn represents w t) → IfOk r (λ t. TraceGoesOn represents v t)
goes_ok {M} represents v w (Ok t) is goes = goes_apart represents v t (subst (λ (x : TraceView M). TraceGoesOn represents x t) is goes)
goes_ok represents v w (Err e) is goes = tt

-- it comes back, and remembers where it is
pub goes_back_in : {M : Type 0} (represents : Setting → ℕ → Machine → M → Type 0) (v w : TraceView M) (q : Parts M) → w ≡ with_cluster v q → TraceGoesOn represents v (record v { now = q }) → TraceGoesOn represents v w
goes_back_in {M} represents v w q is goes =
    subst (λ (x : TraceView M). TraceGoesOn represents v x) (sym is)
    (λ st o events c at.
    let one = goes st o events c at in
    (one.0, one.1, one.2, record { setting = one.3.setting; trace = one.3.trace; code = one.3.code; done = one.3.done }))

-- nothing has happened
pub goes_nowhere : {M : Type 0} (represents : Setting → ℕ → Machine → M → Type 0) (v w : TraceView M) → w ≡ record v { since = v.now } → TraceGoesOn represents v w
goes_nowhere {M} represents v w is st o events c now = (
  [],
  c,
  tt,
  subst (λ (x : TraceView M). IsTraceNow represents x st o (events ++ []) c) (sym is)
      (subst (λ (more : List law.Event). IsTraceNow represents (record v { since = v.now }) st o more c) (sym (append-nil events))
      (record { setting = now.setting; trace = now.trace; code = now.code; done = now.done })),
)

-- ---- the cluster goes onto a board

-- there is a link between any two peers
pub have_all : {M : Type 0} (represents : Setting → ℕ → Machine → M → Type 0) (v : TraceView M) (n : ℕ) → StandsForSaving represents v.now → n ≡ length v.now.machines.items → HaveLinks v.now.links (suc n)
have_all represents v n stands many = subst (λ (k : ℕ). HaveLinks v.now.links (suc k)) (sym stands.3.many ∙ sym many) stands.3.links

pub opening_is : {M : Type 0} (represents : Setting → ℕ → Machine → M → Type 0) (v : TraceView M) (n : ℕ) (list : List LinkView) → StandsForSaving represents v.now → AreAwake v.now.failed.items → v.now.stopped ≡ false
    → n ≡ length v.now.machines.items → ((k i j : ℕ) → HaveLinks v.now.links k → i < k → j < k → get_elem? list (i * k + j) ≡ some (link_between v.now.links i j)) → AreOpening n v.now list
opening_is represents v n list stands awake runs many each = record {
  many = sym many;
  lines = λ i j low_i low_j. each (suc n) i j (have_all represents v n stands many) low_i low_j;
  awake = awake;
  runs = runs;
}

-- its links stand in a list
pub lines_of : {M : Type 0} (p q : Parts M) (list : List LinkView) → p ≡ q → ((k i j : ℕ) → HaveLinks p.links k → i < k → j < k → get_elem? list (i * k + j) ≡ some (link_between p.links i j))
    → (k i j : ℕ) → HaveLinks q.links k → i < k → j < k → get_elem? list (i * k + j) ≡ some (link_between q.links i j)
lines_of {M} p q list same each =
    subst (λ (r : Parts M). (k i j : ℕ) → HaveLinks r.links k → i < k → j < k → get_elem? list (i * k + j) ≡ some (link_between r.links i j)) same each

-- so many links are few enough
pub few_links : (n many : ℕ) → n < 4095 → suc n * suc n ≡ many → many < 2 ^ 24
few_links n many few is =
    let square : suc n * suc n ≤ 4095 * 4095 = mul-le (suc n) (suc n) 4095 4095 (omega arith) (omega arith) in
    omega arith

-- ---- the cluster comes back

module _ {M : Type 0} (represents : Setting → ℕ → Machine → M → Type 0) (v : TraceView M) (failed : List Bool) (n : ℕ) (failures : List FailureAt) (done : List ℕ) (opening : Parts M) (many top : ℕ)
    (made : IsBoardOf represents v failed n failures done opening many top) (lead : Leading) (members : List (Member M)) (last : lead.number ≡ length v.now.machines.items) (count : length members ≡ length v.now.machines.items)
    (are : AreNumbered (suc (length v.now.machines.items)) 0 members) where
  lead_last : lead.number ≡ n
  lead_last = last ∙ sym made.machines_are

  all_count : length members ≡ n
  all_count = count ∙ sym made.machines_are

  pub all_parts : (me : Sat (Seated M) LinkView) → Rests me (Lead lead) (resting members) → AllHere number_of (length (first_parts n opening)) me.0.parts
  all_parts me rests =
      subst (λ (parts : List (Seated M)). AllHere number_of (length (first_parts n opening)) parts) (sym rests.parts)
      (subst (λ (k : ℕ). AllHere number_of k (gathered lead members)) (sym (length_first n opening (ap (λ (p : Parts M). length p.machines.items) made.opening_is ∙ sym made.machines_are)))
      (all_here (suc (length v.now.machines.items)) n lead members lead_last all_count are))

  module _ (me : Sat (Seated M) LinkView) (rests : Rests me (Lead lead) (resting members)) (links : List LinkView) (next left : ℕ)
      (ended : Ended number_of (HasBeenLed represents failures done (standing_parts n opening) n) me.0.parts links next left) where
    ended_so : Ended number_of (HasBeenLed represents v.failures v.done (standing_parts n v.now) n) (gathered lead members) links next left
    ended_so =
        subst (λ (parts : List (Seated M)). Ended number_of (HasBeenLed represents v.failures v.done (standing_parts n v.now) n) parts links next left) rests.parts
        (subst (λ (p : Parts M). Ended number_of (HasBeenLed represents v.failures v.done (standing_parts n p) n) me.0.parts links next left) made.opening_is
        (subst (λ (d : List ℕ). Ended number_of (HasBeenLed represents v.failures d (standing_parts n opening) n) me.0.parts links next left) made.done_are
        (subst (λ (f : List FailureAt). Ended number_of (HasBeenLed represents f done (standing_parts n opening) n) me.0.parts links next left) made.failures_are ended)))

    module _ (q : Parts M) (machines : q.machines.items ≡ map (λ (y : Member M). y.machine) members) (coordinator : q.coordinator ≡ lead.coordinator) (flags : q.failed.items ≡ failed)
        (have : HaveLinks q.links (lead.number + 1)) (lines : (i j : ℕ) → i < lead.number + 1 → j < lead.number + 1 → get_elem? links (i * (lead.number + 1) + j) ≡ some (link_between q.links i j))
        (next_is : q.next ≡ next) (left_is : q.left ≡ left) (runs : q.stopped ≡ false) where
      peers_are : lead.number + 1 ≡ suc n
      peers_are = ap (λ (k : ℕ). k + 1) lead_last ∙ (let e : n + 1 ≡ suc n = omega arith in e)

      put_together : ArePutTogether n lead members links next left q
      put_together = record {
        machines = machines;
        coordinator = coordinator;
        flags = ap length (flags ∙ made.flags) ∙ made.stands.3.flags ∙ sym made.stands.3.many ∙ sym made.machines_are;
        awake = λ a. subst (λ (l : List Bool). slice_index_or l a false ≡ false) (sym (flags ∙ made.flags)) (made.opens.awake a);
        have = subst (HaveLinks q.links) peers_are have;
        lines = subst (λ (k : ℕ). (i j : ℕ) → i < k → j < k → get_elem? links (i * k + j) ≡ some (link_between q.links i j)) peers_are lines;
        next_is = next_is;
        left_is = left_is;
        runs = runs;
      }

      pub goes_on : TraceGoesOn represents v (record v { now = q })
      goes_on = threads_go represents v n made.first lead members links next left q made.opens (all_gathered (suc (length v.now.machines.items)) n lead members lead_last all_count are) ended_so put_together

      pub later_on : IsLaterInAttempt represents v (record v { now = q })
      later_on st o events c is = let one = goes_on st o events c is in (one.0, one.1, passing_others one.0 one.2, one.3)

      pub stands_on : StandsForSaving represents q
      stands_on =
          let led = ended_so.led in (
            led.setting,
            led.cluster,
            led.snaps,
            closes represents n led.now ended_so.parts links next left led.held lead members (all_gathered (suc (length v.now.machines.items)) n lead members lead_last all_count are) ended_so.are q put_together led.setting led.snaps led.cluster led.stood,
          )
