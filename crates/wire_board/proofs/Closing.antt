-- A board as it is made, and as it is closed.
use Rattle.std.proofs.Common.{List, [], ap, arith, get_or, inl, inr, length, refl, subst, suc, sym, zero, ◌++◌, ◌+◌, ◌<◌, ◌∙◌, ◌∷◌, ◌≡◌, ◌⊎◌, ⊎_elim, ℕ}
use mathlib.Core.Option.{some, some-injective, some-ne-none}
use lib.ListN.{get_elem?}
use Rattle.link_tables.specs.Rule.{AreInOrder}
use Rattle.cluster_step.specs.clusters.Clusters.{StandsForSaving}
use Rattle.wire_board.proofs.Goings.{goes_nowhere}
use Rattle.wire_board.proofs.Holding.{is_there}
use Rattle.wire_board.specs.Going.{Cluster, FailureAt, IsSavingClusterOf, Machine, Parts, Setting}
use Rattle.wire_board.specs.Led.{HoldParts, HasBeenLed, IsLeadOf, IsMachineAt, Lead, LinkView, Node, Seated, Standing, StandsOwing, number_of}
use Rattle.wire_board.specs.Openings.{AreOpening, length_numbered, nodes, numbered, standing_parts}
use Rattle.wire_board.specs.Standings.{Nothing}

last_or : {A : Type 0} (l : List A) (x : A) (a : ℕ) (z : A) → get_elem? (l ++ x ∷ []) a ≡ some z → (get_elem? l a ≡ some z) ⊎ ((a ≡ length l) × (x ≡ z))
last_or [] x zero z at = inr (refl, some-injective x z at)
last_or [] x (suc a) z at = absurd (some-ne-none z (sym at))
last_or (y ∷ l) x zero z at = inl at
last_or (y ∷ l) x (suc a) z at = ⊎_elim (λ inner. inl inner) (λ last. inr (ap suc last.0, last.1)) (last_or l x a z at)

length_snoc : {A : Type 0} (l : List A) (x : A) → length (l ++ x ∷ []) ≡ suc (length l)
length_snoc [] x = refl
length_snoc (y ∷ l) x = ap suc (length_snoc l x)

zero_more : (a : ℕ) → 0 + a ≡ a
zero_more a = omega arith

-- ---- machines with their numbers

pub length_nodes : {M : Type 0} (xs : List (Standing M)) → length (nodes xs) ≡ length xs
length_nodes [] = refl
length_nodes (x ∷ xs) = ap suc (length_nodes xs)

-- what stands in place a of machines that are numbered from k on
record IsNumbered {M : Type 0} (peers k a : ℕ) (xs : List M) (z : Seated M) : Type 0 where
  x : Standing M
  is : z ≡ Node x
  number : x.member.number ≡ k + a
  count : x.member.peers ≡ peers
  there : (d : Standing M) → get_or (numbered peers k xs) a d ≡ x

node_at : {M : Type 0} (peers k : ℕ) (xs : List M) (a : ℕ) (z : Seated M) → get_elem? (nodes (numbered peers k xs)) a ≡ some z → IsNumbered peers k a xs z
node_at peers k [] a z at = absurd (some-ne-none z (sym at))
node_at peers k (x ∷ xs) zero z at =
    record { x = record { member = record { number = k; peers = peers; machine = x }; owed = Nothing }; is = sym (some-injective _ z at); number = omega arith; count = refl; there = λ d. refl }
node_at peers k (x ∷ xs) (suc a) z at =
    let rest : IsNumbered peers (suc k) a xs z = node_at peers (suc k) xs a z at in
    record { x = rest.x; is = rest.is; number = rest.number ∙ (let e : suc k + a ≡ k + suc a = omega arith in e); count = rest.count; there = rest.there }

numbered_at : {M : Type 0} (peers k : ℕ) (xs : List M) (a : ℕ) (d : Standing M) (e : M) → a < length xs → get_or (numbered peers k xs) a d ≡ record { member = record { number = k + a; peers = peers; machine = get_or xs a e }; owed = Nothing }
numbered_at peers k [] a d e low = absurd (omega arith)
numbered_at peers k (x ∷ xs) zero d e low = λ i. record { member = record { number = same i; peers = peers; machine = x }; owed = Nothing }
  where
    same : k ≡ k + 0
    same = omega arith
numbered_at peers k (x ∷ xs) (suc a) d e low =
    numbered_at peers (suc k) xs a d e (omega arith) ∙ (λ i. record { member = record { number = same i; peers = peers; machine = get_or xs a e }; owed = Nothing })
  where
    same : suc k + a ≡ k + suc a
    same = omega arith

-- ---- the opening

module _ {M : Type 0} (represents : Setting → ℕ → Machine → M → Type 0) (failures : List FailureAt) (done : List ℕ) (n : ℕ) (p : Parts M) (links : List LinkView) (is : AreOpening n p links) where
  abbrev lead : Seated M
  lead = Lead (record { number = n; coordinator = p.coordinator })

  abbrev front : List (Seated M)
  front = nodes (numbered (suc n) 0 p.machines.items)

  front_long : length front ≡ n
  front_long = length_nodes (numbered (suc n) 0 p.machines.items) ∙ length_numbered (suc n) 0 p.machines.items ∙ is.many

  pub in_order : AreInOrder number_of (front ++ lead ∷ [])
  in_order a z at =
      ⊎_elim
      (λ (inner : get_elem? front a ≡ some z).
      let one : IsNumbered (suc n) 0 a p.machines.items z = node_at (suc n) 0 p.machines.items a z inner in
      ap number_of one.is ∙ one.number ∙ zero_more a)
      (λ (last : (a ≡ length front) × (lead ≡ z)). ap number_of (sym last.1) ∙ sym (last.0 ∙ front_long))
      (last_or front lead a z at)

  -- the parts stand for the clusters for which they stood
  pub stood_so : (st : Setting) (c : Cluster) → IsSavingClusterOf represents st p c → IsSavingClusterOf (StandsOwing represents) st (standing_parts n p) c
  stood_so st c of = record {
    many = length_numbered (suc n) 0 p.machines.items ∙ of.many;
    small = of.small;
    links = of.links;
    machines = λ a d low.
        subst (StandsOwing represents st a (c.machine a))
        (sym (numbered_at (suc n) 0 p.machines.items a d d.member.machine (subst (λ (k : ℕ). a < k) (sym of.many) low)))
        (record { before = c.machine a; here = of.machines a d.member.machine low; done = refl });
    flags = of.flags;
    runs = of.runs;
    told = of.told;
    calls = of.calls;
    reports = of.reports;
    coordinator = of.coordinator;
    next = of.next;
    left = of.left;
    few = of.few;
    stopped = of.stopped;
    going = of.going;
  }

  opens_held : HoldParts n (standing_parts n p) (front ++ lead ∷ []) links p.next p.left
  opens_held = record {
    many = length_numbered (suc n) 0 p.machines.items ∙ is.many;
    count = length_snoc front lead ∙ ap suc front_long;
    machines = λ a z low at.
        ⊎_elim
        (λ (inner : get_elem? front a ≡ some z).
        let one : IsNumbered (suc n) 0 a p.machines.items z = node_at (suc n) 0 p.machines.items a z inner in
        subst (IsMachineAt n (standing_parts n p) a) (sym one.is) (one.number ∙ zero_more a, one.count, sym (one.there one.x)))
        (λ (last : (a ≡ length front) × (lead ≡ z)). let same : a ≡ n = last.0 ∙ front_long in absurd (omega arith))
        (last_or front lead a z at);
    lead = λ z at.
        ⊎_elim
        (λ (inner : get_elem? front n ≡ some z). let below = is_there front n z inner in let long = front_long in absurd (omega arith))
        (λ (last : (n ≡ length front) × (lead ≡ z)). subst (IsLeadOf n (standing_parts n p)) last.1 (refl, refl))
        (last_or front lead n z at);
    lines = is.lines;
    next_is = refl;
    left_is = refl;
    awake = is.awake;
    runs = is.runs;
  }

  pub opens_board : StandsForSaving represents p → HasBeenLed represents failures done (standing_parts n p) n (front ++ lead ∷ []) links p.next p.left
  opens_board there = record {
    now = standing_parts n p;
    held = opens_held;
    goes = goes_nowhere (StandsOwing represents) failures done (standing_parts n p);
    setting = there.0;
    cluster = there.1;
    snaps = there.2;
    stood = stood_so there.0 there.1 there.3;
  }
