-- Seats and links hold the parts of a cluster, as one of them becomes another.
use Rattle.std.proofs.Common.{List, [], ap, arith, get_or, get_or-set_other, get_or-set_same, inl, inr, length, length-set, refl, set, subst, suc, sym, ◌<◌, ◌∙◌, ◌∷◌, ◌≡◌, ◌≢◌, ◌⊎◌, ⊎_elim, ℕ}
use Rattle.std.proofs.lemmas.Bool.{cases_eq}
use Rattle.std.specs.Prelude.{slice_set, zero}
use Rattle.std.specs.Vec.{with_item}
use mathlib.Core.Option.{some, some-ne-none}
use lib.ListN.{get_elem?}
use Rattle.atomic_table.proofs.Lists.{at_set, set_else, set_here}
use Rattle.cluster_step.specs.clusters.Inner.Writing.{HasLinkBetween, with_link_between}
use Rattle.wire_board.proofs.Putting.{link_other, link_put, links_apart}
use Rattle.wire_board.specs.Led.{HoldParts, IsLeadOf, IsMachineAt, Lead, LinkView, Node, Parts, Seated, Standing, link_between, link_no}

pub is_there : {A : Type 0} (l : List A) (i : ℕ) (a : A) → get_elem? l i ≡ some a → i < length l
is_there [] i a e = absurd (some-ne-none a (sym e))
is_there (x ∷ xs) zero a e = omega arith
is_there (x ∷ xs) (suc i) a e = let t = is_there xs i a e in omega arith

module _ {M : Type 0} (n : ℕ) (p : Parts (Standing M)) (parts : List (Seated M)) (links : List LinkView) (next left : ℕ) (h : HoldParts n p parts links next left) where
  -- a machine's seat has a machine of the cluster
  pub is_low : (a : ℕ) (x : Standing M) → get_elem? parts a ≡ some (Node x) → a < n
  is_low a x at =
      let within : a < suc n = subst (λ (k : ℕ). a < k) h.count (is_there parts a (Node x) at) in
      elim (cases_eq a n) [
        | inl last ↦ absurd (h.lead (Node x) (subst (λ (k : ℕ). get_elem? parts k ≡ some (Node x)) last at))
        | inr other ↦ omega arith
      ]

  pub inside : (a : ℕ) (x : Standing M) → get_elem? parts a ≡ some (Node x) → a < length p.machines.items
  inside a x at = subst (λ (k : ℕ). a < k) (sym h.many) (is_low a x at)

  pub here_is : (a : ℕ) (x : Standing M) → get_elem? parts a ≡ some (Node x) → IsMachineAt n p a (Node x)
  here_is a x at = h.machines a (Node x) (is_low a x at) at

  -- machine a is another
  module _ (a : ℕ) (y : Standing M) (low : a < n) (number : y.member.number ≡ a) (peers : y.member.peers ≡ suc n) where
    put : (b : ℕ) (z : Seated M) → b < n → get_elem? (slice_set parts a (Node y)) b ≡ some z → IsMachineAt n (record p { machines = with_item p.machines a y }) b z
    put b z low_b at =
        ⊎_elim
        (λ (is : (b ≡ a) × (Node y ≡ z)).
        subst (λ (s : Seated M). IsMachineAt n (record p { machines = with_item p.machines a y }) b s) is.1 (
          number ∙ sym is.0,
          peers,
          sym (ap (λ (k : ℕ). get_or (set p.machines.items a y) k y) is.0 ∙ get_or-set_same p.machines.items a y y (subst (λ (k : ℕ). a < k) (sym h.many) low)),
        ))
        (λ (is : (b ≢ a) × (get_elem? parts b ≡ some z)). other b z is.0 (h.machines b z low_b is.1))
        (at_set parts a b (Node y) z at)
      where
        other : (b : ℕ) (z : Seated M) → b ≢ a → IsMachineAt n p b z → IsMachineAt n (record p { machines = with_item p.machines a y }) b z
        other b (Node x) off is = (is.0, is.1, is.2 ∙ sym (get_or-set_other p.machines.items a b y x off))
        other b (Lead x) off is = is

    pub held_machine : HoldParts n (record p { machines = with_item p.machines a y }) (slice_set parts a (Node y)) links next left
    held_machine = record {
      many = length-set p.machines.items a y ∙ h.many;
      count = length-set parts a (Node y) ∙ h.count;
      machines = put;
      lead = λ z at.
          ⊎_elim
          (λ (is : (n ≡ a) × (Node y ≡ z)). absurd (omega arith))
          (λ (is : (n ≢ a) × (get_elem? parts n ≡ some z)). still_lead z (h.lead z is.1))
          (at_set parts a n (Node y) z at);
      lines = h.lines;
      next_is = h.next_is;
      left_is = h.left_is;
      awake = h.awake;
      runs = h.runs;
    }
      where
        still_lead : (z : Seated M) → IsLeadOf n p z → IsLeadOf n (record p { machines = with_item p.machines a y }) z
        still_lead (Node x) is = is
        still_lead (Lead x) is = is

  -- a link is another
  module _ (i j : ℕ) (low_i : i < suc n) (low_j : j < suc n) (l : LinkView) (has : HasLinkBetween p.links i j) where
    abbrev new : Parts (Standing M)
    new = record p { links = with_link_between p.links i j l }

    abbrev here : ℕ
    here = link_no (suc n) i j

    still_machine : (b : ℕ) (z : Seated M) → IsMachineAt n p b z → IsMachineAt n new b z
    still_machine b (Node x) is = is
    still_machine b (Lead x) is = is

    still_lead : (z : Seated M) → IsLeadOf n p z → IsLeadOf n new z
    still_lead (Node x) is = is
    still_lead (Lead x) is = is

    here_low : here < length links
    here_low = is_there links here (link_between p.links i j) (h.lines i j low_i low_j)

    off : (k m : ℕ) → k < suc n → m < suc n → (k ≢ i) ⊎ (m ≢ j) → get_elem? (slice_set links here l) (link_no (suc n) k m) ≡ some (link_between new.links k m)
    off k m low_k low_m apart =
        set_else links here (link_no (suc n) k m) l (links_apart (suc n) k m i j low_m low_j apart)
        ∙ h.lines k m low_k low_m
        ∙ ap some (sym (link_other p.links i j has l k m apart))

    line : (k m : ℕ) → k < suc n → m < suc n → get_elem? (slice_set links here l) (link_no (suc n) k m) ≡ some (link_between new.links k m)
    line k m low_k low_m = elim (cases_eq k i) [
      | inl row ↦ elim (cases_eq m j) [
        | inl column ↦
            (λ t. get_elem? (slice_set links here l) (link_no (suc n) (row t) (column t)))
            ∙ set_here links here l here_low
            ∙ ap some (sym (link_put p.links i j has l))
            ∙ (λ t. some (link_between new.links (sym row t) (sym column t)))
        | inr other ↦ off k m low_k low_m (inr other)
      ]
      | inr other ↦ off k m low_k low_m (inl other)
    ]

    pub held_link : HoldParts n new parts (slice_set links here l) next left
    held_link = record {
      many = h.many;
      count = h.count;
      machines = λ b z low_b at. still_machine b z (h.machines b z low_b at);
      lead = λ z at. still_lead z (h.lead z at);
      lines = line;
      next_is = h.next_is;
      left_is = h.left_is;
      awake = h.awake;
      runs = h.runs;
    }

  -- a ticket is drawn
  pub held_ticket : (new_next new_left : ℕ) → HoldParts n (record p { next = new_next; left = new_left }) parts links new_next new_left
  held_ticket new_next new_left = record {
    many = h.many;
    count = h.count;
    machines = λ b z low_b at. still_machine b z (h.machines b z low_b at);
    lead = λ z at. still_lead z (h.lead z at);
    lines = h.lines;
    next_is = refl;
    left_is = refl;
    awake = h.awake;
    runs = h.runs;
  }
    where
      still_machine : (b : ℕ) (z : Seated M) → IsMachineAt n p b z → IsMachineAt n (record p { next = new_next; left = new_left }) b z
      still_machine b (Node x) is = is
      still_machine b (Lead x) is = is

      still_lead : (z : Seated M) → IsLeadOf n p z → IsLeadOf n (record p { next = new_next; left = new_left }) z
      still_lead (Node x) is = is
      still_lead (Lead x) is = is
