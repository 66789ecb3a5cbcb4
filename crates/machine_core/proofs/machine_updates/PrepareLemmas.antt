-- Machines for which room is made, one after another.
use Rattle.std.proofs.Common.{◌≡◌, ◌≢◌, ℕ, zero, suc, ◌+◌, ◌<◌, ◌≤◌, ◌==◌, ◌&&◌, ◌||◌, ◌++◌, Bool, true, false, true≢false, not, List, [], ◌∷◌, length, take, get_or, refl, sym, ap, ◌∙◌, subst, arith, inl, inr, eq-eqb, ne_eqb}
use Rattle.std.specs.List.{AllPairs, list_any}
use Rattle.std.proofs.lemmas.Bool.{cases_eq}
use Rattle.std.proofs.lemmas.List.Elements.{All-push}
use Rattle.std.proofs.lemmas.List.Folds.{list_any-append, list_any_more}
use Rattle.std.proofs.lemmas.List.Quantifiers.{all_pairs_push}
use Rattle.std.proofs.Math.Bool.{or-false}
use Rattle.gl_base.specs.declared.numbers.MachineNo.{MachineNo}
use Rattle.gl_base.specs.declared.numbers.Vertex.{Vertex}
use Rattle.gl_base.specs.declared.scopes.Peer.TheVariants.{Machine}
use Rattle.gl_base.specs.declared.scopes.ScopeId.{ScopeId}
use Rattle.wire.specs.outboxes.Outboxes.{OutboxView, OutboxesView, outbox_to}
use Rattle.partition.specs.machine_numbers.Steps.{IsBlank}
use Rattle.machine_core.specs.declared.machine_updates.reserving.Prepared.{Prepared}
use Rattle.machine_core.specs.machine_parts.Rooms.{HaveSameMessages}
use Rattle.machine_core.specs.machine_updates.Reserving.{CanTell, HasRoomToTell, is_to_be_told}

abbrev pub is_among : List MachineNo → ℕ → Bool
is_among bs q = list_any (λ b. b.0 == q) bs

-- room was made for these machines, but this one
pub record IsPreparing (old now : OutboxesView) (scope : ScopeId) (v : Vertex) (many me : ℕ) (bs : List MachineNo) (ps : List Prepared) : Type 0 where
  pub same : HaveSameMessages old now
  pub can : CanTell now scope v many ps
  pub told : (q : ℕ) → is_to_be_told ps q ≡ (is_among bs q && not (q == me))

pub none_yet : (old : OutboxesView) (scope : ScopeId) (v : Vertex) (many me : ℕ) → IsPreparing old old scope v many me [] []
none_yet old scope v many me =
    record {
      same = record { machines = refl; messages = λ to. refl };
      can =
          record {
            machines = λ k d low. absurd (omega arith);
            room = λ k d low. absurd (omega arith);
            blank = λ k d low. absurd (omega arith);
            apart = λ i j d before low. absurd (omega arith);
          };
      told = λ q. refl;
    }

eqb_turned : (a b : ℕ) → (a == b) ≡ (b == a)
eqb_turned a b = grind arith

not_me : (a : Bool) (b q me : ℕ) → b ≡ me → (a && not (q == me)) ≡ ((a || b == q) && not (q == me))
not_me true b q me same = refl
not_me false b q me same = elim (cases_eq b q) [
  | inl here ↦ sym (ap (λ (c : Bool). (b == q) && not c) (eq-eqb q me (sym here ∙ same)) ∙ and_false (b == q))
  | inr other ↦ sym (ap (λ (c : Bool). c && not (q == me)) (ne_eqb b q other))
]
  where
    and_false : (a : Bool) → (a && false) ≡ false
    and_false true = refl
    and_false false = refl

pub passed_over : (old now : OutboxesView) (scope : ScopeId) (v : Vertex) (many me : ℕ) (bs : List MachineNo) (i : ℕ) (d : MachineNo) (ps : List Prepared) → i < length bs → (get_or bs i d).0 ≡ me
    → IsPreparing old now scope v many me (take i bs) ps → IsPreparing old now scope v many me (take (i + 1) bs) ps
passed_over old now scope v many me bs i d ps inside same are =
    record {
      same = are.same;
      can = are.can;
      told = λ q.
          let more = list_any_more (λ (c : MachineNo). c.0 == q) bs i d inside in
          are.told q ∙ not_me (is_among (take i bs) q) (get_or bs i d).0 q me same ∙ ap (λ (c : Bool). c && not (q == me)) (sym more);
    }

-- none of the first stands here
none_up_to : (bs : List MachineNo) (i j : ℕ) (d : MachineNo) → j ≤ i → i < length bs → AllPairs (λ (one other : MachineNo). one.0 ≢ other.0) bs → is_among (take j bs) (get_or bs i d).0 ≡ false
none_up_to [] i j d before inside apart = absurd (omega arith)
none_up_to (c ∷ bs) i zero d before inside apart = refl
none_up_to (c ∷ bs) zero (suc j) d before inside apart = absurd (omega arith)
none_up_to (c ∷ bs) (suc i) (suc j) d before inside apart =
    ap (λ (x : Bool). x || is_among (take j bs) (get_or bs i d).0) (ne_eqb c.0 (get_or bs i d).0 (apart 0 (suc i) d (omega arith) (omega arith)))
    ∙ none_up_to bs i j d (omega arith) (omega arith) (λ k l e less low. apart (suc k) (suc l) e (omega arith) (omega arith))

or_false_left : (a b : Bool) → (a || b) ≡ false → a ≡ false
or_false_left true b is = is
or_false_left false b is = refl

or_false_right : (a b : Bool) → (a || b) ≡ false → b ≡ false
or_false_right true b is = absurd (true≢false is)
or_false_right false b is = is

-- those that are told have a place in the list
not_told : (ps : List Prepared) (b : ℕ) → is_to_be_told ps b ≡ false → (k : ℕ) (d : Prepared) → k < length ps → (get_or ps k d).to.0 ≢ b
not_told [] b none k d low = absurd (omega arith)
not_told (p ∷ ps) b none zero d low = λ same. true≢false (sym (eq-eqb p.to.0 b same) ∙ or_false_left (p.to.0 == b) (is_to_be_told ps b) none)
not_told (p ∷ ps) b none (suc k) d low = not_told ps b (or_false_right (p.to.0 == b) (is_to_be_told ps b) none) k d (omega arith)

one_more : (a : Bool) (b q me : ℕ) → (b ≡ me → ⊥) → ((a && not (q == me)) || b == q) ≡ ((a || b == q) && not (q == me))
one_more true b q me other = elim (cases_eq q me) [
  | inl me_too ↦
      let off : (b == q) ≡ false = ne_eqb b q (λ same. other (same ∙ me_too)) in
      ap (λ (c : Bool). not (q == me) || c) off ∙ or-false (not (q == me))
  | inr not_it ↦ ap (λ (c : Bool). not c || b == q) (ne_eqb q me not_it) ∙ sym (ap not (ne_eqb q me not_it))
]
one_more false b q me other = elim (cases_eq b q) [
  | inl here ↦ eq-eqb b q here ∙ sym (ap (λ (c : Bool). c && not (q == me)) (eq-eqb b q here) ∙ ap not (ne_eqb q me (λ same. other (here ∙ same))))
  | inr away ↦ ne_eqb b q away ∙ sym (ap (λ (c : Bool). c && not (q == me)) (ne_eqb b q away))
]

-- room that was there for others is there still
pub one_prepared : (old now next : OutboxesView) (scope : ScopeId) (v : Vertex) (many me : ℕ) (bs : List MachineNo) (i : ℕ) (d : MachineNo) (ps : List Prepared) (p : Prepared) → i < length bs
    → AllPairs (λ (one other : MachineNo). one.0 ≢ other.0) bs → ((get_or bs i d).0 ≡ me → ⊥) → IsPreparing old now scope v many me (take i bs) ps → p.to ≡ get_or bs i d → IsBlank p.done scope v many → (get_or bs i d).0 < length now.machines
    → HasRoomToTell next (get_or bs i d) → HaveSameMessages now next → ((c : MachineNo) → c.0 ≢ (get_or bs i d).0 → outbox_to next (Machine c) ≡ outbox_to now (Machine c)) → IsPreparing old next scope v many me (take (i + 1) bs) (ps ++ p ∷ [])
one_prepared old now next scope v many me bs i d ps p inside apart other are to blank machine room same others =
    let b = get_or bs i d in
    let to_b : p.to.0 ≡ b.0 = ap (λ (c : MachineNo). c.0) to in
    let none : is_among (take i bs) b.0 ≡ false = none_up_to bs i i d (omega arith) inside apart in
    let untold : is_to_be_told ps b.0 ≡ false = are.told b.0 ∙ ap (λ (c : Bool). c && not (b.0 == me)) none in
    let P : Prepared → Type 0 = λ r. r.to.0 < length next.machines in
    let Q : Prepared → Type 0 = λ r. HasRoomToTell next r.to in
    let S : Prepared → Type 0 = λ r. IsBlank r.done scope v many in
    let R : Prepared → Prepared → Type 0 = λ one two. one.to.0 ≢ two.to.0 in
    record {
      same = record { machines = same.machines ∙ are.same.machines; messages = λ q. same.messages q ∙ are.same.messages q };
      can =
          record {
            machines = All-push P ps p (λ k e low. subst (λ (n : ℕ). (get_or ps k e).to.0 < n) (sym same.machines) (are.can.machines k e low))
                (subst (λ (n : ℕ). p.to.0 < n) (sym same.machines) (subst (λ (n : ℕ). n < length now.machines) (sym to_b) machine));
            room = All-push Q ps p
                (λ k d low. subst (λ (box : OutboxView). 0 < box.room) (sym (others (get_or ps k d).to (not_told ps b.0 untold k d low))) (are.can.room k d low))
                (subst (HasRoomToTell next) (sym to) room);
            blank = All-push S ps p are.can.blank blank;
            apart = all_pairs_push R ps p are.can.apart (λ k d low same_to. not_told ps b.0 untold k d low (same_to ∙ to_b));
          };
      told = λ q.
          let more = list_any_more (λ (c : MachineNo). c.0 == q) bs i d inside in
          list_any-append (λ (r : Prepared). r.to.0 == q) ps (p ∷ [])
          ∙ ap (λ (c : Bool). is_to_be_told ps q || c) (or-false (p.to.0 == q) ∙ ap (λ (n : ℕ). n == q) to_b)
          ∙ ap (λ (c : Bool). c || b.0 == q) (are.told q)
          ∙ one_more (is_among (take i bs) q) b.0 q me other
          ∙ ap (λ (c : Bool). c && not (q == me)) (sym more);
    }
