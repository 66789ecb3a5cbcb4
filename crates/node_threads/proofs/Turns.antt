-- How seats stand behind the turns that threads give them, and what stands in lists of seats.
use Rattle.std.proofs.Common.{List, [], ap, arith, length, refl, subst, suc, sym, ◌++◌, ◌+◌, ◌-◌, ◌∙◌, ◌∷◌, ◌≡◌, ℕ}
use Rattle.std.specs.Prelude.{Err, Ok, OnOk, Result, ⊤}
use Rattle.link_tables.specs.Seats.{saw}
use Rattle.node_threads.specs.Nodes.{AllDown, AllFrom, Board, HasServed, IsAtBoard, Machine, NodeSeat, Setting, Sits}
use Rattle.wire_board.proofs.Attempting.{own_seat}
use Rattle.wire_board.proofs.Places.{sits_read}
use Rattle.wire_board.specs.declared.standings.Member.{Member}

module _ {M : Type 0} (represents : Setting → ℕ → Machine → M → Type 0) where
  pub served_nowhere : (s : NodeSeat M) → Sits represents s.member s.place.seat.me → HasServed represents s s
  served_nowhere s sits = record { table = refl; number = refl; peers = refl; before = refl; sits = sits }

  pub served_then : (s t u : NodeSeat M) → HasServed represents s t → HasServed represents t u → HasServed represents s u
  served_then s t u one other =
      record { table = other.table ∙ one.table; number = other.number ∙ one.number; peers = other.peers ∙ one.peers; before = other.before ∙ one.before; sits = other.sits }

  -- it has read a word, or raised the halt
  pub served_read : (s t u : NodeSeat M) (word number : ℕ) → HasServed represents s t → u.member ≡ t.member → u.before ≡ t.before → u.place.seat.table_id ≡ t.place.seat.table_id
      → u.place.seat.me ≡ (saw t.place.seat.me.0 word number, t.place.seat.me.1) → HasServed represents s u
  served_read s t u word number served member before table me = record {
    table = table ∙ served.table;
    number = ap (λ (y : Member M). y.number) member ∙ served.number;
    peers = ap (λ (y : Member M). y.peers) member ∙ served.peers;
    before = before ∙ served.before;
    sits = subst (λ (y : Member M). Sits represents y u.place.seat.me) (sym member) (sits_read represents t.member t.place.seat.me u.place.seat.me word number served.sits me);
  }

  module _ (board : Board M) where
    -- the seat of a machine is that of the same machine behind its turns
    pub at_board : (peers a : ℕ) (s t : NodeSeat M) → IsAtBoard represents board peers a s → HasServed represents s t → IsAtBoard represents board peers a t
    at_board peers a s t here served = record {
      table = served.table ∙ here.table;
      is = record {
        number = served.number ∙ here.is.number;
        peers_are = served.peers ∙ here.is.peers_are;
        inside = here.is.inside;
        before_is = here.is.before_is ∙ sym served.before;
        sits = served.sits;
      };
    }

    -- a seat by its machine's own number and count of peers
    pub at_own : (peers a : ℕ) (s : NodeSeat M) → IsAtBoard represents board peers a s → IsAtBoard represents board s.member.peers s.member.number s
    at_own peers a s here =
        record { table = here.table; is = own_seat represents board.table.table.shared.key.about.done.value.items s.place.seat.me s.before peers a s.member here.is }

-- ---- lists

pub down_snoc : {A : Type 0} (P : ℕ → A → Type 0) (n : ℕ) (xs : List A) (x : A) → AllDown P n xs → P (n - length xs - 1) x → AllDown P n (xs ++ x ∷ [])
down_snoc P n [] x all one = (subst (λ (a : ℕ). P a x) (let e : n - 0 - 1 ≡ n - 1 = omega arith in e) one, tt)
down_snoc P n (y ∷ xs) x all one =
    (all.0, down_snoc P (n - 1) xs x all.1 (subst (λ (a : ℕ). P a x) (let e : n - suc (length xs) - 1 ≡ n - 1 - length xs - 1 = omega arith in e) one))

pub down_last : {A : Type 0} (P : ℕ → A → Type 0) (n : ℕ) (xs : List A) (x : A) → AllDown P n (xs ++ x ∷ []) → P (n - length xs - 1) x
down_last P n [] x all = subst (λ (a : ℕ). P a x) (let e : n - 1 ≡ n - 0 - 1 = omega arith in e) all.0
down_last P n (y ∷ xs) x all = subst (λ (a : ℕ). P a x) (let e : n - 1 - length xs - 1 ≡ n - suc (length xs) - 1 = omega arith in e) (down_last P (n - 1) xs x all.1)

pub down_first : {A : Type 0} (P : ℕ → A → Type 0) (n : ℕ) (xs : List A) (x : A) → AllDown P n (xs ++ x ∷ []) → AllDown P n xs
down_first P n [] x all = tt
down_first P n (y ∷ xs) x all = (all.0, down_first P (n - 1) xs x all.1)

pub from_last : {A : Type 0} (P : ℕ → A → Type 0) (k : ℕ) (xs : List A) (x : A) → AllFrom P k (xs ++ x ∷ []) → P (k + length xs) x
from_last P k [] x all = subst (λ (a : ℕ). P a x) (let e : k ≡ k + 0 = omega arith in e) all.0
from_last P k (y ∷ xs) x all = subst (λ (a : ℕ). P a x) (let e : suc k + length xs ≡ k + suc (length xs) = omega arith in e) (from_last P (suc k) xs x all.1)

pub from_first : {A : Type 0} (P : ℕ → A → Type 0) (k : ℕ) (xs : List A) (x : A) → AllFrom P k (xs ++ x ∷ []) → AllFrom P k xs
from_first P k [] x all = tt
from_first P k (y ∷ xs) x all = (all.0, from_first P (suc k) xs x all.1)

-- ---- what is so where there was memory

pub on_both : {E X W Y Z : Type 0} (r a b : Result ⊤ E) → OnOk r ((a ≡ Ok tt) × (b ≡ Ok tt)) → OnOk a X → OnOk a W → OnOk b Y → (X → W → Y → Z) → OnOk r Z
on_both {E} {X} {W} {Y} (Ok t) a b both x w y f = f (subst (λ (q : Result ⊤ E). OnOk q X) both.0 x) (subst (λ (q : Result ⊤ E). OnOk q W) both.0 w) (subst (λ (q : Result ⊤ E). OnOk q Y) both.1 y)
on_both (Err e) a b both x w y f = tt

pub on_ok : {A E X Z : Type 0} (r : Result A E) → OnOk r X → (X → Z) → OnOk r Z
on_ok (Ok t) x f = f x
on_ok (Err e) x f = tt

pub all_both : {A : Type 0} (P Q S : ℕ → A → Type 0) → ((a : ℕ) (x : A) → P a x → Q a x → S a x) → (k : ℕ) (xs : List A) → AllFrom P k xs → AllFrom Q k xs → AllFrom S k xs
all_both P Q S each k [] one other = tt
all_both P Q S each k (x ∷ xs) one other = (each k x one.0 other.0, all_both P Q S each (suc k) xs one.1 other.1)
