-- The links, as one seat takes one and gives it back.
use Rattle.std.proofs.Common.{◌≡◌, ℕ, ◌<◌, ◌≤◌, ◌≢◌, eqb, List, [], ◌∷◌, ◌++◌, length, get_or, set, Option, Some, None, sym, ap, ◌∙◌, subst, ⊎_elim, length-set, get_or-set_same, get_or-set_other, arith}
use Rattle.std.proofs.lemmas.List.Sums.{sum_by-append}
use mathlib.Core.Logic.{dite}
use mathlib.Core.Option.{some, some-injective}
use mathlib.Core.Option as maybe
use native.Mathlib.Decide.{ℕ_discrete}
use lib.ListN.{get_elem?}
use Rattle.atomic_table.proofs.Lists.{at_set, set_here, set_else, at_snoc}
use Rattle.link_tables.specs.Seats.{word_at}
use Rattle.link_tables.specs.Rule.{one_when, is_link, Linked}
use Rattle.link_tables.specs.declared.views.View.{View}
use Rattle.link_tables.proofs.Lists.{is_there, total_set, term_le, terms_le, same_one, other_none, one_le, has_link, has_other, has_none}

pub no_none : {A : Type 0} (x : A) (link : Option A) → link ≡ None → link ≡ Some x → ⊥
no_none x link d e = let t : None ≡ Some x = sym d ∙ e in cc

some_same : {A : Type 0} (a b : A) → Some a ≡ Some b → a ≡ b
some_same a b e = cc

other_word : (i k : ℕ) → k ≢ i → word_at k ≢ word_at i
other_word i k n e = n (omega arith)

module _ {P Q : Type 0} (Empty : Q → Type 0) (words : List ℕ) (homes : List (maybe.Option Q)) (views : List (View P Q)) (links : List Q) (h : Linked Empty words homes views links) where
  -- no link's word changes, and a seat keeps its link
  pub stays : (ws : List ℕ) (id : ℕ) (v w : View P Q) → get_elem? views id ≡ some v → w.link ≡ v.link
      → ((i : ℕ) → i < length links → get_or ws (word_at i) 0 ≡ get_or words (word_at i) 0) → Linked Empty ws homes (set views id w) links
  stays ws id v w at same word =
      record {
        low = λ i q e. let s = word i (is_there links i q e) in omega (arith, h.low i q e);
        free = λ i q e n. h.free i q e (λ z. n (word i (is_there links i q e) ∙ z));
        empty = λ i q e z. h.empty i q e (sym (word i (is_there links i q e)) ∙ z);
        out = λ i low. let t = total_set (λ (u : View P Q). is_link i u.link) views id v w at in
            let s : is_link i w.link ≡ is_link i v.link = ap (is_link i) same in
            let o = h.out i low in
            let z : one_when (eqb (get_or ws (word_at i) 0) 1) ≡ one_when (eqb (get_or words (word_at i) 0) 1) = ap (λ n. one_when (eqb n 1)) (word i low) in
            omega arith;
        held = λ j u i q there has. ⊎_elim (λ t. h.held id v i q at (sym same ∙ (ap (λ (x : View P Q). x.link) t.1 ∙ has))) (λ t. h.held j u i q t.1 has) (at_set views id j w u there);
      }

  -- one more seat, which has no link
  pub appended : (w : View P Q) → w.link ≡ None → Linked Empty words homes (views ++ w ∷ []) links
  appended w none =
      record {
        low = h.low;
        free = h.free;
        empty = h.empty;
        out = λ i low. let t = sum_by-append (λ (u : View P Q). is_link i u.link) views (w ∷ []) in let o = h.out i low in let z = has_none i w.link none in omega arith;
        held = λ j u i q there has. ⊎_elim (λ t. h.held j u i q t has) (λ t. absurd (no_none (i, q) w.link none (ap (λ (x : View P Q). x.link) t ∙ has))) (at_snoc views w u j there);
      }

  module _ (id : ℕ) (v w : View P Q) (i : ℕ) (q : Q) (at : get_elem? views id ≡ some v) (here : get_elem? links i ≡ some q) (long : word_at i < length words) where
    -- a seat with no link takes this one
    pub takes_one : v.link ≡ None → w.link ≡ Some (i, q) → get_or words (word_at i) 0 ≢ 1 → Linked Empty (set words (word_at i) 1) (set homes i maybe.none) (set views id w) links
    takes_one none has free =
        let here_is : get_or (set words (word_at i) 1) (word_at i) 0 ≡ 1 = get_or-set_same words (word_at i) 1 0 long in
        let else_is : (k : ℕ) → k ≢ i → get_or (set words (word_at i) 1) (word_at k) 0 ≡ get_or words (word_at k) 0 = λ k n. get_or-set_other words (word_at i) (word_at k) 1 0 (other_word i k n) in
        record {
          low = λ k r e. dite (ℕ_discrete k i) (λ (z : k ≡ i). let s : get_or (set words (word_at i) 1) (word_at k) 0 ≡ 1 = ap (λ n. get_or (set words (word_at i) 1) (word_at n) 0) z ∙ here_is in omega arith)
              (λ n. let s = else_is k n in omega (arith, h.low k r e));
          free = λ k r e out. dite (ℕ_discrete k i) (λ (z : k ≡ i). absurd (out (ap (λ n. get_or (set words (word_at i) 1) (word_at n) 0) z ∙ here_is)))
              (λ n. set_else homes i k maybe.none n ∙ h.free k r e (λ z. out (else_is k n ∙ z)));
          empty = λ k r e zero_is. dite (ℕ_discrete k i) (λ (z : k ≡ i). let s : get_or (set words (word_at i) 1) (word_at k) 0 ≡ 1 = ap (λ n. get_or (set words (word_at i) 1) (word_at n) 0) z ∙ here_is in absurd (omega arith))
              (λ n. h.empty k r e (sym (else_is k n) ∙ zero_is));
          out = λ k low. let t = total_set (λ (u : View P Q). is_link k u.link) views id v w at in let o = h.out k low in let a = has_none k v.link none in
              dite (ℕ_discrete k i)
              (λ (z : k ≡ i).
              let b : is_link k w.link ≡ 1 = ap (λ n. is_link n w.link) z ∙ has_link i q w.link has in
              let x : get_or words (word_at k) 0 ≢ 1 = λ e. free (ap (λ n. get_or words (word_at n) 0) (sym z) ∙ e) in
              let c = other_none (get_or words (word_at k) 0) 1 x in
              let d = same_one (get_or (set words (word_at i) 1) (word_at k) 0) 1 (ap (λ n. get_or (set words (word_at i) 1) (word_at n) 0) z ∙ here_is) in
              omega arith)
              (λ n. let b = has_other i k q w.link has (λ e. n (sym e)) in let c = ap (λ m. one_when (eqb m 1)) (else_is k n) in omega arith);
          held = λ j u k r there mine. ⊎_elim
              (λ t. let e = some_same (i, q) (k, r) (sym has ∙ (ap (λ (x : View P Q). x.link) t.1 ∙ mine)) in let n : i ≡ k = ap (λ (x : ℕ × Q). x.0) e in let y : q ≡ r = ap (λ (x : ℕ × Q). x.1) e in
              ap (λ m. get_elem? links m) (sym n) ∙ (here ∙ ap some y))
              (λ t. h.held j u k r t.1 mine) (at_set views id j w u there);
        }

    -- the seat that has the link gives it back, with r on it
    pub gives_one : (r : Q) (x : ℕ) → v.link ≡ Some (i, q) → w.link ≡ None → x ≢ 1 → x ≤ 2 → (x ≡ 0 → Empty r) → i < length homes
        → Linked Empty (set words (word_at i) x) (set homes i (some r)) (set views id w) (set links i r)
    gives_one r x has none free few bare deep =
        let here_is : get_or (set words (word_at i) x) (word_at i) 0 ≡ x = get_or-set_same words (word_at i) x 0 long in
        let else_is : (k : ℕ) → k ≢ i → get_or (set words (word_at i) x) (word_at k) 0 ≡ get_or words (word_at k) 0 = λ k n. get_or-set_other words (word_at i) (word_at k) x 0 (other_word i k n) in
        let at_it : (k : ℕ) → k ≡ i → get_or (set words (word_at i) x) (word_at k) 0 ≡ x = λ k z. ap (λ n. get_or (set words (word_at i) x) (word_at n) 0) z ∙ here_is in
        record {
          low = λ k s e. ⊎_elim (λ t. let y = at_it k t.0 in omega arith) (λ t. let y = else_is k t.0 in omega (arith, h.low k s t.1)) (at_set links i k r s e);
          free = λ k s e out. ⊎_elim (λ t. ap (λ n. get_elem? (set homes i (some r)) n) t.0 ∙ (set_here homes i (some r) deep ∙ ap (λ (y : Q). some (some y)) t.1))
              (λ t. set_else homes i k (some r) t.0 ∙ h.free k s t.1 (λ z. out (else_is k t.0 ∙ z))) (at_set links i k r s e);
          empty = λ k s e zero_is. ⊎_elim (λ t. subst Empty t.1 (bare (sym (at_it k t.0) ∙ zero_is)))
              (λ t. h.empty k s t.1 (sym (else_is k t.0) ∙ zero_is)) (at_set links i k r s e);
          out = λ k low'. let low : k < length links = omega (arith, length-set links i r) in
              let t = total_set (λ (u : View P Q). is_link k u.link) views id v w at in let o = h.out k low in let a = has_none k w.link none in
              dite (ℕ_discrete k i)
              (λ (z : k ≡ i).
              let b : is_link k v.link ≡ 1 = ap (λ n. is_link n v.link) z ∙ has_link i q v.link has in
              let m = one_le (get_or words (word_at k) 0) 1 in
              let c = other_none (get_or (set words (word_at i) x) (word_at k) 0) 1 (λ e. free (sym (at_it k z) ∙ e)) in
              omega arith)
              (λ n. let b = has_other i k q v.link has (λ e. n (sym e)) in let c = ap (λ m. one_when (eqb m 1)) (else_is k n) in omega arith);
          held = λ j u k s there mine. ⊎_elim
              (λ t. absurd (no_none (k, s) w.link none (ap (λ (y : View P Q). y.link) t.1 ∙ mine)))
              (λ t. let old = h.held j u k s t.1 mine in dite (ℕ_discrete k i)
              (λ (z : k ≡ i). let two = terms_le (λ (y : View P Q). is_link k y.link) views id j v u t.0 at t.1 in
              let one : is_link k v.link ≡ 1 = ap (λ n. is_link n v.link) z ∙ has_link i q v.link has in
              let other = has_link k s u.link mine in let o = h.out k (is_there links k s old) in let m = one_le (get_or words (word_at k) 0) 1 in
              absurd (omega arith))
              (λ n. set_else links i k r n ∙ old))
              (at_set views id j w u there);
        }

    -- the word of a link that a seat has is 1
    pub has_word : v.link ≡ Some (i, q) → get_or words (word_at i) 0 ≡ 1
    has_word has = let t = term_le (λ (u : View P Q). is_link i u.link) views id v at in let a = has_link i q v.link has in let o = h.out i (is_there links i q here) in
        dite (ℕ_discrete (get_or words (word_at i) 0) 1) (λ e. e) (λ n. absurd (omega (arith, other_none (get_or words (word_at i) 0) 1 n)))
