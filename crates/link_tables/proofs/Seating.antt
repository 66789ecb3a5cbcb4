-- The parts in the seats, as one seat's parts change.
use Rattle.std.proofs.Common.{◌≡◌, ℕ, zero, suc, ◌+◌, ◌<◌, ◌≤◌, ◌≢◌, ◌⊎◌, cond, eqb, ltb, List, [], ◌∷◌, ◌++◌, length, set, Some, None, sym, refl, ap, ◌∙◌, subst, inl, inr, ⊎_elim, length-set, length-append, lt-ltb, le-ltb, arith}
use Rattle.std.proofs.lemmas.List.Sums.{sum_by-append}
use mathlib.Core.Logic.{dite}
use mathlib.Core.Option.{some, some-injective, some-ne-none}
use native.Mathlib.Decide.{dec_le}
use lib.ListN.{get_elem?}
use Rattle.atomic_table.proofs.Lists.{at_set, set_here, set_else, at_snoc}
use Rattle.link_tables.specs.Rule.{one_when, times_seated, AreSeated}
use Rattle.link_tables.specs.declared.views.View.{View}
use Rattle.link_tables.proofs.Lists.{is_there, total_set, term_le, terms_le, same_one, times-cons, times-append, times_at}
use Rattle.link_tables.proofs.Links.{no_none}

-- 1 or 0 in all
pub few_of : (p n : ℕ) → one_when (ltb p n) ≤ 1
few_of p n = dite (dec_le n p) (λ h. let t : one_when (ltb p n) ≡ 0 = ap (λ b. cond b 1 0) (le-ltb p n h) in omega arith) (λ h. let t : one_when (ltb p n) ≡ 1 = ap (λ b. cond b 1 0) (lt-ltb p n (omega arith)) in omega arith)

at_either : {A : Type 0} (xs ys : List A) (i : ℕ) (x : A) → get_elem? (xs ++ ys) i ≡ some x → ((j : ℕ) × (get_elem? xs j ≡ some x)) ⊎ ((j : ℕ) × (get_elem? ys j ≡ some x))
at_either [] ys i x e = inr (i, e)
at_either (y ∷ xs) ys zero x e = inl (0, e)
at_either (y ∷ xs) ys (suc i) x e = ⊎_elim (λ t. inl (suc t.0, t.1)) (λ t. inr t) (at_either xs ys i x e)

first_or_later : {A : Type 0} (new : A) (others : List A) (i : ℕ) (x : A) → get_elem? (new ∷ others) i ≡ some x → (new ≡ x) ⊎ ((k : ℕ) × (get_elem? others k ≡ some x))
first_or_later new others zero x e = inl (some-injective new x e)
first_or_later new others (suc k) x e = inr (k, e)

module _ {P Q : Type 0} (number_of : P → ℕ) (views : List (View P Q)) (parts : List P) (h : AreSeated number_of views parts) (id : ℕ) (v : View P Q) (at : get_elem? views id ≡ some v) where
  -- the seat's parts stay
  pub sits : (w : View P Q) → w.parts ≡ v.parts → ((x : ℕ × Q) → w.link ≡ Some x → 0 < length w.parts) → AreSeated number_of (set views id w) parts
  sits w same busy =
      record {
        stands = λ j u i x there part. ⊎_elim (λ t. h.stands id v i x at (ap (λ (y : List P). get_elem? y i) (sym same) ∙ (ap (λ (y : View P Q). get_elem? y.parts i) t.1 ∙ part)))
            (λ t. h.stands j u i x t.1 part) (at_set views id j w u there);
        once = λ p. let t = total_set (λ (u : View P Q). times_seated number_of p u.parts) views id v w at in let s : times_seated number_of p w.parts ≡ times_seated number_of p v.parts = ap (times_seated number_of p) same in
            let o = h.once p in omega arith;
        busy = λ j u x there has. ⊎_elim (λ t. subst (λ (y : View P Q). 0 < length y.parts) t.1 (busy x (ap (λ (y : View P Q). y.link) t.1 ∙ has))) (λ t. h.busy j u x t.1 has) (at_set views id j w u there);
      }

  -- the first part becomes another with its number
  pub moves_on : (w : View P Q) (p new : P) (others : List P) → v.parts ≡ p ∷ others → w.parts ≡ new ∷ others → number_of new ≡ number_of p → AreSeated number_of (set views id w) (set parts (number_of p) new)
  moves_on w p new others was now same =
      let n : ℕ = number_of p in
      let here : get_elem? parts n ≡ some p = h.stands id v 0 p at (ap (λ (y : List P). get_elem? y 0) was) in
      let low : n < length parts = is_there parts n p here in
      let long : length (set parts n new) ≡ length parts = length-set parts n new in
      let mine : times_seated number_of n v.parts ≡ one_when (eqb (number_of p) n) + times_seated number_of n others = ap (times_seated number_of n) was ∙ times-cons number_of n p others in
      let one : one_when (eqb (number_of p) n) ≡ 1 = same_one (number_of p) n refl in
      let o = h.once n in
      let few = few_of n (length parts) in
      record {
        stands = λ j u i x there part. ⊎_elim
            (λ t. let mine_is : get_elem? (new ∷ others) i ≡ some x = ap (λ (y : List P). get_elem? y i) (sym now) ∙ (ap (λ (y : View P Q). get_elem? y.parts i) t.1 ∙ part) in
            ⊎_elim
            (λ (z : new ≡ x). subst (λ (y : P). get_elem? (set parts n new) (number_of y) ≡ some y) z (ap (get_elem? (set parts n new)) same ∙ set_here parts n new low))
            (λ k. let apart : number_of x ≢ n = λ e. let two = times_at number_of n others k.0 x k.1 e in let kept = term_le (λ (u : View P Q). times_seated number_of n u.parts) views id v at in omega arith in
            set_else parts n (number_of x) new apart ∙ h.stands id v (suc k.0) x at (ap (λ (y : List P). get_elem? y (suc k.0)) was ∙ k.1))
            (first_or_later new others i x mine_is))
            (λ t. let apart : number_of x ≢ n = λ e. let both = terms_le (λ (u : View P Q). times_seated number_of n u.parts) views id j v u t.0 at t.1 in let two = times_at number_of n u.parts i x part e in omega arith in
            set_else parts n (number_of x) new apart ∙ h.stands j u i x t.1 part)
            (at_set views id j w u there);
        once = λ k. let t = total_set (λ (u : View P Q). times_seated number_of k u.parts) views id v w at in
            let a : times_seated number_of k w.parts ≡ one_when (eqb (number_of new) k) + times_seated number_of k others = ap (times_seated number_of k) now ∙ times-cons number_of k new others in
            let b : times_seated number_of k v.parts ≡ one_when (eqb (number_of p) k) + times_seated number_of k others = ap (times_seated number_of k) was ∙ times-cons number_of k p others in
            let c : one_when (eqb (number_of new) k) ≡ one_when (eqb (number_of p) k) = ap (λ m. one_when (eqb m k)) same in
            let d : one_when (ltb k (length (set parts n new))) ≡ one_when (ltb k (length parts)) = ap (λ m. one_when (ltb k m)) long in
            let e = h.once k in omega arith;
        busy = λ j u x there has. ⊎_elim (λ t. let l : length u.parts ≡ suc (length others) = ap (λ (y : View P Q). length y.parts) (sym t.1) ∙ ap length now in omega arith) (λ t. h.busy j u x t.1 has) (at_set views id j w u there);
      }

  -- the second part gets a seat of its own
  pub cuts : (left right : View P Q) (p y : P) (others : List P) → v.parts ≡ p ∷ (y ∷ others) → left.parts ≡ p ∷ others → right.parts ≡ y ∷ [] → right.link ≡ None
      → AreSeated number_of (set views id left ++ right ∷ []) parts
  cuts left right p y others was now new none =
      record {
        stands = λ j u i x there part. ⊎_elim
            (λ old. ⊎_elim
            (λ t. let mine : get_elem? (p ∷ others) i ≡ some x = ap (λ (z : List P). get_elem? z i) (sym now) ∙ (ap (λ (z : View P Q). get_elem? z.parts i) t.1 ∙ part) in
            ⊎_elim
            (λ (z : p ≡ x). h.stands id v 0 x at (ap (λ (z : List P). get_elem? z 0) was ∙ ap some z))
            (λ k. h.stands id v (suc (suc k.0)) x at (ap (λ (z : List P). get_elem? z (suc (suc k.0))) was ∙ k.1))
            (first_or_later p others i x mine))
            (λ t. h.stands j u i x t.1 part)
            (at_set views id j left u old))
            (λ (t : right ≡ u). let mine : get_elem? (y ∷ []) i ≡ some x = ap (λ (z : List P). get_elem? z i) (sym new) ∙ (ap (λ (z : View P Q). get_elem? z.parts i) t ∙ part) in
            ⊎_elim
            (λ (z : y ≡ x). h.stands id v 1 x at (ap (λ (z : List P). get_elem? z 1) was ∙ ap some z))
            (λ k. absurd (some-ne-none x (sym k.1)))
            (first_or_later y [] i x mine))
            (at_snoc (set views id left) right u j there);
        once = λ k. let f = λ (u : View P Q). times_seated number_of k u.parts in
            let s = sum_by-append f (set views id left) (right ∷ []) in
            let t = total_set f views id v left at in
            let a : times_seated number_of k v.parts ≡ times_seated number_of k (p ∷ (y ∷ others)) = ap (times_seated number_of k) was in
            let a' = times-cons number_of k p (y ∷ others) in
            let a'' = times-cons number_of k y others in
            let b : times_seated number_of k left.parts ≡ times_seated number_of k (p ∷ others) = ap (times_seated number_of k) now in
            let b' = times-cons number_of k p others in
            let c : times_seated number_of k right.parts ≡ times_seated number_of k (y ∷ []) = ap (times_seated number_of k) new in
            let c' = times-cons number_of k y [] in
            let none_of : times_seated number_of k [] ≡ 0 = refl in
            let e = h.once k in omega arith;
        busy = λ j u x there has. ⊎_elim
            (λ old. ⊎_elim (λ t. let l : length u.parts ≡ suc (length others) = ap (λ (z : View P Q). length z.parts) (sym t.1) ∙ ap length now in omega arith) (λ t. h.busy j u x t.1 has) (at_set views id j left u old))
            (λ (t : right ≡ u). absurd (no_none x right.link none (ap (λ (z : View P Q). z.link) t ∙ has)))
            (at_snoc (set views id left) right u j there);
      }

  -- the parts of another seat come behind those of this one
  pub joins : (other : ℕ) (w both spent : View P Q) → other ≢ id → get_elem? (set views id both) other ≡ some w → both.parts ≡ v.parts ++ w.parts → both.link ≡ v.link → spent.parts ≡ [] → spent.link ≡ None
      → AreSeated number_of (set (set views id both) other spent) parts
  joins other w both spent ne there_w are same bare none =
      let at_w : get_elem? views other ≡ some w = sym (set_else views id other both ne) ∙ there_w in
      record {
        stands = λ j u i x there part. ⊎_elim
            (λ t. let nil : List P = [] in let gone : get_elem? nil i ≡ some x = ap (λ (z : List P). get_elem? z i) (sym bare) ∙ (ap (λ (z : View P Q). get_elem? z.parts i) t.1 ∙ part) in absurd (some-ne-none x (sym gone)))
            (λ old. ⊎_elim
            (λ t. let mine : get_elem? (v.parts ++ w.parts) i ≡ some x = ap (λ (z : List P). get_elem? z i) (sym are) ∙ (ap (λ (z : View P Q). get_elem? z.parts i) t.1 ∙ part) in
            ⊎_elim (λ k. h.stands id v k.0 x at k.1) (λ k. h.stands other w k.0 x at_w k.1) (at_either v.parts w.parts i x mine))
            (λ t. h.stands j u i x t.1 part)
            (at_set views id j both u old.1))
            (at_set (set views id both) other j spent u there);
        once = λ k. let f = λ (u : View P Q). times_seated number_of k u.parts in
            let s = total_set f (set views id both) other w spent there_w in
            let t = total_set f views id v both at in
            let a : times_seated number_of k both.parts ≡ times_seated number_of k (v.parts ++ w.parts) = ap (times_seated number_of k) are in
            let a' = times-append number_of k v.parts w.parts in
            let b : times_seated number_of k spent.parts ≡ 0 = ap (times_seated number_of k) bare in
            let e = h.once k in omega arith;
        busy = λ j u x there has. ⊎_elim
            (λ t. absurd (no_none x spent.link none (ap (λ (z : View P Q). z.link) t.1 ∙ has)))
            (λ old. ⊎_elim
            (λ t. let b = h.busy id v x at (sym same ∙ (ap (λ (z : View P Q). z.link) t.1 ∙ has)) in
            let l : length u.parts ≡ length (v.parts ++ w.parts) = ap (λ (z : View P Q). length z.parts) (sym t.1) ∙ ap length are in
            let m = length-append v.parts w.parts in omega arith)
            (λ t. h.busy j u x t.1 has)
            (at_set views id j both u old.1))
            (at_set (set views id both) other j spent u there);
      }
