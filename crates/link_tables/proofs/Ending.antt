-- A table that is made, and one that is closed.
use Rattle.std.proofs.Common.{◌≡◌, ℕ, zero, suc, ◌+◌, ◌<◌, ◌≤◌, cond, ltb, List, [], ◌∷◌, ◌++◌, map, length, get_or, sum_by, None, sym, refl, ap, ◌∙◌, subst, length-append, lt-ltb, le-ltb, arith}
use Rattle.std.proofs.lemmas.List.Sums.{sum_by-cons}
use mathlib.Core.Logic.{dite}
use mathlib.Core.Option.{some, some-injective, some-ne-none}
use native.Mathlib.Decide.{ℕ_discrete, dec_le}
use lib.ListN.{get_elem?}
use Rattle.atomic_table.specs.Table.{State, opening, Seen, Final}
use Rattle.atomic_table.proofs.Lists.{at_last, at_longer, at_map}
use Rattle.link_tables.specs.Seats.{view, word_at}
use Rattle.link_tables.specs.Rule.{one_when, is_link, times_seated, ShowsLinks, HoldsTable, AreInOrder, AllHere, Ended}
use Rattle.link_tables.specs.declared.views.View.{View}
use Rattle.link_tables.proofs.Lists.{is_there, in_range, terms_le, term_there, same_one, other_none, some_link, times-cons, times-append, times_at}
use Rattle.link_tables.proofs.Links.{no_none}
use Rattle.link_tables.proofs.Seating.{few_of}

only_one : {A : Type 0} (v : A) (j : ℕ) (u : A) → get_elem? (v ∷ []) j ≡ some u → v ≡ u
only_one v zero u e = some-injective v u e
only_one v (suc j) u e = absurd (some-ne-none u (sym e))

pub same_list : {A : Type 0} (xs ys : List A) → length xs ≡ length ys → ((i : ℕ) (a : A) → get_elem? ys i ≡ some a → get_elem? xs i ≡ some a) → xs ≡ ys
same_list [] [] long same = refl
same_list [] (y ∷ ys) long same = absurd (omega arith)
same_list (x ∷ xs) [] long same = absurd (omega arith)
same_list (x ∷ xs) (y ∷ ys) long same = let e = some-injective x y (same 0 y refl) in let t = same_list xs ys (omega arith) (λ i a at. same (suc i) a at) in λ k. e k ∷ t k

read_there : (l : List ℕ) (i a : ℕ) → get_elem? l i ≡ some a → get_or l i 0 ≡ a
read_there [] i a e = absurd (some-ne-none a (sym e))
read_there (x ∷ xs) zero a e = some-injective x a e
read_there (x ∷ xs) (suc i) a e = read_there xs i a e

length_map : {A : Type 0} (l : List A) → length (map some l) ≡ length l
length_map [] = refl
length_map (x ∷ xs) = ap suc (length_map xs)

module _ {P : Type 0} (number_of : P → ℕ) where
  -- the parts of the first seat, in the order of their numbers
  placed : (front : List P) (l : P) (i : ℕ) (x : P) → get_elem? (l ∷ front) i ≡ some x → get_elem? (front ++ l ∷ []) (length front) ≡ some l → AreInOrder number_of (front ++ l ∷ [])
      → get_elem? (front ++ l ∷ []) (number_of x) ≡ some x
  placed front l zero x e last order = let same = some-injective l x e in let n : number_of x ≡ length front = ap number_of (sym same) ∙ order (length front) l last in
      ap (get_elem? (front ++ l ∷ [])) n ∙ (last ∙ ap some same)
  placed front l (suc i) x e last order = let there = at_longer front (l ∷ []) i x e in ap (get_elem? (front ++ l ∷ [])) (order i x there) ∙ there

  -- parts whose numbers go up from a
  in_order_times : (p a : ℕ) (xs : List P) → ((i : ℕ) (x : P) → get_elem? xs i ≡ some x → number_of x ≡ a + i)
      → (p < a → times_seated number_of p xs ≡ 0) × (a ≤ p → p < a + length xs → times_seated number_of p xs ≡ 1) × (a + length xs ≤ p → times_seated number_of p xs ≡ 0)
  in_order_times p a [] order = ((λ h. refl), (λ h l. absurd (omega arith)), λ h. refl)
  in_order_times p a (x ∷ xs) order =
      let here : number_of x ≡ a = let t = order 0 x refl in omega arith in
      let r = in_order_times p (suc a) xs (λ i y e. let t = order (suc i) y e in omega arith) in
      let c = times-cons number_of p x xs in
      let r₀ = r.0 in let r₁ = r.1 in let r₂ = r.2 in (
        (λ h. let n = other_none (number_of x) p (λ e. omega arith) in let t = r₀ (omega arith) in omega arith),
        (λ h l. dite (ℕ_discrete p a)
            (λ e. let n = same_one (number_of x) p (here ∙ sym e) in let t = r₀ (omega arith) in omega arith)
            (λ ne. let n = other_none (number_of x) p (λ e. ne (sym e ∙ here)) in let t = r₁ (omega arith) (omega arith) in omega arith)),
        (λ h. let n = other_none (number_of x) p (λ e. omega arith) in let t = r₂ (omega arith) in omega arith),
      )

  in_order_once : (p : ℕ) (xs : List P) → AreInOrder number_of xs → times_seated number_of p xs ≡ one_when (ltb p (length xs))
  in_order_once p xs order =
      let t = in_order_times p 0 xs (λ i x e. let o = order i x e in omega arith) in
      dite (dec_le (length xs) p)
      (λ h. t.2 (omega arith) ∙ sym (ap (λ b. cond b 1 0) (le-ltb p (length xs) h)))
      (λ h. let l : p < length xs = omega arith in t.1 (omega arith) (omega arith) ∙ sym (ap (λ b. cond b 1 0) (lt-ltb p (length xs) l)))

module _ {P Q : Type 0} (number_of : P → ℕ) (Empty : Q → Type 0) (Led : List P → List Q → ℕ → ℕ → Type 0) where
  -- the first seat has the last of the parts first
  pub opens : (many top peers next left : ℕ) (words : List ℕ) (links : List Q) (first front : List P) (l : P) → length words ≡ word_at (many + 2) → ((i : ℕ) → i < many → get_or words (word_at i) 0 ≡ 2)
      → get_or words (word_at many) 0 ≡ next → get_or words (word_at (many + 1)) 0 ≡ 0 → length links ≡ many → next + left ≡ top → peers ≡ length first
      → first ≡ l ∷ front → AreInOrder number_of (front ++ l ∷ []) → Led (front ++ l ∷ []) links next left
      → HoldsTable number_of Empty Led many top peers (opening words links (view first None 0 []))
  opens many top peers next left words links first front l long laden drawn down count over peers_is first_is order led =
      let v : View P Q = view first None 0 [] in
      let parts : List P = front ++ l ∷ [] in
      let nothing : (i : ℕ) → sum_by (λ (u : View P Q). is_link i u.link) (v ∷ []) ≡ 0 = λ i. sum_by-cons (λ (u : View P Q). is_link i u.link) v [] in
      let last_at : get_elem? parts (length front) ≡ some l = at_last front l (length front) refl in (
        parts,
        links,
        next,
        left,
        record {
          led = led;
          words = long;
          homes = length_map links ∙ count;
          count = count;
          peers_are = let t = length-append front (l ∷ []) in let f : length first ≡ suc (length front) = ap length first_is in omega arith;
          linked = record {
            low = λ i q e. let t = laden i (let h = is_there links i q e in omega arith) in omega arith;
            free = λ i q e out. at_map some links i q e;
            empty = λ i q e z. let t = laden i (let h = is_there links i q e in omega arith) in absurd (omega arith);
            out = λ i low. let t = laden i (omega arith) in let n = other_none (get_or words (word_at i) 0) 1 (λ e. omega arith) in nothing i ∙ sym n;
            held = λ j u i q there has. absurd (no_none (i, q) v.link refl (ap (λ (x : View P Q). x.link) (only_one v j u there) ∙ has));
          };
          seated = record {
            stands = λ j u i x there part. let mine : get_elem? (l ∷ front) i ≡ some x = ap (λ (z : List P). get_elem? z i) (sym first_is) ∙ (ap (λ (z : View P Q). get_elem? z.parts i) (only_one v j u there) ∙ part) in
                placed number_of front l i x mine last_at order;
            once = λ p. let a : times_seated number_of p first ≡ times_seated number_of p (l ∷ front) = ap (times_seated number_of p) first_is in
                let b = times-cons number_of p l front in
                let c = times-append number_of p front (l ∷ []) in
                let d = times-cons number_of p l [] in
                let none_of : times_seated number_of p [] ≡ 0 = refl in
                let s = sum_by-cons (λ (u : View P Q). times_seated number_of p u.parts) v [] in
                let o = in_order_once number_of p parts order in
                omega arith;
            busy = λ j u x there has. absurd (no_none x v.link refl (ap (λ (z : View P Q). z.link) (only_one v j u there) ∙ has));
          };
          drawn = drawn;
          over = over;
          halt = let s = sum_by-cons (λ (u : View P Q). u.raised) v [] in omega arith;
        },
      )

  -- where one seat has every part and no link, no link is out
  home_again : (many top peers : ℕ) (s : State Q (View P Q)) (parts : List P) (links : List Q) (next left : ℕ) → ShowsLinks number_of Empty Led many top peers s parts links next left
      → (id : ℕ) (v : View P Q) → get_elem? s.views id ≡ some v → v.link ≡ None → AllHere number_of peers v.parts
      → (i : ℕ) (q : Q) → get_elem? links i ≡ some q → get_elem? s.homes i ≡ some (some q)
  home_again many top peers s parts links next left h id v at none all i q here =
      h.linked.free i q here (λ (out : get_or s.words (word_at i) 0 ≡ 1).
      let held_by = λ (u : View P Q). is_link i u.link in
      let o = h.linked.out i (is_there links i q here) in
      let one = same_one (get_or s.words (word_at i) 0) 1 out in
      let who = term_there held_by s.views (omega arith) in
      let j = who.0 in let u = who.1 in
      let its = some_link i u.link who.3 in
      let some_part = in_range u.parts 0 (h.seated.busy j u (i, its.0) who.2 its.1) in
      let x = some_part.0 in
      let n : ℕ = number_of x in
      let stands_at = h.seated.stands j u 0 x who.2 some_part.1 in
      let low : n < peers = let t = is_there parts n x stands_at in let e = h.peers_are in omega arith in
      let mine = all n low in
      dite (ℕ_discrete j id)
      (λ (same : j ≡ id). let e : u ≡ v = some-injective u v (sym who.2 ∙ (ap (get_elem? s.views) same ∙ at)) in no_none (i, its.0) v.link none (ap (λ (z : View P Q). z.link) (sym e) ∙ its.1))
      (λ ne. let two = terms_le (λ (z : View P Q). times_seated number_of n z.parts) s.views id j v u ne at who.2 in
      let a = times_at number_of n v.parts mine.0 mine.1 mine.2 mine.3 in
      let b = times_at number_of n u.parts 0 x some_part.1 refl in
      let c = h.seated.once n in
      let d = few_of n (length parts) in
      omega arith))

  pub closes : (many top peers id next : ℕ) (v : View P Q) (words : List ℕ) (slots : List Q) → v.link ≡ None → AllHere number_of peers v.parts → get_elem? words (word_at many) ≡ some next
      → Final (Seen (HoldsTable number_of Empty Led many top peers) id v) words slots → (left : ℕ) × (next + left ≡ top) × Ended number_of Led v.parts slots next left
  closes many top peers id next v words slots none all word final =
      let s = final.0 in
      let rule = final.1.0 in
      let at = final.1.1 in
      let parts = rule.0 in let links = rule.1 in let ticket = rule.2 in let left = rule.3 in let h = rule.4 in
      let are : slots ≡ links = same_list slots links (let a = final.3 in let b = h.homes in let c = h.count in omega arith)
      (λ i q e. final.4 i q (home_again many top peers s parts links ticket left h id v at none all i q e)) in
      let drawn : ticket ≡ next = sym h.drawn ∙ (ap (λ (ws : List ℕ). get_or ws (word_at many) 0) final.2 ∙ read_there words (word_at many) next word) in (
        left,
        (let o = h.over in omega arith),
        record {
          parts = parts;
          led = subst (λ (l : List Q). Led parts l next left) (sym are) (subst (λ (n : ℕ). Led parts links n left) drawn h.led);
          are = λ i x e. h.seated.stands id v i x at e;
        },
      )
