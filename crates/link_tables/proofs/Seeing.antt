-- What a seat has seen over several steps.
use Rattle.std.proofs.Common.{List, None, Option, Some, [], ap, append_assoc, refl, sym, ◌++◌, ◌∙◌, ◌∷◌, ◌≡◌, ℕ}
use Rattle.link_tables.specs.Seats.{Sat, saw, sight, view, with_first}
use Rattle.link_tables.specs.Sights.{HasSeen, Sees}
use Rattle.link_tables.specs.declared.views.Sight.{Sight}
use Rattle.link_tables.specs.declared.views.View.{View}

module _ {P Q : Type 0} where
  pub sees_same : (a b : Sat P Q) → b.0.seen ≡ a.0.seen → Sees a b
  sees_same a b is = record { news = []; are = is }

  pub sees_one : (a b : Sat P Q) (s : Sight Q) → b.0.seen ≡ s ∷ a.0.seen → Sees a b
  sees_one a b s is = record { news = s ∷ []; are = is }

  pub sees_then : (a b c : Sat P Q) → Sees a b → Sees b c → Sees a c
  sees_then a b c one other = record {
    news = other.news ++ one.news;
    are = other.are ∙ ap (λ (l : List (Sight Q)). other.news ++ l) one.are ∙ sym (append_assoc other.news one.news a.0.seen);
  }

  pub seen_one : (a b : Sat P Q) (s : Sight Q) → b.0.seen ≡ s ∷ a.0.seen → HasSeen a b s
  seen_one a b s is = record { later = []; earlier = []; are = is }

  pub seen_then : (a b c : Sat P Q) (s : Sight Q) → HasSeen a b s → Sees b c → HasSeen a c s
  seen_then a b c s one other = record {
    later = other.news ++ one.later;
    earlier = one.earlier;
    are = other.are ∙ ap (λ (l : List (Sight Q)). other.news ++ l) one.are ∙ sym (append_assoc other.news one.later (s ∷ (one.earlier ++ a.0.seen)));
  }

  pub then_seen : (a b c : Sat P Q) (s : Sight Q) → Sees a b → HasSeen b c s → HasSeen a c s
  then_seen a b c s one other = record {
    later = other.later;
    earlier = other.earlier ++ one.news;
    are = other.are ∙ ap (λ (l : List (Sight Q)). other.later ++ (s ∷ l)) (ap (λ (l : List (Sight Q)). other.earlier ++ l) one.are ∙ sym (append_assoc other.earlier one.news a.0.seen));
  }

  -- a sight is something that it knows since
  pub seen_sees : (a b : Sat P Q) (s : Sight Q) → HasSeen a b s → Sees a b
  seen_sees a b s one = record { news = one.later ++ (s ∷ one.earlier); are = one.are ∙ sym (append_assoc one.later (s ∷ one.earlier) a.0.seen) }

  -- ---- by a step

  -- it has read a word
  pub seen_read : (a b : Sat P Q) (word number : ℕ) → b ≡ (saw a.0 word number, a.1) → HasSeen a b (sight word number None)
  seen_read a b word number is = seen_one a b (sight word number None) (ap (λ (m : Sat P Q). m.0.seen) is)

  -- it has changed its first part
  pub seen_changed : (a b : Sat P Q) (new : P) (word number : ℕ) → b ≡ (view (with_first new a.0.parts) None a.0.raised (sight word number None ∷ a.0.seen), []) → HasSeen a b (sight word number None)
  seen_changed a b new word number is = seen_one a b (sight word number None) (ap (λ (m : Sat P Q). m.0.seen) is)

  -- it has given back the link i, which had q on it as it was taken
  pub seen_given : (a b : Sat P Q) (new : P) (word number i : ℕ) (q : Q) → b ≡ (view (with_first new a.0.parts) None a.0.raised (sight word number a.0.link ∷ a.0.seen), []) → a.0.link ≡ Some (i, q)
      → HasSeen a b (sight word number (Some (i, q)))
  seen_given a b new word number i q is link =
      seen_one a b (sight word number (Some (i, q))) (ap (λ (m : Sat P Q). m.0.seen) is ∙ ap (λ (l : Option (ℕ × Q)). sight word number l ∷ a.0.seen) link)
