-- How a seat stands after each step.
use Rattle.std.proofs.Common.{◌≡◌, ◌∙◌, ℕ, suc, List, [], ◌∷◌, ◌++◌, Some, None, sym, refl, ap, subst}
use Rattle.link_tables.specs.declared.views.Sight.{Sight}
use Rattle.link_tables.specs.Seats.{Sat, Rests, HoldsLink, view, with_first, saw, first_alone, second_alone, together, without_second, only_second}

-- it has read a word
pub rests_on : {P Q : Type 0} → (me me' : Sat P Q) (p : P) (others : List P) (word number : ℕ) → Rests me p others
    → me' ≡ (saw me.0 word number, me.1) → Rests me' p others
rests_on {P} {Q} me me' p others word number r is =
    subst (λ (m : Sat P Q). Rests m p others) (sym is) (record { parts = r.parts; link = r.link; slots = r.slots })

-- it has raised the halt
pub rests_raised : {P Q : Type 0} → (me me' : Sat P Q) (p : P) (others : List P) → Rests me p others
    → me' ≡ (view me.0.parts me.0.link (suc me.0.raised) me.0.seen, me.1) → Rests me' p others
rests_raised {P} {Q} me me' p others r is =
    subst (λ (m : Sat P Q). Rests m p others) (sym is) (record { parts = r.parts; link = r.link; slots = r.slots })

-- its first part is another
pub rests_changed : {P Q : Type 0} → (me me' : Sat P Q) (p new : P) (others : List P) (seen : List (Sight Q)) → Rests me p others
    → me' ≡ (view (with_first new me.0.parts) None me.0.raised seen, []) → Rests me' new others
rests_changed {P} {Q} me me' p new others seen r is =
    subst (λ (m : Sat P Q). Rests m new others) (sym is) (record { parts = ap (with_first new) r.parts; link = refl; slots = refl })

-- it has taken a link
pub holds_taken : {P Q : Type 0} → (me me' : Sat P Q) (p new : P) (others : List P) (i : ℕ) (q : Q) (seen : List (Sight Q)) → Rests me p others
    → me' ≡ (view (with_first new me.0.parts) (Some (i, q)) me.0.raised seen, (i, q) ∷ []) → HoldsLink me' new others i q q
holds_taken {P} {Q} me me' p new others i q seen r is =
    subst (λ (m : Sat P Q). HoldsLink m new others i q q) (sym is) (record { parts = ap (with_first new) r.parts; link = refl; slots = refl })

-- it has put another queue into the link
pub holds_another : {P Q : Type 0} → (me me' : Sat P Q) (p : P) (others : List P) (i : ℕ) (q r new : Q) → HoldsLink me p others i q r
    → me' ≡ (me.0, (i, new) ∷ []) → HoldsLink me' p others i q new
holds_another {P} {Q} me me' p others i q r new h is =
    subst (λ (m : Sat P Q). HoldsLink m p others i q new) (sym is) (record { parts = h.parts; link = h.link; slots = refl })

-- it has given the link back
pub rests_given : {P Q : Type 0} → (me me' : Sat P Q) (p new : P) (others : List P) (i : ℕ) (q r : Q) (seen : List (Sight Q)) → HoldsLink me p others i q r
    → me' ≡ (view (with_first new me.0.parts) None me.0.raised seen, []) → Rests me' new others
rests_given {P} {Q} me me' p new others i q r seen h is =
    subst (λ (m : Sat P Q). Rests m new others) (sym is) (record { parts = ap (with_first new) h.parts; link = refl; slots = refl })

-- it has only its first part any more
pub rests_alone : {P Q : Type 0} → (me me' : Sat P Q) (p x : P) → Rests me p (x ∷ []) → me' ≡ (first_alone me.0, []) → Rests me' p []
rests_alone {P} {Q} me me' p x r is =
    subst (λ (m : Sat P Q). Rests m p []) (sym is) (record { parts = ap without_second r.parts; link = r.link; slots = refl })

-- a new seat has its second part
pub rests_second : {P Q : Type 0} → (me me' : Sat P Q) (p x : P) → Rests me p (x ∷ []) → me' ≡ (second_alone me.0, []) → Rests me' x []
rests_second {P} {Q} me me' p x r is =
    subst (λ (m : Sat P Q). Rests m x []) (sym is) (record { parts = ap only_second r.parts; link = refl; slots = refl })

-- it has the parts of another seat, too
pub rests_together : {P Q : Type 0} → (me other me' : Sat P Q) (p x : P) → Rests me p [] → Rests other x [] → me' ≡ (together me.0 other.0, me.1) → Rests me' p (x ∷ [])
rests_together {P} {Q} me other me' p x r o is =
    subst (λ (m : Sat P Q). Rests m p (x ∷ [])) (sym is) (record {
      parts = ap (λ (xs : List P). xs ++ other.0.parts) r.parts ∙ ap (λ (xs : List P). p ∷ xs) o.parts;
      link = r.link;
      slots = r.slots;
    })

-- it has one queue in a link
pub same_queue : {Q : Type 0} → (i : ℕ) (q r : Q) → ◌≡◌ {A = List (ℕ × Q)} ((i, q) ∷ []) ((i, r) ∷ []) → q ≡ r
same_queue {Q} i q r e = let both : ◌≡◌ {A = ℕ × Q} (i, q) (i, r) = cc in ap (λ (x : ℕ × Q). x.1) both

-- ---- a seat with more parts

-- its second part has gone
pub rests_without : {P Q : Type 0} → (me me' : Sat P Q) (p x : P) (others : List P) → Rests me p (x ∷ others) → me' ≡ (first_alone me.0, []) → Rests me' p others
rests_without {P} {Q} me me' p x others r is =
    subst (λ (m : Sat P Q). Rests m p others) (sym is) (record { parts = ap without_second r.parts; link = r.link; slots = refl })

-- a new seat has it
pub rests_only : {P Q : Type 0} → (me me' : Sat P Q) (p x : P) (others : List P) → Rests me p (x ∷ others) → me' ≡ (second_alone me.0, []) → Rests me' x []
rests_only {P} {Q} me me' p x others r is =
    subst (λ (m : Sat P Q). Rests m x []) (sym is) (record { parts = ap only_second r.parts; link = refl; slots = refl })

-- another seat's part stands behind its parts
pub rests_joined : {P Q : Type 0} → (me other me' : Sat P Q) (p x : P) (others : List P) → Rests me p others → Rests other x [] → me' ≡ (together me.0 other.0, me.1) → Rests me' p (others ++ x ∷ [])
rests_joined {P} {Q} me other me' p x others r o is =
    subst (λ (m : Sat P Q). Rests m p (others ++ x ∷ [])) (sym is) (record {
      parts = ap (λ (xs : List P). xs ++ other.0.parts) r.parts ∙ ap (λ (xs : List P). (p ∷ others) ++ xs) o.parts;
      link = r.link;
      slots = r.slots;
    })
