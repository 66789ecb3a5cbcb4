-- What is seen of lists that are joined, and of functions changed at one place.
use Rattle.std.proofs.Common.{◌≡◌, ◌≢◌, ℕ, Bool, true, false, if◌then◌else◌, List, [], ◌∷◌, ◌++◌, refl, sym, ◌∙◌, ap, ⊎_elim, append_assoc, append-nil}
use Rattle.std.proofs.lemmas.Bool.{cases_eq, eq-eqb, ne_eqb}
use Rattle.cluster_laws.specs.cluster_core.Messages.{Section}
use Rattle.cluster_laws.specs.cluster_core.Ranges.{set_at}
use Rattle.cluster_laws.specs.cluster_model.Calls.{Begin, Call, Committed, Count, Report, Saved, Step, Want, Wave, begins_in, sections_in}

pub begins-append : (xs ys : List Call) → begins_in (xs ++ ys) ≡ begins_in xs ++ begins_in ys
begins-append [] ys = refl
begins-append (Begin k ∷ xs) ys = ap (λ (ks : List ℕ). k ∷ ks) (begins-append xs ys)
begins-append (Committed k ∷ xs) ys = begins-append xs ys
begins-append (Wave k ∷ xs) ys = begins-append xs ys
begins-append (Step colour ∷ xs) ys = begins-append xs ys

pub sections-append : (xs ys : List Report) → sections_in (xs ++ ys) ≡ sections_in xs ++ sections_in ys
sections-append [] ys = refl
sections-append (Saved k section entries ∷ xs) ys = ap (λ (ss : List Section). section ∷ ss) (sections-append xs ys)
sections-append (Count k counts ∷ xs) ys = sections-append xs ys
sections-append (Want k ∷ xs) ys = sections-append xs ys

-- one call more at the end
pub begins_pushed : (xs ys : List Call) (call : Call) → begins_in (xs ++ (ys ++ call ∷ [])) ≡ begins_in (xs ++ ys) ++ begins_in (call ∷ [])
begins_pushed xs ys call =
    ap begins_in (sym (append_assoc xs ys (call ∷ []))) ∙ begins-append (xs ++ ys) (call ∷ [])

-- one report more at the end
pub sections_pushed : (xs ys : List Report) (report : Report) → sections_in (xs ++ (ys ++ report ∷ [])) ≡ sections_in (xs ++ ys) ++ sections_in (report ∷ [])
sections_pushed xs ys report =
    ap sections_in (sym (append_assoc xs ys (report ∷ []))) ∙ sections-append (xs ++ ys) (report ∷ [])

-- counts and wants are no sections
pub sections_told : (test : Bool) (xs ys : List Report) (report : Report) → sections_in (report ∷ []) ≡ [] → sections_in (xs ++ (if test then ys ++ report ∷ [] else ys)) ≡ sections_in (xs ++ ys)
sections_told true xs ys report none =
    sections_pushed xs ys report ∙ ap (λ (ss : List Section). sections_in (xs ++ ys) ++ ss) none ∙ append-nil (sections_in (xs ++ ys))
sections_told false xs ys report none = refl

-- what is read of a function changed at one place
pub read_at : {X Y : Type 0} (read : X → Y) (f : ℕ → X) (k : ℕ) (x : X) (i : ℕ) → read (set_at f k x i) ≡ set_at (λ j. read (f j)) k (read x) i
read_at read f k x i =
    ⊎_elim (λ (at : i ≡ k). rw (eq-eqb i k at) refl) (λ (off : i ≢ k). rw (ne_eqb i k off) refl) (cases_eq i k)

-- what is changed twice at a place is changed to the second
pub set_twice : {X : Type 0} (f : ℕ → X) (k : ℕ) (x y : X) (i : ℕ) → set_at (set_at f k x) k y i ≡ set_at f k y i
set_twice f k x y i =
    ⊎_elim (λ (at : i ≡ k). rw (eq-eqb i k at) refl) (λ (off : i ≢ k). rw (ne_eqb i k off) refl) (cases_eq i k)

-- two functions changed at one place agree where they do there and elsewhere
pub at_each : {X Y : Type 0} (read : X → Y) (f : ℕ → X) (k : ℕ) (x : X) (g : ℕ → Y) → read x ≡ g k → ((i : ℕ) → i ≢ k → read (f i) ≡ g i) → (i : ℕ) → read (set_at f k x i) ≡ g i
at_each read f k x g here there i =
    ⊎_elim
    (λ (at : i ≡ k). rw (eq-eqb i k at) (here ∙ sym (ap g at)))
    (λ (off : i ≢ k). rw (ne_eqb i k off) (there i off))
    (cases_eq i k)

-- what goes from the front of the second list to the end of the first changes nothing
pub passed : {X : Type 0} (link out : ℕ → List X) (a : ℕ) (x : X) (behind : List X) → out a ≡ x ∷ behind → (b : ℕ) → set_at link a (link a ++ x ∷ []) b ++ set_at out a behind b ≡ link b ++ out b
passed link out a x behind first b =
    ⊎_elim
    (λ (at : b ≡ a). rw (eq-eqb b a at) (append_assoc (link a) (x ∷ []) behind ∙ ap (λ xs. link a ++ xs) (sym first) ∙ sym (ap (λ (k : ℕ). link k ++ out k) at)))
    (λ (off : b ≢ a). rw (ne_eqb b a off) refl)
    (cases_eq b a)
