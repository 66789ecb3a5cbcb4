-- Names that are handed on one after another.
use Rattle.std.proofs.Common.{◌≡◌, ℕ, zero, suc, List, [], ◌∷◌, ◌++◌, Option, None, Some, Result, Ok, Err, OnOk, take, ap, sym, ◌∙◌, subst, ⊎_elim, append-nil, append_assoc, arith}
use Rattle.std.specs.Prelude.{Contains}
use Rattle.gl_outside.specs.declared.files.OpenFault.{OpenFault}
use Rattle.gl_outside.specs.declared.files.OpenFault.TheVariants.{Failed, NoMemory}
use Rattle.gl_outside.specs.Names.{AppendsNames, NotesName}
use Rattle.job_io.specs.whole_files.FilesUsed.{OpensInOrder}

pub AppendsNames-trans : (a b c : Option (List (List ℕ))) (xs ys : List (List ℕ)) → AppendsNames a b xs → AppendsNames b c ys → AppendsNames a c (xs ++ ys)
AppendsNames-trans None b c xs ys p q = tt
AppendsNames-trans (Some x) None c xs ys p q = absurd p
AppendsNames-trans (Some x) (Some y) None xs ys p q = absurd q
AppendsNames-trans (Some x) (Some y) (Some z) xs ys p q = q ∙ ap (λ l. l ++ ys) p ∙ append_assoc x xs ys

pub AppendsNames-nil : (a : Option (List (List ℕ))) → AppendsNames a a []
AppendsNames-nil None = tt
AppendsNames-nil (Some x) = sym (append-nil x)

-- an open that was refused handed its name on, or nothing
pub OpensInOrder-refused : (a b : Option (List (List ℕ))) (name : List ℕ) (fault : OpenFault) → NotesName a b name (Err fault) → OpensInOrder a b (name ∷ [])
OpensInOrder-refused a b name Failed notes = (1, notes)
OpensInOrder-refused a b name NoMemory notes =
    ⊎_elim (λ noted. (1, noted)) (λ same. (0, subst (λ (x : Option (List (List ℕ))). AppendsNames a x []) (sym same) (AppendsNames-nil a))) notes

-- at most the first of these names was handed on
pub OpensInOrder-first : (a b : Option (List (List ℕ))) (v first : List ℕ) (rest : List (List ℕ)) → v ≡ first → OpensInOrder a b (v ∷ []) → OpensInOrder a b (first ∷ rest)
OpensInOrder-first a b v first rest e (zero, p) = (0, p)
OpensInOrder-first a b v first rest e (suc k, p) = (1, subst (λ (x : List ℕ). AppendsNames a b (x ∷ [])) e (taken_one k p))
  where
    taken_one : (k : ℕ) → AppendsNames a b (take (suc k) (v ∷ [])) → AppendsNames a b (v ∷ [])
    taken_one zero p = p
    taken_one (suc j) p = p

-- the first name was handed on, and then a front of the others
pub OpensInOrder-then : (a b c : Option (List (List ℕ))) (v first : List ℕ) (rest : List (List ℕ)) → v ≡ first
    → AppendsNames a b (v ∷ []) → OpensInOrder b c rest → OpensInOrder a c (first ∷ rest)
OpensInOrder-then a b c v first rest e p q =
    (suc q.0, subst (λ (x : List ℕ). AppendsNames a c (x ∷ take q.0 rest)) e (AppendsNames-trans a b c (v ∷ []) (take q.0 rest) p q.1))

-- a fact is a fact at `Ok`
pub OnOk-of : {X E : Type 0} (r : Result X E) (P : Type 0) → P → OnOk r P
OnOk-of (Ok x) P p = p
OnOk-of (Err e) P p = tt

-- nothing was handed on
pub OpensInOrder-none : (a : Option (List (List ℕ))) (names : List (List ℕ)) → OpensInOrder a a names
OpensInOrder-none a names = (0, AppendsNames-nil a)

-- a name is one of a list of one, or of two
pub contains-one : (name other : List ℕ) → other ≡ name → Contains (name ∷ []) other
contains-one name other e = (0, omega arith, sym e)

pub contains-first : (first second other : List ℕ) → other ≡ first → Contains (first ∷ second ∷ []) other
contains-first first second other e = (0, omega arith, sym e)

pub contains-second : (first second other : List ℕ) → other ≡ second → Contains (first ∷ second ∷ []) other
contains-second first second other e = (1, omega arith, sym e)
