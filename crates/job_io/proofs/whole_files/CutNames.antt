-- The names of the files of a cut differ.
use Rattle.std.proofs.Common.{◌≡◌, ◌≢◌, ◌<◌, ◌+◌, ◌-◌, ◌^◌, ◌++◌, ℕ, zero, suc, List, [], ◌∷◌, length, get_or, codes, decimal, refl, sym, ap, ◌∙◌, arith}
use Rattle.std.proofs.lemmas.Fmt.{decimal_injective}
use Rattle.std.proofs.lemmas.List.{append_cancel_left, append_cancel_right, append_assoc, length-append}
use Rattle.std.proofs.Math.Seq.{get_or-append_right}
use Rattle.job_io.specs.whole_files.AtomNames.{atom_name, cut_name, index_name}

-- the element behind a list
behind : (xs : List ℕ) (y d : ℕ) → get_or (xs ++ y ∷ []) (length xs) d ≡ y
behind xs y d =
    let none : length xs - length xs ≡ 0 = omega arith in
    get_or-append_right xs (y ∷ []) (length xs) d (omega arith) ∙ ap (λ (k : ℕ). get_or (y ∷ []) k d) none

-- lists that end differently
ends-apart : (xs ys : List ℕ) (x y : ℕ) → xs ++ x ∷ [] ≡ ys ++ y ∷ [] → x ≡ y
ends-apart xs ys x y same =
    let long : length (xs ++ x ∷ []) ≡ length (ys ++ y ∷ []) = ap (λ (l : List ℕ). length l) same in
    let first : length (xs ++ x ∷ []) ≡ length xs + 1 = length-append xs (x ∷ []) in
    let second : length (ys ++ y ∷ []) ≡ length ys + 1 = length-append ys (y ∷ []) in
    let even : length xs ≡ length ys = omega (arith, long, first, second) in
    sym (behind xs x 0) ∙ ap (λ (l : List ℕ). get_or l (length xs) 0) same ∙ ap (λ (k : ℕ). get_or (ys ++ y ∷ []) k 0) even ∙ behind ys y 0

-- the index is no atom
pub index-apart : (prefix : List ℕ) (a : ℕ) → index_name prefix ≢ atom_name prefix a
index-apart prefix a same =
    let front : List ℕ = (prefix ++ codes ".") ++ decimal a in
    let index : index_name prefix ≡ (prefix ++ codes ".inde") ++ 120 ∷ [] = sym (append_assoc prefix (codes ".inde") (120 ∷ [])) in
    let atom : atom_name prefix a ≡ (front ++ codes ".ato") ++ 109 ∷ [] = sym (append_assoc front (codes ".ato") (109 ∷ [])) in
    let last : 120 ≡ 109 = ends-apart (prefix ++ codes ".inde") (front ++ codes ".ato") 120 109 (sym index ∙ same ∙ atom) in
    omega (arith, last)

-- and each atom has a name of its own
pub atom-apart : (prefix : List ℕ) (a b : ℕ) → a < 2 ^ 64 → b < 2 ^ 64 → atom_name prefix a ≡ atom_name prefix b → a ≡ b
atom-apart prefix a b first second same =
    decimal_injective a b first second
    (append_cancel_left (prefix ++ codes ".") _ _ (append_cancel_right ((prefix ++ codes ".") ++ decimal a) ((prefix ++ codes ".") ++ decimal b) (codes ".atom") same))

pub cut-names-apart : (prefix : List ℕ) (i j : ℕ) → i < 2 ^ 64 → j < 2 ^ 64 → cut_name prefix i ≡ cut_name prefix j → i ≡ j
cut-names-apart prefix zero zero first second same = refl
cut-names-apart prefix zero (suc b) first second same = absurd (index-apart prefix b same)
cut-names-apart prefix (suc a) zero first second same = absurd (index-apart prefix a (sym same))
cut-names-apart prefix (suc a) (suc b) first second same =
    ap (λ n. suc n) (atom-apart prefix a b (omega (arith, first)) (omega (arith, second)) same)
