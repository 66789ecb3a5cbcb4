-- Lines that are written one after another.
use Rattle.std.proofs.Common.{◌≡◌, ℕ, suc, ◌+◌, ◌-◌, ◌<◌, List, [], ◌∷◌, ◌++◌, Option, ap, ◌∙◌, subst, decimal, append_assoc, arith}
use Rattle.std.specs.Io.KnownBytes.{Appends}
use Rattle.gl_outside.proofs.Fronts.{Printing, Printing-line, Printing-all}
use Rattle.graph_text.specs.generate.Making.{lines_from, vertex_line}

-- the line at a place, and the lines after it
lines_from-next : (line : ℕ → List ℕ) (i count : ℕ) → i < count → lines_from line i (count - i) ≡ line i ++ lines_from line (i + 1) (count - (i + 1))
lines_from-next line i count inside =
    let more : count - i ≡ suc (count - (i + 1)) = omega (arith, inside) in
    ap (lines_from line i) more

-- a line is gathered
pub Printing-made : (old now : Option (List ℕ)) (piece piece' text : List ℕ) (line : ℕ → List ℕ) (i count : ℕ) → i < count → piece' ≡ piece ++ line i
    → Printing old now piece (lines_from line i (count - i)) text → Printing old now piece' (lines_from line (i + 1) (count - (i + 1))) text
Printing-made old now piece piece' text line i count inside grown p =
    Printing-line old now piece (line i) piece' (lines_from line (i + 1) (count - (i + 1))) text grown
    (subst (λ (rest : List ℕ). Printing old now piece rest text) (lines_from-next line i count inside) p)

-- the last piece is written
pub Printing-ends : (old mid now : Option (List ℕ)) (piece text : List ℕ) (line : ℕ → List ℕ) (i count : ℕ) → i ≡ count → Appends mid now piece
    → Printing old mid piece (lines_from line i (count - i)) text → Appends old now text
Printing-ends old mid now piece text line i count end q p =
    let none : count - i ≡ 0 = omega (arith, end) in
    Printing-all old mid now piece text q (subst (λ (rest : List ℕ). Printing old mid piece rest text) (ap (lines_from line i) none) p)

-- the line of a vertex is gathered by its parts
pub two_pushes : (piece mid new : List ℕ) (j : ℕ) → mid ≡ piece ++ decimal (j + 1) → new ≡ mid ++ 10 ∷ [] → new ≡ piece ++ vertex_line j
two_pushes piece mid new j first second = second ∙ ap (λ (xs : List ℕ). xs ++ 10 ∷ []) first ∙ append_assoc piece (decimal (j + 1)) (10 ∷ [])
