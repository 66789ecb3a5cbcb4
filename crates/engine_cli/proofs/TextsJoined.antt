-- Texts that are written one after another.
use Rattle.std.proofs.Common.{◌≡◌, ℕ, ◌+◌, ◌<◌, List, [], ◌∷◌, ◌++◌, Option, Bor, map, take, drop, length, get_or, sym, refl, ap, ◌∙◌, subst, append_assoc, append-nil}
use Rattle.std.proofs.Math.ListN.{get_or-map}
use Rattle.std.proofs.lemmas.List.{length-map, take_more, take-append-drop}
use Rattle.std.specs.Io.KnownBytes.{Appends}
use Rattle.std.proofs.KnownBytes.{Appends-trans}
use Rattle.gl_outside.specs.Fronts.{AppendsFront}
use Rattle.engine_cli.specs.Notes.{joined}
use Rattle.gl_outside.proofs.Fronts.{Printing, Printing-more}

joined-append : (xs ys : List (List ℕ)) → joined (xs ++ ys) ≡ joined xs ++ joined ys
joined-append [] ys = refl
joined-append (x ∷ xs) ys = ap (λ l. x ++ l) (joined-append xs ys) ∙ sym (append_assoc x (joined xs) (joined ys))

joined-more : (xs : List (List ℕ)) (k : ℕ) (d : List ℕ) → k < length xs → joined (take (k + 1) xs) ≡ joined (take k xs) ++ get_or xs k d
joined-more xs k d inside =
    ap joined (take_more xs k d inside) ∙ joined-append (take k xs) (get_or xs k d ∷ []) ∙ ap (λ l. joined (take k xs) ++ l) (append-nil (get_or xs k d))

joined-front : (xs : List (List ℕ)) (k : ℕ) → joined xs ≡ joined (take k xs) ++ joined (drop k xs)
joined-front xs k = ap joined (sym (take-append-drop k xs)) ∙ joined-append (take k xs) (drop k xs)

-- one text more was written
pub joined-next : (a b c : Option (List ℕ)) (xs : List (List ℕ)) (k : ℕ) (text : List ℕ) → k < length xs → text ≡ get_or xs k []
    → Appends a b (joined (take k xs)) → Appends b c text → Appends a c (joined (take (k + 1) xs))
joined-next a b c xs k text inside is p q =
    subst (Appends a c) (ap (λ l. joined (take k xs) ++ l) is ∙ sym (joined-more xs k [] inside)) (Appends-trans a b c (joined (take k xs)) text p q)

-- a front of one text more was written
pub joined-stopped : (a b c : Option (List ℕ)) (xs : List (List ℕ)) (k : ℕ) (text : List ℕ) → k < length xs → text ≡ get_or xs k []
    → Appends a b (joined (take k xs)) → AppendsFront b c text → AppendsFront a c (joined xs)
joined-stopped a b c xs k text inside is p q =
    let rest = joined (drop (k + 1) xs) in
    let whole : joined (take k xs) ++ (text ++ rest) ≡ joined xs =
    sym (append_assoc (joined (take k xs)) text rest)
    ∙ ap (λ l. l ++ rest) (ap (λ l. joined (take k xs) ++ l) is ∙ sym (joined-more xs k [] inside))
    ∙ sym (joined-front xs (k + 1)) in
    let so_far : Printing a b text rest (joined xs) = record { written = joined (take k xs); held = p; whole = whole } in
    Printing-more a b c text rest (joined xs) q so_far

-- the text at a place of a list of texts
pub text_at : (texts : List (Bor (List ℕ))) (k : ℕ) (text : List ℕ) → k < length texts → text ≡ (get_or texts k (record { ref_ptr = (0, 0); now = [] })).now
    → (k < length (map (λ t. t.now) texts)) × (text ≡ get_or (map (λ t. t.now) texts) k [])
text_at texts k text inside is =
    (rw (length-map texts (λ (t : Bor (List ℕ)). t.now)) inside, is ∙ sym (get_or-map (λ (t : Bor (List ℕ)). t.now) texts k (record { ref_ptr = (0, 0); now = [] })))
