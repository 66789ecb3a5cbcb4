-- What the writes of a record leave, and what a crash may leave of them.
use Rattle.std.proofs.Common.{◌≡◌, inr, ℕ, suc, ◌+◌, ◌-◌, ◌<◌, ◌≤◌, List, [], ◌∷◌, ◌++◌, length, take, drop, get_or, refl, sym, ap, ◌∙◌, subst, arith, length-append, length-take, length-drop}
use Rattle.std.specs.Prelude.{replicate}
use Rattle.std.proofs.lemmas.List.{append_assoc, append-nil, take-append-drop, take-append-le, take_all, drop-drop, ext_get_or, get_or-take, get_or-drop}
use Rattle.std.proofs.Math.Seq.{drop-append-add, take-append-add}
use Rattle.gl_outside.specs.Disk.{ByteRange, IsOutside, IsTorn, with_piece}
use Rattle.gl_outside.proofs.Disks.{torn_front}

-- One range is the only one.
All-one : {X : Type 0} (P : X → Type 0) (x : X) → P x → (k : ℕ) (d : X) → k < length (x ∷ []) → P (get_or (x ∷ []) k d)
All-one P x holds k d lt = subst P (ap (λ (i : ℕ). get_or (x ∷ []) i d) (sym (let first : k ≡ 0 = omega (arith, lt) in first))) holds

drop_front : (base : List ℕ) (gate : ℕ) (rest : List ℕ) → drop (length base + 1) (base ++ gate ∷ rest) ≡ rest
drop_front base gate rest = drop-append-add base (gate ∷ rest) 1

take_front : (base : List ℕ) (gate : ℕ) (rest : List ℕ) → take (length base + 1) (base ++ gate ∷ rest) ≡ base ++ gate ∷ []
take_front base gate rest = take-append-add base (gate ∷ rest) 1

take_base : (base rest : List ℕ) → take (length base) (base ++ rest) ≡ base
take_base base rest = take-append-le (length base) base rest (omega arith) ∙ take_all (length base) base (omega arith)

-- where bytes behind the gate are torn, the gate stays
pub torn_behind : (base : List ℕ) (gate : ℕ) (rest : List ℕ) (size : ℕ) (image : List ℕ) → IsTorn (base ++ gate ∷ rest) ((record { at = length base + 1; size = size }) ∷ []) image → image ≡ base ++ gate ∷ drop (length base + 1) image
torn_behind base gate rest size image torn =
    let n = length base + 1 in
    let fits : n ≤ length (base ++ gate ∷ rest) = omega (arith, length-append base (gate ∷ rest)) in
    let front : take n image ≡ base ++ gate ∷ [] = torn_front (base ++ gate ∷ rest) n size image torn fits ∙ take_front base gate rest in
    sym (take-append-drop n image) ∙ ap (λ (l : List ℕ). l ++ drop n image) front ∙ append_assoc base (gate ∷ []) (drop n image)

-- where the gate is torn, what stood before it and behind it stays
pub torn_gate : (base : List ℕ) (gate : ℕ) (rest image : List ℕ) → IsTorn (base ++ gate ∷ rest) ((record { at = length base; size = 1 }) ∷ []) image → (next : ℕ) × (more : List ℕ) × (image ≡ base ++ next ∷ (rest ++ more))
torn_gate base gate rest image torn =
    let n = length base in
    let old = base ++ gate ∷ rest in
    let range : ByteRange = record { at = n; size = 1 } in
    let size : length old ≡ n + suc (length rest) = length-append base (gate ∷ rest) in
    let long = torn.no_shorter in
    let front : take n image ≡ base = torn_front old n 1 image torn (omega arith) ∙ take_base base (gate ∷ rest) in
    let back = drop (n + 1) image in
    let enough : length rest ≤ length back = omega (arith, length-drop (n + 1) image) in
    let same : take (length rest) back ≡ rest = ext_get_or 0 (take (length rest) back) rest (omega (arith, length-take (length rest) back)) (λ i lt.
    let inside : i < length rest = omega (arith, lt, length-take (length rest) back) in
    let stays = torn.stays (n + 1 + i) (omega (arith, inside)) (All-one (IsOutside (n + 1 + i)) range (inr (omega arith))) in
    get_or-take (length rest) back i 0 inside ∙ get_or-drop (n + 1) image i 0 ∙ stays
    ∙ sym (get_or-drop (n + 1) old i 0) ∙ ap (λ (l : List ℕ). get_or l i 0) (drop_front base gate rest)) in
    let parts = head_of (drop n image) (omega (arith, length-drop n image)) in
    let behind : parts.1 ≡ back = ap (drop 1) (sym parts.2) ∙ drops n image in (
      parts.0,
      drop (length rest) back,
      sym (take-append-drop n image) ∙ ap (λ (l : List ℕ). l ++ drop n image) front ∙ ap (λ (l : List ℕ). base ++ l) parts.2
          ∙ ap (λ (l : List ℕ). base ++ parts.0 ∷ l) (behind ∙ sym (take-append-drop (length rest) back) ∙ ap (λ (l : List ℕ). l ++ drop (length rest) back) same),
    )
  where
    head_of : (xs : List ℕ) → 1 ≤ length xs → (x : ℕ) × (more : List ℕ) × (xs ≡ x ∷ more)
    head_of [] some = absurd (omega arith)
    head_of (x ∷ xs) some = (x, xs, refl)

    drops : (k : ℕ) (xs : List ℕ) → drop 1 (drop k xs) ≡ drop (k + 1) xs
    drops k xs = drop-drop 1 k xs

-- a piece written behind the gate
pub written_behind : (base : List ℕ) (gate : ℕ) (more piece : List ℕ) → with_piece (base ++ gate ∷ more) (length base + 1) piece ≡ base ++ gate ∷ (piece ++ drop (length piece) more)
written_behind base gate more piece =
    let n = length base + 1 in
    let all = base ++ gate ∷ more in
    let none : n - length all ≡ 0 = omega (arith, length-append base (gate ∷ more)) in
    let back : drop (n + length piece) all ≡ drop (length piece) more = sym (drop-drop (length piece) n all) ∙ ap (drop (length piece)) (drop_front base gate more) in
    ap (λ (k : ℕ). take n all ++ replicate k 0 ++ piece ++ drop (n + length piece) all) none
    ∙ ap (λ (l : List ℕ). l ++ piece ++ drop (n + length piece) all) (append-nil (take n all))
    ∙ ap (λ (l : List ℕ). l ++ piece ++ drop (n + length piece) all) (take_front base gate more)
    ∙ ap (λ (l : List ℕ). (base ++ gate ∷ []) ++ piece ++ l) back
    ∙ append_assoc (base ++ gate ∷ []) piece (drop (length piece) more)
    ∙ append_assoc base (gate ∷ []) (piece ++ drop (length piece) more)

-- a byte written over the gate
pub written_gate : (base : List ℕ) (gate : ℕ) (rest : List ℕ) → with_piece (base ++ gate ∷ rest) (length base) (1 ∷ []) ≡ base ++ 1 ∷ rest
written_gate base gate rest =
    let n = length base in
    let all = base ++ gate ∷ rest in
    let none : n - length all ≡ 0 = omega (arith, length-append base (gate ∷ rest)) in
    ap (λ (k : ℕ). take n all ++ replicate k 0 ++ (1 ∷ []) ++ drop (n + 1) all) none
    ∙ ap (λ (l : List ℕ). l ++ (1 ∷ []) ++ drop (n + 1) all) (append-nil (take n all))
    ∙ ap (λ (l : List ℕ). l ++ (1 ∷ []) ++ drop (n + 1) all) (take_base base (gate ∷ rest))
    ∙ ap (λ (l : List ℕ). base ++ (1 ∷ []) ++ l) (drop_front base gate rest)
    ∙ append_assoc base (1 ∷ []) rest
