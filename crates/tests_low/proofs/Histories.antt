-- The images of the small history.
use Rattle.std.proofs.Common.{◌≡◌, ◌⊎◌, inl, inr, ℕ, zero, suc, ◌<◌, ◌≤◌, List, [], ◌∷◌, get_or, refl, sym, ap, subst, arith}
use Rattle.std.specs.Prelude.{All}
use Rattle.gl_outside.specs.Disk.{ByteRange, IsImage, IsOutside, IsTorn, images_now, images_since, state_at}
use Rattle.tests_low.specs.History.{synced, written_over}

abbrev range : ByteRange
range = record { at = 1; size = 1 }

inside : All (IsOutside 1) (range ∷ []) → ⊥
inside all = elim (all 0 range (omega arith)) [ inl before ↦ absurd (omega (arith, before)) | inr behind ↦ absurd (omega (arith, behind)) ]

outside : All (IsOutside 2) (range ∷ [])
outside zero d lt = inr (omega arith)
outside (suc k) d lt = absurd (omega (arith, lt))

-- any byte in the range, and any behind the end
pub torn : (byte : ℕ) (more : List ℕ) → IsTorn (1 ∷ 2 ∷ 3 ∷ []) (range ∷ []) (1 ∷ byte ∷ 3 ∷ more)
torn byte more = record { no_shorter = omega arith; stays = stays }
  where
    stays : (place : ℕ) → place < 3 → All (IsOutside place) (range ∷ []) → get_or (1 ∷ byte ∷ 3 ∷ more) place 0 ≡ get_or (1 ∷ 2 ∷ 3 ∷ []) place 0
    stays zero lt all = refl
    stays (suc zero) lt all = absurd (inside all)
    stays (suc (suc zero)) lt all = refl
    stays (suc (suc (suc k))) lt all = absurd (omega (arith, lt))

pub not_shorter : IsTorn (1 ∷ 2 ∷ 3 ∷ []) (range ∷ []) (1 ∷ 9 ∷ []) → ⊥
not_shorter is = let long = is.no_shorter in absurd (omega (arith, long))

pub not_elsewhere : IsTorn (1 ∷ 2 ∷ 3 ∷ []) (range ∷ []) (1 ∷ 9 ∷ 4 ∷ []) → ⊥
not_elsewhere is =
    let same : ◌≡◌ {A = ℕ} 4 3 = is.stays 2 (omega arith) outside in
    absurd (omega (arith, same))

pub not_later : images_since synced 2 (1 ∷ 7 ∷ 3 ∷ []) → ⊥
not_later left =
    let last : left.0 ≡ 2 = (let late = left.1 in let early = left.2 in omega (arith, late, early)) in
    let is : (1 ∷ 7 ∷ 3 ∷ []) ≡ (1 ∷ 9 ∷ 3 ∷ []) = subst (λ (moment : ℕ). IsImage (state_at synced moment) (1 ∷ 7 ∷ 3 ∷ [])) last left.3 in
    let same : ◌≡◌ {A = ℕ} 7 9 = ap (λ (bytes : List ℕ). get_or bytes 1 0) is in
    absurd (omega (arith, same))
