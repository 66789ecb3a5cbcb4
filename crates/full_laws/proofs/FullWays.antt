-- What is on the way, and what is given there, after a message went to its link or left it.
use Rattle.std.proofs.Common.{◌≡◌, ◌≢◌, ◌⊎◌, ℕ, List, [], ◌∷◌, ◌++◌, refl, sym, ◌∙◌, ap, subst, subst₂, ⊎_elim, inl, inr, append_assoc}
use Rattle.cluster_laws.specs.cluster_core.Ranges.{set_at}
use Rattle.cluster_laws.proofs.cluster_core.Basics.{set_at-cases, set_at-kept, set_at-other, set_at-same, set_at-there}
use Rattle.cluster_laws.proofs.cluster_core.Taking.{same_way}
use Rattle.full_laws.specs.FullActions.{sends_full}
use Rattle.full_laws.specs.FullMessages.{FullMessage, Gather, Give, Home, gifts_of}
use Rattle.full_laws.specs.FullParts.{FullPart}
use Rattle.full_laws.specs.FullWorlds.{FullWorld, full_way}

-- ---- lists

pub gifts-append : (ms ns : List FullMessage) → gifts_of (ms ++ ns) ≡ gifts_of ms ++ gifts_of ns
gifts-append [] ns = refl
gifts-append (Gather s v rest seen ∷ ms) ns = gifts-append ms ns
gifts-append (Home s seen ∷ ms) ns = gifts-append ms ns
gifts-append (Give s gift ∷ ms) ns = ap (λ l. gift ∷ l) (gifts-append ms ns)

-- ---- a link that changes

pub set_two : {X : Type 0} (P : X → Type 0) (f : ℕ → ℕ → X) (p q : ℕ) (x : X) (i j : ℕ) → (i ≡ p → j ≡ q → P x) → ((i ≢ p) ⊎ (j ≢ q) → P (f i j)) → P (set_at f p (set_at (f p) q x) i j)
set_two P f p q x i j here there =
    set_at-cases (λ row. P (row j)) f p (set_at (f p) q x) i
    (λ at. set_at-cases P (f p) q x j (λ to. here at to) (λ off. subst (λ k. P (f k j)) at (there (inr off))))
    (λ off. there (inl off))

pub two_here : {X : Type 0} (f : ℕ → ℕ → X) (p q : ℕ) (x : X) → set_at f p (set_at (f p) q x) p q ≡ x
two_here f p q x = ap (λ row. row q) (set_at-same f p (set_at (f p) q x)) ∙ set_at-same (f p) q x

pub two_there : {X : Type 0} (f : ℕ → ℕ → X) (p q : ℕ) (x : X) (i j : ℕ) → (i ≢ p) ⊎ (j ≢ q) → set_at f p (set_at (f p) q x) i j ≡ f i j
two_there f p q x i j off = ⊎_elim
    (λ (from : i ≢ p). ap (λ row. row j) (set_at-other f p (set_at (f p) q x) i from))
    (λ (to : j ≢ q). set_at-kept (λ row. row j) f p (set_at (f p) q x) (set_at-other (f p) q x j to) i)
    off

-- ---- a message goes to its link

module _ (w : FullWorld) (p q : ℕ) (m : FullMessage) (behind : List FullMessage) (first : (w.part p).out q ≡ m ∷ behind) where
  abbrev shorter : FullPart
  shorter = record (w.part p) { out = set_at (w.part p).out q behind }

  sent_here : full_way (sends_full w p q (m ∷ behind)) p q ≡ full_way w p q
  sent_here =
      let link : (sends_full w p q (m ∷ behind)).link p q ≡ w.link p q ++ m ∷ [] = two_here w.link p q (w.link p q ++ m ∷ []) in
      let out : (set_at w.part p shorter p).out q ≡ behind = ap (λ (part : FullPart). part.out q) (set_at-same w.part p shorter) ∙ set_at-same (w.part p).out q behind in
      let back : (w.link p q ++ m ∷ []) ++ behind ≡ w.link p q ++ (m ∷ behind) = append_assoc (w.link p q) (m ∷ []) behind in
      (λ i. link i ++ out i) ∙ back ∙ sym (ap (λ ms. w.link p q ++ ms) first)

  sent_there : (i j : ℕ) → (i ≢ p) ⊎ (j ≢ q) → full_way (sends_full w p q (m ∷ behind)) i j ≡ full_way w i j
  sent_there i j off =
      let link : (sends_full w p q (m ∷ behind)).link i j ≡ w.link i j = two_there w.link p q (w.link p q ++ m ∷ []) i j off in
      let out : (set_at w.part p shorter i).out j ≡ (w.part i).out j =
      ⊎_elim
      (λ (from : i ≢ p). set_at-there (λ (part : FullPart). part.out j) w.part p shorter i from)
      (λ (to : j ≢ q). set_at-kept (λ (part : FullPart). part.out j) w.part p shorter (set_at-other (w.part p).out q behind j to) i)
      off in
      λ k. link k ++ out k

  -- each way is as before
  pub sent_ways : (i j : ℕ) → full_way (sends_full w p q (m ∷ behind)) i j ≡ full_way w i j
  sent_ways i j = ⊎_elim
      (λ (same : (i ≡ p) × (j ≡ q)).
      subst₂ (λ k l. full_way (sends_full w p q (m ∷ behind)) k l ≡ full_way w k l) (sym same.0) (sym same.1) sent_here)
      (λ (off : (i ≢ p) ⊎ (j ≢ q)). sent_there i j off)
      (same_way p q i j)
