-- The first message leaves a link, or a message goes from an outbox to its link: what is on the way then.
use Rattle.std.proofs.Common.{◌≡◌, ◌≢◌, ◌⊎◌, ℕ, List, [], ◌∷◌, ◌++◌, refl, sym, ◌∙◌, ap, ⊎_elim, inl, inr, append_assoc}
use Rattle.std.proofs.lemmas.Bool.{cases_eq}
use Rattle.cluster_laws.specs.cluster_core.Messages.{Message}
use Rattle.cluster_laws.specs.cluster_core.Parts.{Part}
use Rattle.cluster_laws.specs.cluster_core.Ranges.{set_at}
use Rattle.cluster_laws.specs.cluster_core.Worlds.{World, with_link, way}
use Rattle.cluster_laws.specs.cluster_core.Actions.{sends}
use Rattle.cluster_laws.proofs.cluster_core.Basics.{set_at-same, set_at-other, set_at-there, set_at-kept}

-- two ways are the same or not
pub same_way : (p q p' q' : ℕ) → ((p' ≡ p) × (q' ≡ q)) ⊎ ((p' ≢ p) ⊎ (q' ≢ q))
same_way p q p' q' =
    ⊎_elim
    (λ (from : p' ≡ p). ⊎_elim (λ (to : q' ≡ q). inl (from, to)) (λ (off : q' ≢ q). inr (inr off)) (cases_eq q' q))
    (λ (off : p' ≢ p). inr (inl off))
    (cases_eq p' p)

-- the messages on a link that was changed, and on each other one
pub link-here : (w : World) (p q : ℕ) (messages : List Message) → (with_link w p q messages).link p q ≡ messages
link-here w p q messages =
    ap (λ (row : ℕ → List Message). row q) (set_at-same w.link p (set_at (w.link p) q messages)) ∙ set_at-same (w.link p) q messages

pub link-there : (w : World) (p q : ℕ) (messages : List Message) (p' q' : ℕ) → (p' ≢ p) ⊎ (q' ≢ q) → (with_link w p q messages).link p' q' ≡ w.link p' q'
link-there w p q messages p' q' off =
    ⊎_elim
    (λ (from : p' ≢ p). ap (λ (row : ℕ → List Message). row q') (set_at-other w.link p (set_at (w.link p) q messages) p' from))
    (λ (to : q' ≢ q).
    set_at-kept (λ (row : ℕ → List Message). row q') w.link p (set_at (w.link p) q messages) (set_at-other (w.link p) q messages q' to) p')
    off

-- ---- a message leaves the link

module _ (w : World) (p q : ℕ) (m : Message) (behind : List Message) (first : w.link p q ≡ m ∷ behind) where
  abbrev pub taken : World
  taken = with_link w p q behind

  -- what is on the way from p to q loses its front
  pub taken-here : way w p q ≡ m ∷ way taken p q
  taken-here = rw (first, link-here w p q behind) refl

  -- and each other way is as before
  pub taken-there : (p' q' : ℕ) → (p' ≢ p) ⊎ (q' ≢ q) → way taken p' q' ≡ way w p' q'
  taken-there p' q' off = ap (λ (messages : List Message). messages ++ (w.part p').out q') (link-there w p q behind p' q' off)

-- ---- a message goes to the link

module _ (w : World) (p q : ℕ) (m : Message) (behind : List Message) (first : (w.part p).out q ≡ m ∷ behind) where
  -- the sender's part, with the rest in its outbox
  abbrev pub shorter : Part
  shorter = record (w.part p) { out = set_at (w.part p).out q behind }

  sent_same : way (sends w p q (m ∷ behind)) p q ≡ way w p q
  sent_same =
      let link : (sends w p q (m ∷ behind)).link p q ≡ w.link p q ++ m ∷ [] = link-here w p q (w.link p q ++ m ∷ []) in
      let out : (set_at w.part p shorter p).out q ≡ behind =
      ap (λ (part : Part). part.out q) (set_at-same w.part p shorter) ∙ set_at-same (w.part p).out q behind in
      let back : (w.link p q ++ m ∷ []) ++ behind ≡ w.link p q ++ (m ∷ behind) = append_assoc (w.link p q) (m ∷ []) behind in
      (λ i. link i ++ out i) ∙ back ∙ sym (ap (λ (messages : List Message). w.link p q ++ messages) first)

  sent_other : (p' q' : ℕ) → (p' ≢ p) ⊎ (q' ≢ q) → way (sends w p q (m ∷ behind)) p' q' ≡ way w p' q'
  sent_other p' q' off =
      let link : (sends w p q (m ∷ behind)).link p' q' ≡ w.link p' q' = link-there w p q (w.link p q ++ m ∷ []) p' q' off in
      let out : (set_at w.part p shorter p').out q' ≡ (w.part p').out q' =
      ⊎_elim
      (λ (from : p' ≢ p). set_at-there (λ (part : Part). part.out q') w.part p shorter p' from)
      (λ (to : q' ≢ q). set_at-kept (λ (part : Part). part.out q') w.part p shorter (set_at-other (w.part p).out q behind q' to) p')
      off in
      λ i. link i ++ out i

  -- each way is as before
  pub sent-way : (p' q' : ℕ) → way (sends w p q (m ∷ behind)) p' q' ≡ way w p' q'
  sent-way p' q' =
      ⊎_elim
      (λ (same : (p' ≡ p) × (q' ≡ q)).
      let here = sent_same in
      let at : way (sends w p q (m ∷ behind)) p' q' ≡ way (sends w p q (m ∷ behind)) p q = λ i. way (sends w p q (m ∷ behind)) (same.0 i) (same.1 i) in
      let was : way w p q ≡ way w p' q' = λ i. way w (sym same.0 i) (sym same.1 i) in
      at ∙ here ∙ was)
      (λ (off : (p' ≢ p) ⊎ (q' ≢ q)). sent_other p' q' off)
      (same_way p q p' q')
