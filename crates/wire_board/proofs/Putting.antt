-- One link is another, and the others stay.
use Rattle.std.proofs.Common.{List, [], ap, arith, get_or, get_or-set_other, get_or-set_same, inl, inr, set, suc, suc-mul, sym, ◌*◌, ◌+◌, ◌<◌, ◌≤◌, ◌∙◌, ◌≡◌, ◌≢◌, ◌⊎◌, ℕ}
use Rattle.std.proofs.lemmas.Nat.{mul-le}
use Rattle.std.proofs.lemmas.Bool.{cases_eq, cases_lt}
use Rattle.cluster_step.specs.clusters.Inner.Writing.{HasLinkBetween, HaveLinks, with_link_between}
use Rattle.cluster_step.specs.clusters.Links.{LinkView, empty_link, link_between}
use Rattle.cluster_step.proofs.clusters.LinkLemmas.{links_stay}
use Rattle.cluster_step.proofs.clusters.Lines.{ChangesLine, line_changes}
use Rattle.wire_board.specs.Led.{link_no}

module _ (old : List (List LinkView)) (p q : ℕ) (has : HasLinkBetween old p q) (l : LinkView) where
  abbrev row : List LinkView
  row = set (get_or old p []) q l

  pub link_put : link_between (with_link_between old p q l) p q ≡ l
  link_put =
      ap (λ (r : List LinkView). get_or r q empty_link) (get_or-set_same old p row [] has.from)
      ∙ get_or-set_same (get_or old p []) q l empty_link has.to

  link_column : (j : ℕ) → j ≢ q → link_between (with_link_between old p q l) p j ≡ link_between old p j
  link_column j off =
      ap (λ (r : List LinkView). get_or r j empty_link) (get_or-set_same old p row [] has.from)
      ∙ get_or-set_other (get_or old p []) q j l empty_link off

  link_row : (i j : ℕ) → i ≢ p → link_between (with_link_between old p q l) i j ≡ link_between old i j
  link_row i j off = ap (λ (r : List LinkView). get_or r j empty_link) (get_or-set_other old p i row [] off)

  pub link_other : (i j : ℕ) → (i ≢ p) ⊎ (j ≢ q) → link_between (with_link_between old p q l) i j ≡ link_between old i j
  link_other i j (inl off) = link_row i j off
  link_other i j (inr off) = elim (cases_eq i p) [
    | inl same ↦ ap (λ (k : ℕ). link_between (with_link_between old p q l) k j) same ∙ link_column j off ∙ ap (λ (k : ℕ). link_between old k j) (sym same)
    | inr other ↦ link_row i j other
  ]

  rest : with_link_between old p q l ≡ with_link_between old p q (link_between (with_link_between old p q l) p q)
  rest = ap (with_link_between old p q) (sym link_put)

  pub line_put : ChangesLine old (with_link_between old p q l) p q l.messages
  line_put = line_changes old p q has (with_link_between old p q l) rest l.messages (ap (λ (k : LinkView). k.messages) link_put)

  pub have_put : (n : ℕ) → HaveLinks old n → HaveLinks (with_link_between old p q l) n
  have_put n have = links_stay old p q has (with_link_between old p q l) rest n have

-- ---- links between other peers have other numbers

below_product : (n p q r : ℕ) → p < r → q < n → p * n + q < r * n
below_product n p q r less low =
    let more : suc p * n ≤ r * n = mul-le (suc p) n r n (omega arith) (omega arith) in
    let one : suc p * n ≡ p * n + n = suc-mul p n in
    omega arith

row_same : (n i j p q : ℕ) → j < n → q < n → link_no n i j ≡ link_no n p q → i ≡ p
row_same n i j p q low_j low_q same = elim (cases_lt i p) [
  | inl less ↦ let one = below_product n i j p less low_j in absurd (omega arith)
  | inr not_less ↦ elim (cases_lt p i) [
    | inl more ↦ let one = below_product n p q i more low_q in absurd (omega arith)
    | inr not_more ↦ omega arith
  ]
]

pub links_apart : (n i j p q : ℕ) → j < n → q < n → (i ≢ p) ⊎ (j ≢ q) → link_no n i j ≢ link_no n p q
links_apart n i j p q low_j low_q (inl off) same = off (row_same n i j p q low_j low_q same)
links_apart n i j p q low_j low_q (inr off) same =
    let rows : i ≡ p = row_same n i j p q low_j low_q same in
    let shifted : i * n + j ≡ i * n + q = same ∙ ap (λ (k : ℕ). k * n + q) (sym rows) in
    off (omega arith)
