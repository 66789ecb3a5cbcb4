-- What the steps tell a caller, and the numbers of words.
use Rattle.std.proofs.Common.{◌≡◌, ℕ, ◌≤◌, [], ◌∷◌, Option, None, Some, sym, refl, ap, ◌∙◌, subst, arith}
use mathlib.Core.Option as maybe
use Rattle.atomic_table.specs.Table.{step}
use Rattle.link_tables.specs.Seats.{Sat, sight, view, word_at, number_in, with_first}
use Rattle.link_tables.specs.Steps.{took, took_by}
use Rattle.link_tables.specs.declared.words.LinkWord.{LinkWord}
use Rattle.link_tables.specs.declared.words.LinkWord.TheVariants.{Bare, Laden, Out}

pub is_out : (a : LinkWord) → number_in a ≡ 1 → a ≡ Out
is_out Bare e = absurd (omega arith)
is_out Laden e = absurd (omega arith)
is_out Out e = refl

pub is_bare : (a : LinkWord) → number_in a ≡ 0 → a ≡ Bare
is_bare Bare e = refl
is_bare Laden e = absurd (omega arith)
is_bare Out e = absurd (omega arith)

pub number_few : (a : LinkWord) → number_in a ≤ 2
number_few Bare = omega arith
number_few Laden = omega arith
number_few Out = omega arith

module _ {P Q : Type 0} (Learns : P → ℕ → Q → Type 0) where
  pub took_told : (m n : Sat P Q) (part : Option P) (i link slots old one r : ℕ) → i ≡ word_at link → took_by Learns part (step slots i old one maybe.none) m r n
      → (found expected : LinkWord) → number_in found ≡ r → number_in expected ≡ old → m.1 ≡ [] → (new : P) → part ≡ Some new → found ≡ expected
      → (q : Q) × (n ≡ (view (with_first new m.0.parts) (Some (link, q)) m.0.raised (sight (word_at link) (number_in found) None ∷ m.0.seen), (link, q) ∷ [])) × Learns new link q
  took_told m n part i link slots old one r is told found expected found_is expected_is none new part_is same =
      let t : took Learns new (step slots i old one maybe.none) m r n = subst (λ (z : Option P). took_by Learns z (step slots i old one maybe.none) m r n) part_is told in
      let hit : r ≡ old = sym found_is ∙ (ap number_in same ∙ expected_is) in
      let u = t.0 hit link is in
      (u.0, u.1 ∙ (λ k. (view (with_first new m.0.parts) (Some (link, u.0)) m.0.raised (sight (is k) (sym found_is k) None ∷ m.0.seen), (link, u.0) ∷ none k)), u.2)
