-- The first fault of the lists of a graph is the first that is wrong with the items of a text.
use Rattle.std.proofs.Common.{◌≡◌, ◌⊎◌, inl, inr, ℕ, ◌+◌, ◌<◌, List, [], ◌∷◌, ◌++◌, length, refl, ◌∙◌, ap, arith, Option, None, Some, option_and_then, length-append}
use Rattle.std.specs.Prelude.{IfSome}
use Rattle.gl_base.specs.declared.text_faults.TextKind.{TextKind}
use Rattle.graph_core.specs.declared.graph_lists.GraphFault.{GraphFault}
use Rattle.graph_core.specs.declared.graph_lists.GraphFault.TheVariants.{DoubleVertex, UnknownVertex, SelfLoop, DoubleEdge, NoMemory}
use Rattle.graph_core.specs.GraphLists.{NamesFirstFault}
use Rattle.graph_text.specs.Inner.Settled.{bad_or, first_bad, place_of, IsPlacedIn}

module _ {X : Type 0} (behind : List X → X → Option TextKind) where
  inside_by : (n end : ℕ) (kind : Option TextKind) (later : Option (ℕ × TextKind)) (at : ℕ × TextKind) → n < end → (later ≡ Some at → at.0 < end) → bad_or n kind later ≡ Some at → at.0 < end
  inside_by n end None later at inside go h = go h
  inside_by n end (Some kind) later at inside go h = let e : n ≡ at.0 = cc in omega (arith, inside, e)

  bad_inside : (before xs : List X) (at : ℕ × TextKind) → first_bad behind before xs ≡ Some at → at.0 < length before + length xs
  bad_inside before [] at h = absurd cc
  bad_inside before (x ∷ xs) at h =
      inside_by (length before) (length before + length (x ∷ xs)) (behind before x) (first_bad behind (before ++ x ∷ []) xs) at (omega arith)
      (λ later. let far = bad_inside (before ++ x ∷ []) xs at later in omega (arith, far, length-append before (x ∷ []))) h

  -- the fault of a refusal is at one of the places
  pub placed_in : (xs : List X) (many : ℕ) (fault : GraphFault) → length xs ≡ many → (place_of fault ≡ None) ⊎ (first_bad behind [] xs ≡ place_of fault) → IsPlacedIn many fault
  placed_in xs many fault long named = go (place_of fault) named
    where
      go : (o : Option (ℕ × TextKind)) → (o ≡ None) ⊎ (first_bad behind [] xs ≡ o) → IfSome o (λ at. at.0 < many)
      go None h = tt
      go (Some at) (inl e) = absurd cc
      go (Some at) (inr e) = let inside = bad_inside [] xs at e in omega (arith, inside, long)

-- and the first that is wrong
pub named_place : (first : Option GraphFault) (fault : GraphFault) (bad : Option (ℕ × TextKind)) → bad ≡ option_and_then place_of first → NamesFirstFault first fault
    → (place_of fault ≡ None) ⊎ (bad ≡ place_of fault)
named_place first NoMemory bad is h = inl refl
named_place first (DoubleVertex place) bad is h = inr (is ∙ ap (option_and_then place_of) h)
named_place first (UnknownVertex place) bad is h = inr (is ∙ ap (option_and_then place_of) h)
named_place first (SelfLoop place) bad is h = inr (is ∙ ap (option_and_then place_of) h)
named_place first (DoubleEdge place) bad is h = inr (is ∙ ap (option_and_then place_of) h)
