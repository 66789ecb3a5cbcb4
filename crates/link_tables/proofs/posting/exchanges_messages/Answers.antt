use Rattle.std.proofs.Common.{zero, suc, ℕ, [], ◌∷◌, List, refl, sym, subst, arith}
use Rattle.link_tables.specs.Rule.{AllHere}
use Rattle.link_tables.proofs.Standing.{rests_alone, rests_second}
use Rattle.link_tables.proofs.posting.exchanges_messages.Goals as goal

both_here : AllHere (λ (node : ℕ). node) 2 (1 ∷ 0 ∷ [])
both_here zero low = (1, 0, refl, refl)
both_here (suc zero) low = (0, 1, refl, refl)
both_here (suc (suc p)) low = absurd (omega arith)

pub split-theirs-requires-clause-rests : goal.split-theirs-requires-clause-rests
split-theirs-requires-clause-rests g c = (1, 0, [], c.in_ok-table.ensures.rests)

pub run-place-requires-clause-rests : goal.run-place-requires-clause-rests
run-place-requires-clause-rests g c κs =
    (rests_alone _ _ 1 0 c.in_ok-table.ensures.rests c.split-theirs.ensures.parts.0, rests_second _ _ 1 0 c.in_ok-table.ensures.rests c.split-theirs.ensures.parts.1)

pub close-links-requires-clause-all : goal.close-links-requires-clause-all
close-links-requires-clause-all g c =
    let seen = c.run-place.ensures.rests in
    (seen.link, subst (λ (parts : List ℕ). AllHere (λ (node : ℕ). node) 2 parts) (sym seen.parts) both_here)
