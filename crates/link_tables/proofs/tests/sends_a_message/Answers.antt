use Rattle.std.proofs.Common.{◌≡◌, zero, suc, [], ◌∷◌, List, None, refl, sym, subst, arith}
use Rattle.link_tables.specs.Rule.{AllHere}
use Rattle.link_tables.specs.declared.tests.Node.{Node}
use Rattle.link_tables.proofs.Standing.{rests_on, rests_changed, rests_alone, rests_second}
use Rattle.link_tables.proofs.tests.sends_a_message.Goals as goal

both_here : (one zeroth : Node) → one.number ≡ 1 → zeroth.number ≡ 0 → AllHere (λ (node : Node). node.number) 2 (one ∷ zeroth ∷ [])
both_here one zeroth is_one is_zeroth zero low = (1, zeroth, refl, is_zeroth)
both_here one zeroth is_one is_zeroth (suc zero) low = (0, one, refl, is_one)
both_here one zeroth is_one is_zeroth (suc (suc p)) low = absurd (omega arith)

pub settle-requires-clause-rests : goal.settle-requires-clause-rests
settle-requires-clause-rests g c =
    let one : Node = record { number = 1; ticket = None } in
    let zeroth : Node = record { number = 0; ticket = None } in
    let looked = rests_on _ _ one (zeroth ∷ []) _ _ c.in_ok-table.ensures.rests c.look.ensures.found in
    (one, one, zeroth ∷ [], refl, rests_on _ _ one (zeroth ∷ []) _ _ looked c.is_halted.ensures.found.1, refl, (λ parts links next left at all. all))

pub split-theirs-requires-clause-rests : goal.split-theirs-requires-clause-rests
split-theirs-requires-clause-rests g c =
    let one : Node = record { number = 1; ticket = None } in
    let zeroth : Node = record { number = 0; ticket = None } in
    let looked = rests_on _ _ one (zeroth ∷ []) _ _ c.in_ok-table.ensures.rests c.look.ensures.found in
    let seen = rests_on _ _ one (zeroth ∷ []) _ _ looked c.is_halted.ensures.found.1 in
    (one, zeroth, [], rests_changed _ _ one one (zeroth ∷ []) _ seen (c.settle.ensures.settled one refl))

pub run-place-requires-clause-rests : goal.run-place-requires-clause-rests
run-place-requires-clause-rests g c κs =
    let one : Node = record { number = 1; ticket = None } in
    let zeroth : Node = record { number = 0; ticket = None } in
    let looked = rests_on _ _ one (zeroth ∷ []) _ _ c.in_ok-table.ensures.rests c.look.ensures.found in
    let seen = rests_on _ _ one (zeroth ∷ []) _ _ looked c.is_halted.ensures.found.1 in
    let settled = rests_changed _ _ one one (zeroth ∷ []) _ seen (c.settle.ensures.settled one refl) in
    (rests_alone _ _ one zeroth settled c.split-theirs.ensures.parts.0, rests_second _ _ one zeroth settled c.split-theirs.ensures.parts.1)

pub close-links-requires-clause-all : goal.close-links-requires-clause-all
close-links-requires-clause-all g c =
    let ran = c.run-place.ensures.rests in
    let first = c.run-place.result.1 in
    let second = c.run-place.result.2 in
    let halted = rests_on _ _ first (second ∷ []) _ _ ran.0 c.is_halted-2.ensures.found.1 in
    let looked = rests_on _ _ first (second ∷ []) _ _ halted c.look-2.ensures.found in
    let seen = rests_on _ _ first (second ∷ []) _ _ looked c.next_ticket.ensures.found in
    (seen.link, subst (λ (parts : List Node). AllHere (λ (node : Node). node.number) 2 parts) (sym seen.parts) (both_here first second ran.1 ran.2))
