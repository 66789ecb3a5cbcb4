use Rattle.std.proofs.Common.{refl, subst, suc, ◌++◌, ◌∷◌, [], ℕ}
use Rattle.wire_board.specs.Led.{HasBeenLed, Lead}
use Rattle.wire_board.specs.Openings.{nodes, numbered, standing_parts}
use Rattle.wire_board.proofs.Closing.{in_order, opens_board}
use Rattle.wire_board.proofs.boards.Board.new.Goals as goal

pub new-requires-clause-led : goal.new-requires-clause-led
new-requires-clause-led g c =
    let represents = g.M.SavingMachine.represents in
    let about = c.args.about in
    let led = opens_board represents about.failures.value.items about.done.value.items about.machines about.opening.value c.args.links.items c.requires.opening c.requires.stands in (
      _,
      _,
      refl,
      in_order represents about.failures.value.items about.done.value.items about.machines about.opening.value c.args.links.items c.requires.opening,
      subst (λ (next : ℕ). HasBeenLed represents about.failures.value.items about.done.value.items (standing_parts about.machines about.opening.value) about.machines (nodes (numbered (suc about.machines) 0 about.opening.value.machines.items) ++ Lead (record { number = about.machines; coordinator = about.opening.value.coordinator }) ∷ []) c.args.links.items next c.args.left) c.requires.tickets.0
          (subst (λ (left : ℕ). HasBeenLed represents about.failures.value.items about.done.value.items (standing_parts about.machines about.opening.value) about.machines (nodes (numbered (suc about.machines) 0 about.opening.value.machines.items) ++ Lead (record { number = about.machines; coordinator = about.opening.value.coordinator }) ∷ []) c.args.links.items about.opening.value.next left) c.requires.tickets.1 led),
    )
