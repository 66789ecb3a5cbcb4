use Rattle.std.proofs.Common.{◌≡◌, ◌∙◌, [], List, map, sym, subst}
use Rattle.std.proofs.lemmas.Bool.{eqb-true}
use Rattle.std.proofs.lemmas.List.{nil_from_length}
use Rattle.gl_base.specs.declared.numbers.MachineNo.{MachineNo}
use Rattle.full_laws.specs.FullEffects.{leaves_full}
use Rattle.full_cluster.specs.FullMachines.{IsMachineOf}
use Rattle.full_cluster.specs.FullQueues.{seen_in}
use Rattle.full_cluster.proofs.MachineLemmas.{first_there}
use Rattle.full_cluster.proofs.machines.FullMachine.leave.Goals as goal

pub returns-then-is_empty-clause-left : goal.returns-then-is_empty-clause-left
returns-then-is_empty-clause-left c = λ st part is.
    let rest = c.args.rest in
    let empty : rest.items ≡ [] = nil_from_length rest.items (sym rest.ok.0 ∙ eqb-true rest.len 0 (sym c.is_empty.ensures ∙ c.if-is_empty.true)) in
    subst (λ (bs : List MachineNo). IsMachineOf st c.go_home.new.self (leaves_full c.args.self.now.me.0 c.args.scope c.args.centre.0 (map (λ (b : MachineNo). b.0) bs) (seen_in c.args.seen.items) part)) (sym empty)
    (c.go_home.ensures.left st part c.args.centre.0 is)

pub put-requires-clause-inside : goal.put-requires-clause-inside
put-requires-clause-inside c =
    let rest = c.args.rest in
    (c.requires.room.next c.remove-next.result (first_there rest.items rest.len c.remove-next.result rest.ok.0 (sym c.is_empty.ensures ∙ c.if-is_empty.false) c.remove-next.ensures.value)).0

pub put-requires-clause-room : goal.put-requires-clause-room
put-requires-clause-room c =
    let rest = c.args.rest in
    (c.requires.room.next c.remove-next.result (first_there rest.items rest.len c.remove-next.result rest.ok.0 (sym c.is_empty.ensures ∙ c.if-is_empty.false) c.remove-next.ensures.value)).1
