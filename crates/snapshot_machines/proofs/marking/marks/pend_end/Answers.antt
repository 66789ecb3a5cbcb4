-- An end that is left to this machine is an own vertex.
use Rattle.std.proofs.Common.{◌≡◌, ◌==◌, true, ap, ◌∙◌, sym}
use Rattle.gl_base.specs.declared.numbers.MachineNo.{MachineNo}
use Rattle.partition.proofs.machine_numbers.WakeLemmas.{left_holds, own_inside}
use Rattle.snapshot_machines.specs.marking.Inner.Marks.{is_end_left, is_unmarked}
use Rattle.snapshot_machines.proofs.marking.marks.pend_end.Goals as goal

pub pend_place-requires : goal.pend_place-requires
pend_place-requires c =
    let n = c.args.numbers.now in
    let k = c.args.known in
    let s = c.args.side in
    let left : is_end_left n k n.local.me.0 s ≡ true = sym (c.is_end_left.ensures ∙ ap (λ (a : MachineNo). is_end_left n k a.0 s) c.me.ensures) ∙ c.if-is_end_left.true in
    own_inside n.local n.tasks s.other.0 s.place c.requires.tasks (c.requires.side.own (left_holds (s.owner.0 == n.local.me.0) (is_unmarked n k s.other.0) left)) c.requires.side.place
