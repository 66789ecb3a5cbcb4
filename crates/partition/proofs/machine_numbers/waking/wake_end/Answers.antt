use Rattle.std.proofs.Common.{◌≡◌, true, sym, ap, ◌∙◌}
use Rattle.gl_base.specs.declared.numbers.MachineNo.{MachineNo}
use Rattle.partition.specs.machine_numbers.Steps.{wakes_there}
use Rattle.partition.proofs.machine_numbers.WakeLemmas.{end_inside, end_woken}
use Rattle.partition.proofs.machine_numbers.waking.wake_end.Goals as goal

pub wake_place-requires : goal.wake_place-requires
wake_place-requires c =
    let s = c.args.side.now in
    let wakes : wakes_there c.args.local.now.me.0 c.args.woken s c.args.link.now ≡ true = sym (c.wakes_at.ensures ∙ ap (λ (m : MachineNo). wakes_there m.0 c.args.woken s c.args.link.now) c.me.ensures) ∙ c.if-wakes_at.true in
    end_inside c.args.local.now c.args.tasks.now c.args.woken s c.args.link.now c.requires.side c.requires.tasks wakes

pub returns-then-wakes_at-clause-each : goal.returns-then-wakes_at-clause-each
returns-then-wakes_at-clause-each c =
    let s = c.args.side.now in
    let wakes : wakes_there c.args.local.now.me.0 c.args.woken s c.args.link.now ≡ true = sym (c.wakes_at.ensures ∙ ap (λ (m : MachineNo). wakes_there m.0 c.args.woken s c.args.link.now) c.me.ensures) ∙ c.if-wakes_at.true in
    end_woken c.args.local.now c.args.tasks.now c.wake_place.new.tasks c.args.woken s c.args.link.now c.requires.side c.requires.tasks wakes c.wake_place.ensures
