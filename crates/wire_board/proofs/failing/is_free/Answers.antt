use Rattle.std.proofs.Common.{ap, false, length, rules, ◌+◌, ◌≡◌}
use Rattle.call_laws.specs.whole_calls.Following.{reaches}
use Rattle.wire_board.proofs.Turning.{free_so}
use Rattle.wire_board.proofs.failing.is_free.Goals as goal

pub returns-clause-free : goal.returns-clause-free
returns-clause-free g c = λ yes.
    let none : reaches c.args.failures.now c.args.member.now.number c.args.before (c.args.before + length c.log.result.now) ≡ false = search rules in
    free_so g.M.SavingMachine.represents c.args.failures.now c.args.member.now.machine c.args.member.now.number c.args.before (length c.log.result.now) (λ st k m setting here. ap length (c.log.ensures st k m setting here)) none
