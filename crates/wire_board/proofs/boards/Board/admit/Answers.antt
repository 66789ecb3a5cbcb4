use Rattle.wire_board.proofs.Acting.{moved_both, moved_so}
use Rattle.std.proofs.Common.{inl, refl}
use Rattle.wire_board.proofs.Turning.{sits_on}
use Rattle.wire_board.proofs.boards.Board.admit.Goals as goal

pub settle-requires : goal.settle-requires
settle-requires g c =
    let member = c.args.member.now in
    record { sits = sits_on g.M.SavingMachine.represents c.args.place.now.seat.me member (record { number = member.number; peers = member.peers; machine = c.admit_one.new.machine }) refl refl c.admit_one.ensures.comes c.requires.sits }

pub returns-then-not-branch-clause-sits : goal.returns-then-not-branch-clause-sits
returns-then-not-branch-clause-sits g c =
    let member = c.args.member.now in
    sits_on g.M.SavingMachine.represents c.args.place.now.seat.me member (record { number = member.number; peers = member.peers; machine = c.admit_one.new.machine }) refl refl c.admit_one.ensures.comes c.requires.sits

pub returns-then-not-branch-clause-moved : goal.returns-then-not-branch-clause-moved
returns-then-not-branch-clause-moved g c =
    let represents = g.M.SavingMachine.represents in
    let member = c.args.member.now in
    let me = c.args.place.now.seat.me in
    let many = c.args.self.now.table.many in
    moved_so represents many member.peers member.number member.machine c.admit_one.new.machine me me _ _ _ _ (c.in_ok-admit_one.ensures.moved many member.peers member.number me) (λ e. cc) (λ e. c.if-not-branch.true)

pub returns-clause-moved : goal.returns-clause-moved
returns-clause-moved g c =
    let represents = g.M.SavingMachine.represents in
    let member = c.args.member.now in
    let me = c.args.place.now.seat.me in
    let many = c.args.self.now.table.many in
    moved_both represents many member.peers member.number member.machine c.admit_one.new.machine c.settle.new.member.machine me me me _ _ _ _ _ _
    (c.in_ok-admit_one.ensures.moved many member.peers member.number me) c.in_ok-_settled.ensures.moved (λ e. inl c.if-not-branch.false) (λ e. absurd (e refl))
