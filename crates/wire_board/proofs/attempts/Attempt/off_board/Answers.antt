use Rattle.std.proofs.Common.{ap, arith, length, refl, subst, suc, sym, ◌*◌, ◌+◌, ◌∙◌, ◌≡◌, ℕ}
use Rattle.std.proofs.lemmas.List.{length-map}
use Rattle.cluster_step.specs.trace.Traces.{IsSameAttempt}
use Rattle.wire_board.proofs.Attempting.{all_parts, goes_back_in, goes_on, later_on, stands_on}
use Rattle.wire_board.specs.Attempts.{Member, Parts}
use Rattle.wire_board.proofs.attempts.Attempt.off_board.Goals as goal

pub close-list-requires-clause-all : goal.close-list-requires-clause-all
close-list-requires-clause-all g c =
    let a = c.args.self in
    let about = a.board.table.table.shared.key.about in (
      c.requires.place.link,
      all_parts g.M.SavingMachine.represents a.trace a.failed.items about.machines about.failures.value.items about.done.value.items about.opening.value a.board.table.many a.board.table.top c.requires.board
          a.lead a.members.items c.requires.lead c.requires.many c.requires.numbers a.place.seat.me c.requires.place,
    )

pub of_list-requires : goal.of_list-requires
of_list-requires g c =
    let n = c.args.self.board.table.table.shared.key.about.machines in
    let last : c.args.self.lead.number ≡ n = c.requires.lead ∙ sym c.requires.board.machines_are in
    let more : suc n ≡ c.args.self.lead.number + 1 = ap suc (sym last) ∙ (let e : suc c.args.self.lead.number ≡ c.args.self.lead.number + 1 = omega arith in e) in
    c.close-list.ensures.count ∙ sym c.requires.board.links ∙ ap (λ (k : ℕ). k * k) more

pub joined-requires-clause-later : goal.joined-requires-clause-later
joined-requires-clause-later g c =
    let a = c.args.self in
    let about = a.board.table.table.shared.key.about in
    let e = c.close-list.ensures.ended in
    let over = e.1 in
    let top = c.top-top.ensures in
    later_on g.M.SavingMachine.represents a.trace a.failed.items about.machines about.failures.value.items about.done.value.items about.opening.value a.board.table.many a.board.table.top c.requires.board
    a.lead a.members.items c.requires.lead c.requires.many c.requires.numbers a.place.seat.me c.requires.place c.close-list.result.0.items c.close-list.result.1 e.0 e.2 _ c.in_ok-machines.ensures refl refl
    c.in_ok-links.ensures.have c.in_ok-links.ensures.each refl (omega arith) refl

pub joined-requires-clause-stands : goal.joined-requires-clause-stands
joined-requires-clause-stands g c =
    let a = c.args.self in
    let about = a.board.table.table.shared.key.about in
    let e = c.close-list.ensures.ended in
    let over = e.1 in
    let top = c.top-top.ensures in
    stands_on g.M.SavingMachine.represents a.trace a.failed.items about.machines about.failures.value.items about.done.value.items about.opening.value a.board.table.many a.board.table.top c.requires.board
    a.lead a.members.items c.requires.lead c.requires.many c.requires.numbers a.place.seat.me c.requires.place c.close-list.result.0.items c.close-list.result.1 e.0 e.2 _ c.in_ok-machines.ensures refl refl
    c.in_ok-links.ensures.have c.in_ok-links.ensures.each refl (omega arith) refl

pub joined-requires-clause-many : goal.joined-requires-clause-many
joined-requires-clause-many g c = ap length c.in_ok-machines.ensures ∙ length-map c.args.self.members.items (λ (y : Member g.row.M.Denot). y.machine) ∙ c.requires.many

pub joined-requires-clause-stopped : goal.joined-requires-clause-stopped
joined-requires-clause-stopped g c = sym c.requires.board.opens.runs

pub returns-clause-since : goal.returns-clause-since
returns-clause-since g c = let is = c.joined.ensures.trace in ap (λ v. v.since) is ∙ sym (ap (λ v. v.now) is)

pub returns-clause-same : goal.returns-clause-same
returns-clause-same g c =
    let is = c.joined.ensures.trace in
    subst (λ (q : Parts g.row.M.Denot). IsSameAttempt (record c.args.self.trace { since = q }) c.joined.result) (sym (ap (λ v. v.now) is)) c.joined.ensures.same

pub returns-clause-goes_on : goal.returns-clause-goes_on
returns-clause-goes_on g c =
    let a = c.args.self in
    let about = a.board.table.table.shared.key.about in
    let e = c.close-list.ensures.ended in
    let over = e.1 in
    let top = c.top-top.ensures in
    goes_back_in g.M.SavingMachine.represents a.trace c.joined.result _ c.joined.ensures.trace
    (goes_on g.M.SavingMachine.represents a.trace a.failed.items about.machines about.failures.value.items about.done.value.items about.opening.value a.board.table.many a.board.table.top c.requires.board
    a.lead a.members.items c.requires.lead c.requires.many c.requires.numbers a.place.seat.me c.requires.place c.close-list.result.0.items c.close-list.result.1 e.0 e.2 _ c.in_ok-machines.ensures refl refl
    c.in_ok-links.ensures.have c.in_ok-links.ensures.each refl (omega arith) refl)

pub returns-clause-now : goal.returns-clause-now
returns-clause-now g c = let is = c.joined.ensures.trace in (ap (λ v. v.now.machines.items) is ∙ c.in_ok-machines.ensures, ap (λ v. v.now.coordinator) is)
