use Rattle.std.proofs.Common.{ap, length, refl, rules, subst, suc, sym, ◌+◌, ◌<◌, ◌^◌, ◌∙◌, ◌≡◌, ℕ}
use Rattle.cluster_step.specs.clusters.Inner.Writing.{HaveLinks}
use Rattle.wire_board.proofs.Attempting.{few_links, have_all, lines_of, members_are, opening_is, rests_first}
use Rattle.wire_board.specs.Attempts.{Parts, StandsForSaving, numbered_members}
use Rattle.wire_board.specs.Openings.{AreOpening}
use Rattle.wire_board.proofs.attempts.Attempt.on_board.Goals as goal

pub new-requires-clause-opening : goal.new-requires-clause-opening
new-requires-clause-opening g c =
    let about = c.args.about in
    subst (λ (p : Parts g.row.M.Denot). AreOpening about.machines p c.in_ok-list.list.items) (sym c.requires.about.3)
    (opening_is g.M.SavingMachine.represents c.args.trace about.machines c.in_ok-list.list.items c.requires.stands c.requires.awake c.requires.runs c.requires.about.0 (lines_of c.args.parts c.args.trace.now c.in_ok-list.list.items c.requires.parts c.in_ok-list.ensures.each))

pub new-requires-clause-stands : goal.new-requires-clause-stands
new-requires-clause-stands g c = subst (StandsForSaving g.M.SavingMachine.represents) (sym c.requires.about.3) c.requires.stands

pub new-requires-clause-tickets : goal.new-requires-clause-tickets
new-requires-clause-tickets g c =
    let same = c.requires.about.3 ∙ sym c.requires.parts in
    (ap (λ (p : Parts g.row.M.Denot). p.next) same, ap (λ (p : Parts g.row.M.Denot). p.left) same)

pub new-requires-clause-few : goal.new-requires-clause-few
new-requires-clause-few g c =
    let n = c.args.about.machines in
    let many = c.in_ok-list.ensures.many (suc n) (subst (λ (p : Parts g.row.M.Denot). HaveLinks p.links (suc n)) (sym c.requires.parts) (have_all g.M.SavingMachine.represents c.args.trace n c.requires.stands c.requires.about.0)) in (
      subst (λ (p : Parts g.row.M.Denot). p.next + p.left < 2 ^ 64) (sym c.requires.parts) c.requires.stands.3.few,
      few_links n (length c.in_ok-list.list.items) (subst (λ (k : ℕ). k < 4095) (sym c.requires.about.0) c.requires.few) (sym many),
    )

pub returns-clause-members : goal.returns-clause-members
returns-clause-members g c =
    members_are c.args.parts c.args.trace.now c.in_ok-members.members.items c.len-number.result (c.len-number.result + 1) c.requires.parts (search rules) refl c.in_ok-members.ensures

pub returns-clause-board : goal.returns-clause-board
returns-clause-board g c =
    let represents = g.M.SavingMachine.represents in
    let v = c.args.trace in
    let facts = c.in_ok-board.ensures.facts in
    let same = facts.1 in
    let machines = ap (λ k. k.machines) same ∙ c.requires.about.0 in
    let many = c.in_ok-list.ensures.many (suc c.in_ok-board.board.table.table.shared.key.about.machines)
    (subst (λ (p : Parts g.row.M.Denot). HaveLinks p.links (suc c.in_ok-board.board.table.table.shared.key.about.machines)) (sym c.requires.parts) (have_all represents v c.in_ok-board.board.table.table.shared.key.about.machines c.requires.stands machines)) in
    record {
      machines_are = machines;
      few = subst (λ (k : ℕ). k < 4095) (sym machines) c.requires.few;
      failures_are = ap (λ k. k.failures.value.items) same ∙ c.requires.about.1;
      done_are = ap (λ k. k.done.value.items) same ∙ c.requires.about.2;
      opening_is = ap (λ k. k.opening.value) same ∙ c.requires.about.3;
      stands = c.requires.stands;
      links = sym many ∙ sym facts.0;
      tickets = sym (facts.2 ∙ ap (λ (p : Parts g.row.M.Denot). p.next + p.left) c.requires.parts);
      flags = ap (λ (p : Parts g.row.M.Denot). p.failed.items) c.requires.parts;
      first = c.in_ok-list.list.items;
      opens = opening_is represents v c.in_ok-board.board.table.table.shared.key.about.machines c.in_ok-list.list.items c.requires.stands c.requires.awake c.requires.runs machines
          (lines_of c.args.parts v.now c.in_ok-list.list.items c.requires.parts c.in_ok-list.ensures.each);
    }

pub returns-clause-place : goal.returns-clause-place
returns-clause-place g c =
    let about = c.args.about in
    let v = c.args.trace in
    let are = members_are c.args.parts v.now c.in_ok-members.members.items c.len-number.result (c.len-number.result + 1) c.requires.parts (search rules) refl c.in_ok-members.ensures in
    rests_first about.machines about.opening.value (record { number = c.len-number.result; coordinator = c.args.parts.coordinator }) c.in_ok-members.members.items c.in_ok-board.place.seat.me c.in_ok-board.ensures.place.1
    (let len : c.len-number.result ≡ length c.args.parts.machines.items = search rules in len ∙ ap (λ (p : Parts g.row.M.Denot). length p.machines.items) c.requires.parts ∙ sym c.requires.about.0)
    (ap (λ (p : Parts g.row.M.Denot). p.coordinator) (c.requires.parts ∙ sym c.requires.about.3))
    (are ∙ (λ i. numbered_members (suc (sym c.requires.about.0 i)) 0 (sym c.requires.about.3 i).machines.items))
