use Rattle.std.proofs.Common.{inl, inr, subst, sym, ◌∙◌, ◌≡◌, ⊎_elim, ℕ}
use Rattle.link_tables.proofs.Seeing.{seen_then, sees_then, then_seen}
use Rattle.wire_board.proofs.Acting.{moved_at, moved_so, moved_then}
use Rattle.wire_board.proofs.Sighting.{found_nothing_then, looked_then}
use Rattle.wire_board.specs.Freeing.{HasReached}
use Rattle.wire_board.specs.Led.{link_no}
use Rattle.wire_board.proofs.boards.Board.turn.Goals as goal

pub returns-clause-looked : goal.returns-clause-looked
returns-clause-looked g c =
    let old = c.args.place.now.seat.me in
    let heard = c.hear_each.new.place.seat.me in
    let worked = c.work_on.new.place.seat.me in
    let told = c.tell_each.new.place.seat.me in
    let new = c.call_and_report.new.place.seat.me in
    let rest = sees_then heard worked new c.in_ok-worked.ensures.sees (sees_then worked told new c.in_ok-told.ensures.sees c.in_ok-called.ensures.sees) in
    λ from inside. looked_then old heard new (link_no c.args.member.now.peers from c.args.member.now.number) (c.in_ok-heard.ensures.looked from inside) rest

pub returns-clause-nothing : goal.returns-clause-nothing
returns-clause-nothing g c =
    let old = c.args.place.now.seat.me in
    let heard = c.hear_each.new.place.seat.me in
    let worked = c.work_on.new.place.seat.me in
    let told = c.tell_each.new.place.seat.me in
    let new = c.call_and_report.new.place.seat.me in
    let rest = sees_then heard worked new c.in_ok-worked.ensures.sees (sees_then worked told new c.in_ok-told.ensures.sees c.in_ok-called.ensures.sees) in
    λ is from inside. found_nothing_then old heard new (link_no c.args.member.now.peers from c.args.member.now.number) (c.in_ok-heard.ensures.nothing (c.behind.ensures.nothing is).1 from inside) rest

pub returns-clause-spent : goal.returns-clause-spent
returns-clause-spent g c =
    λ is.
    let old = c.args.place.now.seat.me in
    let heard = c.hear_each.new.place.seat.me in
    let worked = c.work_on.new.place.seat.me in
    let told = c.tell_each.new.place.seat.me in
    let new = c.call_and_report.new.place.seat.me in
    let same = c.behind.ensures.same (λ e. cc) in
    let spent = c.in_ok-worked.ensures.spent (sym same ∙ is) in
    (spent.0, spent.1, then_seen old heard new _ c.in_ok-heard.ensures.sees (seen_then heard worked new _ spent.2 (sees_then worked told new c.in_ok-told.ensures.sees c.in_ok-called.ensures.sees)))

pub returns-clause-moved : goal.returns-clause-moved
returns-clause-moved g c =
    let represents = g.M.SavingMachine.represents in
    let many = c.args.self.now.table.many in
    let first = c.args.member.now in
    let h = c.hear_each.new in
    let s = c.settle.new in
    let w = c.work_on.new in
    let t = c.tell_each.new in
    let r = c.call_and_report.new in
    let old = c.args.place.now.seat.me in
    let same_h : (h.member.number ≡ first.number) × (h.member.peers ≡ first.peers) = c.hear_each.ensures.same in
    let same_s : (s.member.number ≡ first.number) × (s.member.peers ≡ first.peers) = (c.settle.ensures.same.0 ∙ same_h.0, c.settle.ensures.same.1 ∙ same_h.1) in
    let same_w : (w.member.number ≡ first.number) × (w.member.peers ≡ first.peers) = (c.work_on.ensures.same.0 ∙ same_s.0, c.work_on.ensures.same.1 ∙ same_s.1) in
    let same_t : (t.member.number ≡ first.number) × (t.member.peers ≡ first.peers) = (c.tell_each.ensures.same.0 ∙ same_w.0, c.tell_each.ensures.same.1 ∙ same_w.1) in
    let settled = moved_at represents many first.peers h.member.peers first.number h.member.number h.member.machine s.member.machine h.place.seat.me h.place.seat.me _ _ same_h.1 same_h.0 c.in_ok-settled.ensures.moved in
    let worked = moved_at represents many first.peers s.member.peers first.number s.member.number s.member.machine w.member.machine h.place.seat.me w.place.seat.me _ _ same_s.1 same_s.0 c.in_ok-worked.ensures.moved in
    let told = moved_at represents many first.peers w.member.peers first.number w.member.number w.member.machine t.member.machine w.place.seat.me t.place.seat.me _ _ same_w.1 same_w.0 c.in_ok-told.ensures.moved in
    let called = moved_at represents many first.peers t.member.peers first.number t.member.number t.member.machine r.member.machine t.place.seat.me r.place.seat.me _ _ same_t.1 same_t.0 c.in_ok-called.ensures.moved in
    let one = moved_then represents many first.peers first.number first.machine h.member.machine s.member.machine old h.place.seat.me h.place.seat.me _ _ _ _ c.in_ok-heard.ensures.moved settled in
    let two = moved_then represents many first.peers first.number first.machine s.member.machine w.member.machine old h.place.seat.me w.place.seat.me _ _ _ _ one worked in
    let three = moved_then represents many first.peers first.number first.machine w.member.machine t.member.machine old w.place.seat.me t.place.seat.me _ _ _ _ two told in
    let four = moved_then represents many first.peers first.number first.machine t.member.machine r.member.machine old t.place.seat.me r.place.seat.me _ _ _ _ three called in
    moved_so represents many first.peers first.number first.machine r.member.machine old r.place.seat.me _ _ _ _ four
    (λ e.
    ⊎_elim (λ work. inl (inl (inr work)))
    (λ more. ⊎_elim (λ heard. inl (inl (inl (inl heard))))
    (λ done. ⊎_elim (λ still. inl (inl (inl (inr still)))) (λ sent. ⊎_elim (λ tells. inl (inr tells)) (λ calls. inr calls) (c.either-sent.ensures.some sent)) (c.either.ensures.some done)) more)
    (c.behind.ensures.some e))
    (λ e.
    let n = c.behind.ensures.nothing e in
    let d = c.either.ensures.none n.2 in
    let sent = c.either-sent.ensures.none d.1 in
    ((((n.1, d.0), n.0), sent.0), sent.1))

pub returns-clause-reached : goal.returns-clause-reached
returns-clause-reached g c =
    λ is.
    let represents = g.M.SavingMachine.represents in
    let many = c.args.self.now.table.many in
    let about = c.args.self.now.table.table.shared.key.about in
    let first = c.args.member.now in
    let h = c.hear_each.new in
    let s = c.settle.new in
    let w = c.work_on.new in
    let t = c.tell_each.new in
    let r = c.call_and_report.new in
    let old = c.args.place.now.seat.me in
    let same_h : (h.member.number ≡ first.number) × (h.member.peers ≡ first.peers) = c.hear_each.ensures.same in
    let same_s : (s.member.number ≡ first.number) × (s.member.peers ≡ first.peers) = (c.settle.ensures.same.0 ∙ same_h.0, c.settle.ensures.same.1 ∙ same_h.1) in
    let same_w : (w.member.number ≡ first.number) × (w.member.peers ≡ first.peers) = (c.work_on.ensures.same.0 ∙ same_s.0, c.work_on.ensures.same.1 ∙ same_s.1) in
    let same_t : (t.member.number ≡ first.number) × (t.member.peers ≡ first.peers) = (c.tell_each.ensures.same.0 ∙ same_w.0, c.tell_each.ensures.same.1 ∙ same_w.1) in
    let settled = moved_at represents many first.peers h.member.peers first.number h.member.number h.member.machine s.member.machine h.place.seat.me h.place.seat.me _ _ same_h.1 same_h.0 c.in_ok-settled.ensures.moved in
    let worked = moved_at represents many first.peers s.member.peers first.number s.member.number s.member.machine w.member.machine h.place.seat.me w.place.seat.me _ _ same_s.1 same_s.0 c.in_ok-worked.ensures.moved in
    let told = moved_at represents many first.peers w.member.peers first.number w.member.number w.member.machine t.member.machine w.place.seat.me t.place.seat.me _ _ same_w.1 same_w.0 c.in_ok-told.ensures.moved in
    let called = moved_at represents many first.peers t.member.peers first.number t.member.number t.member.machine r.member.machine t.place.seat.me r.place.seat.me _ _ same_t.1 same_t.0 c.in_ok-called.ensures.moved in
    let one = moved_then represents many first.peers first.number first.machine h.member.machine s.member.machine old h.place.seat.me h.place.seat.me _ _ _ _ c.in_ok-heard.ensures.moved settled in
    let two = moved_then represents many first.peers first.number first.machine s.member.machine w.member.machine old h.place.seat.me w.place.seat.me _ _ _ _ one worked in
    let rest = moved_then represents many first.peers first.number w.member.machine t.member.machine r.member.machine w.place.seat.me t.place.seat.me r.place.seat.me _ _ _ _ told called in
    let same = c.behind.ensures.same (λ e. cc) in
    record {
      there = w.member.machine;
      me = w.place.seat.me;
      before = two.0;
      came = two.1;
      reached = subst (λ (a : ℕ). HasReached represents about.failures.value.items about.done.value.items w.member.machine a) same_s.0 (c.in_ok-worked.ensures.reached (sym same ∙ is));
      after = rest.0;
      went = rest.1;
    }
