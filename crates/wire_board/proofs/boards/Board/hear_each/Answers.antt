use Rattle.std.proofs.Common.{arith, refl, subst, ◌∙◌, ℕ}
use borrow.Author.Count.{below_more, below_none}
use Rattle.link_tables.proofs.Seeing.{sees_same, sees_then}
use Rattle.wire_board.proofs.Acting.{moved_at, moved_both, moved_none}
use Rattle.wire_board.proofs.Sighting.{found_nothing_then, looked_sees, looked_then, then_found_nothing, then_looked}
use Rattle.wire_board.specs.Led.{link_no}
use Rattle.wire_board.specs.Sights.{FoundNothing, HasLooked}
use Rattle.wire_board.proofs.boards.Board.hear_each.Goals as goal

pub loop-from-init : goal.loop-from-init
loop-from-init g c = record {
  table = c.requires.table;
  sits = c.requires.sits;
  same = (refl, refl);
  sees = sees_same c.args.place.now.seat.me c.args.place.now.seat.me refl;
  looked = below_none _;
  nothing = λ still. below_none _;
  moved = moved_none g.M.SavingMachine.represents c.args.self.now.table.many c.args.member.now.peers c.args.member.now.number c.args.member.now.machine c.args.member.now.machine c.args.place.now.seat.me c.args.place.now.seat.me _ _
      (λ st a m setting here. here) (sees_same c.args.place.now.seat.me c.args.place.now.seat.me refl) (λ e. cc);
}

pub loop-from-preserved : goal.loop-from-preserved
loop-from-preserved g c =
    let first = c.args.place.now.seat.me in
    let old = c.loop-from.place.seat.me in
    let new = c.hear_some.new.place.seat.me in
    let member = c.args.member.now in
    let here = c.loop-from.member in
    let i = c.loop-from.invariant in
    let at = c.loop-from.from in
    let own : ℕ = link_no here.peers at here.number in
    let sees = looked_sees old new new own c.hear_some.ensures.looked in
    let looked : HasLooked old new (link_no member.peers at member.number) =
    subst (λ (p : ℕ). HasLooked old new (link_no p at member.number)) i.same.1 (subst (λ (n : ℕ). HasLooked old new (link_no here.peers at n)) i.same.0 c.hear_some.ensures.looked)
    in
    record {
      table = c.hear_some.ensures.table ∙ i.table;
      sits = c.hear_some.ensures.sits;
      same = (c.hear_some.ensures.same.0 ∙ i.same.0, c.hear_some.ensures.same.1 ∙ i.same.1);
      sees = sees_then first old new i.sees sees;
      looked = below_more (λ k. HasLooked first new (link_no member.peers k member.number)) at (λ k low. looked_then first old new (link_no member.peers k member.number) (i.looked k low) sees)
          (then_looked first old new (link_no member.peers at member.number) i.sees looked);
      nothing = λ still.
          let s = c.either-moved.ensures.none still in
          let quiet : FoundNothing old new (link_no member.peers at member.number) =
          subst (λ (p : ℕ). FoundNothing old new (link_no p at member.number)) i.same.1
          (subst (λ (n : ℕ). FoundNothing old new (link_no here.peers at n)) i.same.0 (c.in_ok-some.ensures.nothing s.1))
          in
          below_more (λ k. FoundNothing first new (link_no member.peers k member.number)) at
          (λ k low. found_nothing_then first old new (link_no member.peers k member.number) (i.nothing s.0 k low) sees)
          (then_found_nothing first old new (link_no member.peers at member.number) i.sees quiet);
      moved = let represents = g.M.SavingMachine.represents in
          let many = c.args.self.now.table.many in
          moved_both represents many member.peers member.number member.machine here.machine c.hear_some.new.member.machine first old new _ _ _ _ _ _ i.moved
          (moved_at represents many member.peers here.peers member.number here.number here.machine c.hear_some.new.member.machine old new _ _ i.same.1 i.same.0 c.in_ok-some.ensures.moved)
          c.either-moved.ensures.some c.either-moved.ensures.none;
    }

pub returns-clause-looked : goal.returns-clause-looked
returns-clause-looked g c = λ from inside. c.loop-from.invariant.looked from (let last = c.loop-from.auto.from-end in let done = c.loop-from-test.false in omega (arith, last, done))

pub returns-clause-nothing : goal.returns-clause-nothing
returns-clause-nothing g c =
    λ still from inside. c.loop-from.invariant.nothing still from (let last = c.loop-from.auto.from-end in let done = c.loop-from-test.false in omega (arith, last, done))
