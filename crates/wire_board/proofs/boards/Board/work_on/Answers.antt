use Rattle.std.proofs.Common.{List, ap, inl, inr, refl, subst, ◌∙◌, ◌≡◌, ⊎_elim, ℕ}
use Rattle.std.specs.Prelude.{slice_index_or}
use Rattle.link_tables.proofs.Seeing.{sees_same, sees_then, then_seen}
use Rattle.wire_board.proofs.Acting.{moved_at, moved_both, moved_none, moved_so}
use Rattle.wire_board.specs.Freeing.{HasReached, IsFree}
use Rattle.wire_board.specs.Going.{FailureAt}
use Rattle.wire_board.specs.declared.turns.Worked.TheVariants.{Spent}
use Rattle.wire_board.specs.declared.turns.Worked.TheVariants as worked
use Rattle.wire_board.proofs.boards.Board.work_on.Goals as goal

pub work-requires-clause-free : goal.work-requires-clause-free
work-requires-clause-free g c =
    let about = c.args.self.now.table.table.shared.key.about in
    let member = c.loop.member in
    subst (λ (fs : List FailureAt). IsFree g.M.SavingMachine.represents fs about.done.value.items member.machine member.number) c.requires.job
    (c.is_free.ensures.free c.if-not-is_free.false about.done.value.items (ap (λ (k : ℕ). slice_index_or about.done.value.items k 0) c.loop.invariant.same.0 ∙ c.requires.before))

pub loop-init : goal.loop-init
loop-init g c = let me = c.args.place.now.seat.me in let member = c.args.member.now in record {
  table = c.requires.table;
  sits = c.requires.sits;
  same = (refl, refl);
  sees = sees_same me me refl;
  moved = moved_none g.M.SavingMachine.represents c.args.self.now.table.many member.peers member.number member.machine member.machine me me _ _ (λ st a m setting here. here) (sees_same me me refl) (λ e. cc);
}

pub loop-preserved : goal.loop-preserved
loop-preserved g c =
    let i = c.loop.invariant in
    let represents = g.M.SavingMachine.represents in
    let many = c.args.self.now.table.many in
    let member = c.args.member.now in
    let here = c.loop.member in
    let first = c.args.place.now.seat.me in
    let old = c.loop.place.seat.me in
    let new = c.work.new.place.seat.me in
    record {
      table = c.work.ensures.table ∙ i.table;
      sits = c.in_ok-work.ensures.sits;
      same = (c.work.ensures.same.0 ∙ i.same.0, c.work.ensures.same.1 ∙ i.same.1);
      sees = sees_then first old new i.sees c.in_ok-work.ensures.sees;
      moved = moved_both represents many member.peers member.number member.machine here.machine c.work.new.member.machine first old new _ _ _ _ _ _ i.moved
          (moved_at represents many member.peers here.peers member.number here.number here.machine c.work.new.member.machine old new _ _ i.same.1 i.same.0 c.in_ok-work.ensures.moved)
          (λ e. ⊎_elim (λ was. inl was) (λ is. inr (c.is_made.ensures.some is)) (c.either-made.ensures.some e)) (λ e. let n = c.either-made.ensures.none e in (n.0, c.is_made.ensures.none n.1));
    }

pub returns-in-Spent-clause-sees : goal.returns-in-Spent-clause-sees
returns-in-Spent-clause-sees g c = sees_then c.args.place.now.seat.me c.loop.place.seat.me c.work.new.place.seat.me c.loop.invariant.sees c.in_ok-work.ensures.sees

pub returns-in-Spent-clause-spent : goal.returns-in-Spent-clause-spent
returns-in-Spent-clause-spent g c =
    λ is.
    let spent = c.in_ok-work.ensures.spent c.in-Spent.is in
    (spent.0, spent.1, then_seen c.args.place.now.seat.me c.loop.place.seat.me c.work.new.place.seat.me _ c.loop.invariant.sees spent.2)

pub returns-in-Spent-clause-moved : goal.returns-in-Spent-clause-moved
returns-in-Spent-clause-moved g c =
    let i = c.loop.invariant in
    let represents = g.M.SavingMachine.represents in
    let many = c.args.self.now.table.many in
    let member = c.args.member.now in
    let here = c.loop.member in
    let first = c.args.place.now.seat.me in
    let old = c.loop.place.seat.me in
    let new = c.work.new.place.seat.me in
    moved_both represents many member.peers member.number member.machine here.machine c.work.new.member.machine first old new _ _ _ _ _ _ i.moved
    (moved_at represents many member.peers here.peers member.number here.number here.machine c.work.new.member.machine old new _ _ i.same.1 i.same.0 c.in_ok-work.ensures.moved)
    (λ e. let bad : Spent ≡ worked.Some = e in absurd (cc)) (λ e. let bad : Spent ≡ worked.Nothing = e in absurd (cc))

pub returns-in-Nothing-clause-sees : goal.returns-in-Nothing-clause-sees
returns-in-Nothing-clause-sees g c = sees_then c.args.place.now.seat.me c.loop.place.seat.me c.work.new.place.seat.me c.loop.invariant.sees c.in_ok-work.ensures.sees

pub returns-in-Nothing-clause-moved : goal.returns-in-Nothing-clause-moved
returns-in-Nothing-clause-moved g c =
    let i = c.loop.invariant in
    let represents = g.M.SavingMachine.represents in
    let many = c.args.self.now.table.many in
    let member = c.args.member.now in
    let here = c.loop.member in
    let first = c.args.place.now.seat.me in
    let old = c.loop.place.seat.me in
    let new = c.work.new.place.seat.me in
    moved_both represents many member.peers member.number member.machine here.machine c.work.new.member.machine first old new _ _ _ _ _ _ i.moved
    (moved_at represents many member.peers here.peers member.number here.number here.machine c.work.new.member.machine old new _ _ i.same.1 i.same.0 c.in_ok-work.ensures.moved)
    (λ e. inl (c.worked_so.ensures.some e)) (λ e. (c.worked_so.ensures.nothing e, λ made. let is = c.in-Nothing.is in absurd (cc)))

pub returns-then-not-is_free-clause-moved : goal.returns-then-not-is_free-clause-moved
returns-then-not-is_free-clause-moved g c =
    let i = c.loop.invariant in
    let member = c.args.member.now in
    moved_so g.M.SavingMachine.represents c.args.self.now.table.many member.peers member.number member.machine c.loop.member.machine c.args.place.now.seat.me c.loop.place.seat.me _ _ _ _ i.moved
    (λ e. let bad : worked.Reached ≡ worked.Some = e in absurd (cc)) (λ e. let bad : worked.Reached ≡ worked.Nothing = e in absurd (cc))

pub returns-then-not-is_free-clause-reached : goal.returns-then-not-is_free-clause-reached
returns-then-not-is_free-clause-reached g c =
    λ is.
    let about = c.args.self.now.table.table.shared.key.about in
    let member = c.loop.member in
    let i = c.loop.invariant in
    let done = about.done.value.items in
    subst (λ (a : ℕ). HasReached g.M.SavingMachine.represents about.failures.value.items done member.machine a) i.same.0
    (subst (λ (fs : List FailureAt). HasReached g.M.SavingMachine.represents fs done member.machine member.number) c.requires.job
    (c.is_free.ensures.reached c.if-not-is_free.true done (ap (λ (k : ℕ). slice_index_or done k 0) i.same.0 ∙ c.requires.before)))

pub returns-clause-moved : goal.returns-clause-moved
returns-clause-moved g c =
    let i = c.loop.invariant in
    let member = c.args.member.now in
    moved_so g.M.SavingMachine.represents c.args.self.now.table.many member.peers member.number member.machine c.loop.member.machine c.args.place.now.seat.me c.loop.place.seat.me _ _ _ _ i.moved
    c.worked_so-2.ensures.some c.worked_so-2.ensures.nothing
