-- The snapshot begins, the rest is learned, and vertices become pending.
use Rattle.std.proofs.Common.{◌≡◌, ◌||◌, false, List, Vec, Global, refl, ap, ◌∙◌, sym, subst}
use Rattle.gl_base.specs.declared.numbers.Vertex.{Vertex}
use Rattle.wire.specs.declared.wire_msgs.messages.Done.{Done}
use Rattle.partition.specs.machine_numbers.Views.{flag_there, is_in_update, is_own, place_at}
use Rattle.machine_core.specs.declared.machine_parts.cores.Core.{Core}
use Rattle.snapshot_machines.specs.marking.Sending.{AreMarksUpTo}
use Rattle.snapshot_machines.proofs.marking.LearnLemmas.{heard_part, known_grows, learned_is, most_grows, most_heard}
use Rattle.snapshot_machines.proofs.marking.SeedLemmas.{orderly_pended, with_tasks}
use Rattle.snapshot_machines.proofs.marking.learning.learn.Goals as goal

abbrev plain_of : Done → Vec Vertex Global → Done
plain_of d none = record d { pends = none; number = 0 }

pub returns-clause-orderly : goal.returns-clause-orderly
returns-clause-orderly c =
    let heard : Core = c.receive_done.new.core in
    orderly_pended heard (with_tasks heard c.pend_named.new.tasks) (ap (with_tasks heard) c.pend_named.ensures.rest) c.receive_done.ensures.orderly

pub returns-clause-learned : goal.returns-clause-learned
returns-clause-learned c =
    let heard : Core = c.receive_done.new.core in
    let new : Core = with_tasks heard c.pend_named.new.tasks in
    let plain : Done = plain_of c.args.done c.new.result in
    let e = c.receive_done.ensures in
    learned_is c.args.core.now c.begin.new.core heard new c.args.snaps.now c.begin.new.snaps c.args.done plain
    (record { scope = refl; centre = refl; datum = refl; edges = refl; wakes = refl; pends = c.new.ensures.items; number = refl })
    c.begin.ensures.settings c.begin.ensures.begun
    (heard_part c.begin.new.core heard plain c.new.ensures.items e.learned e.tasks e.local e.released e.rest c.begin.new.snaps)
    (ap (with_tasks heard) c.pend_named.ensures.rest)
    (λ u.
    c.pend_named.ensures.each u ∙ ap (λ (vs : List Vertex). is_in_update vs u || flag_there heard.numbers.tasks.pending (place_at heard.numbers.local u)) c.deref.ensures.value)

pub returns-clause-marks : goal.returns-clause-marks
returns-clause-marks c most =
    let old = c.args.core.now in
    let begun : Core = c.begin.new.core in
    let heard : Core = c.receive_done.new.core in
    let now = c.begin.new.snaps in
    let plain : Done = plain_of c.args.done c.new.result in
    let e = c.receive_done.ensures in
    let first : AreMarksUpTo begun.numbers now.known =
    subst (λ (m : Core). AreMarksUpTo m.numbers now.known) (sym c.begin.ensures.rest) (most_grows old.numbers c.args.snaps.now.known now.known (known_grows c.args.done.number c.args.snaps.now now c.begin.ensures.kept) most) in
    let away : is_own begun.numbers.local c.args.done.centre.0 ≡ false = ap (λ (m : Core). is_own m.numbers.local c.args.done.centre.0) c.begin.ensures.rest ∙ c.requires.can.not_own in
    let mid : AreMarksUpTo heard.numbers now.known = most_heard begun heard plain c.new.ensures.items e.learned e.tasks e.local e.released e.rest now.known away first in
    subst (λ (m : Core). AreMarksUpTo m.numbers now.known) (sym (ap (with_tasks heard) c.pend_named.ensures.rest)) mid

pub returns-clause-rest : goal.returns-clause-rest
returns-clause-rest c =
    let heard : Core = c.receive_done.new.core in
    let first = c.begin.ensures.rest in
    let then = c.receive_done.ensures.rest in
    λ i.
    record (with_tasks heard c.pend_named.new.tasks) {
      terms = (ap (λ (m : Core). m.terms) then ∙ ap (λ (m : Core). m.terms) first) i;
      by_place = (ap (λ (m : Core). m.by_place) then ∙ ap (λ (m : Core). m.by_place) first) i;
      pipe = (ap (λ (m : Core). m.pipe) then ∙ ap (λ (m : Core). m.pipe) first) i;
      out = (ap (λ (m : Core). m.out) then ∙ ap (λ (m : Core). m.out) first) i;
      spare = (ap (λ (m : Core). m.spare) then ∙ ap (λ (m : Core). m.spare) first) i;
    }
