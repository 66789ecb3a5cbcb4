-- The section may be sent where no own vertex is without the mark.
use Rattle.std.proofs.Common.{ℕ, sym, subst, ◌∙◌}
use Rattle.std.proofs.lemmas.Bool.{ltb-true}
use Rattle.snapshot_machines.specs.marking.Seeding.{AreMarkedBelow}
use Rattle.snapshot_machines.proofs.marking.SendLemmas.{may_send}
use Rattle.snapshot_machines.proofs.marking.sending.is_section_due.Goals as goal

pub returns-clause-yes : goal.returns-clause-yes
returns-clause-yes c is =
    let m = c.args.core.now in
    let w = c.args.snaps.now in
    let place = c.are_all_marked.new.seen in
    may_send m w place c.requires.base (ltb-true w.sent w.known (sym c.is_unsent.ensures ∙ c.if-not-is_unsent.false)) c.requires.marks
    (subst (λ (k : ℕ). AreMarkedBelow m.numbers k place) c.known.ensures c.are_all_marked.ensures.seen) (c.are_all_marked.ensures.all is)
