-- The machines stand for those of the law, and begin an attempt.
use Rattle.std.proofs.Common.{length, refl}
use Rattle.engine_runs.proofs.rollback.Attempts.{admitted_so, stand_so, starts_so}
use Rattle.engine_runs.specs.rollback.Returning.{newest_setting}
use Rattle.engine_runs.proofs.rollback.next_attempts.machines_from.Goals as goal

pub machines_of_attempt-requires-clause-places : goal.machines_of_attempt-requires-clause-places
machines_of_attempt-requires-clause-places g c = record { each = c.requires.places.each; atoms = c.requires.places.atoms; owners = c.requires.places.owners; colours = c.requires.places.colours; many = refl }

pub returns-clause-stand : goal.returns-clause-stand
returns-clause-stand g c = λ st o events x is to runs of.
    stand_so g.P.Program.meaning c.args.graph.now (g.P.Program.meaning c.args.program) c.args.places.now c.args.base.now c.in_ok-machines.machines.items c.deref.result.now c.in_ok-serials.serials.items
    c.deref.ensures.value c.in_ok-machines.ensures.stand (newest_setting st o events) to x runs of
    (admitted_so g.P.Program.meaning c.args.trace.now c.in_ok-serials.serials.items c.in_ok-serials.ensures.each st o events x is)

pub returns-clause-start : goal.returns-clause-start
returns-clause-start g c =
    starts_so g.P.Program.meaning c.args.graph.now (g.P.Program.meaning c.args.program) c.args.places.now (length c.args.trace.now.now.machines.items) c.args.base.now c.in_ok-serials.serials.items c.in_ok-machines.machines.items c.args.trace.now.now.next
    c.args.trace.now.now.left c.requires.graph c.requires.places c.requires.base
    (stand_so g.P.Program.meaning c.args.graph.now (g.P.Program.meaning c.args.program) c.args.places.now c.args.base.now c.in_ok-machines.machines.items c.deref.result.now c.in_ok-serials.serials.items
    c.deref.ensures.value c.in_ok-machines.ensures.stand)
