-- The row goes out, and comes back with what the program makes of it.
use Rattle.std.proofs.Common.{◌≡◌, ℕ, ◌<◌, ◌==◌, ◌∙◌, Some, if◌then◌else◌, length, refl, sym, ap, subst}
use Rattle.gl_base.specs.declared.entries.Entry.{Entry}
use Rattle.gl_base.specs.declared.scopes.Datum.{Datum}
use Rattle.gl_base.specs.declared.entries.Entry.TheVariants.{Go}
use Rattle.local_graph.specs.declared.works.Outcome.{Outcome}
use Rattle.local_graph.specs.declared.works.Work.{Work}
use Rattle.partition.specs.declared.machine_numbers.keeping.Numbers.{Numbers}
use Rattle.machine_core.specs.machine_at_once.Picks.{links_at}
use Rattle.machine_core.specs.machine_at_once.Inner.Making.{CanBeKept, HasUpdated, made_of, run_of}
use Rattle.update_api.specs.declared.woken.Woken.TheVariants.{Nobody}
use Rattle.machine_core.proofs.machine_at_once.Numbers.{at_err, can_keep, can_room, edges_lent, made_here, room_alone, row_lent, row_there, waits_room}
use Rattle.machine_core.proofs.machine_at_once.making.make.Goals as goal

pub take_work-work-requires-clause-row : goal.take_work-work-requires-clause-row
take_work-work-requires-clause-row g c = row_there c.args.numbers.now.local c.args.found.vertex.0 c.requires.row

pub update-woken-requires-clause-row : goal.update-woken-requires-clause-row
update-woken-requires-clause-row g c =
    let roomy : Numbers = record c.args.numbers.now { log = c.reserve_log.new.log } in
    row_lent roomy c.take_work-work.new.self c.args.stamp.scope c.args.found.vertex c.take_work-work.result c.take_work-work.ensures c.requires.row (run_of c.take_work-work.result Nobody) refl

pub update-woken-requires-clause-edges : goal.update-woken-requires-clause-edges
update-woken-requires-clause-edges g c =
    let roomy : Numbers = record c.args.numbers.now { log = c.reserve_log.new.log } in
    edges_lent roomy c.take_work-work.new.self c.args.stamp.scope c.args.found.vertex c.take_work-work.result c.take_work-work.ensures c.requires.row (run_of c.take_work-work.result Nobody) refl refl

pub keep-requires : goal.keep-requires
keep-requires g c =
    let n = c.args.numbers.now in
    let roomy : Numbers = record n { log = c.reserve_log.new.log } in
    let v = c.args.found.vertex in
    let room = c.in_ok-reserve_log.ensures in
    let work = c.take_work-work.result in
    let run = c.update-woken.new.self in
    let o : Outcome = record { work = work; value = run.value; edges = run.row.numbers; woken = c.update-woken.result } in
    let can : CanBeKept c.take_work-work.new.self o c.args.found.place = can_keep roomy c.take_work-work.new.self c.args.stamp.scope v work c.take_work-work.ensures c.requires.row o refl
    c.args.found.place (waits_room n roomy c.args.found.place v refl c.requires.waits) (can_room n roomy v refl room.items c.requires.can)
    c.update-woken.ensures.many room.room room.few
    (subst (λ (d : Datum). d.version < 4294967295) c.datum-version.ensures room.version) in
    subst (λ (w : Work). CanBeKept c.take_work-work.new.self (run_of w c.update-woken.result) c.args.found.place) (sym c.update-woken.ensures.rest)
    (record { waits = can.waits; can = can.can; row = can.row; links = can.links; edges = can.edges; room = can.room; few = can.few; version = can.version })

pub returns-clause-made : goal.returns-clause-made
returns-clause-made g c =
    let n = c.args.numbers.now in
    let roomy : Numbers = record n { log = c.reserve_log.new.log } in
    let out = c.take_work-work.new.self in
    let new = c.keep.new.numbers in
    let v = c.args.found.vertex in
    let taken = c.take_work-work.ensures in
    let done = c.update-woken.ensures in
    let work = c.take_work-work.result in
    let run = c.update-woken.new.self in
    let woken = c.update-woken.result in
    let o : Outcome = record { work = work; value = run.value; edges = run.row.numbers; woken = woken } in
    let after : Work = record work { value = run.value; row = record work.row { numbers = run.row.numbers } } in
    let me = ap (λ (k : Numbers). k.local.me) taken.rest in
    let has : HasUpdated out new (made_of (run_of after woken)) (Go out.local.me after.vertex c.args.stamp.ticket) =
    subst (λ (w : Work). HasUpdated out new (made_of (run_of w woken)) (Go out.local.me w.vertex c.args.stamp.ticket)) done.rest c.keep.ensures.updated in
    let updated : HasUpdated out new (made_of o) (Go out.local.me work.vertex c.args.stamp.ticket) = record { datum = has.datum; edge = has.edge; task = has.task; log = has.log } in
    made_here n roomy out new c.args.stamp.scope v work refl c.in_ok-reserve_log.ensures.items taken
    (g.P.Program.meaning c.args.program.now) o (Go n.local.me v c.args.stamp.ticket) refl (record { value = done.number; marks = done.marks; woken = done.woken }) c.requires.waits.own
    (subst (λ (e : Entry). HasUpdated out new (made_of o) e) (λ i. Go (me i) (taken.vertex i) c.args.stamp.ticket) updated)
    c.keep.ensures.own
    (subst (λ (w : Work). (x : ℕ) → links_at new.local x ≡ (if x == w.vertex.0 then Some w.row.links.items else links_at out.local x)) done.rest c.keep.ensures.back)
    c.keep.ensures.edges c.keep.ensures.local c.keep.ensures.ghosts c.keep.ensures.run

pub returns-in_err-reserve_log-clause-same : goal.returns-in_err-reserve_log-clause-same
returns-in_err-reserve_log-clause-same g c = at_err c.from_residual.result (room_alone c.args.numbers.now (record c.args.numbers.now { log = c.reserve_log.new.log }) refl c.reserve_log.ensures.items)

pub returns-in_err-spare-clause-same : goal.returns-in_err-spare-clause-same
returns-in_err-spare-clause-same g c = at_err c.from_residual-in_err-spare.result (room_alone c.args.numbers.now (record c.args.numbers.now { log = c.reserve_log.new.log }) refl c.in_ok-reserve_log.ensures.items)
