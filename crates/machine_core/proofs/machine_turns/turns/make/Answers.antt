-- The scope is taken alone, so no other work is out.
use Rattle.std.proofs.Common.{◌≡◌, ℕ, Some, ap, ◌∙◌, sym, subst}
use Rattle.gl_base.specs.declared.numbers.Vertex.{Vertex}
use Rattle.gl_base.specs.declared.scopes.ScopeId.{ScopeId}
use Rattle.partition.specs.machine_numbers.Views.{TasksView}
use Rattle.machine_core.specs.declared.machine_parts.cores.Core.{Core}
use Rattle.machine_core.specs.machine_turns.Turns.{HasEachRow, HasRun, datum_here, is_own, links_at, place_at}
use Rattle.machine_core.specs.machine_turns.Inner.Taking.{HasRunAt, IsReserved}
use Rattle.machine_core.proofs.machine_turns.TurnLemmas.{on_ok, reserved_still, row_taken, links_same, local_same, rows_in, has_made}
use Rattle.machine_core.proofs.machine_turns.turns.make.Goals as goal

pub complete-requires-clause-reserved : goal.complete-requires-clause-reserved
complete-requires-clause-reserved g c =
    let roomy = c.reserve_commit.new.core in
    let out = c.take_work-work.new.core in
    let f = c.args.flight in
    let ps = c.in_ok-prepared.prepared.items in
    let e = c.take_work-work.ensures in
    subst (λ (s : ScopeId). IsReserved out s c.take_work-work.result.vertex ps) (sym e.scope.0)
    (subst (λ (v : Vertex). IsReserved out f.scope v ps) (sym e.scope.1)
    (reserved_still roomy out f.scope f.centre ps e.rest (c.in_ok-prepared.ensures.reserved f.centre c.requires.can.flight)))

pub returns-clause-made : goal.returns-clause-made
returns-clause-made g c =
    let f = c.args.flight in
    let e = c.take_work-work.ensures in
    let r = c.reserve_commit.ensures in
    on_ok c.complete.result
    (has_made c.args.core.now c.reserve_commit.new.core c.take_work-work.new.core c.complete.new.core c.take_work-work.result f.scope f.centre e.scope.0 e.scope.1 r.same e.rest
    (g.P.Program.meaning c.args.program.now) c.args.ticket c.requires.orderly c.requires.can e.orderly e.out e.part r.part r.settings e.settings e.row)
    c.complete.ensures.completed

pub complete-requires-clause-row : goal.complete-requires-clause-row
complete-requires-clause-row g c =
    let f = c.args.flight in
    let m = c.args.core.now in
    let e = c.take_work-work.ensures in
    row_taken m c.reserve_commit.new.core c.take_work-work.new.core m c.take_work-work.result f.scope f.centre e.scope.0 e.scope.1 c.reserve_commit.ensures.same e.rest
    e.links (c.requires.orderly.flights.own f.scope f.centre c.requires.can.flight) c.requires.rows

pub returns-clause-links : goal.returns-clause-links
returns-clause-links g c =
    let f = c.args.flight in
    let e = c.take_work-work.ensures in
    links_same c.args.core.now c.reserve_commit.new.core c.take_work-work.new.core c.complete.new.core c.take_work-work.result f.scope f.centre e.scope.0 e.scope.1 c.reserve_commit.ensures.same e.rest
    e.links e.rows c.complete.ensures.rows

pub returns-clause-rows : goal.returns-clause-rows
returns-clause-rows g c =
    let f = c.args.flight in
    let e = c.take_work-work.ensures in
    rows_in c.args.core.now c.reserve_commit.new.core c.take_work-work.new.core c.complete.new.core c.take_work-work.result f.scope f.centre e.scope.0 e.scope.1 c.reserve_commit.ensures.same e.rest
    c.complete.ensures.local
    (links_same c.args.core.now c.reserve_commit.new.core c.take_work-work.new.core c.complete.new.core c.take_work-work.result f.scope f.centre e.scope.0 e.scope.1 c.reserve_commit.ensures.same e.rest
    e.links e.rows c.complete.ensures.rows)
    c.complete.ensures.own c.requires.rows

pub returns-clause-local : goal.returns-clause-local
returns-clause-local g c =
    let f = c.args.flight in
    let e = c.take_work-work.ensures in
    local_same c.args.core.now c.reserve_commit.new.core c.take_work-work.new.core c.complete.new.core c.take_work-work.result f.scope f.centre e.scope.0 e.scope.1 c.reserve_commit.ensures.same e.rest
    c.complete.ensures.local

pub returns-clause-settings : goal.returns-clause-settings
returns-clause-settings g c st here =
    let e = c.take_work-work.ensures in
    let roomy = c.reserve_commit.ensures.settings st here in
    c.complete.ensures.settings st (e.settings st roomy) (e.row st roomy)

pub returns-clause-marks : goal.returns-clause-marks
returns-clause-marks g c x =
    let mark : Core → ℕ = λ m. (datum_here m.numbers x).mark in
    c.complete.ensures.marks x ∙ ap mark c.take_work-work.ensures.rest ∙ ap mark c.reserve_commit.ensures.same.rest

pub returns-clause-run : goal.returns-clause-run
returns-clause-run g c =
    let m = c.args.core.now in
    let out = c.take_work-work.new.core in
    let e = c.take_work-work.ensures in
    let room = c.reserve_commit.ensures.same in
    on_ok c.complete.result
    (λ (run : HasRunAt out c.complete.new.core c.take_work-work.result.vertex) v place flies at.
    let same : v ≡ c.args.flight.centre = one_flight v c.args.flight.centre (sym flies ∙ c.requires.can.flight) in
    let there : place_at out.numbers.local c.take_work-work.result.vertex.0 ≡ Some place =
    ap (λ (u : Vertex). place_at out.numbers.local u.0) (e.scope.1 ∙ sym same) ∙ ap (λ (k : Core). place_at k.numbers.local v.0) e.rest ∙ ap (λ (k : Core). place_at k.numbers.local v.0) room.rest ∙ at in
    let tasks : out.numbers.tasks ≡ m.numbers.tasks = ap (λ (k : Core). k.numbers.tasks) e.rest ∙ ap (λ (k : Core). k.numbers.tasks) room.rest in
    subst (λ (t : TasksView). HasRun t c.complete.new.core.numbers.tasks place) tasks (run place there))
    c.complete.ensures.run
  where
    one_flight : (u v : Vertex) → Some u ≡ Some v → u ≡ v
    one_flight u v is = cc

pub returns-clause-own : goal.returns-clause-own
returns-clause-own g c x =
    c.complete.ensures.own x ∙ ap (λ (m : Core). is_own m.numbers.local x) c.take_work-work.ensures.rest ∙ ap (λ (m : Core). is_own m.numbers.local x) c.reserve_commit.ensures.same.rest

pub returns-in_err-prepared-clause-rows : goal.returns-in_err-prepared-clause-rows
returns-in_err-prepared-clause-rows g c = subst (λ (m : Core). HasEachRow m.numbers.local) (sym c.reserve_commit.ensures.same.rest) c.requires.rows

pub returns-in_err-prepared-clause-links : goal.returns-in_err-prepared-clause-links
returns-in_err-prepared-clause-links g c = λ x. ap (λ (m : Core). links_at m.numbers.local x) c.reserve_commit.ensures.same.rest

pub returns-in_err-prepared-clause-own : goal.returns-in_err-prepared-clause-own
returns-in_err-prepared-clause-own g c = λ x. ap (λ (m : Core). is_own m.numbers.local x) c.reserve_commit.ensures.same.rest

pub returns-in_err-prepared-clause-marks : goal.returns-in_err-prepared-clause-marks
returns-in_err-prepared-clause-marks g c = λ x. ap (λ (m : Core). (datum_here m.numbers x).mark) c.reserve_commit.ensures.same.rest

pub returns-in_err-prepared-clause-orderly : goal.returns-in_err-prepared-clause-orderly
returns-in_err-prepared-clause-orderly g c = c.reserve_commit.ensures.orderly

pub returns-in_err-prepared-clause-places : goal.returns-in_err-prepared-clause-places
returns-in_err-prepared-clause-places g c = c.reserve_commit.ensures.places

pub returns-in_err-prepared-clause-settings : goal.returns-in_err-prepared-clause-settings
returns-in_err-prepared-clause-settings g c = c.reserve_commit.ensures.settings

pub returns-in_err-spare-clause-rows : goal.returns-in_err-spare-clause-rows
returns-in_err-spare-clause-rows g c = subst (λ (m : Core). HasEachRow m.numbers.local) (sym c.reserve_commit.ensures.same.rest) c.requires.rows

pub returns-in_err-spare-clause-links : goal.returns-in_err-spare-clause-links
returns-in_err-spare-clause-links g c = λ x. ap (λ (m : Core). links_at m.numbers.local x) c.reserve_commit.ensures.same.rest

pub returns-in_err-spare-clause-own : goal.returns-in_err-spare-clause-own
returns-in_err-spare-clause-own g c = λ x. ap (λ (m : Core). is_own m.numbers.local x) c.reserve_commit.ensures.same.rest

pub returns-in_err-spare-clause-marks : goal.returns-in_err-spare-clause-marks
returns-in_err-spare-clause-marks g c = λ x. ap (λ (m : Core). (datum_here m.numbers x).mark) c.reserve_commit.ensures.same.rest

pub returns-in_err-spare-clause-orderly : goal.returns-in_err-spare-clause-orderly
returns-in_err-spare-clause-orderly g c = c.reserve_commit.ensures.orderly

pub returns-in_err-spare-clause-places : goal.returns-in_err-spare-clause-places
returns-in_err-spare-clause-places g c = c.reserve_commit.ensures.places

pub returns-in_err-spare-clause-settings : goal.returns-in_err-spare-clause-settings
returns-in_err-spare-clause-settings g c = c.reserve_commit.ensures.settings

pub returns-clause-orderly : goal.returns-clause-orderly
returns-clause-orderly g c = c.complete.ensures.orderly

pub returns-clause-places : goal.returns-clause-places
returns-clause-places g c = λ places. c.complete.ensures.places (c.take_work-work.ensures.places (c.reserve_commit.ensures.places places))
