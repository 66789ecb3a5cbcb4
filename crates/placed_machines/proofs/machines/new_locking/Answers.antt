use Rattle.std.proofs.Common.{Some}
use Rattle.std.proofs.lemmas.Result.{IfOk-weaker}
use Rattle.placement.proofs.places.NewLemmas.{few_here, low_here}
use Rattle.placement.proofs.places.PlaceLemmas.{first_places}
use Rattle.placed_machines.specs.Inner.Making.{IsAnyMachineOf, goes_back, with_locking}
use Rattle.placed_machines.specs.Inner.Members.{IsNewMember}
use Rattle.placed_machines.proofs.MemberLemmas.{begins_locked, fits_first, fresh_first, member_first}
use Rattle.placed_machines.proofs.machines.new_locking.Goals as goal

pub first_numbers-requires : goal.first_numbers-requires
first_numbers-requires g c =
    record {
      st = with_locking c.requires.st;
      graph = c.requires.saves.goes.is.graph;
      part = c.requires.unset;
      numbers = record { vertices = c.requires.saves.begins.vertices.count; edges = c.requires.saves.begins.edges.count };
    }

pub new_core-requires-clause-places : goal.new_core-requires-clause-places
new_core-requires-clause-places g c =
    let st = with_locking c.requires.st in
    first_places st c.args.local.me.0 c.in_ok-numbers.numbers (c.in_ok-numbers.ensures.part st c.requires.unset)

pub new_core-requires-clause-below : goal.new_core-requires-clause-below
new_core-requires-clause-below g c =
    let st = with_locking c.requires.st in
    low_here st c.args.places.now.run.window c.args.terms c.args.local.me.0 c.in_ok-numbers.numbers c.requires.saves.goes (c.in_ok-numbers.ensures.part st c.requires.unset)

pub new_core-requires-clause-few : goal.new_core-requires-clause-few
new_core-requires-clause-few g c =
    let st = with_locking c.requires.st in
    few_here st c.args.places.now.run.window c.args.terms c.args.local.me.0 c.in_ok-numbers.numbers c.requires.saves.goes (c.in_ok-numbers.ensures.part st c.requires.unset)

pub new-requires : goal.new-requires
new-requires g c =
    let st = with_locking c.requires.st in
    fresh_first c.requires.st c.args.places.now.run.window c.args.terms c.args.local.me.0 c.in_ok-numbers.numbers c.in_ok-core.core c.requires.saves.goes
    (c.in_ok-numbers.ensures.numbers st c.requires.unset (begins_locked c.requires.st c.args.base.now c.requires.saves.begins)) (c.in_ok-numbers.ensures.part st c.requires.unset) c.in_ok-numbers.ensures.tasks c.in_ok-core.ensures

pub new_member-requires : goal.new_member-requires
new_member-requires g c =
    let st = with_locking c.requires.st in
    fits_first c.requires.st c.args.places.now.run.window c.args.terms c.args.local.me.0 c.in_ok-numbers.numbers c.in_ok-core.core c.requires.saves.goes
    (c.in_ok-numbers.ensures.numbers st c.requires.unset (begins_locked c.requires.st c.args.base.now c.requires.saves.begins)) (c.in_ok-numbers.ensures.part st c.requires.unset) c.in_ok-numbers.ensures.tasks c.in_ok-core.ensures
    g.P.Program.meaning c.args.program c.requires.saves.program_is c.in_ok-machine.machine
    (record { core_is = c.in_ok-machine.ensures.core; kept_is = c.in_ok-machine.ensures.kept; program_is = c.in_ok-machine.ensures.program })
    c.args.places.now.run.engine c.args.places.now.colours.items c.requires.saves.engine c.requires.saves.locks c.requires.colours

pub returns : goal.returns
returns g c = λ st m saves unset serial.
    let places = c.args.places.now in
    IfOk-weaker c.new_member.result (IsNewMember places.run.engine places.colours.items places.run.window c.in_ok-machine.machine)
    (IsAnyMachineOf g.P.Program.meaning st c.args.local.me.0 (goes_back st st.start st.base c.args.local.me.0 m))
    (λ x new.
    member_first st places.run.window c.args.terms c.args.local.me.0 c.in_ok-numbers.numbers c.in_ok-core.core saves.goes
    (c.in_ok-numbers.ensures.numbers (with_locking st) unset (begins_locked st c.args.base.now saves.begins)) (c.in_ok-numbers.ensures.part (with_locking st) unset) c.in_ok-numbers.ensures.tasks c.in_ok-core.ensures
    g.P.Program.meaning c.args.program saves.program_is c.in_ok-machine.machine
    (record { core_is = c.in_ok-machine.ensures.core; kept_is = c.in_ok-machine.ensures.kept; program_is = c.in_ok-machine.ensures.program })
    m serial saves.window_is c.in_ok-core.ensures.few places.run.engine places.colours.items saves.engine x new)
    c.new_member.ensures
