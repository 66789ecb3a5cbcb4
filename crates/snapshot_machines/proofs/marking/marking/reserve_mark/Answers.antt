-- Each exit leaves what the calls before it leave.
use Rattle.std.proofs.Common.{refl}
use Rattle.snapshot_machines.proofs.marking.marking.reserve_mark.Goals as goal

pub returns-in_err-prepared-clause-made : goal.returns-in_err-prepared-clause-made
returns-in_err-prepared-clause-made c = c.reserve_commit.ensures.same

pub returns-in_err-prepared-clause-part : goal.returns-in_err-prepared-clause-part
returns-in_err-prepared-clause-part c = c.reserve_commit.ensures.part

pub returns-in_err-prepared-clause-same : goal.returns-in_err-prepared-clause-same
returns-in_err-prepared-clause-same c = refl

pub returns-in_err-prepared-clause-orderly : goal.returns-in_err-prepared-clause-orderly
returns-in_err-prepared-clause-orderly c = c.reserve_commit.ensures.orderly

pub returns-in_err-prepared-clause-places : goal.returns-in_err-prepared-clause-places
returns-in_err-prepared-clause-places c = c.reserve_commit.ensures.places

pub returns-in_err-prepared-clause-settings : goal.returns-in_err-prepared-clause-settings
returns-in_err-prepared-clause-settings c = c.reserve_commit.ensures.settings

pub returns-in_err-reserve_mark-clause-made : goal.returns-in_err-reserve_mark-clause-made
returns-in_err-reserve_mark-clause-made c = c.reserve_commit.ensures.same

pub returns-in_err-reserve_mark-clause-part : goal.returns-in_err-reserve_mark-clause-part
returns-in_err-reserve_mark-clause-part c = c.reserve_commit.ensures.part

pub returns-in_err-reserve_mark-clause-same : goal.returns-in_err-reserve_mark-clause-same
returns-in_err-reserve_mark-clause-same c = c.reserve_mark.ensures.same

pub returns-in_err-reserve_mark-clause-orderly : goal.returns-in_err-reserve_mark-clause-orderly
returns-in_err-reserve_mark-clause-orderly c = c.reserve_commit.ensures.orderly

pub returns-in_err-reserve_mark-clause-places : goal.returns-in_err-reserve_mark-clause-places
returns-in_err-reserve_mark-clause-places c = c.reserve_commit.ensures.places

pub returns-in_err-reserve_mark-clause-settings : goal.returns-in_err-reserve_mark-clause-settings
returns-in_err-reserve_mark-clause-settings c = c.reserve_commit.ensures.settings

pub returns-clause-reserved : goal.returns-clause-reserved
returns-clause-reserved c = c.in_ok-prepared.ensures.reserved c.args.flight.centre c.requires.flies

pub returns-clause-vertex : goal.returns-clause-vertex
returns-clause-vertex c = c.in_ok-reserve_mark.ensures.vertex

pub returns-clause-made : goal.returns-clause-made
returns-clause-made c = c.reserve_commit.ensures.same

pub returns-clause-part : goal.returns-clause-part
returns-clause-part c = c.reserve_commit.ensures.part

pub returns-clause-same : goal.returns-clause-same
returns-clause-same c = c.reserve_mark.ensures.same

pub returns-clause-orderly : goal.returns-clause-orderly
returns-clause-orderly c = c.reserve_commit.ensures.orderly

pub returns-clause-places : goal.returns-clause-places
returns-clause-places c = c.reserve_commit.ensures.places

pub returns-clause-settings : goal.returns-clause-settings
returns-clause-settings c = c.reserve_commit.ensures.settings
