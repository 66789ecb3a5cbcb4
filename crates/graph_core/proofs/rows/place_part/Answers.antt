use Rattle.std.proofs.Common.{◌-◌, ◌<◌, get_or, length, ⊎_elim, arith}
use Rattle.graph_core.proofs.RowLemmas.{part_placed, part_room, part_passed, key_below}
use Rattle.graph_core.proofs.rows.place_part.Goals as goal

pub bounds-starts-row : goal.bounds-starts-row
bounds-starts-row g c =
    let h = key_below _ _ (c.loop-place.place - 1) c.at-key.result c.requires.keys c.at-key.ensures in
    omega (arith, h)

pub bounds-starts-row-then-row-high : goal.bounds-starts-row-then-row-high
bounds-starts-row-then-row-high g c =
    let h = key_below _ _ (c.loop-place.place - 1) c.at-key.result c.requires.keys c.at-key.ensures in
    omega (arith, h)

pub overflow_sub-at : goal.overflow_sub-at
overflow_sub-at g c =
    let h = key_below _ _ (c.loop-place.place - 1) c.at-key.result c.requires.keys c.at-key.ensures in
    let room = part_room (g.K.Keyed.list c.args.keyed.now) c.args.low c.args.high c.loop-place.place (length (g.K.Keyed.list c.args.keyed.now)) c.at-key.result c.loop-place.starts c.loop-place.items (omega arith) c.loop-place.invariant.1 c.at-key.ensures (omega (arith, h)) (omega arith) c.if-low-row.true c.if-row-high.true in
    omega (arith, room.0)

pub bounds-items-at : goal.bounds-items-at
bounds-items-at g c =
    let h = key_below _ _ (c.loop-place.place - 1) c.at-key.result c.requires.keys c.at-key.ensures in
    let room = part_room (g.K.Keyed.list c.args.keyed.now) c.args.low c.args.high c.loop-place.place (length (g.K.Keyed.list c.args.keyed.now)) c.at-key.result c.loop-place.starts c.loop-place.items (omega arith) c.loop-place.invariant.1 c.at-key.ensures (omega (arith, h)) (omega arith) c.if-low-row.true c.if-row-high.true in
    room.1

pub offset_bounds-items-at : goal.offset_bounds-items-at
offset_bounds-items-at g c =
    let h = key_below _ _ (c.loop-place.place - 1) c.at-key.result c.requires.keys c.at-key.ensures in
    let room = part_room (g.K.Keyed.list c.args.keyed.now) c.args.low c.args.high c.loop-place.place (length (g.K.Keyed.list c.args.keyed.now)) c.at-key.result c.loop-place.starts c.loop-place.items (omega arith) c.loop-place.invariant.1 c.at-key.ensures (omega (arith, h)) (omega arith) c.if-low-row.true c.if-row-high.true in
    let at : get_or c.loop-place.starts c.at-key.result.0 0 - 1 < length c.loop-place.items = room.1 in
    grind arith

pub loop-place-preserved-then-row-high : goal.loop-place-preserved-then-row-high
loop-place-preserved-then-row-high g c =
    let h = key_below _ _ (c.loop-place.place - 1) c.at-key.result c.requires.keys c.at-key.ensures in (
      omega arith,
      part_placed (g.K.Keyed.list c.args.keyed.now) c.args.low c.args.high c.loop-place.place (length (g.K.Keyed.list c.args.keyed.now)) c.at-key.result c.loop-place.starts c.loop-place.items (omega arith) c.loop-place.invariant.1 c.at-key.ensures (omega (arith, h)) (omega arith) c.if-low-row.true c.if-row-high.true,
    )

pub loop-place-preserved : goal.loop-place-preserved
loop-place-preserved g c = (
  omega arith,
  part_passed (g.K.Keyed.list c.args.keyed.now) c.args.low c.args.high c.loop-place.place (length (g.K.Keyed.list c.args.keyed.now)) c.at-key.result c.loop-place.starts c.loop-place.items (omega arith) c.loop-place.invariant.1 c.at-key.ensures
      (λ above below. ⊎_elim (λ b. (let h = b.1 in omega arith)) (λ b. omega arith) c.else-low-row.either),
)
