-- The first of the queue of the colour, as it stands in the row.
use Rattle.std.proofs.Common.{◌<◌, ◌≤◌, arith, ap, length}
use Rattle.std.proofs.lemmas.List.{length-map}
use Rattle.std.specs.Global.{Vec}
use Rattle.gl_base.specs.declared.numbers.Vertex.{Vertex}
use Rattle.task_sets.specs.color_tasks.Inner.Seats.{colour_rows}
use Rattle.task_sets.proofs.color_tasks.SeatLemmas.{row_is, rank_low, none_of, none_past, first_waits, first_colour}
use Rattle.task_sets.proofs.color_tasks.lines.ColorLines.first.Goals as goal

pub returns-then-place-len-clause-none : goal.returns-then-place-len-clause-none
returns-then-place-len-clause-none c =
    let queues = c.self.inside.queues.items in
    let past : length queues ≤ c.args.colour = let ok = c.self.inside.queues.ok in let long = c.len.ensures in let up = c.if-place-len.true in omega (arith, ok, long, up) in
    none_past c.self.inside.seats.items (colour_rows c.self.inside.rows.items) queues c.args.self.now c.self.view_is c.self.invariant.0 c.self.invariant.1 c.args.colour past

pub index-requires-in-Some-2 : goal.index-requires-in-Some-2
index-requires-in-Some-2 c =
    let queues = c.self.inside.queues.items in
    let rows = c.self.inside.rows.items in
    let low : c.args.colour < length queues = let ok = c.self.inside.queues.ok in let long = c.len.ensures in let up = c.if-place-len.false in omega (arith, ok, long, up) in
    let inside : c.args.colour < length rows = let count = c.self.invariant.1.count in let many = length-map rows (λ (r : Vec Vertex). r.items) in omega (arith, low, count, many) in
    let row = c.index-in-Some.result.now in
    let same = ap length (row_is rows c.args.colour row inside c.index-in-Some.ensures) in
    let within = rank_low c.self.inside.seats.items (colour_rows rows) queues c.args.self.now c.self.view_is c.self.invariant.0 c.self.invariant.1 c.args.colour low c.index.result.now c.index.ensures c.in-Some.rank.0 c.in-Some.ensures in
    let ok = row.ok in
    omega (arith, same, within, ok)

pub returns-in-Some-clause-waits : goal.returns-in-Some-clause-waits
returns-in-Some-clause-waits c =
    let queues = c.self.inside.queues.items in
    let rows = c.self.inside.rows.items in
    let low : c.args.colour < length queues = let ok = c.self.inside.queues.ok in let long = c.len.ensures in let up = c.if-place-len.false in omega (arith, ok, long, up) in
    let inside : c.args.colour < length rows = let count = c.self.invariant.1.count in let many = length-map rows (λ (r : Vec Vertex). r.items) in omega (arith, low, count, many) in
    let row = c.index-in-Some.result.now in
    first_waits c.self.inside.seats.items (colour_rows rows) queues c.args.self.now c.self.view_is c.self.invariant.0 c.self.invariant.1 c.args.colour low c.index.result.now c.index.ensures
    row.items c.in-Some.rank.0 c.index-in-Some-2.result.now (row_is rows c.args.colour row inside c.index-in-Some.ensures) c.index-in-Some-2.ensures c.in-Some.ensures

pub returns-in-Some-clause-colour : goal.returns-in-Some-clause-colour
returns-in-Some-clause-colour c =
    let queues = c.self.inside.queues.items in
    let rows = c.self.inside.rows.items in
    let low : c.args.colour < length queues = let ok = c.self.inside.queues.ok in let long = c.len.ensures in let up = c.if-place-len.false in omega (arith, ok, long, up) in
    let inside : c.args.colour < length rows = let count = c.self.invariant.1.count in let many = length-map rows (λ (r : Vec Vertex). r.items) in omega (arith, low, count, many) in
    let row = c.index-in-Some.result.now in
    first_colour c.self.inside.seats.items (colour_rows rows) queues c.args.self.now c.self.view_is c.self.invariant.0 c.self.invariant.1 c.args.colour low c.index.result.now c.index.ensures
    row.items c.in-Some.rank.0 c.index-in-Some-2.result.now (row_is rows c.args.colour row inside c.index-in-Some.ensures) c.index-in-Some-2.ensures c.in-Some.ensures

pub returns-in-None-clause-none : goal.returns-in-None-clause-none
returns-in-None-clause-none c =
    let queues = c.self.inside.queues.items in
    let low : c.args.colour < length queues = let ok = c.self.inside.queues.ok in let long = c.len.ensures in let up = c.if-place-len.false in omega (arith, ok, long, up) in
    none_of c.self.inside.seats.items (colour_rows c.self.inside.rows.items) queues c.args.self.now c.self.view_is c.self.invariant.0 c.self.invariant.1 c.args.colour low c.index.result.now c.index.ensures c.in-None.ensures
