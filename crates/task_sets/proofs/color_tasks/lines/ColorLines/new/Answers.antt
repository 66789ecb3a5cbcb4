-- Each vertex has its seat behind the others of its colour.
use Rattle.std.proofs.Common.{get_or, ◌<◌, ◌++◌, ◌∷◌, ◌∙◌, ℕ, List, [], ap, arith, length, map, take, sym, subst}
use Rattle.std.proofs.lemmas.List.{map-append, take_more}
use Rattle.gl_base.specs.declared.numbers.Vertex.{Vertex}
use Rattle.task_sets.specs.color_tasks.Inner.Seats.{AreSeats, colour_rows}
use Rattle.task_sets.specs.declared.color_tasks.lines.Seat.{Seat}
use Rattle.task_sets.proofs.color_tasks.SeatLemmas.{seats_more, short_more, none_in_line}
use Rattle.task_sets.proofs.color_tasks.lines.ColorLines.new.Goals as goal

pub loop-place-preserved : goal.loop-place-preserved
loop-place-preserved c =
    let seats = c.loop-place.seats.items in
    let at = c.loop-place.place in
    let kept = c.loop-place.invariant in
    let old = colour_rows c.loop-place.rows.items in
    let new = colour_rows c.join.new.rows.items in
    let s = c.in_ok-seat.seat in
    let v : Vertex = record { 0 = at } in
    let joined = c.in_ok-seat.ensures.joined in
    let is = c.push_reserved.ensures.items in
    let colours = c.args.colours.now in
    let low : at < length colours = omega arith in
    record {
      seats = subst (λ (xs : List Seat). AreSeats xs new) (sym is) (seats_more seats old new s v kept.seats joined (sym kept.many));
      count = λ k d inside. subst (λ (n : ℕ). get_or colours k d < n) (sym c.join.ensures.count) (kept.count k d inside);
      room = omega (arith, c.push_reserved.ensures.capacity, kept.room);
      many = omega (arith, c.push_reserved.ensures.len, kept.many);
      short = short_more old new s v at joined kept.short;
      colours = ap (map (λ (t : Seat). t.colour)) is ∙ map-append (λ (t : Seat). t.colour) seats (s ∷ [])
          ∙ ap (λ (cs : List ℕ). cs ++ s.colour ∷ []) kept.colours
          ∙ ap (λ (k : ℕ). take at colours ++ k ∷ []) c.in_ok-seat.ensures.colour ∙ sym (take_more colours at 0 low);
    }

pub returns-clause-none : goal.returns-clause-none
returns-clause-none c = none_in_line c.loop-place.seats.items c.in_ok-queues.queues.items c.in_ok-queues.ensures.none
