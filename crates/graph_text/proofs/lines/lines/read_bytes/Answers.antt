use Rattle.std.proofs.Common.{◌<◌, ◌++◌, take, arith, length-append}
use Rattle.std.proofs.lemmas.Result.{err_from_is_err_and}
use Rattle.std.proofs.KnownBytes.{Consumes-trans}
use Rattle.graph_text.proofs.lines.LinePieces.{source_ends, leads_more, piece_settles, nothing_more, length_taken}
use Rattle.graph_text.proofs.lines.lines.read_bytes.Goals as goal

pub returns-in-Ok-eq0-clause-answer : goal.returns-in-Ok-eq0-clause-answer
returns-in-Ok-eq0-clause-answer g c =
    let so_far = c.reading.invariant.text in
    let told = nothing_more _ _ _ _ _ _ c.in-Ok-eq0.field-0-test so_far.told c.in-Ok-eq0.ensures.bytes.0 in
    source_ends g.X.LineItem.MOST (g.X.LineItem.says c.args.weighted) c.reading.room _ c.end_line.new.self c.end_line.result _ _ so_far.taken
    (g.S.Source.faults c.args.source.now) (g.S.Source.faults c.read.new.self) (g.met.X.LineItem.passes c.args.weighted) so_far.leads_here told (c.in-Ok-eq0.ensures.bytes.1 c.in-Ok-eq0.field-0-test (omega arith)) c.end_line.ensures.kept

pub returns-in_err-number-in-Ok-clause-answer : goal.returns-in_err-number-in-Ok-clause-answer
returns-in_err-number-in-Ok-clause-answer g c =
    let error = err_from_is_err_and c.from_residual.result c.from_residual.ensures.1 in
    let so_far = c.reading.invariant.text in
    let told = Consumes-trans _ _ _ _ _ so_far.told c.in-Ok.ensures.bytes.0 in
    rw (error.1, error.2) (piece_settles g.X.LineItem.MOST (g.X.LineItem.says c.args.weighted) c.reading.room _ c.take_piece.new.self _ _ _ so_far.taken _
    (g.S.Source.faults c.args.source.now) (g.S.Source.faults c.read.new.self) (g.met.X.LineItem.passes c.args.weighted) so_far.leads_here told c.in_err-number-in-Ok.ensures.takes)

pub returns-in_err-number-in-Ok-clause-taken : goal.returns-in_err-number-in-Ok-clause-taken
returns-in_err-number-in-Ok-clause-taken g c =
    (_, Consumes-trans _ _ _ _ _ c.reading.invariant.text.told c.in-Ok.ensures.bytes.0)

pub reading-preserved : goal.reading-preserved
reading-preserved g c =
    let so_far = c.reading.invariant.text in
    let long = length_taken c.read.new.buf c.in-Ok.count c.in-Ok.ensures.bound in
    let some : 0 < c.in-Ok.count = omega arith in
    let grows = c.in_ok-number-in-Ok.ensures.line in
    let fits = c.in_ok-number-in-Ok.ensures.takes.0 in
    record {
      text = record {
        taken = so_far.taken ++ take c.in-Ok.count c.read.new.buf;
        told = Consumes-trans _ _ _ _ _ so_far.told c.in-Ok.ensures.bytes.0;
        leads_here = leads_more _ _ c.reading.room _ c.take_piece.new.self c.in_ok-number-in-Ok.number so_far.taken (take c.in-Ok.count c.read.new.buf) c.in-Ok.count
            so_far.leads_here long c.in_ok-number-in-Ok.ensures.takes;
        long = (let before = so_far.long in omega (arith, length-append so_far.taken (take c.in-Ok.count c.read.new.buf)));
      };
      line = (let old = c.reading.invariant.line in omega arith);
      between = c.in_ok-number-in-Ok.ensures.between;
      later = omega (arith, c.in-Ok.ensures.counts, c.reading.invariant.later);
      same = g.met.S.Source.same_trans _ _ _ c.reading.invariant.same c.read.ensures.same;
    }
