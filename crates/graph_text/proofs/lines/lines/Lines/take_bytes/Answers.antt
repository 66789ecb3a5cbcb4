use Rattle.std.proofs.Common.{arith, length-drop}
use Rattle.std.proofs.lemmas.Result.{err_from_is_err_and}
use Rattle.graph_text.specs.lines.Inner.Steps.{byte_step}
use Rattle.graph_text.proofs.lines.Runs.{run_jumps, run_more}
use Rattle.graph_text.proofs.lines.PlainTexts.{rest_is, byte_ends, none_taken}
use Rattle.graph_text.proofs.lines.lines.Lines.take_bytes.Goals as goal

pub loop-at-preserved-then-taken-gt0 : goal.loop-at-preserved-then-taken-gt0
loop-at-preserved-then-taken-gt0 g c =
    let step = byte_step g.X.LineItem.MOST (g.X.LineItem.says c.args.weighted) in
    let takes = rw (rest_is c.args.bytes.now c.loop-at.at) at c.in_ok-taken.ensures.takes in
    let fits = takes.0 in
    let before = c.loop-at.invariant in
    let lines = before.line in
    let more = c.in_ok-taken.ensures.lines in
    record {
      ran = run_jumps step _ _ _ c.args.bytes.now c.loop-at.at c.in_ok-taken.taken takes.1 before.ran;
      within = (let long = length-drop c.loop-at.at c.args.bytes.now in omega arith);
      between = takes.2 before.between;
      line = omega arith;
    }

pub returns-in_err-number-clause-takes : goal.returns-in_err-number-clause-takes
returns-in_err-number-clause-takes g c =
    let error = err_from_is_err_and c.from_residual-in_err-number.result c.from_residual-in_err-number.ensures.1 in
    let takes = rw (rest_is c.args.bytes.now c.loop-at.at) at c.in_ok-taken.ensures.takes in
    let ran = none_taken g.X.LineItem.MOST (g.X.LineItem.says c.args.weighted) _ _ _ c.args.bytes.now c.loop-at.at c.in_ok-taken.taken (omega arith) takes.1 c.loop-at.invariant.ran in
    rw (error.1, error.2) (byte_ends g.X.LineItem.MOST (g.X.LineItem.says c.args.weighted) _ _ c.take.new.self c.args.bytes.now c.loop-at.at _ (omega arith) c.in_err-number.ensures.takes ran)

pub loop-at-preserved : goal.loop-at-preserved
loop-at-preserved g c =
    let step = byte_step g.X.LineItem.MOST (g.X.LineItem.says c.args.weighted) in
    let takes = rw (rest_is c.args.bytes.now c.loop-at.at) at c.in_ok-taken.ensures.takes in
    let before = c.loop-at.invariant in
    let ran = none_taken g.X.LineItem.MOST (g.X.LineItem.says c.args.weighted) _ _ _ c.args.bytes.now c.loop-at.at c.in_ok-taken.taken (omega arith) takes.1 before.ran in
    let lines = before.line in
    let none = c.in_ok-taken.ensures.lines in
    let more = c.in_ok-number.ensures.line in
    record {
      ran = run_more step _ _ _ c.args.bytes.now c.loop-at.at (omega arith) c.in_ok-number.ensures.takes ran;
      within = omega arith;
      between = c.in_ok-number.ensures.between;
      line = omega arith;
    }
