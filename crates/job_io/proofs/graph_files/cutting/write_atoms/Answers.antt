use Rattle.std.proofs.Common.{◌≡◌, ◌≤◌, ◌<◌, ◌+◌, ℕ, length, ap, subst, arith, rules}
use Rattle.std.specs.Prelude.{slice_index_or}
use Rattle.job_io.proofs.graph_files.CutWritten.{Wrote, fronts-so-far, more-atoms, stops-at}
use Rattle.job_io.proofs.graph_files.cutting.write_atoms.Goals as goal

pub returns-in_err-write_lines-clause-fronts : goal.returns-in_err-write_lines-clause-fronts
returns-in_err-write_lines-clause-fronts g c text start have wrote =
    let lines = c.args.lines.now in
    let count = c.requires.count in
    let inside : c.loop-a.a < length lines = omega (arith, count, c.loop-a-test.true) in
    let few : length lines ≤ 1024 = omega (arith, count, c.requires.few) in
    let line = c.index-lines-a.result in
    let at : line ≡ slice_index_or lines c.loop-a.a line = search rules in
    stops-at c.args.prefix.now text lines few start (g.F.Files.state c.loop-a.files) (g.F.Files.state c.write_lines.new.files) c.loop-a.a line line at inside have
    (c.loop-a.invariant.goes text start have wrote) c.in_err-write_lines.ensures.wrote c.in_err-write_lines.ensures.front

pub loop-a-preserved : goal.loop-a-preserved
loop-a-preserved g c =
    let lines = c.args.lines.now in
    let count = c.requires.count in
    let inside : c.loop-a.a < length lines = omega (arith, count, c.loop-a-test.true) in
    let few : length lines ≤ 1024 = omega (arith, count, c.requires.few) in
    let line = c.index-lines-a.result in
    let at : line ≡ slice_index_or lines c.loop-a.a line = search rules in
    record {
      goes = λ text start have wrote.
          more-atoms c.args.prefix.now text lines few start (g.F.Files.state c.loop-a.files) (g.F.Files.state c.write_lines.new.files) c.loop-a.a line line at inside have
          (c.loop-a.invariant.goes text start have wrote) c.in_ok-write_lines.ensures.wrote c.in_ok-write_lines.ensures.handed c.in_ok-write_lines.ensures.written;
      later =
          let first = c.loop-a.invariant.later in
          let then = c.in_ok-write_lines.ensures.wrote.later in
          omega (arith, first, then);
    }

pub returns-clause-written : goal.returns-clause-written
returns-clause-written g c text start have wrote =
    let lines = c.args.lines.now in
    let few : length lines ≤ 1024 = let count = c.requires.count in omega (arith, count, c.requires.few) in
    let end : c.loop-a.a ≡ length lines = let count = c.requires.count in let last = c.loop-a.auto.a-end in let done = c.loop-a-test.false in omega (arith, count, last, done) in
    let now = g.F.Files.state c.loop-a.files in
    subst (λ (k : ℕ). Wrote c.args.prefix.now text lines few (k + 1) start now) end (c.loop-a.invariant.goes text start have wrote)

pub returns-clause-fronts : goal.returns-clause-fronts
returns-clause-fronts g c text start have wrote =
    let lines = c.args.lines.now in
    let few : length lines ≤ 1024 = let count = c.requires.count in omega (arith, count, c.requires.few) in
    fronts-so-far c.args.prefix.now text lines few start (g.F.Files.state c.loop-a.files) (c.loop-a.a + 1) (c.loop-a.invariant.goes text start have wrote)
