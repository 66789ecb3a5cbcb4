use Rattle.std.proofs.Common.{◌≡◌, ◌≢◌, Some, length, sym, ap, ◌∙◌, arith}
use Rattle.graph_atoms.specs.atom_gather.Files.{differs_of}
use Rattle.graph_atoms.proofs.atom_gather.CompareLemmas.{difference_end}
use Rattle.graph_atoms.proofs.atom_gather.comparing.check_same.Goals as goal

pub returns-then-bytes-wanted-clause-fault : goal.returns-then-bytes-wanted-clause-fault
returns-then-bytes-wanted-clause-fault c =
    let xs = c.args.bytes.now in
    let ys = c.args.wanted.now in
    let i = c.loop-at.at in
    let apart : length xs ≢ length ys = omega (arith, c.if-bytes-wanted.true) in
    let all : i ≡ c.min-shorter.result = omega (arith, c.loop-at-test.false, c.loop-at.auto.at-end) in
    let is = difference_end i xs ys (all ∙ c.min-shorter.ensures) apart in
    ap (differs_of c.args.file) (sym c.loop-at.invariant ∙ is ∙ ap Some all) ∙ c.differs-then-bytes-wanted.ensures
