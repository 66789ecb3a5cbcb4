use Rattle.std.proofs.Common.{◌+◌, ◌-◌, ◌++◌, ℕ, List, length, take, drop, ap, ◌∙◌}
use Rattle.std.specs.Prelude.{replicate}
use Rattle.gl_outside.proofs.Disks.{with_piece_grown}
use Rattle.gl_outside.proofs.disk_bytes.put_piece.Goals as goal

pub returns-clause-ok : goal.returns-clause-ok
returns-clause-ok c =
    let old = c.args.bytes.now.items in
    let at = c.args.at in
    let piece = c.args.piece.now in
    c.write_over.ensures
    ∙ ap (λ (l : List ℕ). take at l ++ piece ++ drop (at + length piece) l) c.in_ok-grow.ensures.ok
    ∙ ap (λ (end : ℕ). take at (old ++ replicate (end - length old) 0) ++ piece ++ drop (at + length piece) (old ++ replicate (end - length old) 0)) c.in-Some.ensures.1
    ∙ with_piece_grown old at piece
