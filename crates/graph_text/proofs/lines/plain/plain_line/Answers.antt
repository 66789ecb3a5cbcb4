use Rattle.std.proofs.Common.{◌≡◌, ℕ, ◌+◌, Some, refl, subst, arith}
use Rattle.graph_text.specs.lines.Inner.PlainLines.{IsReadTo}
use Rattle.graph_text.specs.lines.Inner.Steps.{begin, first}
use Rattle.graph_text.proofs.lines.PlainTexts.{begins, first_field, reads_number, reads_blank, ends_line}
use Rattle.graph_text.proofs.lines.plain.plain_line.Goals as goal

pub returns-in-10 : goal.returns-in-10
returns-in-10 c =
    let from = c.number_at-from.result in
    let none : 0 + from.len ≡ from.len = omega arith in
    let read = subst (λ (n : ℕ). IsReadTo c.args.bytes.now n (first (Some from.value))) none
    (reads_number c.args.bytes.now 0 from begin first first_field (begins c.args.bytes.now) c.number_at-from.ensures (omega arith) (omega arith)) in
    ends_line c.args.bytes.now from.len _ _ read (omega arith) c.in-10.is refl refl

pub behind_first-requires-clause-read : goal.behind_first-requires-clause-read
behind_first-requires-clause-read c =
    let from = c.number_at-from.result in
    let none : 0 + from.len ≡ from.len = omega arith in
    let read = subst (λ (n : ℕ). IsReadTo c.args.bytes.now n (first (Some from.value))) none
    (reads_number c.args.bytes.now 0 from begin first first_field (begins c.args.bytes.now) c.number_at-from.ensures (omega arith) (omega arith)) in
    reads_blank c.args.bytes.now from.len _ read (omega arith) c.in-32.is
