-- Entry by entry.
use Rattle.std.proofs.Common.{◌≡◌, ◌++◌, ◌∙◌, List, ap, arith, length, take, ℕ}
use Rattle.std.specs.List.{flat_map}
use Rattle.std.proofs.Math.Seq.{take-length}
use Rattle.gl_base.specs.declared.entries.Entry.{Entry}
use Rattle.recovery.specs.restarts.Inner.Kept.{kept_restart}
use Rattle.recovery.proofs.restarts.Lacking.{kept_are}
use Rattle.recovery.proofs.restarts.missing.restarts_of.Goals as goal

pub returns : goal.returns
returns c =
    let order : List Entry = c.args.order.now in
    let end : c.loop-entry.entry-index ≡ length order = omega arith in
    c.loop-entry.invariant
    ∙ ap (λ (es : List Entry). es ++ flat_map kept_restart (take c.loop-entry.entry-index order)) c.new-found.ensures.items
    ∙ ap (λ (n : ℕ). flat_map kept_restart (take n order)) end
    ∙ ap (flat_map kept_restart) (take-length order)
    ∙ kept_are order
