-- Entry by entry.
use Rattle.std.proofs.Common.{◌≡◌, ◌++◌, ◌∙◌, List, ap, arith, length, take, ℕ}
use Rattle.std.specs.List.{flat_map}
use Rattle.std.proofs.Math.Seq.{take-length}
use Rattle.gl_base.specs.declared.entries.Entry.{Entry}
use Rattle.call_laws.specs.lost_updates.Inner.Tickets.{kept_lacking}
use Rattle.call_laws.proofs.lost_updates.Searching.{kept_are}
use Rattle.call_laws.proofs.lost_updates.lost.lost_updates.Goals as goal

pub returns : goal.returns
returns c =
    let made : List Entry = c.args.made.now in
    let keeps : Entry → List Entry = kept_lacking c.in_ok-tickets.tickets.items in
    let end : c.loop-entry.entry-index ≡ length made = omega arith in
    c.loop-entry.invariant
    ∙ ap (λ (es : List Entry). es ++ flat_map keeps (take c.loop-entry.entry-index made)) c.new-lost.ensures.items
    ∙ ap (λ (n : ℕ). flat_map keeps (take n made)) end
    ∙ ap (flat_map keeps) (take-length made)
    ∙ kept_are c.in_ok-tickets.tickets.items c.args.order.now made c.in_ok-tickets.ensures.tickets
