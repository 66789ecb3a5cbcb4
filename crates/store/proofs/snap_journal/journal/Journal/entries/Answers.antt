-- What is left of the length.
use Rattle.std.proofs.Common.{◌≡◌, ◌∙◌, ◌+◌, ◌-◌, ◌*◌, ◌/◌, ℕ, List, ap}
use Rattle.store.specs.store_format.Bodies.{body_size}
use Rattle.store.specs.store_format.Stores.{stored_in}
use Rattle.store.proofs.store_format.StoreLemmas.{stands_of}
use Rattle.store.proofs.snap_journal.CountLemmas.{entries_by_length}
use Rattle.store.proofs.snap_journal.journal.Journal.entries.Goals as goal

same_left : (gate a count b apart d : ℕ) → gate ≡ a → count ≡ b → apart ≡ d → gate - (64 + count * (9 + apart)) ≡ a - (64 + b * (9 + d))
same_left gate a count b apart d one two three = λ i. one i - (64 + two i * (9 + three i))

pub returns : goal.returns
returns g c =
    let j = c.self.inside in
    let seen : List ℕ = (g.D.Disk.past j.disk).now.seen in
    let left : c.saturating_sub.result ≡ j.gate - (64 + j.count * (9 + body_size j.header 0)) =
    c.saturating_sub.ensures ∙ same_left c.from-3.result j.gate c.from.result j.count c.from-2.result (body_size j.header 0) c.from-3.ensures c.from.ensures (c.from-2.ensures ∙ c.body_size.ensures.size)
    in
    rw (← c.self.view_is) (λ told well.
    let its = c.self.invariant.settled told well in
    ap (λ (n : ℕ). n / 16) left ∙ entries_by_length j.header (stored_in j.header seen) seen j.count j.gate (stands_of j.header seen its.reads) its.counts its.place)
