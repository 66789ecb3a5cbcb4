-- Sorted, they are the same.
use Rattle.std.proofs.Common.{◌==◌, ◌∙◌, ap, sym}
use Rattle.std.specs.List.{list_any}
use Rattle.std.proofs.lemmas.List.Sorted.{IsNonDecreasingBy-from_sort, list_any-IsPermutation}
use Rattle.call_laws.proofs.lost_updates.Searching.{tickets_are, rises_from}
use Rattle.call_laws.proofs.lost_updates.lost.update_tickets.Goals as goal

pub returns-clause-rise : goal.returns-clause-rise
returns-clause-rise c = rises_from c.sort_unstable.new.self.items (IsNonDecreasingBy-from_sort (λ n. n) c.sort_unstable.new.self.items c.sort_unstable.ensures.sorted)

pub returns-clause-tickets : goal.returns-clause-tickets
returns-clause-tickets c = λ t.
    sym (list_any-IsPermutation (λ ticket. ticket == t) c.in_ok-tickets.tickets.items c.sort_unstable.new.self.items c.sort_unstable.ensures.permutation)
    ∙ ap (list_any (λ ticket. ticket == t)) c.in_ok-tickets.ensures ∙ tickets_are c.args.order.now t
