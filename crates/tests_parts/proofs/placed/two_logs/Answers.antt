use Rattle.std.proofs.Common.{◌≤◌, ◌∷◌, [], arith}
use Rattle.std.proofs.lemmas.List.Sorted.{IsNonDecreasingBy-push, IsNonDecreasingBy-short}
use Rattle.gl_base.specs.declared.entries.Entry.{Entry}
use Rattle.cluster_laws.specs.merged_logs.Merges.{IsByTicket, ticket_of}
use Rattle.tests_parts.proofs.placed.two_logs.Goals as goal

one_up : (a : Entry) → IsByTicket (a ∷ [])
one_up a = IsNonDecreasingBy-short ticket_of (a ∷ []) (omega arith)

two_up : (a b : Entry) → ticket_of a ≤ ticket_of b → IsByTicket (a ∷ b ∷ [])
two_up a b low = IsNonDecreasingBy-push ticket_of (a ∷ []) b (one_up a) (λ d some. low)

pub merge_both-requires-clause-first : goal.merge_both-requires-clause-first
merge_both-requires-clause-first c = two_up c.go.result c.go-2.result (omega (arith, c.go.ensures, c.go-2.ensures))

pub merge_both-requires-clause-second : goal.merge_both-requires-clause-second
merge_both-requires-clause-second c = one_up c.go-3.result
