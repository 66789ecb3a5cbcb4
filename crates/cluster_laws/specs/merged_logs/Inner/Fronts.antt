-- The first entry of each log that is not merged yet.
use Rattle.std.specs.Prelude.{◌≡◌, ℕ, ◌+◌, ◌<◌, Bool, Option, Some, None, List, [], ◌∷◌, length, drop, slice_index_or, count_by, sum_by}
use Rattle.std.specs.Ordering.{nat_cmp, ordering_then}
use Rattle.std.specs.declared.cmp.Ordering.{Ordering}
use Rattle.gl_base.specs.declared.entries.Entry.{Entry}
use Rattle.cluster_laws.specs.declared.merged_logs.fronts.Front.{Front}
use Rattle.cluster_laws.specs.merged_logs.Merges.{all_logged, ticket_of}

-- the entry of a log at a place, where there is one
abbrev pub front_of : ℕ → ℕ → Option Entry → List Front
front_of log place None = []
front_of log place (Some entry) = record { ticket = record { 0 = ticket_of entry }; log = log; place = place } ∷ []

-- what a log has from this place on
abbrev pub unmerged_of : List (List Entry) → Front → List Entry
unmerged_of logs front = drop front.place (slice_index_or logs front.log [])

-- it is one of the logs, and the entry there has this ticket
pub record IsFrontOf (logs : List (List Entry)) (front : Front) : Type 0 where
  pub log : front.log < length logs
  pub place : front.place < length (slice_index_or logs front.log [])
  pub ticket : (d : Entry) → front.ticket.0 ≡ ticket_of (slice_index_or (slice_index_or logs front.log []) front.place d)

-- a lower ticket is greater
abbrev pub front_cmp : Front → Front → Ordering
front_cmp x y = ordering_then (nat_cmp y.ticket.0 x.ticket.0) (ordering_then (nat_cmp x.log y.log) (nat_cmp x.place y.place))

-- each test passes as many entries of the order and of what is left as of the logs
abbrev pub AreLeft : List (List Entry) → List Entry → List Front → Type 0
AreLeft logs order fronts =
    (p : Entry → Bool) → count_by p order + sum_by (λ front. count_by p (unmerged_of logs front)) fronts ≡ count_by p (all_logged logs)
