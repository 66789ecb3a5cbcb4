-- Lists by key, one after another in one flat list.
use Rattle.std.specs.Prelude.{ℕ, ◌+◌, ◌-◌, ◌==◌, List, length, map, slice_index, slice_range}
use Rattle.std.specs.List.{filter, range_with_len}

-- the items with this key, in their order
abbrev pub with_key : {T : Type 0} → ℕ → List (ℕ × T) → List T
with_key k pairs = map (λ p. p.1) (filter (λ p. p.0 == k) pairs)

-- row k is the part of the items from the k-th start to the next
abbrev pub rows_of : {T : Type 0} → List ℕ → List T → List (List T)
rows_of starts items =
    map (λ k. slice_range items (slice_index starts k) (slice_index starts (k + 1))) (range_with_len 0 (length starts - 1))
