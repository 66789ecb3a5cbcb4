-- The report as a text.
use Rattle.std.specs.Prelude.{ℕ, ◌/◌, ◌%◌, List, [], ◌∷◌, ◌++◌, length, slice_index, codes, decimal}
use Rattle.std.specs.List.{flat_map}
use Rattle.graph_core.specs.DataGraph.{DataGraph, size}
use Rattle.sha2.specs.Sha256.{sha256}
use Rattle.graph_text.specs.declared.sync_folds.folds.Fold.{Fold}

-- a hexadecimal digit, in lower case
abbrev pub hex_digit : ℕ → ℕ
hex_digit n = slice_index (codes "0123456789abcdef") n

-- two digits for each byte, the one of its upper half first
abbrev pub hex_text : List ℕ → List ℕ
hex_text bytes = flat_map (λ b. hex_digit (b / 16) ∷ hex_digit (b % 16) ∷ []) bytes

-- a name, one blank, what is said of it, LF
abbrev pub report_line : List ℕ → List ℕ → List ℕ
report_line name said = name ++ 32 ∷ said ++ 10 ∷ []

-- the size of the graph, what the numbers of its vertices come to, and the SHA-256 of the answer
abbrev pub report_text : DataGraph → Fold → List ℕ → List ℕ
report_text g fold answer =
    report_line (codes "vertices") (decimal (size g))
    ++ report_line (codes "edges") (decimal (length g.edges))
    ++ report_line (codes "reached") (decimal fold.reached)
    ++ report_line (codes "sum") (decimal fold.sum)
    ++ report_line (codes "max") (decimal fold.max)
    ++ report_line (codes "digest") (hex_text (sha256 answer))
