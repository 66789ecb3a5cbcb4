-- What is said of the snapshots that a run acknowledged.
use Rattle.std.specs.List.{range_with_len}
use Rattle.std.specs.Prelude.{List, [], length, map, suc, ℕ, ⊤, ◌∷◌, ◌≡◌}
use Rattle.gl_base.specs.declared.entries.Entry.{Entry}
use Rattle.cluster_laws.specs.cluster_runs.Attempts.{Shared}
use Rattle.graph_core.specs.DataGraph.{size}
use Rattle.seq_run.specs.Orders.{replay}
use Rattle.engine_runs.specs.declared.answers.runs.SnapLine.{SnapLine}
use Rattle.graph_text.specs.declared.sync_folds.folds.Fold.{Fold}
use Rattle.graph_text.specs.sync_folds.Folds.{fold_of}

-- the numbers of all vertices after the replay of this order
abbrev pub numbers_after : Shared → List Entry → List ℕ
numbers_after shared order = map (λ v. (replay shared.graph shared.program order).vertex v) (range_with_len 0 (size shared.graph))

-- what the line says of the numbers
abbrev pub fold_in : SnapLine → Fold
fold_in line = record { reached = line.reached; sum = line.sum; max = line.max }

-- The line is that of the snapshot with this number and this order: how long the order is, and what the numbers of its replay come to.
pub record IsLineOf (shared : Shared) (number : ℕ) (order : List Entry) (line : SnapLine) : Type 0 where
  pub number_is : line.number ≡ number
  pub entries : line.entries ≡ length order
  pub fold : fold_in line ≡ fold_of (numbers_after shared order)

-- these lines are those of the snapshots with these orders, of which the first has this number, and each the next
abbrev pub AreSnapLines : Shared → ℕ → List (List Entry) → List SnapLine → Type 0
AreSnapLines shared number [] [] = ⊤
AreSnapLines shared number [] (line ∷ lines) = ⊥
AreSnapLines shared number (order ∷ orders) [] = ⊥
AreSnapLines shared number (order ∷ orders) (line ∷ lines) = IsLineOf shared number order line × AreSnapLines shared (suc number) orders lines
