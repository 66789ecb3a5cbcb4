-- What the numbers of the vertices of a record come to.
use Rattle.std.specs.Prelude.{List, ℕ, ◌≡◌}
use Rattle.gl_base.specs.Lists.{AreEach}
use Rattle.gl_base.specs.declared.snapshots.Record.{Record}
use Rattle.store.specs.store_format.ReadBack.{record_vertices}
use Rattle.store.specs.store_format.StoredNumbers.{saved_or}
use Rattle.graph_text.specs.sync_folds.Folds.{fold_of}
use Rattle.graph_text.specs.declared.sync_folds.folds.Fold.{Fold}

-- it is the fold of what the record has for each of so many vertices
pub record IsFoldOf (n : ℕ) (made : Record) (fold : Fold) : Type 0 where
  pub values : List ℕ
  pub each : AreEach n (λ v x. x ≡ saved_or 0 (record_vertices made) v) values
  pub fold_is : fold ≡ fold_of values
