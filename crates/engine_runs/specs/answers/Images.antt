-- What crashes leave of the store of a run.
pub use Rattle.recovery.specs.GoodStores.{IsGoodStore, orders_behind}
pub use Rattle.recovery.specs.Journals.{stored_in, stored_order}
use Rattle.std.specs.Prelude.{List, ℕ, ◌++◌, ◌≡◌}
use Rattle.gl_base.specs.declared.entries.Entry.{Entry}
use Rattle.call_laws.specs.call_answers.Answers.{Shared}
use Rattle.gl_outside.specs.Disk.{DiskPast, IsImage, LeavesOnly}
use Rattle.store.specs.declared.store_format.header.Header.{Header}
use Rattle.store.specs.store_format.Stores.{DecodesTo}

-- The image stands for a good store that begins with these snapshots.
pub record HoldsGood (shared : Shared) (header : Header) (front : List (List ℕ)) (image : List ℕ) : Type 0 where
  pub behind : List (List ℕ)
  pub stands : DecodesTo header (front ++ behind) image
  pub good : IsGoodStore shared header (front ++ behind)

-- The store had these snapshots as the run began, and got others, whose orders are these. Whatever a crash left at any moment of the run is a
-- good store that begins with the first ones; and whatever one leaves as the run has ended has the others besides.
pub record KeepsGood (shared : Shared) (header : Header) (start : List (List ℕ)) (snapshots : List (List Entry)) (old new : DiskPast) : Type 0 where
  pub added : List (List ℕ)
  pub orders : orders_behind (stored_order start) added ≡ snapshots
  pub any_moment : LeavesOnly old new (HoldsGood shared header start)
  pub at_end : (image : List ℕ) → IsImage new.now image → HoldsGood shared header (start ++ added) image
