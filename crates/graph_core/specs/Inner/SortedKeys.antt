-- Lists whose keys ascend strictly, and the first key of a list that stands in it twice.
use Rattle.std.specs.Prelude.{ℕ, ◌<◌, List, length, map, nat_eq, take, slice_index, AllPairs, Contains, Result, Ok, Err}
use Rattle.std.specs.declared.vec.Vec.{Vec}
use Rattle.std.specs.declared.alloc.Global.{Global}
use Rattle.std.specs.List.{IsDistinct}
use Rattle.std.specs.List.Sorted.{IsPermutation}
use Rattle.gl_base.specs.declared.memory.OrNoMemory.{OrNoMemory}
use Rattle.gl_base.specs.declared.memory.OrNoMemory.TheVariants.{Fault, NoMemory}
use Rattle.graph_core.specs.declared.sorting.DoubleAt.{DoubleAt}

-- each key is below those after it
abbrev pub Rises : {T : Type 0} → (T → ℕ) → List T → Type 0
Rises key items = AllPairs (λ x y. key x < key y) items

-- the key at this place stands before it too, and those before it differ
pub record IsFirstDouble (keys : List ℕ) (place : ℕ) : Type 0 where
  pub inside : place < length keys
  pub double : Contains (take place keys) (slice_index keys place)
  pub first : IsDistinct nat_eq (take place keys)

-- the items in the order of their keys, or the first place of a key that stands before it too
abbrev pub AreSorted : {T : Type 0} → (T → ℕ) → List T → Result (Vec T Global) (OrNoMemory DoubleAt) → Type 0
AreSorted key items (Ok sorted) = IsPermutation items sorted.items × Rises key sorted.items
AreSorted key items (Err (Fault double)) = IsFirstDouble (map key items) double.0
AreSorted key items (Err NoMemory) = Unit {0}
