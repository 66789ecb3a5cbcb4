-- What a seat at a table has seen from one of its states to a later one.
use Rattle.std.specs.Prelude.{List, ◌++◌, ◌∷◌, ◌≡◌}
use Rattle.link_tables.specs.Seats.{Sat}
use Rattle.link_tables.specs.declared.views.Sight.{Sight}

-- it knows all that it had seen
pub record Sees {P Q : Type 0} (old new : Sat P Q) : Type 0 where
  pub news : List (Sight Q)
  pub are : new.0.seen ≡ news ++ old.0.seen

-- it has had this sight
pub record HasSeen {P Q : Type 0} (old new : Sat P Q) (s : Sight Q) : Type 0 where
  pub later : List (Sight Q)
  pub earlier : List (Sight Q)
  pub are : new.0.seen ≡ later ++ (s ∷ (earlier ++ old.0.seen))
