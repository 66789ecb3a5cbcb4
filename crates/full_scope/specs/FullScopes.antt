-- What a full scope lends.
use Rattle.std.specs.Prelude.{ℕ, [], slice_index_or, slice_set}
use Rattle.std.specs.Borrow.{Lends, MutBor, Fml, u64}
use mir.Syntax.{named}
use Rattle.full_scope.specs.contracts.scopes.FullScope.{the_row}
use Rattle.full_scope.specs.declared.links.FullLink.{FullLink}
use Rattle.full_scope.specs.declared.scopes.FullScope.{FullScope}
use Rattle.full_scope.specs.FullLinks.{full_after, no_full_link, seen_in}
use Rattle.full_scope.specs.FullUpdates.{Surroundings}

-- the i-th link
abbrev pub full_link_at : FullScope → ℕ → FullLink
full_link_at s i = slice_index_or s.links.now i no_full_link

-- what an update sees in the scope
abbrev pub surroundings : FullScope → Surroundings
surroundings s = seen_in s.id s.centre.now s.links.now s.numbers.now

-- the scope, where the centre has this number
abbrev pub with_full_centre : FullScope → ℕ → FullScope
with_full_centre s x = record s { centre = record s.centre { now = x } }

-- the scope, where this number stands at this place
abbrev pub with_number_at : FullScope → ℕ → ℕ → FullScope
with_number_at s place x =
    record s {
      numbers = record s.numbers { now = slice_set s.numbers.now place x };
      fit = full_after s.links.now s.numbers.now place x s.fit;
    }

-- the scope ends with the number that is left in its centre
abbrev pub LendsFullCentre : MutBor FullScope → MutBor ℕ → Fml
LendsFullCentre s r = Lends (the_row (record { mir = named 1; lft = [] })) u64 s r (with_full_centre s.now)

-- the scope ends with the number that is left at this place
abbrev pub LendsNumberAt : MutBor FullScope → ℕ → MutBor ℕ → Fml
LendsNumberAt s place r = Lends (the_row (record { mir = named 1; lft = [] })) u64 s r (with_number_at s.now place)
