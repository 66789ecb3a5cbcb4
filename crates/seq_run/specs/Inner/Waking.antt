-- Along which edges an update wakes.
use Rattle.std.specs.Prelude.{Bool, true, false}
use Rattle.update_api.specs.declared.woken.Woken.{Woken}
use Rattle.update_api.specs.declared.woken.Woken.TheVariants.{Nobody, Ahead, Around}

-- whether the other end of an edge is woken, where the edge leads out of the vertex or not
abbrev pub is_woken_along : Woken → Bool → Bool
is_woken_along Nobody out = false
is_woken_along Ahead out = out
is_woken_along Around out = true
