-- How edges lead.
use Rattle.std.specs.Prelude.{Bool, true, false}
use Rattle.update_api.specs.declared.links.Direction.{Direction}
use Rattle.update_api.specs.declared.links.Direction.TheVariants.{Out, Into, Both}

-- it leads out of the vertex
abbrev pub leads_out : Direction → Bool
leads_out Out = true
leads_out Into = false
leads_out Both = true

-- it leads into the vertex
abbrev pub leads_into : Direction → Bool
leads_into Out = false
leads_into Into = true
leads_into Both = true
