use Rattle.std.proofs.Common.{◌≡◌, None, map, replicate, vec_capacity}
use Rattle.std.specs.Prelude.{option_map}
use Rattle.coordinator.specs.coord_core.Saving.{section_view}
use Rattle.coordinator.proofs.coord_core.stores.no_sections.Given as goal

abbrev pub invariant-loop : goal.invariant-loop
invariant-loop l =
    record {
      none : map (option_map section_view) l.come.items ≡ replicate l.counter None;
      room : vec_capacity l.come ≡ l.machines;
    }
