use Rattle.std.proofs.Common.{◌≡◌, map}
use Rattle.std.specs.Prelude.{option_map}
use Rattle.coordinator.specs.coord_core.Records.{entries_upto}
use Rattle.coordinator.specs.coord_core.Saving.{section_view}
use Rattle.coordinator.proofs.coord_core.records.entries_of.Given as goal

abbrev pub invariant-loop-section : goal.invariant-loop-section
invariant-loop-section l = l.entries.items ≡ entries_upto l.section-index (map (option_map section_view) l.come)
