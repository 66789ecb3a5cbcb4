use Rattle.std.proofs.Common.{◌≡◌, ◌≤◌, ◌*◌, map}
use Rattle.std.specs.Prelude.{option_map}
use Rattle.coordinator.specs.coord_core.Saving.{entries_come, section_view}
use Rattle.coordinator.proofs.coord_core.stores.count_entries.Given as goal

abbrev pub invariant-loop-section : goal.invariant-loop-section
invariant-loop-section l =
    record {
      sum : l.entries ≡ entries_come l.section-index (map (option_map section_view) l.come);
      bound : l.entries ≤ l.section-index * 18446744073709551615;
    }
