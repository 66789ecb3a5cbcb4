use Rattle.std.proofs.Common.{◌≡◌, ◌≤◌, ◌<◌, ℕ, length, map, vec_capacity}
use Rattle.std.specs.Prelude.{option_map, slice_index_or}
use Rattle.gl_base.specs.declared.snapshots.SavedPart.{SavedPart}
use Rattle.coordinator.specs.coord_core.Records.{IsPartOfRecord}
use Rattle.coordinator.specs.coord_core.Saving.{come_at, section_view}
use Rattle.coordinator.proofs.coord_core.records.parts_of.Given as goal

abbrev pub invariant-loop-section : goal.invariant-loop-section
invariant-loop-section l =
    record {
      many : length l.parts.items ≡ l.section-index;
      room : length l.come ≤ vec_capacity l.parts;
      each : (a : ℕ) (d : SavedPart) → a < l.section-index → IsPartOfRecord (come_at (map (option_map section_view) l.come) a) (slice_index_or l.parts.items a d);
    }
