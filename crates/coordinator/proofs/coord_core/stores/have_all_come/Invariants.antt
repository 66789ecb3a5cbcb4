use Rattle.std.proofs.Common.{◌≡◌, ℕ, ◌<◌, true, map}
use Rattle.std.specs.Prelude.{is_some, option_map}
use Rattle.coordinator.specs.coord_core.Saving.{come_at, section_view}
use Rattle.coordinator.proofs.coord_core.stores.have_all_come.Given as goal

abbrev pub invariant-loop-section : goal.invariant-loop-section
invariant-loop-section l = (a : ℕ) → a < l.section-index → is_some (come_at (map (option_map section_view) l.come) a) ≡ true
