-- Vertices in line by colour, and where they stand.
pub use Rattle.task_sets.specs.color_tasks.Lines.{LinesView, HasColour, is_in_line}
pub use Rattle.machine_core.specs.machine_parts.Parts.{TasksView, place_at, sides_at}
