-- Who is near an own vertex is at the other end of one of its sides.
use Rattle.std.proofs.Common.{◌≡◌, ℕ, ◌==◌, true, ◌∙◌}
use Rattle.std.specs.List.{list_any}
use Rattle.gl_base.specs.declared.numbers.Vertex.{Vertex}
use Rattle.cluster_laws.specs.cluster_core.Settings.{IsSetting, is_near}
use Rattle.local_graph.specs.declared.sides.Side.{Side}
use Rattle.machine_core.specs.declared.machine_parts.cores.Core.{Core}
use Rattle.machine_core.specs.machine_parts.Parts.{is_own, sides_at}
use Rattle.machine_core.specs.machine_turns.Turns.{HasEachRow}
use Rattle.snapshot_machines.proofs.marking.EndLemmas.{row_of}
use Rattle.snapshot_machines.proofs.marking.MarkLemmas.{near_is}
use Rattle.snapshot_machines.specs.chromatic.Machines.{IsPartOf, Setting, SnapView}

pub sided : (st : Setting) (m : Core) (w : SnapView) (v : Vertex) → IsSetting st → IsPartOf st m → HasEachRow m.numbers.local → is_own m.numbers.local v.0 ≡ true → (u : ℕ) → is_near st v.0 u ≡ true
    → list_any (λ (s : Side). s.other.0 == u) (sides_at m.numbers.local v.0) ≡ true
sided st m w v setting is rows own u near =
    let row = row_of m.numbers.local v.0 (rows v.0 own) in
    near_is st m w v row.0 setting is own row.1 u ∙ near
