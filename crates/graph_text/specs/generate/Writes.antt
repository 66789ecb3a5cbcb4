-- What writing a text leaves.
use Rattle.std.specs.Prelude.{ℕ, List, Option, Result, Ok, Err}
use Rattle.std.specs.Io.KnownBytes.{Appends}
use Rattle.gl_base.specs.declared.jobs.MakePlan.{MakePlan}
use Rattle.gl_outside.specs.Faults.{Rose}
use Rattle.gl_outside.specs.Fronts.{AppendsFront}
use Rattle.graph_text.specs.declared.generate.making.Writing.{Writing}
use Rattle.graph_text.specs.declared.generate.making.Writing.TheVariants.{WriteFault, NoMemory}
use Rattle.graph_text.specs.generate.Making.{IsStride, offset_count, made_edges}

-- the whole text was appended, or a front of it where the sink failed or memory ran out
abbrev pub Writes : Result (Unit {0}) Writing → List ℕ → Option (List ℕ) → Option (List ℕ) → ℕ → ℕ → Type 0
Writes (Ok done) text old new before now = Appends old new text
Writes (Err WriteFault) text old new before now = Rose before now × AppendsFront old new text
Writes (Err NoMemory) text old new before now = AppendsFront old new text

-- the same of the edge text, with the stride
abbrev pub WritesEdges : Result (Unit {0}) Writing → MakePlan → Option (List ℕ) → Option (List ℕ) → ℕ → ℕ → Type 0
WritesEdges result plan old new before now =
    (stride : ℕ) × IsStride (offset_count plan.vertices) stride × Writes result (made_edges plan stride) old new before now
