-- Vertices in line.
use Rattle.std.specs.Prelude.{Bool, false, Option, Some, None, List, drop, slice_set}
use Rattle.gl_base.specs.declared.numbers.Vertex.{Vertex}

-- A flag for each vertex, which tells whether it stands in the line, and the line, the first first.
pub record LineView : Type 0 where
  pub among : List Bool
  pub line : List Vertex

-- the line when its first vertex, where there is one, has left it
abbrev pub without : LineView → Option Vertex → LineView
without l None = l
without l (Some v) = record { among = slice_set l.among v.0 false; line = drop 1 l.line }
