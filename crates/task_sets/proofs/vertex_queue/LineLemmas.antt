-- What is left of a line.
use Rattle.std.proofs.Common.{◌≡◌, ◌<◌, Bool, true, false, Option, Some, None, is_some, List, [], ◌∷◌, length, slice_get, refl, sym, ap, true≢false, ◌∙◌, arith}
use Rattle.std.proofs.Math.ListN.{length-set}
use Rattle.std.proofs.lemmas.Option.{none-some}
use Rattle.gl_base.specs.declared.numbers.Vertex.{Vertex}
use Rattle.task_sets.specs.vertex_queue.Lines.{LineView, without}

-- a line whose first vertex has left it is shorter
shorter_by : (among : List Bool) (line : List Vertex) (o : Option Vertex) → o ≡ slice_get line 0 → is_some o ≡ true → length (without (record { among = among; line = line }) o).line < length line
shorter_by among [] None is some = absurd (true≢false (sym some))
shorter_by among [] (Some v) is some = absurd (none-some v (sym is))
shorter_by among (w ∷ line) None is some = absurd (true≢false (sym some))
shorter_by among (w ∷ line) (Some v) is some = omega arith

pub shorter : (l : LineView) (o : Option Vertex) → o ≡ slice_get l.line 0 → is_some o ≡ true → length (without l o).line < length l.line
shorter l o is some = shorter_by l.among l.line o is some

-- a line without a first vertex is empty
pub nobody : (line : List Vertex) (o : Option Vertex) → o ≡ slice_get line 0 → is_some o ≡ false → line ≡ []
nobody [] o is none = refl
nobody (v ∷ line) o is none = absurd (true≢false (sym (ap is_some is) ∙ none))

pub same_count : (l : LineView) (o : Option Vertex) → length (without l o).among ≡ length l.among
same_count l None = refl
same_count l (Some v) = length-set l.among v.0 false
