-- What the code holds, in the words of the definitions.
use Rattle.std.specs.Prelude.{option_map}
use Rattle.job_io.specs.declared.job_words.lines.Line.{Line}
use Rattle.job_io.specs.job_words.Lines.{Sayings}

-- a line that was read
abbrev pub line_view : Line → Sayings
line_view l = record {
  verb = l.verb.now;
  file = l.file.now;
  report = l.report;
  number = option_map (λ s. s.now) l.number;
  vertices = option_map (λ s. s.now) l.vertices;
  edges = option_map (λ s. s.now) l.edges;
  weight = option_map (λ s. s.now) l.weight;
}
