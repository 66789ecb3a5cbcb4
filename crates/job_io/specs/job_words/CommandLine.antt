-- Which words are a command line.
use Rattle.std.specs.Prelude.{◌≡◌, ℕ, List, Option, Some, None, Result, Ok, Err}
use Rattle.gl_base.specs.declared.usage_faults.UsageFault.{UsageFault}
use Rattle.gl_base.specs.declared.usage_faults.UsageFault.TheVariants as fault
use Rattle.job_io.specs.declared.job_words.words.Words.{Words}
use Rattle.job_io.specs.job_words.Lines.{Sayings, line_of}
use Rattle.job_io.specs.job_words.Meanings.{meaning_of}
use Rattle.gl_base.specs.Texts.{Text}
use Rattle.job_io.specs.job_words.WordForms.{word_forms, first_unformed}

-- what a line means, where the words are one
abbrev pub line_means : Option Sayings → Result Words UsageFault
line_means None = Err fault.Line
line_means (Some s) = meaning_of s

-- the form comes first
abbrev pub formed_means : Option ℕ → List Text → Result Words UsageFault
formed_means (Some place) words = Err (fault.Form place)
formed_means None words = line_means (line_of (word_forms words))

-- the command line that the words are, or else their first fault
abbrev pub command_line_of : List Text → Result Words UsageFault
command_line_of words = formed_means (first_unformed words) words

abbrev pub IsCommandLine : List Text → Words → Type 0
IsCommandLine words asked = command_line_of words ≡ Ok asked
