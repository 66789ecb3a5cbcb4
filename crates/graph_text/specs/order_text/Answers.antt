-- The answer as a text.
use Rattle.std.specs.Prelude.{ℕ, ◌==◌, if◌then◌else◌, List, [], ◌∷◌, ◌++◌, codes, decimal}
use Rattle.gl_base.specs.declared.jobs.Algorithm.{Algorithm}
use Rattle.gl_base.specs.declared.jobs.Algorithm.TheVariants.{Levels, Components, Paths, Colours, Cores, Pairs}
use Rattle.gl_base.specs.declared.limits.TheConstants.{INF}

-- a number in decimal; among paths and pairs INF is a word
abbrev pub number_text : Algorithm → ℕ → List ℕ
number_text Paths x = if x == INF then codes "infinity" else decimal x
number_text Levels x = decimal x
number_text Components x = decimal x
number_text Colours x = decimal x
number_text Cores x = decimal x
number_text Pairs x = if x == INF then codes "none" else decimal x

-- a line for each identifier: the identifier, one blank, the number at its place, LF
abbrev pub answer_text : Algorithm → List ℕ → List ℕ → List ℕ
answer_text kind (id ∷ ids) (x ∷ numbers) = decimal id ++ 32 ∷ number_text kind x ++ 10 ∷ answer_text kind ids numbers
answer_text kind _ _ = []
