-- What the updates of a job's program do.
use Rattle.std.specs.Prelude.{ℕ}
use Rattle.gl_base.specs.declared.jobs.Algorithm.{Algorithm}
use Rattle.gl_base.specs.declared.jobs.Algorithm.TheVariants as algorithm
use Rattle.update_api.specs.Updates.{Update, update_of_colours, update_of_components, update_of_cores, update_of_levels, update_of_paths}
use Rattle.update_api.specs.declared.woken.Woken.TheVariants.{Nobody}
use Rattle.graph_programs.specs.declared.selection.programs.JobProgram.{JobProgram}
use Rattle.graph_programs.specs.declared.selection.programs.JobProgram.TheVariants as program

-- what an update of the program does at a vertex
abbrev pub update_of_program : JobProgram → Update
update_of_program (program.Levels levels) = update_of_levels levels.source
update_of_program (program.Components components) = update_of_components
update_of_program (program.Paths paths) = update_of_paths paths.source
update_of_program (program.Colours colours) = update_of_colours
update_of_program (program.Cores cores) = update_of_cores

-- nothing is changed, and nobody woken
abbrev pub update_of_nothing : Update
update_of_nothing = record { start = λ id. id; number = λ own nears. own; mark = λ own near. near.mark; woken = λ old new. Nobody }

-- what an update of the algorithm does, from the vertex with the identifier `source` where it asks for one
abbrev pub update_of_algorithm : Algorithm → ℕ → Update
update_of_algorithm algorithm.Levels source = update_of_levels source
update_of_algorithm algorithm.Components source = update_of_components
update_of_algorithm algorithm.Paths source = update_of_paths source
update_of_algorithm algorithm.Colours source = update_of_colours
update_of_algorithm algorithm.Cores source = update_of_cores
update_of_algorithm algorithm.Pairs source = update_of_nothing  -- for an update of pairs writes neighbours too, and is none of these
