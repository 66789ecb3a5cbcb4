-- What the store of a job is for.
use Rattle.std.specs.Prelude.{ℕ, if◌then◌else◌, length, Option, None, Some}
use Rattle.sha2.specs.Sha256.{sha256}
use Rattle.gl_base.specs.declared.jobs.Algorithm.{Algorithm}
use Rattle.gl_base.specs.declared.jobs.Algorithm.TheVariants.{Levels, Components, Paths, Colours, Cores, Pairs}
use Rattle.graph_core.specs.DataGraph.{DataGraph, size}
use Rattle.graph_core.specs.Digest.{digest_bytes}
use Rattle.job_io.specs.job_config.Fields.{JobFields}
use Rattle.store.specs.declared.store_format.header.Header.{Header}

-- the number that an algorithm has in a store; pairs have none there
abbrev pub algorithm_number : Algorithm → ℕ
algorithm_number Levels = 1
algorithm_number Components = 2
algorithm_number Paths = 3
algorithm_number Colours = 4
algorithm_number Cores = 5
algorithm_number Pairs = 0

-- a number, or 0
abbrev pub number_or_zero : Option ℕ → ℕ
number_or_zero None = 0
number_or_zero (Some number) = number

-- the source that an algorithm starts from, and 0 where it has none
abbrev pub used_source : Algorithm → Option ℕ → ℕ
used_source Levels source = number_or_zero source
used_source Components source = 0
used_source Paths source = number_or_zero source
used_source Colours source = 0
used_source Cores source = 0
used_source Pairs source = 0

-- what the store of a job on this graph is for
abbrev pub header_for : JobFields → DataGraph → Header
header_for job g =
    record {
      machines = job.machines;
      algorithm = algorithm_number job.algorithm;
      directed = if g.directed then 1 else 0;
      source = used_source job.algorithm job.source;
      n = size g;
      m = length g.edges;
      digest = record { 0 = sha256 (digest_bytes g) };
    }
