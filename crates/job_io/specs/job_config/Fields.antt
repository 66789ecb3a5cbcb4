-- The values of a job's keys but the failures, key by key in their order.
use Rattle.std.specs.Prelude.{◌*◌, ℕ, Bool, Option, Some, None, Result, Ok, Err, codes, false, if◌then◌else◌, length, true}
use Rattle.std.specs.Option.{option_map_or}
use Rattle.std.specs.Str.{bytes_eq}
use Rattle.gl_base.specs.declared.limits.TheConstants.{MAX_ID, MAX_NAME_BYTES}
use Rattle.gl_base.specs.declared.job_faults.Key.TheVariants as key
use Rattle.gl_base.specs.declared.jobs.Algorithm.{Algorithm}
use Rattle.gl_base.specs.declared.jobs.Algorithm.TheVariants.{Levels, Components, Paths, Colours, Cores, Pairs}
use Rattle.gl_base.specs.declared.jobs.EngineKind.{EngineKind}
use Rattle.gl_base.specs.declared.jobs.EngineKind.TheVariants.{Locking}
use Rattle.serde_json.specs.Data.{Data}
use Rattle.serde_json.specs.Find.{get}
use Rattle.job_io.specs.declared.job_config.values.KeyFault.{KeyFault}
use Rattle.job_io.specs.declared.job_config.values.KeyFault.TheVariants.{Missing, OutOfRange}
use Rattle.gl_base.specs.Results.{and_then}
use Rattle.gl_base.specs.Texts.{Text}
use Rattle.job_io.specs.job_config.Values.{algorithm_in, engine_in, flag_in, whole_number_in, optional, or_default, required, text_in}

pub record JobFields : Type 0 where
  pub vertices : Text
  pub edges : Text
  pub directed : Bool
  pub algorithm : Algorithm
  pub source : Option ℕ
  pub engine : EngineKind
  pub machines : ℕ
  pub atoms : ℕ
  pub pipeline : ℕ
  pub budget : ℕ
  pub window : ℕ
  pub store : Option Text
  pub atoms_at : Option Text
  pub order : Option Text

-- levels and paths go out from a source
abbrev pub needs_source : Algorithm → Bool
needs_source Levels = true
needs_source Components = false
needs_source Paths = true
needs_source Colours = false
needs_source Cores = false
needs_source Pairs = false

abbrev pub source_of : Algorithm → Option Data → Result (Option ℕ) KeyFault
source_of algorithm None =
    if needs_source algorithm then Err (Missing key.Source) else Ok None
source_of algorithm (Some d) = and_then (whole_number_in key.Source 0 MAX_ID d) (λ n. Ok (Some n))

-- the order is not written over the store
abbrev pub apart_from_store : Option Text → Option Text → Result (Option Text) KeyFault
apart_from_store store None = Ok None
apart_from_store store (Some order) = if option_map_or (bytes_eq order) store false
    then Err (OutOfRange key.Order (length order)) else Ok (Some order)

abbrev pub order_of : Option Text → Option Data → Result (Option Text) KeyFault
order_of store o = and_then (optional (text_in key.Order MAX_NAME_BYTES) o) (apart_from_store store)

-- the values, or the first fault
abbrev pub fields_of : Data → Result JobFields KeyFault
fields_of d =
    and_then (required key.Vertices (text_in key.Vertices MAX_NAME_BYTES) (get (codes "vertices") d)) (λ vertices.
    and_then (required key.Edges (text_in key.Edges MAX_NAME_BYTES) (get (codes "edges") d)) (λ edges.
    and_then (required key.Directed (flag_in key.Directed) (get (codes "directed") d)) (λ directed.
    and_then (required key.Algorithm algorithm_in (get (codes "algorithm") d)) (λ algorithm.
    and_then (source_of algorithm (get (codes "source") d)) (λ source.
    and_then (or_default Locking engine_in (get (codes "engine") d)) (λ engine.
    and_then (or_default 1 (whole_number_in key.Machines 1 16) (get (codes "machines") d)) (λ machines.
    and_then (or_default (4 * machines) (whole_number_in key.Atoms 1 1024) (get (codes "atoms") d)) (λ atoms.
    and_then (or_default 16 (whole_number_in key.Pipeline 1 256) (get (codes "pipeline") d)) (λ pipeline.
    and_then (or_default 16777216 (whole_number_in key.Budget 1 16777216) (get (codes "budget") d)) (λ budget.
    and_then (or_default 1048576 (whole_number_in key.Window 1 16777216) (get (codes "window") d)) (λ window.
    and_then (optional (text_in key.Store MAX_NAME_BYTES) (get (codes "store") d)) (λ store.
    and_then (optional (text_in key.AtomsAt 200) (get (codes "atoms_at") d)) (λ atoms_at.
    and_then (order_of store (get (codes "order") d)) (λ order.
    Ok (record {
      vertices = vertices;
      edges = edges;
      directed = directed;
      algorithm = algorithm;
      source = source;
      engine = engine;
      machines = machines;
      atoms = atoms;
      pipeline = pipeline;
      budget = budget;
      window = window;
      store = store;
      atoms_at = atoms_at;
      order = order;
    })))))))))))))))
