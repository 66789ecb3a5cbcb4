-- The values of a job's keys in three groups, as they are read.
use Rattle.std.specs.Prelude.{◌*◌, ℕ, Bool, Option, Result, Ok, codes}
use Rattle.gl_base.specs.Results.{and_then}
use Rattle.gl_base.specs.Texts.{Text}
use Rattle.gl_base.specs.declared.limits.TheConstants.{MAX_NAME_BYTES}
use Rattle.gl_base.specs.declared.job_faults.Key.TheVariants as key
use Rattle.gl_base.specs.declared.jobs.Algorithm.{Algorithm}
use Rattle.gl_base.specs.declared.jobs.EngineKind.TheVariants.{Locking}
use Rattle.serde_json.specs.Data.{Data}
use Rattle.serde_json.specs.Find.{get}
use Rattle.job_io.specs.declared.job_config.fields.Settings.{Settings}
use Rattle.job_io.specs.declared.job_config.values.KeyFault.{KeyFault}
use Rattle.job_io.specs.job_config.Fields.{JobFields, order_of, source_of}
use Rattle.job_io.specs.job_config.Ranges.{IsWithin}
use Rattle.job_io.specs.job_config.Values.{algorithm_in, engine_in, flag_in, whole_number_in, optional, or_default, required, text_in}

-- the graph and the program
pub record InputFields : Type 0 where
  pub vertices : Text
  pub edges : Text
  pub directed : Bool
  pub algorithm : Algorithm
  pub source : Option ℕ

-- where what is written is kept
pub record PlaceFields : Type 0 where
  pub store : Option Text
  pub atoms_at : Option Text
  pub order : Option Text

-- the three groups as one
abbrev pub fields_in : InputFields → Settings → PlaceFields → JobFields
fields_in input settings places = record {
  vertices = input.vertices;
  edges = input.edges;
  directed = input.directed;
  algorithm = input.algorithm;
  source = input.source;
  engine = settings.engine;
  machines = settings.machines;
  atoms = settings.atoms;
  pipeline = settings.pipeline;
  budget = settings.budget;
  window = settings.window;
  store = places.store;
  atoms_at = places.atoms_at;
  order = places.order;
}

unfoldable pub input_of : Data → Result InputFields KeyFault
input_of d =
    and_then (required key.Vertices (text_in key.Vertices MAX_NAME_BYTES) (get (codes "vertices") d)) (λ vertices.
    and_then (required key.Edges (text_in key.Edges MAX_NAME_BYTES) (get (codes "edges") d)) (λ edges.
    and_then (required key.Directed (flag_in key.Directed) (get (codes "directed") d)) (λ directed.
    and_then (required key.Algorithm algorithm_in (get (codes "algorithm") d)) (λ algorithm.
    and_then (source_of algorithm (get (codes "source") d)) (λ source.
    Ok (record {
      vertices = vertices;
      edges = edges;
      directed = directed;
      algorithm = algorithm;
      source = source;
    }))))))

unfoldable pub settings_of : Data → Result Settings KeyFault
settings_of d =
    and_then (or_default Locking engine_in (get (codes "engine") d)) (λ engine.
    and_then (or_default 1 (whole_number_in key.Machines 1 16) (get (codes "machines") d)) (λ machines.
    and_then (or_default (4 * machines) (whole_number_in key.Atoms 1 1024) (get (codes "atoms") d)) (λ atoms.
    and_then (or_default 16 (whole_number_in key.Pipeline 1 256) (get (codes "pipeline") d)) (λ pipeline.
    and_then (or_default 16777216 (whole_number_in key.Budget 1 16777216) (get (codes "budget") d)) (λ budget.
    and_then (or_default 1048576 (whole_number_in key.Window 1 16777216) (get (codes "window") d)) (λ window.
    Ok (record {
      engine = engine;
      machines = machines;
      atoms = atoms;
      pipeline = pipeline;
      budget = budget;
      window = window;
    })))))))

unfoldable pub places_of : Data → Result PlaceFields KeyFault
places_of d =
    and_then (optional (text_in key.Store MAX_NAME_BYTES) (get (codes "store") d)) (λ store.
    and_then (optional (text_in key.AtomsAt 200) (get (codes "atoms_at") d)) (λ atoms_at.
    and_then (order_of store (get (codes "order") d)) (λ order.
    Ok (record { store = store; atoms_at = atoms_at; order = order }))))

-- each number of the settings is in its range
pub record HasSettings (s : Settings) : Type 0 where
  pub machines : IsWithin 1 16 s.machines
  pub atoms : IsWithin 1 1024 s.atoms
  pub pipeline : IsWithin 1 256 s.pipeline
  pub budget : IsWithin 1 16777216 s.budget
  pub window : IsWithin 1 16777216 s.window
