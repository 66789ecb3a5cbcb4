-- What a job holds, in the words of the definitions.
use Rattle.gl_base.specs.declared.jobs.Job.{Job}
use Rattle.job_io.specs.job_config.Jobs.{JobSayings}

abbrev pub job_view : Job → JobSayings
job_view j = record {
  fields = record {
    vertices = j.vertices;
    edges = j.edges;
    directed = j.directed;
    algorithm = j.algorithm;
    source = j.source;
    engine = j.engine;
    machines = j.machines;
    atoms = j.atoms;
    pipeline = j.pipeline;
    budget = j.budget;
    window = j.window;
    store = j.store;
    atoms_at = j.atoms_at;
    order = j.order;
  };
  failures = j.failures.items;
}
