-- What the values of a job hold while it is read, in the words of the definitions.
use Rattle.std.specs.Prelude.{option_map}
use Rattle.job_io.specs.declared.job_config.fields.Fields.{Fields}
use Rattle.job_io.specs.declared.job_config.fields.Input.{Input}
use Rattle.job_io.specs.declared.job_config.fields.Places.{Places}
use Rattle.job_io.specs.job_config.Fields.{JobFields}
use Rattle.job_io.specs.job_config.Inner.Groups.{InputFields, PlaceFields, fields_in}

abbrev pub input_view : Input → InputFields
input_view i = record {
  vertices = i.vertices.now;
  edges = i.edges.now;
  directed = i.directed;
  algorithm = i.algorithm;
  source = i.source;
}

abbrev pub places_view : Places → PlaceFields
places_view p = record {
  store = option_map (λ s. s.now) p.store;
  atoms_at = option_map (λ s. s.now) p.atoms_at;
  order = option_map (λ s. s.now) p.order;
}

abbrev pub fields_view : Fields → JobFields
fields_view f = fields_in (input_view f.input) f.settings (places_view f.places)
