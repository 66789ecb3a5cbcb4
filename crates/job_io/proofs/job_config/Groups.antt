-- The values of a job's keys are those of three groups, one after another.
use Rattle.std.proofs.Common.{◌≡◌, Result, Ok, Err, refl, sym}
use Rattle.gl_base.specs.Results.{and_then}
use Rattle.serde_json.specs.Data.{Data}
use Rattle.job_io.specs.declared.job_config.fields.Settings.{Settings}
use Rattle.job_io.specs.declared.job_config.values.KeyFault.{KeyFault}
use Rattle.job_io.specs.job_config.Fields.{JobFields, fields_of}
use Rattle.job_io.specs.job_config.Inner.Groups.{InputFields, PlaceFields, fields_in, input_of, places_of, settings_of}

and_then-and_then : {S T U E : Type 0} (r : Result S E) (f : S → Result T E) (g : T → Result U E)
    → and_then (and_then r f) g ≡ and_then r (λ x. and_then (f x) g)
and_then-and_then (Ok x) f g = refl
and_then-and_then (Err e) f g = refl

-- the values of the groups as one, or the first fault
abbrev grouped : Result InputFields KeyFault → Result Settings KeyFault → Result PlaceFields KeyFault → Result JobFields KeyFault
grouped input settings places =
    and_then input (λ i. and_then settings (λ s. and_then places (λ p. Ok (fields_in i s p))))

fields_in_groups : (d : Data) → fields_of d ≡ grouped (input_of d) (settings_of d) (places_of d)
unfolding input_of settings_of places_of
fields_in_groups d = sym (simp and_then-and_then)

pub no_input : (d : Data) (e : KeyFault) → input_of d ≡ Err e → fields_of d ≡ Err e
no_input d e input = rw (fields_in_groups d, input) refl

pub no_settings : (d : Data) (i : InputFields) (e : KeyFault)
    → input_of d ≡ Ok i → settings_of d ≡ Err e → fields_of d ≡ Err e
no_settings d i e input settings = rw (fields_in_groups d, input, settings) refl

pub no_places : (d : Data) (i : InputFields) (s : Settings) (e : KeyFault)
    → input_of d ≡ Ok i → settings_of d ≡ Ok s → places_of d ≡ Err e → fields_of d ≡ Err e
no_places d i s e input settings places = rw (fields_in_groups d, input, settings, places) refl

pub all_fields : (d : Data) (i : InputFields) (s : Settings) (p : PlaceFields)
    → input_of d ≡ Ok i → settings_of d ≡ Ok s → places_of d ≡ Ok p → fields_of d ≡ Ok (fields_in i s p)
all_fields d i s p input settings places = rw (fields_in_groups d, input, settings, places) refl
