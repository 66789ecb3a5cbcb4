-- The values are those of the three groups, or the first fault of a group.
use Rattle.std.proofs.Common.{rules, sym}
use Rattle.job_io.proofs.job_config.Groups.{all_fields, no_input, no_places, no_settings}
use Rattle.job_io.proofs.job_config.fields.read_fields.Goals as goal

pub returns-in_err-input-clause-value : goal.returns-in_err-input-clause-value
returns-in_err-input-clause-value c =
    let fault = no_input _ _ c.in_err-input.ensures.value in
    search rules

pub returns-in_err-settings-clause-value : goal.returns-in_err-settings-clause-value
returns-in_err-settings-clause-value c =
    let fault = no_settings _ _ _ c.in_ok-input.ensures.value (sym c.in_err-settings.ensures.value) in
    search rules

pub returns-in_err-places-clause-value : goal.returns-in_err-places-clause-value
returns-in_err-places-clause-value c =
    let fault = no_places _ _ _ _ c.in_ok-input.ensures.value (sym c.in_ok-settings.ensures.value) c.in_err-places.ensures in
    search rules

pub returns-clause-value : goal.returns-clause-value
returns-clause-value c =
    all_fields _ _ _ _ c.in_ok-input.ensures.value (sym c.in_ok-settings.ensures.value) c.in_ok-places.ensures
