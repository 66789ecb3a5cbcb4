-- The list is what its values are.
use Rattle.std.proofs.Common.{◌≡◌, ◌∙◌, [], Err, None, Some, ap, map, option_map, sym}
use Rattle.gl_base.specs.declared.job_faults.Key.TheVariants as key
use Rattle.serde_json.specs.View.{view}
use Rattle.job_io.specs.declared.job_config.values.KeyFault.TheVariants.{OutOfRange, WrongKind}
use Rattle.job_io.specs.job_config.Failures.{failures_of, first_faulty, unless_faulty}
use Rattle.job_io.proofs.job_config.Lists.{each_of, listed, none_each, some_each}
use Rattle.job_io.proofs.job_config.failures.read_failures.Goals as goal

pub returns-in_default-2-clause-fault : goal.returns-in_default-2-clause-fault
returns-in_default-2-clause-fault c = λ f is.
    let vs = c.in-Some-as_array.values.now.items in
    let each : each_of vs ≡ None = ap each_of (sym c.deref.ensures.value) ∙ sym c.in_ok-failures.ensures ∙ ap (option_map (λ v. v.items)) c.in_default-2.is in
    let same : WrongKind key.Failures ≡ f = cc in
    ap (λ o. failures_of c.args.machines (option_map (λ x. view x.now) o)) c.in-Some.is
    ∙ listed c.args.machines (view c.in-Some.value.now) vs c.in-Some-as_array.ensures ∙ none_each c.args.machines (map view vs) each ∙ ap Err same

pub returns-in-None-clause-ok : goal.returns-in-None-clause-ok
returns-in-None-clause-ok c =
    let vs = c.in-Some-as_array.values.now.items in
    let fs = c.in-Some-2.failures.items in
    let each : each_of vs ≡ Some fs = ap each_of (sym c.deref.ensures.value) ∙ sym c.in_ok-failures.ensures ∙ ap (option_map (λ v. v.items)) c.in-Some-2.is in
    let good : first_faulty c.args.machines [] fs ≡ None = ap (first_faulty c.args.machines []) (sym c.deref-2.ensures.value) ∙ sym c.first_out_of_range.ensures ∙ c.in-None.is in
    ap (λ o. failures_of c.args.machines (option_map (λ x. view x.now) o)) c.in-Some.is
    ∙ listed c.args.machines (view c.in-Some.value.now) vs c.in-Some-as_array.ensures ∙ some_each c.args.machines (map view vs) fs each
    ∙ ap (λ o. unless_faulty o fs) good

pub returns-in-Some-first_out_of_range-clause-fault : goal.returns-in-Some-first_out_of_range-clause-fault
returns-in-Some-first_out_of_range-clause-fault c = λ f is.
    let vs = c.in-Some-as_array.values.now.items in
    let fs = c.in-Some-2.failures.items in
    let place = c.in-Some-first_out_of_range.place in
    let each : each_of vs ≡ Some fs = ap each_of (sym c.deref.ensures.value) ∙ sym c.in_ok-failures.ensures ∙ ap (option_map (λ v. v.items)) c.in-Some-2.is in
    let bad : first_faulty c.args.machines [] fs ≡ Some place = ap (first_faulty c.args.machines []) (sym c.deref-2.ensures.value) ∙ sym c.first_out_of_range.ensures ∙ c.in-Some-first_out_of_range.is in
    let same : OutOfRange key.Failures place ≡ f = cc in
    ap (λ o. failures_of c.args.machines (option_map (λ x. view x.now) o)) c.in-Some.is
    ∙ listed c.args.machines (view c.in-Some.value.now) vs c.in-Some-as_array.ensures ∙ some_each c.args.machines (map view vs) fs each
    ∙ ap (λ o. unless_faulty o fs) bad ∙ ap Err same
