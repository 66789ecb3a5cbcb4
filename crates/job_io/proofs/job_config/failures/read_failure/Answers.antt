-- The members are two, and they are the two numbers.
use Rattle.std.proofs.Common.{◌∙◌, Some, ap, length, sym}
use Rattle.std.specs.Prelude.{option_and_then}
use Rattle.job_io.specs.job_config.Values.{whole_number}
use Rattle.serde_json.specs.View.{members_view, view}
use Rattle.job_io.specs.job_config.Failures.{keys_in}
use Rattle.job_io.proofs.job_config.Lists.{is_two, length-names, not_two, other_object, two_members}
use Rattle.job_io.proofs.job_config.failures.read_failure.Goals as goal

pub returns-then-len-ne2 : goal.returns-then-len-ne2
returns-then-len-ne2 c =
    let members = c.in_ok-members.members.now in
    sym (other_object (view c.args.value.now) (members_view members.entries) c.in_ok-members.ensures
    (not_two (length (keys_in (members_view members.entries))) c.len.result (length-names members.entries ∙ sym c.len.ensures.len) c.if-len-ne2.true))

pub returns : goal.returns
returns c =
    let members = c.in_ok-members.members.now in
    ap (λ n. Some (record { machine = record { 0 = n }; after = c.in_ok-after.after })) c.min.ensures
    ∙ sym (two_members (view c.args.value.now) (members_view members.entries) c.in_ok-machine.machine c.in_ok-after.after c.in_ok-members.ensures
    (is_two (length (keys_in (members_view members.entries))) c.len.result (length-names members.entries ∙ sym c.len.ensures.len) c.if-len-ne2.false)
    (sym (ap (option_and_then whole_number) c.in_ok-get.ensures) ∙ sym c.in_ok-machine.ensures)
    (sym (ap (option_and_then whole_number) c.in_ok-get-2.ensures) ∙ sym c.in_ok-after.ensures))
