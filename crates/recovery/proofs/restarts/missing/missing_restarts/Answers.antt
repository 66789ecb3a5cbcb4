-- Behind those that the store has.
use Rattle.std.proofs.Common.{◌≡◌, ◌++◌, ◌∙◌, List, ap, drop, filter, length, rules, ℕ}
use Rattle.gl_base.specs.declared.entries.Entry.{Entry}
use Rattle.recovery.specs.restarts.Missing.{is_restart, restarts}
use Rattle.recovery.proofs.restarts.Lacking.{lacking, rest_taken, restarts_alone}
use Rattle.recovery.proofs.restarts.missing.missing_restarts.Goals as goal
use Rattle.recovery.proofs.restarts.missing.missing_restarts.Goals.{After-drop-begun-2}

lacks : (c : After-drop-begun-2) → filter is_restart c.args.stored.now ++ c.push_restarts.new.missing.items ≡ filter is_restart c.args.front.now ++ restarts c.args.failures c.args.ticket
lacks c =
    let known : List Entry = filter is_restart c.args.stored.now in
    let begun : List Entry = filter is_restart c.args.front.now in
    let counted : c.len-known.result ≡ length c.in_ok-restarts_of.field-0.items = search rules in
    let many : c.len-known.result ≡ length known = counted ∙ ap length c.in_ok-restarts_of.ensures in
    let taken : c.in_ok-missing.missing.items ≡ drop (length known) begun =
    c.in_ok-missing.ensures.items ∙ rest_taken c.len-known.result c.deref.result.now
    ∙ ap (drop c.len-known.result) (c.deref.ensures.value ∙ c.in_ok-begun.ensures) ∙ ap (λ (n : ℕ). drop n begun) many
    in
    lacking known begun c.push_restarts.new.missing.items c.args.failures c.args.ticket c.requires
    (c.in_ok-push_restarts.ensures ∙ ap (λ (es : List Entry). es ++ restarts c.args.failures c.args.ticket) taken)

pub returns-clause-lacks : goal.returns-clause-lacks
returns-clause-lacks c = lacks c

pub returns-clause-alone : goal.returns-clause-alone
returns-clause-alone c = restarts_alone (filter is_restart c.args.stored.now) c.push_restarts.new.missing.items c.args.front.now c.args.failures c.args.ticket (lacks c)
