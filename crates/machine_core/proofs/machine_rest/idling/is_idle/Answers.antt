-- Each look settles it, or goes on.
use Rattle.std.proofs.Common.{◌≡◌, ◌≢◌, ◌<◌, ◌≤◌, ℕ, All, List, subst, sym, ap, ◌∙◌, arith}
use Rattle.std.specs.List.{list_any}
use Rattle.scope_locks.specs.scope_pipe.Entered.{EnteredView}
use Rattle.scope_locks.specs.scope_pipe.Pipes.{flight_count}
use Rattle.machine_core.specs.machine_rest.Inner.Looking.{AsksForOwn, is_at_lock}
use Rattle.machine_core.proofs.machine_rest.IdleLemmas.{flights_busy, rests_or_not, waited_busy}
use Rattle.machine_core.proofs.machine_rest.ScopeLemmas.{ask_for_own, somebody_there}
use Rattle.machine_core.proofs.machine_rest.idling.is_idle.Goals as goal

pub somebody_waits-requires : goal.somebody_waits-requires
somebody_waits-requires c =
    subst (λ (es : List EnteredView). All (AsksForOwn c.args.core.now.locks) es) (sym c.entered_ones.ensures.ones)
    (ask_for_own c.args.core.now c.requires.orderly c.entered_ones.ensures.apart)

some_fly : (n many : ℕ) → n ≡ many → 0 < n → many ≢ 0
some_fly n many is some none = omega (arith, is, some, none)

none_flies : (n many : ℕ) → n ≡ many → n ≤ 0 → many ≡ 0
none_flies n many is none = omega (arith, is, none)

pub returns-then-flight_count-gt0 : goal.returns-then-flight_count-gt0
returns-then-flight_count-gt0 c st here =
    sym (flights_busy st c.args.core.now (some_fly c.flight_count.result (flight_count c.args.core.now.pipe) c.flight_count.ensures c.if-flight_count-gt0.true))

pub returns-then-somebody_waits : goal.returns-then-somebody_waits
returns-then-somebody_waits c st here =
    let waits =
    ap (list_any (is_at_lock c.args.core.now.locks)) (sym c.entered_ones.ensures.ones)
    ∙ sym c.somebody_waits.ensures
    ∙ c.if-somebody_waits.true in
    sym (waited_busy st c.args.core.now here
    (somebody_there c.args.core.now c.requires.orderly (ask_for_own c.args.core.now c.requires.orderly c.entered_ones.ensures.apart) waits))

pub returns : goal.returns
returns c =
    let nobody =
    ap (list_any (is_at_lock c.args.core.now.locks)) (sym c.entered_ones.ensures.ones)
    ∙ sym c.somebody_waits.ensures
    ∙ c.if-somebody_waits.false in
    rests_or_not c.args.core.now c.has_work.result c.requires.orderly c.requires.places
    (none_flies c.flight_count.result (flight_count c.args.core.now.pipe) c.flight_count.ensures c.if-flight_count-gt0.false) nobody c.has_work.ensures.some c.has_work.ensures.none
