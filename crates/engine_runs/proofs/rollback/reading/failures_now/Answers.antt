-- Counted by the flags.
use Rattle.std.proofs.Common.{◌<◌, ◌∙◌, List, Bool, ap, false, length, subst, sym, ℕ}
use Rattle.std.specs.Prelude.{slice_index_or}
use Rattle.engine_runs.proofs.rollback.Keepings.{machines_same}
use Rattle.engine_runs.proofs.rollback.reading.failures_now.Goals as goal

pub returns : goal.returns
returns g c = λ st o events x is.
    let many = c.in_ok-flags.ensures.many ∙ is.code.many ∙ machines_same st o events in
    c.count_failed.ensures st x (ap length c.deref.ensures.value ∙ many) (λ a low.
    sym (c.in_ok-flags.ensures.each a (subst (λ (n : ℕ). a < n) (sym (is.code.many ∙ machines_same st o events)) low) st o events x is)
    ∙ ap (λ (flags : List Bool). slice_index_or flags a false) (sym c.deref.ensures.value))
