use Rattle.std.proofs.Common.{◌≡◌, ◌∙◌, true, false, sym, ap, subst}
use Rattle.std.specs.List.{list_any}
use Rattle.scope_locks.specs.scope_pipe.Pipes.{PipeView, Flies}
use Rattle.scope_locks.specs.contracts.scope_pipe.pipes.ScopePipe.{the_view}
use Rattle.scope_locks.proofs.scope_pipe.FlightLemmas.{is_at, flies_waiting, flies_ready, flies_not}
use Rattle.scope_locks.proofs.scope_pipe.pipes.ScopePipe.flies.Goals as goal

pub returns-then-waits-clause-yes : goal.returns-then-waits-clause-yes
returns-then-waits-clause-yes c = λ waits.
    let p = the_view c.self.inside in
    let is : list_any (is_at c.args.v) p.waiting ≡ true = sym (ap (list_any (is_at c.args.v)) c.deref.ensures.value) ∙ (sym c.has_centre-waits.ensures ∙ waits) in
    subst (λ (q : PipeView). Flies q c.args.v) c.self.view_is (flies_waiting p c.args.v c.self.invariant.waiting_apart is)

pub returns-else-waits-clause-yes : goal.returns-else-waits-clause-yes
returns-else-waits-clause-yes c = λ ready.
    let p = the_view c.self.inside in
    let is : list_any (is_at c.args.v) p.ready ≡ true = sym (ap (list_any (is_at c.args.v)) c.deref-2.ensures.value) ∙ (sym c.has_centre-is_ready.ensures ∙ ready) in
    subst (λ (q : PipeView). Flies q c.args.v) c.self.view_is (flies_ready p c.args.v c.self.invariant.ready_apart c.self.invariant.across is)

pub returns-else-waits-clause-not : goal.returns-else-waits-clause-not
returns-else-waits-clause-not c = λ ready flies.
    let p = the_view c.self.inside in
    let waits : list_any (is_at c.args.v) p.waiting ≡ false = sym (ap (list_any (is_at c.args.v)) c.deref.ensures.value) ∙ (sym c.has_centre-waits.ensures ∙ c.if-waits.false) in
    let none : list_any (is_at c.args.v) p.ready ≡ false = sym (ap (list_any (is_at c.args.v)) c.deref-2.ensures.value) ∙ (sym c.has_centre-is_ready.ensures ∙ ready) in
    flies_not p c.args.v waits none (subst (λ (q : PipeView). Flies q c.args.v) (sym c.self.view_is) flies)
