use Rattle.std.proofs.Common.{◌≡◌, ◌∙◌, Some, None, List, sym, ap, subst}
use Rattle.std.specs.List.{swap_remove}
use Rattle.gl_base.specs.scope_lists.Found.{StandsAt}
use Rattle.scope_locks.specs.scope_pipe.Entered.{EnteredView, entered_scope}
use Rattle.scope_locks.specs.scope_pipe.Pipes.{PipeView, entered_at, HasCome}
use Rattle.scope_locks.specs.contracts.scope_pipe.pipes.ScopePipe.{the_view}
use Rattle.gl_base.proofs.scope_lists.Edited.{found_swapped}
use Rattle.scope_locks.proofs.scope_pipe.EnteredLemmas.{is_the_one, entered_kept, leaves_keeps}
use Rattle.scope_locks.proofs.scope_pipe.pipes.ScopePipe.leave.Goals as goal

stands : (c : goal.After-centre-1) → StandsAt entered_scope c.self.inside.entered.items c.args.scope c.entered_place-place.result
stands c = subst (λ (es : List EnteredView). StandsAt entered_scope es c.args.scope c.entered_place-place.result) c.deref.ensures.value c.entered_place-place.ensures

pub invariant_of-self : goal.invariant_of-self
invariant_of-self c =
    let p = the_view c.self.inside in
    rw (c.take_entered.ensures.items, c.take_entered.ensures.room)
    (entered_kept p.serial p.width p.waiting p.ready p.entered (swap_remove p.entered c.entered_place-place.result c.take_entered.result) c.self.inside.waiting.cap c.self.inside.ready.cap c.self.inside.entered.cap c.self.invariant
    (leaves_keeps p.entered c.entered_place-place.result c.take_entered.result (stands c).inside (c.self.invariant.entered_apart, c.self.invariant.in_part)))

the_one : (c : goal.After-centre-1) (e : EnteredView) → entered_at c.args.self.now c.args.scope ≡ Some e → c.take_entered.result ≡ e
the_one c e is =
    is_the_one c.self.inside.entered.items c.args.scope c.entered_place-place.result c.take_entered.result e c.self.invariant.entered_apart (stands c) c.take_entered.ensures.value
    (ap (λ (q : PipeView). entered_at q c.args.scope) c.self.view_is ∙ is)

pub returns-clause-centre : goal.returns-clause-centre
returns-clause-centre c = λ e is. ap (λ (x : EnteredView). x.centre) (c.part.view_is ∙ the_one c e is)

pub returns-clause-part : goal.returns-clause-part
returns-clause-part c = λ e is. ap (λ (x : EnteredView). x.part) (c.part.view_is ∙ the_one c e is)

pub returns-clause-machines : goal.returns-clause-machines
returns-clause-machines c = λ e is. ap (λ (x : EnteredView). x.rest) (c.part.view_is ∙ the_one c e is)

pub returns-clause-gone : goal.returns-clause-gone
returns-clause-gone c =
    let p = the_view c.self.inside in
    let i = c.entered_place-place.result in
    subst (λ (q : PipeView). HasCome q (record p { entered = c.take_entered.new.entered.items }) c.args.scope None) c.self.view_is
    (subst (λ (es : List EnteredView). HasCome p (record p { entered = es }) c.args.scope None) (sym c.take_entered.ensures.items)
    (record { entered = found_swapped entered_scope p.entered c.args.scope i c.take_entered.result c.self.invariant.entered_apart (stands c).inside (stands c).is }))
