use Rattle.std.proofs.Common.{◌≡◌, ◌∙◌, ◌<◌, ℕ, List, Some, slice_get, sym, ap, subst}
use Rattle.gl_base.specs.declared.numbers.MachineNo.{MachineNo}
use Rattle.gl_base.specs.declared.numbers.Vertex.{Vertex}
use Rattle.gl_base.specs.declared.scopes.ScopeId.{ScopeId}
use Rattle.graph_core.specs.DataGraph.{size}
use Rattle.full_cluster.specs.declared.machines.ScopeStand.{ScopeStand}
use Rattle.full_cluster.specs.declared.messages.FullMessage.{FullMessage}
use Rattle.full_cluster.specs.FullMachines.{CanComeIn, IsPreparedFor, IsReceivable}
use Rattle.full_cluster.specs.ScopeMaps.{value_of}
use Rattle.full_cluster.proofs.PassingLemmas.{first_below}
use Rattle.full_cluster.proofs.machines.FullMachine.prepare.Goals as goal

pub reserve-requires-clause-lock : goal.reserve-requires-clause-lock
reserve-requires-clause-lock c = λ y is.
    let part : List Vertex = c.in_ok-part-in-Gather.part.items in
    let at : slice_get part 0 ≡ Some y = ap (λ (xs : List Vertex). slice_get xs 0) (sym c.deref.ensures.value) ∙ sym c.first_vertex.ensures ∙ is in
    subst (λ (n : ℕ). y.0 < n) (sym c.requires.sized.locks) (first_below part (size c.args.division.now.graph.now) y c.in_ok-part-in-Gather.ensures.within at)

pub returns-in_ok-reserve-in-Gather-clause-prepared :
    goal.returns-in_ok-reserve-in-Gather-clause-prepared
returns-in_ok-reserve-in-Gather-clause-prepared c =
    let s = c.in-Gather.scope in
    let stand : ScopeStand = record { centre = c.in-Gather.centre; part = c.in_ok-part-in-Gather.part; place = 0; rest = c.in-Gather.rest; seen = c.in-Gather.seen } in
    let can : CanComeIn c.args.self.now s stand.centre stand.rest.items = subst (IsReceivable c.args.self.now) c.in-Gather.is c.requires.receivable in
    subst (λ (m : FullMessage). IsPreparedFor c.reserve.new.self m stand.part) (sym c.in-Gather.is)
    (record {
      none = ap (λ (es : List (ScopeId × ScopeStand)). value_of es s) c.reserve.ensures.stands ∙ can.none;
      room = c.in_ok-reserve-in-Gather.ensures.room stand
          (c.first_vertex.ensures ∙ ap (λ (xs : List Vertex). slice_get xs 0) c.deref.ensures.value)
          (c.first_machine.ensures ∙ ap (λ (xs : List MachineNo). slice_get xs 0) c.deref-in-Gather.ensures.value);
    })
