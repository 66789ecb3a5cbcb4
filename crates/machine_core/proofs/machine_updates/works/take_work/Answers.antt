-- Rows alone are others than before.
use Rattle.std.proofs.Common.{◌≡◌, sym, ap, ◌∙◌, subst, refl}
use Rattle.gl_base.specs.declared.numbers.Vertex.{Vertex}
use Rattle.gl_base.specs.declared.scopes.ScopeId.{ScopeId}
use Rattle.local_graph.specs.declared.works.Work.{Work}
use Rattle.partition.specs.declared.machine_numbers.keeping.Numbers.{Numbers}
use Rattle.partition.specs.machine_numbers.Steps.{HasTakenOut}
use Rattle.machine_core.specs.declared.machine_parts.cores.Core.{Core}
use Rattle.machine_core.specs.machine_parts.Parts.{part_of}
use Rattle.machine_core.specs.machine_parts.Order.{IsOrderly, KnowsPlaces}
use Rattle.machine_core.specs.machine_parts.Settings.{SameSettings}
use Rattle.machine_core.specs.machine_updates.Works.{IsOut, HasItsRow}
use Rattle.machine_core.proofs.machine_updates.WorkLemmas.{with_rows, order_with, places_with, part_with, taken_ready, taken_out, taken_row, taken_others, taken_settings}
use Rattle.machine_core.proofs.machine_updates.works.take_work.Goals as goal

now_is : (m : Core) (n : Numbers) → n ≡ record m.numbers { local = record m.numbers.local { rows = n.local.rows } } → record m { numbers = n } ≡ with_rows m n.local.rows m.numbers.local.numbers
now_is m n is = ap (λ (k : Numbers). record m { numbers = k }) is

taken_is : (m : Core) (n : Numbers) (s : ScopeId) (v : Vertex) (w : Work) → HasTakenOut m.numbers n s v w → HasTakenOut m.numbers (with_rows m n.local.rows m.numbers.local.numbers).numbers s v w
taken_is m n s v w taken = subst (λ (k : Numbers). HasTakenOut m.numbers k s v w) taken.rest taken

pub returns-clause-rest : goal.returns-clause-rest
returns-clause-rest c = now_is c.args.core.now c.take_work.new.self c.take_work.ensures.rest

pub returns-clause-out : goal.returns-clause-out
returns-clause-out c =
    let m = c.args.core.now in
    let n = c.take_work.new.self in
    let f = c.args.flight in
    subst (λ (k : Core). IsOut k c.take_work.result) (sym (now_is m n c.take_work.ensures.rest))
    (taken_out m n.local.rows f.scope f.centre c.take_work.result c.requires.orderly c.requires.can (taken_is m n f.scope f.centre c.take_work.result c.take_work.ensures))

pub returns-clause-row : goal.returns-clause-row
returns-clause-row c st part =
    let m = c.args.core.now in
    let n = c.take_work.new.self in
    let f = c.args.flight in
    subst (λ (k : Core). HasItsRow st k c.take_work.result) (sym (now_is m n c.take_work.ensures.rest))
    (taken_row m n.local.rows f.scope f.centre c.take_work.result c.requires.orderly c.requires.can (taken_is m n f.scope f.centre c.take_work.result c.take_work.ensures) st part)

pub returns-clause-part : goal.returns-clause-part
returns-clause-part c =
    let m = c.args.core.now in
    let n = c.take_work.new.self in
    ap part_of (now_is m n c.take_work.ensures.rest) ∙ part_with m n.local.rows m.numbers.local.numbers (λ e. refl)

pub returns-clause-orderly : goal.returns-clause-orderly
returns-clause-orderly c =
    let m = c.args.core.now in
    let n = c.take_work.new.self in
    let f = c.args.flight in
    subst IsOrderly (sym (now_is m n c.take_work.ensures.rest))
    (order_with m n.local.rows m.numbers.local.numbers
    (taken_ready m n.local.rows f.scope f.centre c.take_work.result c.requires.orderly c.requires.can (taken_is m n f.scope f.centre c.take_work.result c.take_work.ensures)) c.requires.orderly)

pub returns-clause-settings : goal.returns-clause-settings
returns-clause-settings c =
    let m = c.args.core.now in
    let n = c.take_work.new.self in
    let f = c.args.flight in
    subst (SameSettings m) (sym (now_is m n c.take_work.ensures.rest))
    (taken_settings m n.local.rows f.scope f.centre c.take_work.result c.requires.orderly c.requires.can (taken_is m n f.scope f.centre c.take_work.result c.take_work.ensures))

pub returns-clause-others : goal.returns-clause-others
returns-clause-others c w out =
    let m = c.args.core.now in
    let n = c.take_work.new.self in
    let f = c.args.flight in
    subst (λ (k : Core). IsOut k w) (sym (now_is m n c.take_work.ensures.rest))
    (taken_others m n.local.rows f.scope f.centre c.take_work.result c.requires.orderly c.requires.can (taken_is m n f.scope f.centre c.take_work.result c.take_work.ensures) w out)

pub returns-clause-places : goal.returns-clause-places
returns-clause-places c knows =
    let m = c.args.core.now in
    let n = c.take_work.new.self in
    subst KnowsPlaces (sym (now_is m n c.take_work.ensures.rest)) (places_with m n.local.rows m.numbers.local.numbers knows)
