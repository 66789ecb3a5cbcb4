-- Rows and numbers of edges alone are others than before.
use Rattle.std.proofs.Common.{◌≡◌, ℕ, ◌==◌, Some, if◌then◌else◌, sym, ap, ◌∙◌, subst}
use Rattle.local_graph.specs.declared.works.Work.{Work}
use Rattle.partition.specs.declared.machine_numbers.keeping.Numbers.{Numbers}
use Rattle.machine_core.specs.declared.machine_parts.cores.Core.{Core}
use Rattle.machine_core.specs.machine_parts.Parts.{links_at, part_of}
use Rattle.machine_core.specs.machine_parts.Order.{IsOrderly, KnowsPlaces}
use Rattle.machine_core.specs.machine_parts.Settings.{IsPartOf}
use Rattle.machine_core.specs.machine_updates.Works.{IsOut}
use Rattle.machine_core.proofs.machine_updates.WorkLemmas.{with_rows, order_with, places_with, part_with, put_ready, put_others, put_settings}
use Rattle.machine_core.proofs.machine_updates.works.put_back.Goals as goal

now_is : (m : Core) (n : Numbers) → n ≡ record m.numbers { local = record m.numbers.local { rows = n.local.rows; numbers = n.local.numbers } } → record m { numbers = n } ≡ with_rows m n.local.rows n.local.numbers
now_is m n is = ap (λ (k : Numbers). record m { numbers = k }) is

back_is : (m : Core) (n : Numbers) (w : Work) → n ≡ record m.numbers { local = record m.numbers.local { rows = n.local.rows; numbers = n.local.numbers } }
    → ((x : ℕ) → links_at n.local x ≡ (if x == w.vertex.0 then Some w.row.links.items else links_at m.numbers.local x))
    → (x : ℕ) → links_at (with_rows m n.local.rows n.local.numbers).numbers.local x ≡ (if x == w.vertex.0 then Some w.row.links.items else links_at m.numbers.local x)
back_is m n w is back x = sym (ap (λ (k : Numbers). links_at k.local x) is) ∙ back x

pub returns-clause-rest : goal.returns-clause-rest
returns-clause-rest c = now_is c.args.core.now c.put_back.new.self c.put_back.ensures.rest

pub returns-clause-part : goal.returns-clause-part
returns-clause-part c =
    let l = c.put_back.new.self.local in
    ap part_of (now_is c.args.core.now c.put_back.new.self c.put_back.ensures.rest) ∙ part_with c.args.core.now l.rows l.numbers c.put_back.ensures.edge

pub returns-clause-orderly : goal.returns-clause-orderly
returns-clause-orderly c =
    let m = c.args.core.now in
    let n = c.put_back.new.self in
    let back = back_is m n c.args.work c.put_back.ensures.rest c.put_back.ensures.back in
    subst IsOrderly (sym (now_is m n c.put_back.ensures.rest))
    (order_with m n.local.rows n.local.numbers (put_ready m n.local.rows n.local.numbers c.args.work.vertex.0 c.args.work.row.links.items back c.requires.orderly) c.requires.orderly)

pub returns-clause-settings : goal.returns-clause-settings
returns-clause-settings c st part row =
    let m = c.args.core.now in
    let n = c.put_back.new.self in
    let back = back_is m n c.args.work c.put_back.ensures.rest c.put_back.ensures.back in
    subst (IsPartOf st) (sym (now_is m n c.put_back.ensures.rest)) (put_settings m n.local.rows n.local.numbers c.args.work.vertex.0 c.args.work.row.links.items back c.put_back.ensures.many_edges st part row)

pub returns-clause-others : goal.returns-clause-others
returns-clause-others c w out off =
    let m = c.args.core.now in
    let n = c.put_back.new.self in
    let back = back_is m n c.args.work c.put_back.ensures.rest c.put_back.ensures.back in
    subst (λ (k : Core). IsOut k w) (sym (now_is m n c.put_back.ensures.rest)) (put_others m n.local.rows n.local.numbers c.args.work.vertex.0 c.args.work.row.links.items back c.put_back.ensures.edge w out off)

pub returns-clause-places : goal.returns-clause-places
returns-clause-places c knows =
    let m = c.args.core.now in
    let n = c.put_back.new.self in
    subst KnowsPlaces (sym (now_is m n c.put_back.ensures.rest)) (places_with m n.local.rows n.local.numbers knows)
