use Rattle.std.proofs.Common.{◌≡◌, ◌==◌, ℕ, List, Some, if◌then◌else◌, length, ap, ◌∙◌, refl, sym, subst}
use Rattle.gl_base.specs.declared.scopes.Datum.{Datum}
use Rattle.update_api.specs.declared.links.Link.{Link}
use Rattle.partition.specs.machine_numbers.Views.{HasEdge, LocalView, links_at, place_at, row_at}
use Rattle.partition.proofs.machine_numbers.FinishLemmas.{run_on}
use Rattle.partition.proofs.machine_numbers.keeping.Numbers.finish_work.Goals as goal

pub returns-clause-run : goal.returns-clause-run
returns-clause-run c = λ k at.
    let there = ap (λ (l : LocalView). place_at l c.args.work.vertex.0) c.renew.ensures.rest ∙ at in
    run_on c.args.self.now.tasks c.end_task.new.tasks c.wake_along.new.tasks k (c.end_task.ensures.run k there) c.wake_along.ensures.rest

pub returns-clause-local : goal.returns-clause-local
returns-clause-local c =
    let old = c.args.self.now.local in
    let new = c.put_row.new.self in
    let put = c.put_row.ensures.rest in
    put
    ∙ ap (λ (l : LocalView). record l { rows = new.rows; numbers = new.numbers }) c.renew.ensures.rest
    ∙ ap (λ (kept : List Datum). record old { kept = kept; rows = new.rows; numbers = new.numbers }) (sym (ap (λ (l : LocalView). l.kept) put))

pub returns-clause-back : goal.returns-clause-back
returns-clause-back c =
    let new = c.put_row.new.self in
    let v = c.args.work.vertex.0 in
    subst (λ (ls : List Link). (x : ℕ) → links_at new x ≡ (if x == v then Some ls else links_at c.args.self.now.local x)) (sym c.requires.can.row)
    (subst (λ (l : LocalView). (x : ℕ) → links_at new x ≡ (if x == v then Some (row_at l v) else links_at l x)) c.renew.ensures.rest c.put_row.ensures.back)

pub returns-clause-ghosts : goal.returns-clause-ghosts
returns-clause-ghosts c = refl

pub returns-clause-edges : goal.returns-clause-edges
returns-clause-edges c = λ e has. c.put_row.ensures.edges e (subst (λ (l : LocalView). HasEdge l e) (sym c.renew.ensures.rest) has)

pub returns-clause-many_edges : goal.returns-clause-many_edges
returns-clause-many_edges c = c.put_row.ensures.many ∙ ap (λ (l : LocalView). length l.numbers) c.renew.ensures.rest

pub returns-clause-many_tasks : goal.returns-clause-many_tasks
returns-clause-many_tasks c = c.wake_along.ensures.many ∙ c.end_task.ensures.many

pub returns-clause-spare : goal.returns-clause-spare
returns-clause-spare c = (refl, refl)
