use Rattle.std.proofs.Common.{◌∙◌, ◌<◌, ℕ, pred, List, ◌∷◌, ◌++◌, [], refl, sym, ap, subst}
use Rattle.std.specs.List.{All}
use Rattle.gl_base.specs.declared.entries.Entry.{Entry}
use Rattle.gl_base.specs.declared.entries.Entry.TheVariants.{Go}
use Rattle.gl_base.specs.declared.numbers.Vertex.{Vertex}
use Rattle.full_laws.specs.FullEffects.{lent_full, updated_full}
use Rattle.full_laws.specs.FullParts.{FullPart}
use Rattle.full_cluster.specs.declared.machines.FullMachine.{FullMachine}
use Rattle.full_cluster.specs.FullMachines.{IsMachineOf}
use Rattle.full_cluster.specs.Given.{HasNumbers}
use Rattle.full_cluster.specs.ScopeMaps.{value_of}
use Rattle.full_cluster.proofs.EndLemmas.{pred_is, taken_out}
use Rattle.full_cluster.proofs.MachineLemmas.{lists_again}
use Rattle.full_cluster.proofs.machines.FullMachine.end_scope.Goals as goal

pub returns-clause-ended : goal.returns-clause-ended
returns-clause-ended c = λ st p part f divided is ready at lent made wakes.
    let m : FullMachine = c.args.self.now in
    let s = c.args.scope in
    let v = c.args.v.0 in
    let me = m.me.0 in
    let entry : Entry = Go m.me c.args.v c.args.ticket in
    let up : FullPart = updated_full st p me s v (lent_full f part) entry part in
    let mid : FullPart = record up { out = part.out; ready = part.ready; holds = part.holds } in
    let kept = c.write.new.self in
    let lists : HasNumbers st me kept up =
    subst (λ (a : ℕ). HasNumbers st a kept (updated_full st p a s v (lent_full f part) entry part)) ready.owned
    (c.write.ensures.updated st p part s f entry divided (subst (λ (a : ℕ). HasNumbers st a m.kept part) (sym ready.owned) is.numbers) lent ready.gathered.scope made wakes) in
    let there : IsMachineOf st (record m { kept = kept; log = c.push_reserved.new.self; flights = c.take.new.self; flying = c.one_less-self.result }) mid = record {
      numbers = lists_again st me kept.numbers.items kept.edges.items kept.tasks.items up mid refl refl lists;
      locks = is.locks;
      lock_count = is.lock_count;
      log = ap (λ (l : List Entry). l ++ entry ∷ []) is.log ∙ sym c.push_reserved.ensures.items;
      serial = is.serial;
      flying = ap pred is.flying ∙ pred_is m.flying ∙ sym c.one_less-self.ensures;
      flights = taken_out (λ (x : Vertex). x.0) part.flight (value_of m.flights.entries.items) (value_of c.take.new.self.entries.items) s is.flights c.take.ensures.values;
      flights_once = c.take.ensures.once;
      stands = is.stands;
      stands_once = is.stands_once;
      ready = is.ready;
      ready_once = is.ready_once;
      out = is.out;
    } in
    c.let_go.ensures.gone st mid f there at (λ x holds. ready.gathered.scope.inside x (ready.locks x holds))

pub let_go-requires-clause-seen : goal.let_go-requires-clause-seen
let_go-requires-clause-seen c = λ seen at.
    subst (λ (n : ℕ). All (λ pair. pair.0.0 < n) seen.items) (sym c.requires.sized.locks) (c.requires.seen seen at)
