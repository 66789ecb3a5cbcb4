use Rattle.std.proofs.Common.{◌≡◌, ◌∙◌, ◌<◌, true, List, ℕ, ap, arith}
use Rattle.gl_base.specs.declared.numbers.Vertex.{Vertex}
use Rattle.graph_core.specs.DataGraph.{size}
use Rattle.full_cluster.specs.WholeLocks.{has_vertex}
use Rattle.full_cluster.proofs.MachineLemmas.{all_released}
use Rattle.full_cluster.proofs.machines.FullMachine.receive_give.Goals as goal

pub returns-clause-received : goal.returns-clause-received
returns-clause-received c = λ st part given is gift along.
    let m = c.args.self.now in
    let s = c.args.scope in
    let pairs : List (Vertex × ℕ) = c.deref.result.now in
    let all : (x : ℕ) → x < size st.graph → part.holds x s ≡ true → has_vertex pairs x ≡ true = λ x low holds. ap (λ (ps : List (Vertex × ℕ)). has_vertex ps x) c.deref.ensures.value ∙ along x low holds in
    let count = c.release.ensures.count ∙ is.lock_count in
    record {
      numbers = c.take.ensures st m.me.0 part s given is.numbers gift;
      locks = record {
        each = λ x d inside.
            let held = (c.release.ensures.released part.holds part.queue is.locks).each x d inside in
            record { holders = λ t. all_released st s part.holds pairs all x (omega (arith, inside, count)) t ∙ held.holders t; waiting = held.waiting };
      };
      lock_count = count;
      log = is.log;
      serial = is.serial;
      flying = is.flying;
      flights = is.flights;
      flights_once = is.flights_once;
      stands = is.stands;
      stands_once = is.stands_once;
      ready = is.ready;
      ready_once = is.ready_once;
      out = is.out;
    }
