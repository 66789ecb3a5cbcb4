use Rattle.std.proofs.Common.{ℕ, refl}
use Rattle.std.specs.Global.{Vec}
use Rattle.gl_base.specs.declared.numbers.Vertex.{Vertex}
use Rattle.full_laws.specs.FullEffects.{received_full}
use Rattle.full_laws.specs.FullMessages.{Home}
use Rattle.full_cluster.specs.FullQueues.{seen_in}
use Rattle.full_cluster.specs.ScopeMaps.{value_of}
use Rattle.full_cluster.proofs.MachineLemmas.{lists_again, put_over}
use Rattle.full_cluster.proofs.machines.FullMachine.receive_home.Goals as goal

pub returns-clause-received : goal.returns-clause-received
returns-clause-received c = λ st part is.
    let m = c.args.self.now in
    record {
      numbers = lists_again st m.me.0 m.kept.numbers.items m.kept.edges.items m.kept.tasks.items part (received_full st m.me.0 (Home c.args.scope (seen_in c.args.seen.items)) part) refl refl is.numbers;
      locks = is.locks;
      lock_count = is.lock_count;
      log = is.log;
      serial = is.serial;
      flying = is.flying;
      flights = is.flights;
      flights_once = is.flights_once;
      stands = is.stands;
      stands_once = is.stands_once;
      ready = put_over (λ (seen : Vec (Vertex × ℕ)). seen_in seen.items) part.ready (value_of m.ready.entries.items) (value_of c.take.new.self.entries.items) (value_of c.put.new.self.entries.items) c.args.scope c.args.seen is.ready c.take.ensures.values c.put.ensures.values;
      ready_once = c.put.ensures.once;
      out = is.out;
    }

pub put-requires-clause-room : goal.put-requires-clause-room
put-requires-clause-room c = c.take.ensures.room_kept c.requires.room
