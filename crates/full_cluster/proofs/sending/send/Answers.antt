use Rattle.full_cluster.proofs.sending.send.Goals as goal

pub returns-in-Some-clause-sent : goal.returns-in-Some-clause-sent
returns-in-Some-clause-sent c = λ st waits on are also.
    let taken = c.in-Some.ensures.some st waits are in
    record {
      first = taken.first;
      outbox = taken.after;
      links = c.put.ensures.put st on taken.first.message (c.reserve.ensures.same st on also) taken.is;
    }
