use Rattle.snapshot_machines.proofs.snapshot_receive.NewsLemmas.{news_come}
use Rattle.snapshot_machines.proofs.snapshot_receive.laws.news_can_be_learned.Goals as goal

pub returns : goal.returns
returns t = news_come
