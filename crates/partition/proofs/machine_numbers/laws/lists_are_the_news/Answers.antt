use Rattle.partition.proofs.machine_numbers.JoinLemmas.{news_are}
use Rattle.partition.proofs.machine_numbers.laws.lists_are_the_news.Goals as goal

pub returns : goal.returns
returns c = news_are
