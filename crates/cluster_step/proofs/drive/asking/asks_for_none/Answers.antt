-- Nobody asks where the coordinator is settled and no word is on its way.
use Rattle.cluster_step.proofs.drive.asking.asks_for_none.Goals as goal

pub returns : goal.returns
returns g c = λ yes st o events x is stored half. record {
  stored = stored;
  half = half;
  quiet = c.has_no_word.ensures yes st o events x is;
  settled = c.is_settled.ensures c.if-not-is_settled.false st o events x is stored;
}
