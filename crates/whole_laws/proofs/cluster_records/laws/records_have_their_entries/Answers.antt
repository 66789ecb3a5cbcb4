-- Each section that has come is such.
use Rattle.whole_laws.proofs.cluster_records.Coming.{come_entries}
use Rattle.whole_laws.proofs.cluster_records.laws.records_have_their_entries.Goals as goal

pub returns : goal.returns
returns c = λ st cluster whole a logged is account due low. come_entries st is cluster whole logged account.sections due a low
