-- The list before the marks is the machine's updates for the snapshot that it knows, and that is the newest.
use Rattle.whole_laws.proofs.cluster_records.Coming.{sent_entries, sent_newest}
use Rattle.whole_laws.proofs.cluster_records.laws.sections_have_their_entries.Goals as goal

pub returns : goal.returns
returns c = λ st cluster whole a logged is may account. (
  (sent_newest st is cluster whole logged account.sections a may.0.machine may.1).0,
  sent_entries st is cluster whole logged account.sections account.lists a may.0.machine may.1,
)
