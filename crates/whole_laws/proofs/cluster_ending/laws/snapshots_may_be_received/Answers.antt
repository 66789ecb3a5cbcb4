-- Marks say how far a machine is, and what was told follows in turn.
use Rattle.whole_laws.proofs.cluster_ending.Reporting.{begin_front, committed_front, saved_front, want_front}
use Rattle.whole_laws.proofs.cluster_ending.laws.snapshots_may_be_received.Goals as goal

pub returns-clause-begin : goal.returns-clause-begin
returns-clause-begin c = λ st cluster a k behind whole low first. begin_front st cluster whole.consistent.marks a low k behind first

pub returns-clause-committed : goal.returns-clause-committed
returns-clause-committed c = λ st cluster a k behind whole was low first. committed_front st cluster whole.consistent.marks was a low k behind first

pub returns-clause-saved : goal.returns-clause-saved
returns-clause-saved c = λ st cluster a k section entries behind whole was low first. saved_front st cluster whole.consistent.marks was a low k section entries behind first

pub returns-clause-want : goal.returns-clause-want
returns-clause-want c = λ cluster a k behind was first. want_front cluster was a k behind first
