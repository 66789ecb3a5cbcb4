-- By computation.
use Rattle.call_laws.proofs.each_saved_once.WorkedEdge.{brings_one, is_trace, is_due, one_drawn, saved_by_one}
use Rattle.call_laws.proofs.each_saved_once.examples.an_edge_in_one_section.Goals as goal

pub returns-clause-premises : goal.returns-clause-premises
returns-clause-premises c = is_trace

pub returns-clause-due : goal.returns-clause-due
returns-clause-due c = is_due

pub returns-clause-sections : goal.returns-clause-sections
returns-clause-sections c = saved_by_one

pub returns-clause-entries : goal.returns-clause-entries
returns-clause-entries c = brings_one

pub returns-clause-tickets : goal.returns-clause-tickets
returns-clause-tickets c = one_drawn
