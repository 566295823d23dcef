use Rattle.top_call.proofs.Due.{usage_where, refused_where, no_file_where, read_fault_where, write_fault_where, done_where, complete_where}
use Rattle.top_call.proofs.call.vmsa.Goals as goal

pub returns-clause-usage : goal.returns-clause-usage
returns-clause-usage g c = usage_where _ _ _ _ _ _ c.due.ensures.due c.tell.ensures

pub returns-clause-refused : goal.returns-clause-refused
returns-clause-refused g c = refused_where _ _ _ _ _ _ c.due.ensures.due c.tell.ensures

pub returns-clause-no_file : goal.returns-clause-no_file
returns-clause-no_file g c = no_file_where _ _ _ _ _ _ c.due.ensures.due c.tell.ensures

pub returns-clause-read_fault : goal.returns-clause-read_fault
returns-clause-read_fault g c = read_fault_where _ _ _ _ _ _ c.due.ensures.due c.tell.ensures

pub returns-clause-write_fault : goal.returns-clause-write_fault
returns-clause-write_fault g c = write_fault_where _ _ _ _ _ _ c.due.ensures.due c.tell.ensures

pub returns-clause-done : goal.returns-clause-done
returns-clause-done g c = done_where _ _ _ _ _ _ c.due.ensures.due c.tell.ensures

pub returns-clause-complete : goal.returns-clause-complete
returns-clause-complete g c = complete_where _ _ _ _ _ _ c.due.ensures.due c.tell.ensures
