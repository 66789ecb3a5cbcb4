-- By what machines saved on the way, and by the entries' tickets.
use Rattle.recovery.proofs.record_form.Due.{due_fits, due_form}
use Rattle.recovery.proofs.record_form.laws.due_records_are_in_form.Goals as goal

pub returns-clause-fits : goal.returns-clause-fits
returns-clause-fits c = λ st failures kept resumed base first events cluster header before made trace due machines n_is m_is behind.
    due_fits st failures kept resumed base first events cluster header before made trace due machines n_is m_is behind

pub returns-clause-form : goal.returns-clause-form
returns-clause-form c = λ st failures kept resumed base first events cluster header before made trace due machines n_is m_is behind.
    due_form st failures kept resumed base first events cluster header before made trace due machines n_is m_is behind
