use Rattle.gq_statements.proofs.Price_neutral_changes.{asking_paid, marked_paid, slot_asking, slot_ending, slot_opening, slot_upgrading}
use Rattle.gq_statements.proofs.request_laws.marks.Goals as goal

pub returns-clause-marked : goal.returns-clause-marked
returns-clause-marked c = marked_paid

pub returns-clause-asked : goal.returns-clause-asked
returns-clause-asked c = asking_paid

pub returns-clause-opening : goal.returns-clause-opening
returns-clause-opening c = slot_opening

pub returns-clause-upgrading : goal.returns-clause-upgrading
returns-clause-upgrading c = slot_upgrading

pub returns-clause-ending : goal.returns-clause-ending
returns-clause-ending c = slot_ending

pub returns-clause-asking : goal.returns-clause-asking
returns-clause-asking c = slot_asking
