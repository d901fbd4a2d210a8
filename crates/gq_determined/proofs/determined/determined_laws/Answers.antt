use Rattle.gq_determined.proofs.rest_accounts.Rest_account_law.{leaves_same}
use Rattle.gq_determined.proofs.written_lines.All_lines.{all_write_same}
use Rattle.gq_determined.proofs.written_lines.Written_lines_law.{writes_same}
use Rattle.gq_determined.proofs.determined.determined_laws.Goals as goal

pub returns-clause-writes : goal.returns-clause-writes
returns-clause-writes c s sound none unread unmoved = writes_same s sound none unread unmoved

pub returns-clause-leaves : goal.returns-clause-leaves
returns-clause-leaves c s sound none unread unmoved = leaves_same s sound none unread unmoved

pub returns-clause-all : goal.returns-clause-all
returns-clause-all c s sound none unread unmoved quiet = all_write_same s sound none unread unmoved quiet
