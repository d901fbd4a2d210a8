use Rattle.gq_statements.proofs.Unpaid_session_request.{unpaid_upgrading, unpaid_upgrading_caps}
use Rattle.gq_statements.proofs.request_laws.refused_upgrades.Goals as goal

pub returns-clause-bytes : goal.returns-clause-bytes
returns-clause-bytes c = λ system f s k n l o there lacks. unpaid_upgrading system f s l o k n there lacks

pub returns-clause-caps : goal.returns-clause-caps
returns-clause-caps c = λ system f s k n l o there counted lacks. unpaid_upgrading_caps system f s l o k n there counted lacks
