use Rattle.gq_statements.proofs.Unpaid_session_request.{unpaid_opening, unpaid_opening_caps}
use Rattle.gq_statements.proofs.request_laws.refused_opens.Goals as goal

pub returns-clause-bytes : goal.returns-clause-bytes
returns-clause-bytes c = λ system f s q l o below apart lacks. unpaid_opening system f s l o q below apart lacks

pub returns-clause-caps : goal.returns-clause-caps
returns-clause-caps c = λ system f s q l o below apart counted lacks. unpaid_opening_caps system f s l o q below apart counted lacks
