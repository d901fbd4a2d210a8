use Rattle.gq_statements.proofs.Unpaid_session_end.{unpaid_ending, unpaid_ending_caps}
use Rattle.gq_statements.proofs.request_laws.refused_endings.Goals as goal

pub returns-clause-bytes : goal.returns-clause-bytes
returns-clause-bytes c = λ system f s k l o there empty none lacks. unpaid_ending system f s l o k there empty none lacks

pub returns-clause-caps : goal.returns-clause-caps
returns-clause-caps c = λ system f s k l o there empty lacks. unpaid_ending_caps system f s l o k there empty lacks
