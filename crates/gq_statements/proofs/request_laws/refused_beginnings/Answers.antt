use Rattle.gq_statements.proofs.Unpaid_object_world.{unpaid_beginning, unpaid_beginning_caps}
use Rattle.gq_statements.proofs.request_laws.refused_beginnings.Goals as goal

pub returns-clause-bytes : goal.returns-clause-bytes
returns-clause-bytes c = λ system f s x r others left l o oldest unmade lacks. unpaid_beginning system f s l o left x r others oldest unmade lacks

pub returns-clause-caps : goal.returns-clause-caps
returns-clause-caps c = λ system f s x r others left l o oldest unmade lacks. unpaid_beginning_caps system f s l o left x r others oldest unmade lacks
