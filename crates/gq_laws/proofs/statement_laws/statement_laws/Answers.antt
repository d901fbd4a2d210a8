use Rattle.gq_laws.proofs.statement_rules.Control_statement_rules.{leads_on}
use Rattle.gq_laws.proofs.request_rules.Asking_statement_steps.{asks_ruled}
use Rattle.gq_laws.proofs.reply_rules.Ruled_section_end.{ends_ruled}
use Rattle.gq_laws.proofs.reply_rules.Ruled_section_start.{begins_ruled}
use Rattle.gq_laws.proofs.reply_rules.World_after_reply.{replies_ruled}
use Rattle.gq_laws.proofs.reply_rules.Stance_after_reply.{resumes_ruled}
use Rattle.gq_laws.proofs.statement_rules.Ruled_statement_steps.{own_goes}
use Rattle.gq_laws.proofs.statement_rules.Statement_leaves_others.{keeps_to_itself}
use Rattle.gq_laws.proofs.statement_rules.Unblocked_names_nothing.{is_awake}
use Rattle.gq_laws.proofs.statement_rules.Stance_frame.{starts, stand_else}
use Rattle.gq_laws.proofs.statement_rules.Statement_keeps_promises.{keeps_promises}
use Rattle.gq_laws.proofs.statement_laws.statement_laws.Goals as goal

pub returns-clause-starts : goal.returns-clause-starts
returns-clause-starts c = starts

pub returns-clause-own : goal.returns-clause-own
returns-clause-own c = own_goes

pub returns-clause-others : goal.returns-clause-others
returns-clause-others c = keeps_to_itself

pub returns-clause-stand : goal.returns-clause-stand
returns-clause-stand c = stand_else

pub returns-clause-awake : goal.returns-clause-awake
returns-clause-awake c = is_awake

pub returns-clause-kept : goal.returns-clause-kept
returns-clause-kept c = keeps_promises

pub returns-clause-leads : goal.returns-clause-leads
returns-clause-leads c = leads_on

pub returns-clause-asks : goal.returns-clause-asks
returns-clause-asks c = asks_ruled

pub returns-clause-ends : goal.returns-clause-ends
returns-clause-ends c = ends_ruled

pub returns-clause-begins : goal.returns-clause-begins
returns-clause-begins c = begins_ruled

pub returns-clause-replies : goal.returns-clause-replies
returns-clause-replies c = replies_ruled

pub returns-clause-resumes : goal.returns-clause-resumes
returns-clause-resumes c = resumes_ruled
