use Rattle.std.proofs.Common.{sym, ◌∙◌}
use Rattle.gq_verify.proofs.Requestless_statements.{quiet_list}
use Rattle.gq_verify.proofs.counting.all_requests.Goals as goal

pub returns-then-is_quiet : goal.returns-then-is_quiet
returns-then-is_quiet c = λ v r.
    quiet_list v r c.args.context.now c.args.state.now c.args.body.now c.new.result c.new.ensures (sym c.is_quiet.ensures ∙ c.if-is_quiet.true)
