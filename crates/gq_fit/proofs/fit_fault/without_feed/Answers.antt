use Rattle.gq_fit.proofs.Lines_without_feed.{bad_text, ok_text}
use Rattle.gq_fit.proofs.fit_fault.without_feed.Goals as goal

pub returns-in-Ok : goal.returns-in-Ok
returns-in-Ok c =
    ok_text c.in-Ok.lines.now c.args.lines.now c.saturating_sub.result c.saturating_sub.ensures c.in-Ok.ensures.cases.0 c.in-Ok.ensures.cases.1

pub returns-in-Err : goal.returns-in-Err
returns-in-Err c = bad_text c.args.lines.now c.saturating_sub.result c.saturating_sub.ensures c.in-Err.ensures.cases.0
