use Rattle.std.proofs.Common.{◌∙◌, ap, arith, rules, sym}
use Rattle.gq_model.specs.machine.Program.{size}
use Rattle.gq_resolve.proofs.Opened_service_lists.{services_here, pushed, none_more}
use Rattle.gq_program.proofs.Statement_list_sizes.{size_here}
use Rattle.gq_resolve.proofs.opened_services.+opened.Goals as goal

pub push_opened-push_opened_in-requires : goal.push_opened-push_opened_in-requires
push_opened-push_opened_in-requires t c =
    let l = c.loop-statement in
    let items = c.statements-statement-items.result.now in
    let here = size_here items l.statement-index c.statement-item.result c.loop-statement-test.true c.statement-item.is in
    (omega (arith, c.decreases, here, ap size c.statements-statement-items.ensures), tt)

pub push_opened-loop-statement-preserved : goal.push_opened-loop-statement-preserved
push_opened-loop-statement-preserved t c =
    let l = c.loop-statement in
    let items = c.statements-statement-items.result.now in
    let left = services_here items l.statement-index c.statement-item.result c.loop-statement-test.true c.statement-item.is in
    pushed l.services.items c.push_opened_in.new.services.items _ _ _ c.in_ok-push_opened_in.ensures left ∙ l.invariant

pub push_opened_in-returns-in-Loop : goal.push_opened_in-returns-in-Loop
push_opened_in-returns-in-Loop t c = search rules

pub push_opened-returns-then-is_quiet : goal.push_opened-returns-then-is_quiet
push_opened-returns-then-is_quiet t c = none_more c.args.services.now.items c.args.body.now (sym c.is_quiet.ensures ∙ c.if-is_quiet.true)
