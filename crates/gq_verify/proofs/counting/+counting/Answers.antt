use Rattle.std.proofs.Common.{◌-◌, ◌+◌, ◌*◌, ap, arith, length, refl, subst, sym, ◌∙◌}
use Rattle.gq_model.specs.machine.Program.{size}
use Rattle.gq_rules.proofs.Statement_list_flow.{few_here}
use Rattle.gq_model.specs.rules.Budgets.{requests}
use Rattle.gq_model.specs.rules.Kinds.{Context, inside}
use Rattle.gq_verify.specs.Saturated_numbers.{saturated}
use Rattle.gq_verify.specs.Requested.{requests_for}
use Rattle.gq_verify.specs.Rights.{IsRight}
use Rattle.gq_verify.specs.internal.Requesting.{requests_in}
use Rattle.gq_verify.proofs.Requestless_statements.{quiet_arms, quiet_round}
use Rattle.gq_verify.proofs.Counts_rights.{arms_right, round_right, on_then, round_counted}
use Rattle.gq_rules.specs.internal.List_states.{chosen}
use Rattle.gq_verify.proofs.Statement_slot_changes.{count_next, count_all, arms_counted}
use Rattle.gq_program.proofs.Statement_list_sizes.{size_here}
use Rattle.gq_verify.proofs.counting.+counting.Goals as goal

pub count-count_in-requires : goal.count-count_in-requires
count-count_in-requires t c =
    let l = c.loop-statement in
    let items = c.statements-statement-items.result.now in
    let same = ap size c.statements-statement-items.ensures in
    let here = size_here items l.statement-index c.statement-item.result c.loop-statement-test.true c.statement-item.is in
    let few =
    few_here (4 - length c.args.context.now.counts) items l.statement-index c.statement-item.result c.loop-statement-test.true c.statement-item.is
    l.invariant.loops in (omega (arith, c.decreases, here, same), (omega (arith, here, same, c.requires.few), few.0))

pub count-loop-statement-preserved : goal.count-loop-statement-preserved
count-loop-statement-preserved t c =
    let l = c.loop-statement in
    let items = c.statements-statement-items.result.now in
    let st = c.statement-item.result in
    let less = c.loop-statement-test.true in
    let k = c.args.context.now in
    let e = c.in_ok-count_in.ensures in
    let few = few_here (4 - length k.counts) items l.statement-index st less c.statement-item.is l.invariant.loops in
    record {
      each = λ s alike right.
          count_next k s l.state c.count_in.new.state l.asked c.count_in.new.asked c.args.asked.now items l.statement-index st less c.statement-item.is
          e.state e.counted (l.invariant.each s alike right);
      loops = few.1;
    }

pub count-returns-clause-state : goal.count-returns-clause-state
count-returns-clause-state t c =
    let l = c.loop-statement in
    (count_all c.args.context.now c.args.state.now l.state l.asked c.args.asked.now c.statements-statement-items.result.now c.args.body.now l.statement-index
    c.statements-statement-items.ensures c.loop-statement-test.false l.invariant.each).0

pub count-returns-clause-counted : goal.count-returns-clause-counted
count-returns-clause-counted t c =
    let l = c.loop-statement in
    (count_all c.args.context.now c.args.state.now l.state l.asked c.args.asked.now c.statements-statement-items.result.now c.args.body.now l.statement-index
    c.statements-statement-items.ensures c.loop-statement-test.false l.invariant.each).1

pub count_in-returns-then-is_quiet-2-clause-counted : goal.count_in-returns-then-is_quiet-2-clause-counted
count_in-returns-then-is_quiet-2-clause-counted t c = λ s alike right v r.
    let k = c.args.context.now in
    let now = requests_for c.args.asked.now v r in
    let none = quiet_arms v r k s c.in-If.arm c.in-If.other now (sym c.is_quiet.ensures ∙ c.if-is_quiet.true)
    (sym c.is_quiet-then-is_quiet.ensures ∙ c.if-is_quiet-2.true) in
    ap saturated (sym (ap (λ st. now + requests_in v r k s st) c.in-If.is ∙ none))

pub count_in-returns-then-is_quiet-3-clause-counted : goal.count_in-returns-then-is_quiet-3-clause-counted
count_in-returns-then-is_quiet-3-clause-counted t c = λ s alike right v r.
    let k = c.args.context.now in
    let now = requests_for c.args.asked.now v r in
    let none = quiet_round v r k s c.in-Loop.times c.in-Loop.body now (sym c.is_quiet-in-Loop.ensures ∙ c.if-is_quiet-3.true) in
    ap saturated (sym (ap (λ st. now + requests_in v r k s st) c.in-Loop.is ∙ none))

pub count_loop-returns : goal.count_loop-returns
count_loop-returns t c =
    let k = c.args.context.now in
    let body = c.args.body.now in
    on_then c.add_all.result (λ h s alike right v r.
    let round = round_right k s c.args.times body right in
    let from = subst (λ (k : Context). IsRight k s body) (sym c.inside.ensures) round in
    let there = alike ∙ ap chosen (sym c.copy-inner.ensures) in
    h v r
    ∙ (ap (λ n. saturated (requests_for c.args.asked.now v r + n * requests_for c.count.new.asked v r)) c.from.ensures
    ∙ round_counted v r c.count.new.asked c.new-round.result (inside k c.args.times) c.inside.result s s body c.args.times
    (requests_for c.args.asked.now v r) c.new-round.ensures c.inside.ensures refl (c.in_ok-count.ensures.counted s there from v r))) c.add_all.ensures

pub count_if-returns-clause-state : goal.count_if-returns-clause-state
count_if-returns-clause-state t c =
    let k = c.args.context.now in
    on_then c.add_all.result (λ h s alike right.
    let both = arms_right k s c.args.arm.now c.args.other.now right in
    let there = alike ∙ ap chosen (sym c.drop_operands.ensures) in
    c.in_ok-count.ensures.state (chosen s) there both.0) c.add_all.ensures

pub count_if-returns-clause-counted : goal.count_if-returns-clause-counted
count_if-returns-clause-counted t c =
    let k = c.args.context.now in
    let arm = c.args.arm.now in
    let other = c.args.other.now in
    on_then c.add_all.result (λ h s alike right v r.
    let both = arms_right k s arm other right in
    let there = alike ∙ ap chosen (sym c.drop_operands.ensures) in
    let second = there ∙ ap chosen (sym c.copy-second.ensures) in
    arms_counted (requests_for c.add_all.new.self v r) (requests_for c.args.asked.now v r) (requests_for c.raise.new.self v r)
    (requests_for c.count.new.asked v r) (requests_for c.count-2.new.asked v r) (requests v r k (chosen s) arm) (requests v r k (chosen s) other)
    (requests_for c.new-most.result v r) (requests_for c.new-others.result v r) (h v r) (c.in_ok-raise.ensures v r)
    (c.in_ok-count.ensures.counted (chosen s) there both.0 v r) (c.in_ok-count-2.ensures.counted (chosen s) second both.1 v r)
    (ap (λ l. requests_for l v r) c.new-most.ensures) (ap (λ l. requests_for l v r) c.new-others.ensures)) c.add_all.ensures
