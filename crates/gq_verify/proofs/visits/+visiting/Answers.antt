use Rattle.std.proofs.Common.{◌+◌, ◌-◌, ap, arith, length, sym, ◌∙◌}
use Rattle.gq_model.specs.machine.Program.{size}
use Rattle.gq_program.proofs.Statement_list_sizes.{size_here}
use Rattle.gq_rules.proofs.Statement_list_flow.{few_here}
use Rattle.gq_rules.specs.internal.List_states.{chosen}
use Rattle.gq_verify.proofs.Counts_rights.{arms_right}
use Rattle.gq_verify.proofs.Visitor_statement_walk.{arms_shown, point_shown, size_left, size_one, visit_all, visit_next}
use Rattle.gq_verify.proofs.visits.+visiting.Goals as goal

pub visit-visit_statement-requires : goal.visit-visit_statement-requires
visit-visit_statement-requires g t c κs within =
    let l = c.loop-statement in
    let items = c.statements-statement-items.result.now in
    let st = c.statement-item.result in
    let same = ap size c.statements-statement-items.ensures in
    let here = size_here items l.statement-index st c.loop-statement-test.true c.statement-item.is in
    let one = size_one st in
    let left = size_left items l.statement-index st c.loop-statement-test.true c.statement-item.is in
    let few = few_here (4 - length c.args.context.now.counts) items l.statement-index st c.loop-statement-test.true c.statement-item.is l.invariant.loops in
    (omega (arith, c.decreases, here, one, same), (within, (omega (arith, left, l.invariant.met, same, c.requires.few), few.0)))

pub visit-loop-statement-preserved : goal.visit-loop-statement-preserved
visit-loop-statement-preserved g t c =
    let l = c.loop-statement in
    let items = c.statements-statement-items.result.now in
    let st = c.statement-item.result in
    let less = c.loop-statement-test.true in
    let k = c.args.context.now in
    let e = c.visit_statement.ensures in
    let left = size_left items l.statement-index st less c.statement-item.is in
    let few = few_here (4 - length k.counts) items l.statement-index st less c.statement-item.is l.invariant.loops in
    record {
      each = λ s alike right.
          visit_next g.V.Visitor.leads k s l.state c.visit_statement.new.state c.args.number.now l.number c.visit_statement.new.number c.args.visitor.now
          l.visitor c.visit_statement.new.visitor items l.statement-index st less c.statement-item.is e.number e.state
          e.shown (l.invariant.each s alike right);
      met = omega (arith, left, l.invariant.met, e.number);
      loops = few.1;
    }

pub visit-returns-clause-state : goal.visit-returns-clause-state
visit-returns-clause-state g t c =
    let l = c.loop-statement in
    (visit_all g.V.Visitor.leads c.args.context.now c.args.state.now l.state c.args.number.now l.number c.args.visitor.now l.visitor
    c.statements-statement-items.result.now c.args.body.now l.statement-index c.statements-statement-items.ensures c.loop-statement-test.false
    l.invariant.each).0

pub visit-returns-clause-shown : goal.visit-returns-clause-shown
visit-returns-clause-shown g t c =
    let l = c.loop-statement in
    (visit_all g.V.Visitor.leads c.args.context.now c.args.state.now l.state c.args.number.now l.number c.args.visitor.now l.visitor
    c.statements-statement-items.result.now c.args.body.now l.statement-index c.statements-statement-items.ensures c.loop-statement-test.false
    l.invariant.each).1

pub visit_if-returns-clause-shown : goal.visit_if-returns-clause-shown
visit_if-returns-clause-shown g t c = λ s alike right.
    let k = c.args.context.now in
    let both = arms_right k s c.args.arm.now c.args.other.now right in
    let second = alike ∙ ap chosen (sym c.copy-second.ensures) in
    arms_shown g.V.Visitor.leads k (chosen s) c.args.number.now c.visit.new.number c.args.arm.now c.args.other.now c.args.visitor.now c.visit.new.visitor
    c.visit-2.new.visitor c.visit.ensures.number (c.visit.ensures.shown (chosen s) alike both.0) (c.visit-2.ensures.shown (chosen s) second both.1)

pub visit_statement-returns-clause-shown : goal.visit_statement-returns-clause-shown
visit_statement-returns-clause-shown g t c = λ s alike right.
    point_shown g.V.Visitor.leads c.args.context.now s c.visit_in.new.state c.args.statement.now (c.args.number.now + 1) c.args.visitor.now
    c.visit_in.new.visitor c.point.new.self (c.visit_in.ensures.state s alike right) (c.visit_in.ensures.shown s alike right) c.point.ensures
