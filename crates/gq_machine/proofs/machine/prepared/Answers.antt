-- One leaf more that is prepared.
use Rattle.std.proofs.Common.{arith}
use Rattle.gq_model.specs.machine.Scenario.{components}
use Rattle.gq_machine.proofs.First_machine_leaves.{code_there, item_at, prepared_more}
use Rattle.gq_machine.proofs.machine.prepared.Goals as goal

pub prepared_of-requires-clause-code : goal.prepared_of-requires-clause-code
prepared_of-requires-clause-code c =
    let before = c.loop-number-test.true in
    let end = c.leaf_count-number-end.ensures.count in
    code_there (components c.args.table.now) c.args.leaves.now c.loop-number.number c.index-leaves-number.result c.code-code.result.now c.requires.first
    (omega (arith, before, end))
    (item_at (components c.args.table.now) c.args.leaves.now c.loop-number.number c.index-leaves-number.result c.requires.first (omega (arith, before, end))
    c.index-leaves-number.is) c.code-code.ensures c.new.result c.new.ensures

pub loop-number-preserved : goal.loop-number-preserved
loop-number-preserved c =
    let before = c.loop-number-test.true in
    let end = c.leaf_count-number-end.ensures.count in
    prepared_more c.args.table.now c.loop-number.number c.new.result c.args.leaves.now c.index-leaves-number.result c.code-code.result.now
    c.loop-number.prepared.items c.push.new.self.items c.in_ok-prepared_of.field-0 c.in_ok-push.ensures.items c.new.ensures
    (item_at (components c.args.table.now) c.args.leaves.now c.loop-number.number c.index-leaves-number.result c.requires.first (omega (arith, before, end))
    c.index-leaves-number.is) c.code-code.ensures c.in_ok-prepared_of.ensures c.loop-number.invariant
