-- What the leaves from the first to one hold.
use Rattle.std.proofs.Common.{arith}
use Rattle.gq_machine.proofs.Machine_reader_values.{one_more}
use Rattle.gq_machine.proofs.machine.Machine.used_before.Goals as goal

pub overflow_add-sum : goal.overflow_add-sum
overflow_add-sum c =
    let before = c.loop-number-test.true in
    let end = c.requires in
    let few = c.leaf_count-leaves.ensures.few in
    let count = c.leaf_count-leaves.ensures.count in
    let small = c.loop-number.invariant.small in
    let used = (one_more c.self.inside c.args.self.now c.self.view_is c.self.invariant c.lawful.ensures c.loop-number.number c.loop-number.sum
    c.used-sum.result.ram c.new.result (omega (arith, before, end)) c.new.ensures c.used-sum.ensures.ram c.loop-number.invariant).0 in
    omega (arith, before, end, few, count, small, used)

pub loop-number-preserved : goal.loop-number-preserved
loop-number-preserved c =
    let before = c.loop-number-test.true in
    let end = c.requires in
    (one_more c.self.inside c.args.self.now c.self.view_is c.self.invariant c.lawful.ensures c.loop-number.number c.loop-number.sum
    c.used-sum.result.ram c.new.result (omega (arith, before, end)) c.new.ensures c.used-sum.ensures.ram c.loop-number.invariant).1
