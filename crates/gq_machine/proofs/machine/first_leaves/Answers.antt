-- One leaf more at the start of its program.
use Rattle.gq_model.specs.machine.Scenario.{components}
use Rattle.gq_machine.proofs.First_machine_leaves.{first_more}
use Rattle.gq_machine.proofs.machine.first_leaves.Goals as goal

pub loop-number-preserved : goal.loop-number-preserved
loop-number-preserved c =
    first_more (components c.args.table.now) c.loop-number.number c.new.result c.loop-number.leaves.items c.push.new.self.items c.in_ok-first_leaf.field-0
    c.in_ok-push.ensures.items c.new.ensures c.in_ok-first_leaf.ensures c.loop-number.invariant
