use Rattle.std.proofs.Common.{arith}
use Rattle.gq_prepared.proofs.Planned_nodes.{is_plan_of}
use Rattle.gq_prepared.proofs.Plan_quantum_handing.{is_plan}
use Rattle.gq_prepared.proofs.plans.plan_of.Goals as goal

pub returns-clause-nodes : goal.returns-clause-nodes
returns-clause-nodes c =
    is_plan_of c.args.table.now c.in_ok-parents.parents.items c.in_ok-nodes.nodes.items c.in_ok-leaves.leaves.items c.in_ok-objects.objects.items
    c.in_ok-nodes.ensures c.in_ok-parents.ensures c.in_ok-leaves.ensures c.in_ok-objects.ensures.objects

pub returns-clause-plan : goal.returns-clause-plan
returns-clause-plan c =
    is_plan c.args.table.now c.in_ok-parents.parents.items c.in_ok-nodes.nodes.items c.in_ok-leaves.leaves.items c.in_ok-objects.objects.items
    (is_plan_of c.args.table.now c.in_ok-parents.parents.items c.in_ok-nodes.nodes.items c.in_ok-leaves.leaves.items c.in_ok-objects.objects.items
    c.in_ok-nodes.ensures c.in_ok-parents.ensures c.in_ok-leaves.ensures c.in_ok-objects.ensures.objects) c.requires.ready
    (omega (arith, c.leaf_count-leaves.ensures.count, c.leaf_count-leaves.ensures.few)) c.in_ok-objects.ensures.small
