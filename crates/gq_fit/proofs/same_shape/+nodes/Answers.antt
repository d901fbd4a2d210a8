use Rattle.std.proofs.Common.{arith}
use Rattle.std.proofs.lemmas.Grind.{common_steps}
use Rattle.gq_fit.proofs.Lengths_compared.{as_many_nodes}
use Rattle.gq_fit.proofs.same_shape.+nodes.Goals as goal

pub same_nodes-returns-in_default-clause-only : goal.same_nodes-returns-in_default-clause-only
same_nodes-returns-in_default-clause-only t c e =
    let many = as_many_nodes c.args.a.now c.args.b.now e in absurd (grind (arith, common_steps))

pub same_nodes-returns-in_default-2-clause-only : goal.same_nodes-returns-in_default-2-clause-only
same_nodes-returns-in_default-2-clause-only t c e =
    let many = as_many_nodes c.args.a.now c.args.b.now e in absurd (grind (arith, common_steps))
