use Rattle.std.proofs.Common.{subst}
use Rattle.std.proofs.lemmas.Result.{err_from_is_err_and}
use Rattle.gq_model.specs.machine.Scenario.{LeafNode}
use Rattle.gq_load.specs.Load.{source_fault}
use Rattle.gq_load.specs.Load_faults.{PrintsFault}
use Rattle.gq_load.proofs.Sequential_leaf_loading.{refused_here}
use Rattle.gq_load.proofs.leaf_programs.check_programs.Goals as goal

pub returns-in_err-_program-clause-refused : goal.returns-in_err-_program-clause-refused
returns-in_err-_program-clause-refused c =
    let l = c.loop-component in
    let e = c.in_err-_program.field-0.0 in
    let p = err_from_is_err_and c.from_residual.result c.from_residual.ensures.1 in
    let h = subst (λ (n : LeafNode). PrintsFault e (source_fault n.name n.source)) c.leaf.ensures c.in_err-_program.ensures.refused in
    rw (p.1, p.2) (refused_here c.args.components.now l.component-index c.component-item.result e c.loop-component-test.true c.component-item.is h
    l.invariant)
