use Rattle.std.proofs.Common.{◌∙◌}
use Rattle.gq_fit.proofs.Programs_compared.{compared, refitted}
use Rattle.gq_fit.proofs.refitted.is_refitted.Goals as goal

pub returns-clause-refitted : goal.returns-clause-refitted
returns-clause-refitted c h =
    refitted c.args.scenario.now c.args.made.now c.as_slice.result.now c.as_slice-2.result.now (c.same_shape.ensures.same c.if-not-same_shape.false)
    (c.as_slice.ensures.value ∙ c.in_ok-new.ensures.programs) (c.as_slice-2.ensures.value ∙ c.in_ok-old.ensures.programs) (c.same_programs.ensures.same h)

pub returns-clause-only : goal.returns-clause-only
returns-clause-only c r =
    c.same_programs.ensures.only
    (compared c.args.scenario.now c.args.made.now c.as_slice.result.now c.as_slice-2.result.now
    (c.as_slice.ensures.value ∙ c.in_ok-new.ensures.programs) (c.as_slice-2.ensures.value ∙ c.in_ok-old.ensures.programs) r)
