use Rattle.std.proofs.Common.{◌∙◌, length-set, is_some, arith}
use Rattle.gq_bytecode.specs.Programs.{code_in}
use Rattle.gq_prepared.proofs.In_order.{one_more, reported_at, same_sections}
use Rattle.gq_prepared.proofs.program_sections.sections_of.Goals as goal

pub loop-number-preserved : goal.loop-number-preserved
loop-number-preserved c =
    let l = c.loop-number in
    record {
      long = length-set l.there l.number c.has.result ∙ l.invariant.long;
      reported =
          one_more (λ s. is_some (code_in s c.args.code.now.sections)) l.there l.number c.has.result
          (omega (arith, c.loop-number-test.true, l.invariant.long)) l.invariant.reported c.has.ensures;
    }

pub returns : goal.returns
returns c component is section there =
    reported_at (λ s. is_some (code_in s c.args.code.now.sections)) c.loop-number.there section
    (λ j less. c.loop-number.invariant.reported j (omega (arith, less, c.loop-number-test.false))) there
    ∙ same_sections c.args.code.now component.node.program.sections is section
