use Rattle.std.proofs.Common.{◌++◌, ◌∙◌, ap}
use Rattle.gq_model.specs.texts.Code.{sections_code}
use Rattle.gq_code.proofs.Section_bytes.{section_more, have_more}
use Rattle.gq_code.proofs.program_code.write_sections.Goals as goal

pub loop-body-preserved : goal.loop-body-preserved
loop-body-preserved c =
    let l = c.loop-body in
    let x = c.loop-body-item.result in
    record {
      written =
          section_more l.out.items c.write_number.new.out.items c.extend_from_slice.new.self.items c.in_ok-code.code.items c.len.result
          (c.args.out.now.items ++ sections_code c.args.sections.now) c.args.sections.now l.body-index x c.loop-body-test.true c.loop-body-item.is
          c.in_ok-write_number.ensures
          (c.in_ok-extend_from_slice.ensures.items ∙ ap (λ s. c.write_number.new.out.items ++ s) c.as_slice.ensures.value)
          (cc (c.len.ensures, c.in_ok-code.code.ok.0)) c.in_ok-code.ensures l.invariant.written;
      in_range = have_more c.args.sections.now l.body-index x c.loop-body-test.true c.loop-body-item.is l.invariant.in_range;
    }
