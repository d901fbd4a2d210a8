use Rattle.std.proofs.Common.{arith}
use Rattle.gq_model.specs.texts.Code.{greatest_statements}
use Rattle.gq_sizes.specs.Point_maxima.{given_in}
use Rattle.gq_sizes.proofs.Printed_short_opens.{few_after, few_here, section_put}
use Rattle.gq_sizes.proofs.shorts.push_sections.Goals as goal

pub push_body-requires : goal.push_body-requires
push_body-requires c =
    let all = c.args.sections.now in
    let l = c.loop-section in
    let here =
    few_here (given_in c.args.interfaces.now c.args.sums.now) c.args.label.now all l.section-index c.loop-section-item.result c.loop-section-test.true
    c.loop-section-item.is greatest_statements l.invariant.few in
    omega (arith, here)

pub loop-section-preserved : goal.loop-section-preserved
loop-section-preserved c =
    let l = c.loop-section in
    let least = given_in c.args.interfaces.now c.args.sums.now in
    let all = c.args.sections.now in
    let p = c.loop-section-item.result in
    let within = c.loop-section-test.true in
    let is = c.loop-section-item.is in
    record {
      lines =
          section_put least c.args.label.now all l.section-index p within is l.text.items c.push_body.new.text.items _ c.in_ok-push_body.ensures.lines
          l.invariant.lines;
      few = few_after least c.args.label.now all l.section-index p within is greatest_statements l.invariant.few;
    }
