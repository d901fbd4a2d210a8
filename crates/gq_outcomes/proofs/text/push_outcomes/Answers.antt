use Rattle.std.proofs.Common.{◌∙◌}
use Rattle.gq_outcomes.specs.internal.Found_outcomes.{outcome_seen}
use Rattle.gq_outcomes.proofs.Text_lines.{outcomes_more}
use Rattle.gq_outcomes.proofs.text.push_outcomes.Goals as goal

pub loop-place-preserved : goal.loop-place-preserved
loop-place-preserved c =
    let l = c.loop-place in
    outcomes_more outcome_seen c.args.all.now l.place c.index-all-place.result l.text.items c.push_outcome.new.text.items c.loop-place-test.true
    c.index-all-place.is c.in_ok-push_outcome.ensures
    ∙ l.invariant
