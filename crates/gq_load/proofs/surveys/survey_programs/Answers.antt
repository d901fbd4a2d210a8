use Rattle.std.proofs.Common.{map}
use Rattle.gq_load.proofs.First_leaves.{surveyed_end}
use Rattle.gq_load.proofs.surveys.survey_programs.Goals as goal

pub returns-clause-surveys : goal.returns-clause-surveys
returns-clause-surveys c =
    let l = c.loop-place in
    surveyed_end c.args.interfaces.now c.args.components.now l.place l.surveys.owns.items l.surveys.counted.items (map (λ v. v.items) l.surveys.opened.items)
    c.loop-place-test.false l.invariant.made
