use Rattle.std.proofs.Common.{◌∙◌}
use Rattle.gq_views.proofs.Numbered_rows.{locals_here}
use Rattle.gq_views.proofs.Printed_statements.{grown}
use Rattle.gq_views.proofs.numbered_listing.push_locals.Goals as goal

pub loop-place-preserved : goal.loop-place-preserved
loop-place-preserved c =
    let l = c.loop-place in
    grown l.text.items c.push_numbered_local.new.text.items _ _ _ c.in_ok-push_numbered_local.ensures
    (locals_here c.args.locals.now l.place c.loop-place-test.true) ∙ l.invariant
