use Rattle.std.proofs.Common.{ap, arith, length}
use Rattle.gq_scenario.specs.Component_trees.{version_number}
use Rattle.gq_why.proofs.Need_lines.{level_put}
use Rattle.gq_why.proofs.need.push_levels.Goals as goal

pub loop-level-preserved : goal.loop-level-preserved
loop-level-preserved c =
    let l = c.loop-level in
    let i = c.args.interface.now in
    level_put (version_number c.args.version) c.args.verified.now c.args.service.now i l.level (length i.upgrades)
    (omega (arith, c.loop-level-test.true, ap length c.upgrades.ensures.upgrades)) l.text.items c.push_need.new.text.items _ c.in_ok-push_need.ensures
    l.invariant
