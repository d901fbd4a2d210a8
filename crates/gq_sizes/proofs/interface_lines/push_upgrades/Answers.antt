use Rattle.std.proofs.Common.{◌≡◌, ◌<◌, ◌+◌, suc, ◌∙◌, add-one, arith}
use Rattle.gq_scenario.specs.Component_trees.{version_number}
use Rattle.gq_sizes.specs.Endless.{is_endless}
use Rattle.gq_sizes.specs.Size.{least_caps, ram_sum}
use Rattle.gq_sizes.proofs.Printed_interfaces.{step_is, test_at, upgrade_put}
use Rattle.gq_sizes.proofs.interface_lines.push_upgrades.Goals as goal

pub loop-level-preserved : goal.loop-level-preserved
loop-level-preserved c all given i rams capss tests =
    let l = c.loop-level in
    let service = c.args.service.now in
    let low : l.level < 3 = omega (arith, c.loop-level-test.true, c.requires) in
    let least =
    step_is (ram_sum all given service i) (least_caps all service) _ _ rams capss l.level low
    c.upgrade.ensures.small c.upgrade.ensures.small_above in
    let endless : c.is_endless.result ≡ is_endless all service (suc l.level) =
    c.is_endless.ensures ∙ test_at (is_endless all service) _ tests (l.level + 1) (suc l.level) (add-one l.level) (omega (arith, low)) in
    upgrade_put (version_number c.args.version) all given service i c.args.upgrades.now l.level c.index-upgrades-level.result c.loop-level-test.true
    c.index-upgrades-level.is c.upgrade.result (c.upgrade.ensures.least ∙ least) c.is_endless.result endless c.least_of-least.result.ram
    c.least_of-least.result.caps c.least_of-least.ensures.ram c.least_of-least.ensures.caps l.text.items c.push_upgrade.new.text.items _
    c.in_ok-push_upgrade.ensures (l.invariant all given i rams capss tests)
