use Rattle.std.proofs.Common.{◌≤◌, arith, length, rules}
use Rattle.std.proofs.lemmas.Grind.{common_steps}
use Rattle.gq_fit.proofs.Due_quantities.{place_first, place_rest}
use Rattle.gq_fit.proofs.quantity_edits.+lacks_caps.Goals as goal

pub returns-then-is_lacking : goal.returns-then-is_lacking
returns-then-is_lacking t c version name counts h =
    let one : 1 ≤ length c.args.upgrades.now = grind (arith, common_steps) in
    let some : 1 ≤ length c.args.least.now = grind (arith, common_steps) in
    place_first version name c.args.upgrades.now c.args.least.now c.upgrade-item.result _ one c.upgrade-item.is some (search rules) counts
    (c.is_lacking.ensures.none c.if-is_lacking.true) (c.is_lacking.ensures.wanted c.if-is_lacking.true)

pub returns : goal.returns
returns t c version name counts h =
    let one : 1 ≤ length c.args.upgrades.now = grind (arith, common_steps) in
    let some : 1 ≤ length c.args.least.now = grind (arith, common_steps) in
    place_rest version name c.args.upgrades.now c.args.least.now one some (c.lacks_caps.ensures version name counts h)
