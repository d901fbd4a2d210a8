-- What is added, by the sums of two levels.
use Rattle.std.proofs.Common.{◌≡◌, ◌∙◌, ◌+◌, ◌-◌, true, ap, sym, arith}
use Rattle.gq_model.specs.machine.Amounts.{counts_caps}
use Rattle.gq_scenario.specs.Component_trees.{version_number}
use Rattle.gq_sizes.proofs.Upgrades_apart.{added_is, level_is, sum_is}
use Rattle.gq_sizes.proofs.sized.is_upgrade_sized.Goals as goal

pub returns-clause-added : goal.returns-clause-added
returns-clause-added c f g rams capss is h =
    let l = c.args.level in
    let before = c.args.before in
    let above = level_is f c.args.ram.now c.at.result (l + 1) rams c.at.ensures (omega (arith, c.requires.low)) in
    let here = level_is f c.args.ram.now c.at-2.result l rams c.at-2.ensures (omega (arith, c.requires.low)) in
    let ram =
    sym c.ram.ensures ∙ (sym c.from.ensures ∙ (c.if-from-added.false ∙ (c.saturating_sub-added.ensures ∙ (λ j. above j - here j)))) in
    let sum : counts_caps (version_number c.args.version) ≡ true → before + c.args.made.now.caps ≡ g (l + 1) =
    λ e. ap (λ n. before + n) (sym c.caps.ensures.caps)
    ∙ sum_is g c.args.caps.now l before c.caps.result c.at-3.result capss c.at-3.ensures c.requires.low c.requires.small c.caps.ensures.small
    (c.is_caps_sum.ensures.counted e h) in
    added_is (version_number c.args.version) f g l before c.args.made.now ram (λ e. sym c.caps.ensures.caps ∙ c.is_caps_sum.ensures.uncounted e h) sum is

pub returns-clause-sum : goal.returns-clause-sum
returns-clause-sum c g capss e h =
    ap (λ n. c.args.before + n) (sym c.caps.ensures.caps)
    ∙ sum_is g c.args.caps.now c.args.level c.args.before c.caps.result c.at-3.result capss c.at-3.ensures c.requires.low c.requires.small
    c.caps.ensures.small (c.is_caps_sum.ensures.counted e h)
