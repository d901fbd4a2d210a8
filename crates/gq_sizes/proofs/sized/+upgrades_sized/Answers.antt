-- The first upgrade, and those above it.
use Rattle.std.proofs.Common.{◌≡◌, ◌≤◌, ◌∙◌, ◌+◌, true, length, ap, sym, subst, add-one, arith}
use Rattle.std.proofs.lemmas.Grind.{common_steps}
use Rattle.gq_model.specs.machine.Amounts.{counts_caps}
use Rattle.gq_scenario.specs.Component_trees.{version_number}
use Rattle.gq_sizes.specs.Least.{sum_at}
use Rattle.gq_sizes.specs.Size.{least_caps, ram_sum, rounds}
use Rattle.gq_sizes.proofs.Least_sizes_fit.{caps_rises}
use Rattle.gq_sizes.proofs.Upgrades_apart.{as_many, upgrades_joined, upgrades_parted}
use Rattle.gq_sizes.proofs.sized.+upgrades_sized.Goals as goal

pub returns-else-not-is_upgrade_sized-clause-least : goal.returns-else-not-is_upgrade_sized-clause-least
returns-else-not-is_upgrade_sized-clause-least t c all given service i rams capss before h =
    let some : 1 ≤ length c.args.made.now = grind (arith, common_steps) in
    let any : 1 ≤ length c.args.upgrades.now = grind (arith, common_steps) in
    let passes = c.if-not-is_upgrade_sized.false in
    let first = c.is_upgrade_sized.ensures.added (ram_sum all given service i) (least_caps all service) rams capss before passes in
    let next : counts_caps (version_number c.args.version) ≡ true → c.args.before + c.from.result ≡ least_caps all service (c.args.level + 1) =
    λ e. ap (λ n. c.args.before + n) (c.from.ensures ∙ c.caps.ensures.caps)
    ∙ c.is_upgrade_sized.ensures.sum (least_caps all service) capss e passes in
    upgrades_joined (sum_at (version_number c.args.version) all given service i) c.args.made.now c.args.upgrades.now c.first-item.result c.args.level
    some any c.first-item.is first (c.upgrades_sized.ensures.least all given service i rams capss next h)

pub returns-else-not-is_upgrade_sized-clause-only : goal.returns-else-not-is_upgrade_sized-clause-only
returns-else-not-is_upgrade_sized-clause-only t c all given service i rams capss before h =
    let some : 1 ≤ length c.args.made.now = grind (arith, common_steps) in
    let any : 1 ≤ length c.args.upgrades.now = grind (arith, common_steps) in
    let passes = c.if-not-is_upgrade_sized.false in
    let next : counts_caps (version_number c.args.version) ≡ true → c.args.before + c.from.result ≡ least_caps all service (c.args.level + 1) =
    λ e. ap (λ n. c.args.before + n) (c.from.ensures ∙ c.caps.ensures.caps)
    ∙ c.is_upgrade_sized.ensures.sum (least_caps all service) capss e passes in
    let parts = upgrades_parted (sum_at (version_number c.args.version) all given service i) c.args.made.now c.args.upgrades.now c.first-item.result
    c.args.level some any c.first-item.is h in
    c.upgrades_sized.ensures.only all given service i rams capss next parts.rest

pub returns-then-not-is_upgrade_sized-clause-only : goal.returns-then-not-is_upgrade_sized-clause-only
returns-then-not-is_upgrade_sized-clause-only t c all given service i rams capss before h =
    let some : 1 ≤ length c.args.made.now = grind (arith, common_steps) in
    let any : 1 ≤ length c.args.upgrades.now = grind (arith, common_steps) in
    let level = c.args.level in
    let parts = upgrades_parted (sum_at (version_number c.args.version) all given service i) c.args.made.now c.args.upgrades.now c.first-item.result
    level some any c.first-item.is h in
    let rises = caps_rises (version_number c.args.version) all given service (rounds all) level in
    let above : least_caps all service level ≤ least_caps all service (level + 1) =
    subst (λ n. least_caps all service level ≤ least_caps all service n) (sym (add-one level)) rises in
    sym c.if-not-is_upgrade_sized.true
    ∙ c.is_upgrade_sized.ensures.only (ram_sum all given service i) (least_caps all service) rams capss before above parts.first

pub returns-in_default-clause-only : goal.returns-in_default-clause-only
returns-in_default-clause-only t c all given service i rams capss before h =
    let many = as_many (sum_at (version_number c.args.version) all given service i) c.args.level c.args.upgrades.now in
    let same : length c.args.made.now ≡ length c.args.upgrades.now = ap length h ∙ many in absurd (grind (arith, common_steps))
