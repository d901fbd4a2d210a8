use Rattle.std.proofs.Common.{◌≡◌, ◌∙◌, ◌++◌, ap, ap₂, arith, refl}
use Rattle.std.proofs.lemmas.Result.{on_ok_weaker}
use Rattle.gq_model.specs.machine.Amounts.{Amount}
use Rattle.gq_scenario.specs.Component_trees.{version_number}
use Rattle.gq_sizes.specs.Endless.{is_endless}
use Rattle.gq_sizes.specs.Size.{least_caps, ram_sum}
use Rattle.gq_sizes.specs.Size_text.{need_line, unless}
use Rattle.gq_sizes.specs.internal.Printed_sizes.{need_least, upgrade_lines}
use Rattle.gq_sizes.proofs.Printed_interfaces.{first_is, test_at}
use Rattle.gq_sizes.proofs.interface_lines.push_interface.Goals as goal

pub returns : goal.returns
returns c all given rams capss tests =
    let v = version_number c.args.version in
    let service = c.args.entry.now.0 in
    let i = c.args.entry.now.1 in
    let reported = need_least all given service i in
    let least : c.need.result ≡ reported =
    c.need.ensures.least ∙ first_is (ram_sum all given service i) (least_caps all service) _ _ rams capss c.need.ensures.small in
    let endless : c.is_endless.result ≡ is_endless all service 0 =
    c.is_endless.ensures ∙ test_at (is_endless all service) _ tests 0 0 refl (omega arith) in
    let ram = c.least_of-least.ensures.ram ∙ ap (λ (a : Amount). a.ram) least in
    let caps = c.least_of-least.ensures.caps ∙ ap₂ (λ b (a : Amount). unless b a.caps) endless least in
    let first = c.in_ok-push_need.ensures ∙ (λ j. c.args.text.now.items ++ need_line v service i.need (ram j) (caps j)) in
    on_ok_weaker c.push_upgrades.result
    (λ e. e ∙ ap₂ (λ t u. t ++ upgrade_lines v all given service i 0 u) first c.upgrades.ensures.upgrades)
    (c.push_upgrades.ensures all given i rams capss tests)
