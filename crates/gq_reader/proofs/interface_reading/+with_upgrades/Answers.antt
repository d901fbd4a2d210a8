use Rattle.std.proofs.Common.{◌≤◌, ◌<◌, length, refl, arith}
use Rattle.std.proofs.lemmas.Grind.{common_steps}
use Rattle.gq_model.specs.texts.Operands.{greatest_number}
use Rattle.gq_scenario.specs.Table_keys.{is_number, is_quantity}
use Rattle.gq_scenario.specs.Document_tables.{greatest_caps}
use Rattle.gq_reader.proofs.Interface_upgrades.{rest_length, first_passes, rest_passes, one_more, upgraded_alone, upgraded}
use Rattle.gq_reader.proofs.interface_reading.+with_upgrades.Goals as goal

pub read_upgrade-upgrade-requires-clause-bytes : goal.read_upgrade-upgrade-requires-clause-bytes
read_upgrade-upgrade-requires-clause-bytes t c =
    let some : 1 ≤ length c.args.bytes.now = grind (arith, common_steps) in
    first_passes (is_quantity 0 greatest_number) c.args.bytes.now c.first-item.result some c.first-item.is c.requires.bytes

pub with_upgrades-requires : goal.with_upgrades-requires
with_upgrades-requires t c =
    let some : 1 ≤ length c.args.bytes.now = grind (arith, common_steps) in
    let shorter = rest_length c.args.bytes.now some in
    let more = one_more c.args.interface c.with_upgrade.result c.read_upgrade-upgrade.result c.with_upgrade.ensures in (
      omega (arith, c.decreases, shorter),
      (omega (arith, c.requires.few, shorter, more), (rest_passes (is_quantity 0 greatest_number) c.args.bytes.now c.requires.bytes, refl)),
    )

pub read_count-requires : goal.read_count-requires
read_count-requires t c =
    let caps : 1 ≤ length c.args.counts.now = grind (arith, common_steps) in
    first_passes (is_number 0 greatest_caps) c.args.counts.now c.count-item.result caps c.count-item.is c.requires.counts

pub with_upgrades-requires-in-len1-up-len1-up : goal.with_upgrades-requires-in-len1-up-len1-up
with_upgrades-requires-in-len1-up-len1-up t c =
    let some : 1 ≤ length c.args.bytes.now = grind (arith, common_steps) in
    let shorter = rest_length c.args.bytes.now some in
    let more = one_more c.args.interface c.with_upgrade-in-len1-up-len1-up.result c.read_upgrade-upgrade-in-len1-up-len1-up.result
    c.with_upgrade-in-len1-up-len1-up.ensures in (
      omega (arith, c.decreases, shorter),
      (
        omega (arith, c.requires.few, shorter, more),
        (
          rest_passes (is_quantity 0 greatest_number) c.args.bytes.now c.requires.bytes,
          rest_passes (is_number 0 greatest_caps) c.args.counts.now c.requires.counts,
        ),
      ),
    )

pub returns-in-len1-up-empty : goal.returns-in-len1-up-empty
returns-in-len1-up-empty t c =
    let some : 1 ≤ length c.args.bytes.now = grind (arith, common_steps) in
    let none : length c.args.counts.now < 1 = grind (arith, common_steps) in
    upgraded_alone c.args.interface c.with_upgrade.result c.with_upgrades.result c.read_upgrade-upgrade.result c.args.bytes.now c.args.counts.now
    c.first-item.result some none c.first-item.is c.read_upgrade-upgrade.ensures c.with_upgrade.ensures c.with_upgrades.ensures

pub returns-in-len1-up-len1-up : goal.returns-in-len1-up-len1-up
returns-in-len1-up-len1-up t c =
    let some : 1 ≤ length c.args.bytes.now = grind (arith, common_steps) in
    let caps : 1 ≤ length c.args.counts.now = grind (arith, common_steps) in
    upgraded c.args.interface c.with_upgrade-in-len1-up-len1-up.result c.with_upgrades-in-len1-up-len1-up.result
    c.read_upgrade-upgrade-in-len1-up-len1-up.result c.read_count.result c.args.bytes.now c.args.counts.now c.first-item-2.result c.count-item.result
    some caps c.first-item-2.is c.count-item.is c.read_count.ensures.count c.read_upgrade-upgrade-in-len1-up-len1-up.ensures
    c.with_upgrade-in-len1-up-len1-up.ensures c.with_upgrades-in-len1-up-len1-up.ensures
