use Rattle.std.proofs.Common.{Some, None, sym, ◌∙◌}
use Rattle.gq_init.proofs.Setting_lines.{no_setting, no_value, setting_named}
use Rattle.gq_init.proofs.settings.read_setting.Goals as goal

pub returns-then-not-is_setting-clause-setting : goal.returns-then-not-is_setting-clause-setting
returns-then-not-is_setting-clause-setting c =
    sym (no_setting c.args.table.now c.args.input.now c.args.sign.now c.args.number.now (sym c.is_setting.ensures ∙ c.if-not-is_setting.true))

pub returns-in_default-number_up_to-clause-setting : goal.returns-in_default-number_up_to-clause-setting
returns-in_default-number_up_to-clause-setting c =
    sym (no_value c.args.table.now c.args.input.now c.args.sign.now c.args.number.now (sym c.number_up_to.ensures.number ∙ c.in_default-number_up_to.is))

pub returns-in-Some-leaf_named-clause-setting : goal.returns-in-Some-leaf_named-clause-setting
returns-in-Some-leaf_named-clause-setting c =
    let on = sym c.is_setting.ensures ∙ c.if-not-is_setting.false in
    let spells = sym c.number_up_to.ensures.number ∙ c.in-Some-number_up_to.is in
    let placed = sym c.in-Some-leaf_named.is ∙ c.leaf_named.ensures.number in
    c.setting_at.ensures.setting
    ∙ sym (setting_named c.args.table.now c.args.input.now c.args.sign.now c.args.number.now c.in-Some.name.now c.in-Some.input c.in-Some-number_up_to.value
    (Some c.in-Some-leaf_named.leaf) on (sym c.in-Some.ensures.input) spells placed)

pub returns-in-None-clause-setting : goal.returns-in-None-clause-setting
returns-in-None-clause-setting c =
    let on = sym c.is_setting.ensures ∙ c.if-not-is_setting.false in
    let spells = sym c.number_up_to.ensures.number ∙ c.in-Some-number_up_to.is in
    let placed = sym c.in-None.is ∙ c.leaf_named.ensures.number in
    sym (setting_named c.args.table.now c.args.input.now c.args.sign.now c.args.number.now c.in-Some.name.now c.in-Some.input c.in-Some-number_up_to.value
    None on (sym c.in-Some.ensures.input) spells placed)
